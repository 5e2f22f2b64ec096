-- An accepted group gives its line with its mark, and what is known after it, as document 01 says:
-- by what its message says.
-- Assumes nothing.
use mathlib.Core.Path.{◌≡◌, refl, ap, ◌∙◌}
use mathlib.Core.Bool.{Bool, true, false}
use mathlib.Core.List.{List}
use Prim.Native.Nat.{ℕ, ◌-◌, ◌*◌, ◌≤◌}
use native.Mathlib.Omega.{arith}
use lib.Dec.{ltb, leb}
use borrow.Author.Tests.{lt-ltb, le-ltb, le-leb, lt-leb, ltb-true, ltb-false, leb-true, leb-false}
use Rattle.words.specs.Answer.{gives}
use Rattle.group.specs.Judge.{judge}
use Rattle.group.specs.declared.Content.{Content}
use Rattle.group_rows.specs.declared.Direction.{Direction}
use Rattle.group.specs.declared.Group.{Group}
use Rattle.group_rows.specs.declared.Kind.{Kind}
use Rattle.group.specs.declared.Message.{Message}
use Rattle.group_rows.specs.declared.Placed.{Placed}
use Rattle.ride.specs.Linking.{mark_at, mark_of}
use Rattle.ride.specs.Closing.{known_from, mark_from}
use Rattle.ride.specs.declared.Known.{Known}
use Rattle.ride.specs.declared.Linking.{Linking}
use Rattle.ride.specs.declared.Mark.{Mark}
use Rattle.demands.specs.Table.{parts_of}
use Rattle.demands.specs.Ride.{IsSignal, IsMarked, first, early, good, late, unmarked, Becomes}
use Rattle.demands.proofs.Demand2.Messages.{not_signal, View, signal, warning, route, plain, view}
use Rattle.words.proofs.Never.{cannot_be}

-- The content of a group that is no present signal sets no mark and leaves what is known.
abbrev Leaves : Message → Type 0
Leaves m =
    ((linking : Linking) → mark_from m.content m.place linking ≡ Mark.Unmarked)
    × ((k : Known) → known_from m.content m.place m.number k ≡ k)

other_leaves : (bs : List Placed) (m : Message) → (IsSignal m → ⊥) → View bs m → Leaves m
other_leaves bs m other (signal d k distance _ e) = absurd (other (d, k))
other_leaves bs m other (warning _ k d distance e) =
    (λ l. ap (λ (v : Content). mark_from v m.place l) e, λ k. ap (λ (v : Content). known_from v m.place m.number k) e)
other_leaves bs m other (route _ k e) =
    (λ l. ap (λ (v : Content). mark_from v m.place l) e, λ k. ap (λ (v : Content). known_from v m.place m.number k) e)
other_leaves bs m other (plain p e) =
    (λ l. ap (λ (v : Content). mark_from v m.place l) e, λ k. ap (λ (v : Content). known_from v m.place m.number k) e)

-- A present signal is marked by the linking and its place.
signal_marks : (bs : List Placed) (m : Message) (linking : Linking) → IsSignal m → View bs m
    → mark_from m.content m.place linking ≡ mark_of linking m.place
signal_marks bs m linking s (signal d k distance _ e) = ap (λ (v : Content). mark_from v m.place linking) e
signal_marks bs m linking s (warning _ k d distance e) = absurd (let f = s.1 in cannot_be cc)
signal_marks bs m linking s (route _ k e) = absurd (let f = s.1 in cannot_be cc)
signal_marks bs m linking s (plain other e) = absurd (not_signal m other s.0 s.1)

module _ (g : Group) (m : Message) (judged : judge g ≡ gives m) where
  abbrev seen : View (parts_of g) m
  seen = view g m judged

  -- The mark of its line is the one that document 01's sentence gives.
  pub mark_so : (linking : Linking) (mark : Mark) → IsMarked linking m mark → mark_from m.content m.place linking ≡ mark
  unfolding mark_at
  mark_so linking mark (first s e) = signal_marks (parts_of g) m linking s seen ∙ ap (λ (l : Linking). mark_of l m.place) e
  mark_so linking mark (early D a s e h) =
      signal_marks (parts_of g) m linking s seen ∙ ap (λ (l : Linking). mark_of l m.place) e ∙ simp (lt-ltb (5 * (m.place - a)) (4 * D) h)
  mark_so linking mark (good D a s e h k) =
      signal_marks (parts_of g) m linking s seen ∙ ap (λ (l : Linking). mark_of l m.place) e
      ∙ simp (le-ltb (5 * (m.place - a)) (4 * D) h, le-leb (5 * (m.place - a)) (6 * D) k)
  mark_so linking mark (late D a s e h) =
      let k : 4 * D ≤ 5 * (m.place - a) = omega arith in
      signal_marks (parts_of g) m linking s seen ∙ ap (λ (l : Linking). mark_of l m.place) e
      ∙ simp (le-ltb (5 * (m.place - a)) (4 * D) k, lt-leb (5 * (m.place - a)) (6 * D) h)
  mark_so linking mark (unmarked other) = (other_leaves (parts_of g) m other seen).0 linking

  -- What is known after it is what document 01's sentences give.
  pub becomes : (k : Known) → Becomes k m (known_from m.content m.place m.number k)
  becomes k =
      record {
        main = λ d v preset target e. ap (λ (c : Content). (known_from c m.place m.number k).main) e;
        main_stays = λ d preset target e. ap (λ (c : Content). (known_from c m.place m.number k).main) e;
        target = λ d preset main target e. ap (λ (c : Content). (known_from c m.place m.number k).target) e;
        number = λ d preset main target e. ap (λ (c : Content). (known_from c m.place m.number k).number) e;
        anew = λ d main target e. ap (λ (c : Content). (known_from c m.place m.number k).linking) e;
        ends = λ d main target e. ap (λ (c : Content). (known_from c m.place m.number k).linking) e;
        others = λ other. (other_leaves (parts_of g) m other seen).1 k;
      }

-- ---- every group has a mark, or none

-- Whether a message is a present signal's.
pub data Signal? (m : Message) : Type 0 where
  is : IsSignal m → Signal? m
  is_not : (IsSignal m → ⊥) → Signal? m

signal? : (m : Message) → Signal? m
signal? m = go m.direction refl m.kind refl
  where
    go : (d : Direction) → m.direction ≡ d → (k : Kind) → m.kind ≡ k → Signal? m
    go Direction.Opposite e k f = is_not (λ s. let g = s.0 in cannot_be cc)
    go Direction.Present e Kind.Signal f = is (e, f)
    go Direction.Present e Kind.Warning f = is_not (λ s. let g = s.1 in cannot_be cc)
    go Direction.Present e Kind.Annulled f = is_not (λ s. let g = s.1 in cannot_be cc)
    go Direction.Present e Kind.Line f = is_not (λ s. let g = s.1 in cannot_be cc)
    go Direction.Present e Kind.Route f = is_not (λ s. let g = s.1 in cannot_be cc)

-- Every group has a mark, or none.
pub mark_of_law : (linking : Linking) (m : Message) → (mark : Mark) × IsMarked linking m mark
mark_of_law linking m = go (signal? m) linking refl
  where
    by : (D a : ℕ) → IsSignal m → linking ≡ Linking.Set D a → (t : Bool) → ltb (5 * (m.place - a)) (4 * D) ≡ t → (u : Bool) → leb (5 * (m.place - a)) (6 * D) ≡ u
        → (mark : Mark) × IsMarked linking m mark
    by D a s e true h u k = (Mark.Early, early D a s e (ltb-true (5 * (m.place - a)) (4 * D) h))
    by D a s e false h true k =
        (Mark.Good, good D a s e (ltb-false (5 * (m.place - a)) (4 * D) h) (leb-true (5 * (m.place - a)) (6 * D) k))
    by D a s e false h false k = (Mark.Late, late D a s e (leb-false (5 * (m.place - a)) (6 * D) k))

    go : Signal? m → (l : Linking) → linking ≡ l → (mark : Mark) × IsMarked linking m mark
    go (is_not other) l e = (Mark.Unmarked, unmarked other)
    go (is s) Linking.Unset e = (Mark.First, first s e)
    go (is s) (Linking.Set D a) e = by D a s e (ltb (5 * (m.place - a)) (4 * D)) refl (leb (5 * (m.place - a)) (6 * D)) refl
