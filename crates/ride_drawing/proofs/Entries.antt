-- The entries of a plan as the code comes by them: one after the other, up to 64.
-- Assumes nothing.
use Rattle.std.proofs.Common.{Some, None}
use Prim.Native.Nat.{ℕ, zero, suc, ◌+◌, ◌≤◌, ◌<◌}
use native.Mathlib.Omega.{arith}
use native.Mathlib.Numerals.{add-one}
use mathlib.Core.Path.{◌≡◌, refl, ap, sym, ◌∙◌}
use mathlib.Core.Bool.{Bool, true, false, not, ◌||◌}
use mathlib.Core.List.{List, [], ◌∷◌, ◌++◌, append-nil}
use lib.Dec.{ltb}
use lib.ListN.{length, take, drop, get_or}
use lib.Seq.{drop-cons, get_or-take}
use borrow.Author.Tests.{ltb-true, ltb-false}
use Rattle.words.specs.Answer.{pick}
use Rattle.words.proofs.Never.{cannot_be}
use Rattle.text.specs.Put.{Put, came}
use Rattle.ride.specs.declared.Known.{Known}
use Rattle.ride.specs.declared.Line.{Line}
use Rattle.ride.specs.declared.Seen.{Seen}
use Rattle.acceptance.specs.declared.Entry.{Entry}
use Rattle.acceptance.specs.declared.Acceptance.{Acceptance}
use Rattle.acceptance.specs.Plan.{no_entry}
use Rattle.acceptance.specs.Taking.{planned, is_present}
use Rattle.acceptance.specs.Report.{report}
use Rattle.ride_drawing.specs.declared.Pen.{Pen}
use Rattle.ride_drawing.specs.declared.Plan.{Plan}
use Rattle.text.specs.Pieces.{puts}
use Rattle.ride_drawing.specs.Strip.{arrive}
use Rattle.ride_drawing.specs.Row.{row, entry_sign, is_by, has_met, is_extra, extra_sign, is_on_the_way}
use Rattle.ride_drawing.specs.Element.{pieces}
use Rattle.ride_drawing.specs.Way.{way, Past, come_by, past}
use Rattle.ride_drawing.specs.Drawing.{extra_mark}
use Rattle.text.proofs.Putting.{puts_append}
use Rattle.ride_drawing.proofs.Elements.{pieces_append}

-- The entries of a run's plan that are drawn.
abbrev pub row_of : Acceptance → List Entry
row_of s = take 64 (planned s)

-- ---- the entry that is reported

none_behind : (l : List Entry) (i : ℕ) → length l ≤ i → drop i l ≡ []
none_behind [] zero h = refl
none_behind [] (suc i) h = refl
none_behind (e ∷ l) zero h = absurd (omega arith)
none_behind (e ∷ l) (suc i) h = none_behind l i (omega arith)

taken_few : (n : ℕ) (l : List Entry) → (length (take n l) ≤ n) × (length (take n l) ≤ length l)
taken_few zero l = (omega arith, omega arith)
taken_few (suc n) [] = (omega arith, omega arith)
taken_few (suc n) (e ∷ l) = (omega (arith, (taken_few n l).0), omega (arith, (taken_few n l).1))

in_both : (n : ℕ) (l : List Entry) (i : ℕ) → i < n → i < length l → i < length (take n l)
in_both zero l i h k = absurd (omega arith)
in_both (suc n) [] i h k = absurd (omega arith)
in_both (suc n) (e ∷ l) zero h k = omega arith
in_both (suc n) (e ∷ l) (suc i) h k = omega (arith, in_both n l i (omega arith) (omega arith))

-- Where an entry is reported it is the next of those that are left;
reported_by : (s : Acceptance) (i : ℕ) (e : Entry) (b : Bool) → ltb i (length (planned s)) ≡ b → Some e ≡ pick b (Some (get_or (planned s) i no_entry)) None
    → (i < length (planned s)) × (e ≡ get_or (planned s) i no_entry)
reported_by s i e true more h = (ltb-true i (length (planned s)) more, cc)
reported_by s i e false more h = cannot_be cc

pub next_entry : (s : Acceptance) (i : ℕ) (e : Entry) → i < 64 → Some e ≡ report s i → drop i (row_of s) ≡ e ∷ drop (i + 1) (row_of s)
unfolding report
next_entry s i e h r =
    let l : List Entry = planned s in
    let is = reported_by s i e (ltb i (length l)) refl r in
    let on : suc i ≡ i + 1 = sym (add-one i) in
    drop-cons (row_of s) i no_entry (in_both 64 l i h is.0)
    ∙ ap (λ (x : Entry). x ∷ drop (suc i) (row_of s)) (get_or-take 64 l i no_entry h ∙ sym is.1)
    ∙ ap (λ (k : ℕ). e ∷ drop k (row_of s)) on

-- where none is, none is left;
unreported_by : (s : Acceptance) (i : ℕ) (b : Bool) → ltb i (length (planned s)) ≡ b → None ≡ pick b (Some (get_or (planned s) i no_entry)) None → length (planned s) ≤ i
unreported_by s i true more h = cannot_be cc
unreported_by s i false more h = ltb-false i (length (planned s)) more

pub no_entry_law : (s : Acceptance) (i : ℕ) → None ≡ report s i → drop i (row_of s) ≡ []
unfolding report
no_entry_law s i r =
    let l : List Entry = planned s in
    none_behind (row_of s) i (omega (arith, (taken_few 64 l).1, unreported_by s i (ltb i (length l)) refl r))

-- and none is behind the last.
pub all_passed : (s : Acceptance) (i : ℕ) → 64 ≤ i → drop i (row_of s) ≡ []
all_passed s i h = none_behind (row_of s) i (omega (arith, (taken_few 64 (planned s)).0))

-- ---- whether a group met one

or_assoc : (a b c : Bool) → ((a || b) || c) ≡ (a || (b || c))
or_assoc true b c = refl
or_assoc false b c = refl

or_false : (a : Bool) → (a || false) ≡ a
or_false true = refl
or_false false = refl

pub met_next : (s : Acceptance) (place i : ℕ) (e : Entry) (found by : Bool) → drop i (row_of s) ≡ e ∷ drop (i + 1) (row_of s) → by ≡ is_by place e.met
    → ((found || by) || has_met place (drop (i + 1) (row_of s))) ≡ (found || has_met place (drop i (row_of s)))
unfolding has_met
met_next s place i e found by is so =
    or_assoc found by (has_met place (drop (i + 1) (row_of s)))
    ∙ ap (λ (b : Bool). found || (b || has_met place (drop (i + 1) (row_of s)))) so
    ∙ ap (λ (l : List Entry). found || has_met place l) (sym is)

pub met_all : (s : Acceptance) (place i : ℕ) (found : Bool) → drop i (row_of s) ≡ [] → (found || has_met place (drop i (row_of s))) ≡ found
unfolding has_met
met_all s place i found is = ap (λ (l : List Entry). found || has_met place l) is ∙ or_false found

-- ---- whether it is extra

pub not_asked : (plan : Plan) (s : Seen) → plan.asked ≡ false → false ≡ is_extra plan s
unfolding is_extra
not_asked plan s e = rw e

pub not_present : (plan : Plan) (s : Seen) → plan.asked ≡ true → is_present s.direction ≡ false → false ≡ is_extra plan s
unfolding is_extra
not_present plan s e f = rw (e, f)

pub by_entries : (plan : Plan) (s : Seen) (b : Bool) → plan.asked ≡ true → is_present s.direction ≡ true → b ≡ has_met s.place (row plan) → not b ≡ is_extra plan s
unfolding is_extra
by_entries plan s b e f g = rw (e, f, g)

pub extra_drawn : (plan : Plan) (s : Seen) (edge : ℕ) → is_extra plan s ≡ true → extra_sign s edge ≡ pieces (extra_mark plan (Line.Group s) edge)
extra_drawn plan s edge e = rw e (sym (append-nil (extra_sign s edge)))

pub extra_none : (plan : Plan) (s : Seen) (edge : ℕ) → is_extra plan s ≡ false → [] ≡ pieces (extra_mark plan (Line.Group s) edge)
extra_none plan s edge e = rw e

-- ---- the pen's way past them

module _ (began : Pen) (place until : ℕ) (known : Known) where
  -- what is left to come by, put where the last ended
  unfoldable pub to_come : Pen → ℕ → List Entry → List ℕ → ℕ → Put
  to_come pen i es b at = puts (pieces (past began pen i es place until known).elements) b at

  -- An entry passed,
  pub one_passed : {x : List ℕ} {m : ℕ} (pen : Pen) (i : ℕ) (e : Entry) (es left : List Entry) (b : List ℕ) (at : ℕ) (then : Pen) → left ≡ e ∷ es
      → came m x ≡ puts (pieces (come_by began i e place until known pen).elements) b at → then ≡ (come_by began i e place until known pen).pen
      → (to_come then (i + 1) es x m ≡ to_come pen i left b at)
      × ((past began then (i + 1) es place until known).pen ≡ (past began pen i left place until known).pen)
  unfolding to_come past
  one_passed {x} {m} pen i e es left b at then is put so =
      let here : Past = come_by began i e place until known pen in
      let rest : Past = past began here.pen (suc i) es place until known in
      let same : past began then (i + 1) es place until known ≡ rest =
      ap (λ (p : Pen). past began p (i + 1) es place until known) so ∙ ap (λ (k : ℕ). past began here.pen k es place until known) (add-one i) in
      let moved : past began pen i left place until known ≡ past began pen i (e ∷ es) place until known = ap (λ (l : List Entry). past began pen i l place until known) is in (
        ap (λ (p : Past). puts (pieces p.elements) x m) same
            ∙ ap (λ (p : Put). puts (pieces rest.elements) p.buffer p.next) put
            ∙ sym (puts_append (pieces here.elements) (pieces rest.elements) b at)
            ∙ ap (λ (ps : List (List ℕ)). puts ps b at) (pieces_append here.elements rest.elements)
            ∙ ap (λ (p : Past). puts (pieces p.elements) b at) (sym moved),
        ap (λ (p : Past). p.pen) same ∙ ap (λ (p : Past). p.pen) (sym moved),
      )

  -- and all of them.
  pub none_left : (pen : Pen) (i : ℕ) (left : List Entry) (b : List ℕ) (at : ℕ) → left ≡ []
      → (came at b ≡ to_come pen i left b at) × (pen ≡ (past began pen i left place until known).pen)
  unfolding to_come past puts
  none_left pen i left b at is = (ap (λ (l : List Entry). to_come pen i l b at) (sym is), ap (λ (l : List Entry). (past began pen i l place until known).pen) (sym is))

-- ---- one entry

module _ (began : Pen) (i : ℕ) (e : Entry) (place until : ℕ) (known : Known) (pen : Pen) where
  pub by_none : is_on_the_way began place e ≡ false → ([] ≡ pieces (come_by began i e place until known pen).elements) × (pen ≡ (come_by began i e place until known pen).pen)
  unfolding come_by
  by_none left = rw left (refl, refl)

  pub by_drawn : (there : Pen) → is_on_the_way began place e ≡ true → there ≡ arrive pen e.place until
      → (way pen e.place until known ++ (entry_sign i e there.edge ++ []) ≡ pieces (come_by began i e place until known pen).elements) × (there ≡ (come_by began i e place until known pen).pen)
  unfolding come_by
  by_drawn there on is = rw (on, is) (refl, refl)
