-- Reading balises one after the other: those read so far, their number, and what is left.
-- Assumes nothing.
use Prim.Native.Nat.{ℕ, ◌+◌, ◌<◌, ◌≤◌}
use mathlib.Core.Path.{◌≡◌, refl, sym, ap, ◌∙◌}
use mathlib.Core.List.{List, [], ◌∷◌, ◌++◌, append_assoc, append-nil}
use native.Mathlib.Numerals.{add-one}
use native.Mathlib.Omega.{arith}
use lib.ListN.{length, take, drop, get_or, set}
use lib.Seq.{take-suc-set}
use Rattle.words.specs.Answer.{Outcome, gives, refuses}
use Rattle.group.specs.declared.Heard.{Heard}
use Rattle.group.specs.declared.Balise.{Balise}
use Rattle.group_rows.specs.declared.Part.{Part}
use Rattle.group_rows.specs.declared.Placed.{Placed}
use Rattle.group.specs.Balise.{then, part_heard, read_all}
use Rattle.group.specs.Numbers.{number_or, number_of}
use Rattle.group.specs.Inside.{else_number}
use Rattle.group.proofs.Lists.{from_next, from_end, long_take}

-- What an array of balises holds where nothing was put.
abbrev pub unheard : Balise
unheard = record { place = 0; heard = Heard.Words 0 0 0 }

-- Those read so far, before what is left.
abbrev pub after : List Placed → Outcome (List Placed) → Outcome (List Placed)
after done left = then left λ ps. gives (done ++ ps)

pub after_none : (left : Outcome (List Placed)) → left ≡ after [] left
after_none (gives ps) = refl
after_none (refuses n) = refl

-- A balise read, with its place.
abbrev pub placed : Balise → Part → Placed
placed b p = record { place = b.place; part = p }

after_one : (done : List Placed) (x : Placed) (left : Outcome (List Placed))
    → after done (then left λ ps. gives (x ∷ ps)) ≡ after (done ++ (x ∷ [])) left
after_one done x (gives ps) = ap gives (sym (append_assoc done (x ∷ []) ps))
after_one done x (refuses n) = refl

-- The number of balises and one more: theirs, or else that of the one.
number_after : (done : List Placed) (x : Placed) → number_of (done ++ (x ∷ [])) ≡ else_number (number_of done) x.part
unfolding number_of
number_after [] x = refl
number_after (b ∷ done) x = go b.part (number_after done x)
  where
    go : (p : Part) → number_of (done ++ (x ∷ [])) ≡ else_number (number_of done) x.part
        → number_or p (number_of (done ++ (x ∷ []))) ≡ else_number (number_or p (number_of done)) x.part
    go (Part.Number m) e = refl
    go (Part.Figures f y z) e = e
    go Part.Marker e = e

-- It is that of the balises read so far, with the next one put after them.
pub number_next : (done : List Placed) (i : ℕ) (x : Placed) → i < length done
    → else_number (number_of (take i done)) x.part ≡ number_of (take (i + 1) (set done i x))
number_next done i x room =
    sym (number_after (take i done) x)
    ∙ ap number_of (sym (take-suc-set done i x room) ∙ ap (λ (m : ℕ). take m (set done i x)) (sym (add-one i)))

module _ (kept : List Balise) (n i : ℕ) (long : length kept ≡ 5) (few : n ≤ 5) where
  pub read_good : i < n → (p : Part) → part_heard (get_or kept i unheard).heard ≡ gives p
      → (done : List Placed) → length done ≡ 5
      → after (take i done) (read_all (drop i (take n kept)))
      ≡ after (take (i + 1) (set done i (placed (get_or kept i unheard) p))) (read_all (drop (i + 1) (take n kept)))
  unfolding read_all
  read_good h p e done five =
      let enough : n ≤ length kept = omega arith in
      let room : i < length done = omega arith in
      let x : Placed = placed (get_or kept i unheard) p in
      ap (λ (l : List Balise). after (take i done) (read_all l)) (from_next kept n i unheard enough h)
      ∙ ap (λ (o : Outcome Part). after (take i done) (then o λ q. then (read_all (drop (i + 1) (take n kept))) λ ps. gives (placed (get_or kept i unheard) q ∷ ps))) e
      ∙ after_one (take i done) x (read_all (drop (i + 1) (take n kept)))
      ∙ ap (λ (d : List Placed). after d (read_all (drop (i + 1) (take n kept))))
      (sym (take-suc-set done i x room) ∙ ap (λ (m : ℕ). take m (set done i x)) (sym (add-one i)))

  pub read_bad : i < n → part_heard (get_or kept i unheard).heard ≡ refuses 12
      → (done : List Placed) → refuses 12 ≡ after done (read_all (drop i (take n kept)))
  unfolding read_all
  read_bad h e done =
      let enough : n ≤ length kept = omega arith in
      sym (ap (λ (l : List Balise). after done (read_all l)) (from_next kept n i unheard enough h)
      ∙ ap (λ (o : Outcome Part). after done (then o λ q. then (read_all (drop (i + 1) (take n kept))) λ ps. gives (placed (get_or kept i unheard) q ∷ ps))) e)

  pub read_end : n ≤ i → (done : List Placed) → gives done ≡ after done (read_all (drop i (take n kept)))
  unfolding read_all
  read_end h done =
      let e : length (take n kept) ≡ n = long_take kept n long few in
      let f : length (take n kept) ≤ i = omega arith in
      sym (ap (λ (l : List Balise). after done (read_all l)) (from_end (take n kept) i f) ∙ ap gives (append-nil done))
