-- Reading balises one after the other: those read so far, and what is left.
-- Assumes nothing.
use Prim.Native.Nat.{ℕ, suc, ◌+◌, ◌<◌, ◌≤◌}
use mathlib.Core.Path.{◌≡◌, refl, sym, ap, ◌∙◌}
use mathlib.Core.List.{List, [], ◌∷◌, ◌++◌, append_assoc, append-nil}
use native.Mathlib.Numerals.{add-one}
use native.Mathlib.Omega.{arith}
use lib.ListN.{length, take, drop, get_or, set}
use lib.Seq.{take-suc-set}
use Rattle.words.specs.Answer.{Answer, gives, refuses, then}
use Rattle.group_rows.specs.declared.Part.{Part}
use Rattle.group_rows.specs.declared.Placed.{Placed}
use Rattle.group.specs.declared.Balise.{Balise}
use Rattle.group.proofs.Hearing.{unheard, placed}
use Rattle.group.proofs.Lists.{from_next, from_end, long_take}
use Rattle.group_reason.specs.Reason.{Amiss, Cause, bad}
use Rattle.group_reason.specs.Explain.{part_or_bad, named, read_from}

-- Those read so far, before what is left.
abbrev pub after : List Placed → Answer Cause (List Placed) → Answer Cause (List Placed)
after done left = then left λ ps. gives (done ++ ps)

pub after_none : (left : Answer Cause (List Placed)) → left ≡ after [] left
after_none (gives ps) = refl
after_none (refuses c) = refl

after_one : (done : List Placed) (x : Placed) (left : Answer Cause (List Placed))
    → after done (then left λ ps. gives (x ∷ ps)) ≡ after (done ++ (x ∷ [])) left
after_one done x (gives ps) = ap gives (sym (append_assoc done (x ∷ []) ps))
after_one done x (refuses c) = refl

-- The reading of what is left, by the next balise.
abbrev onwards : ℕ → Balise → List Balise → Answer Amiss Part → Answer Cause (List Placed)
onwards i b bs o = then (named i b.place o) λ p. then (read_from (suc i) bs) λ ps. gives (placed b p ∷ ps)

module _ (kept : List Balise) (n i : ℕ) (long : length kept ≡ 5) (few : n ≤ 5) where
  next_one : i < n → read_from i (drop i (take n kept)) ≡ onwards i (get_or kept i unheard) (drop (i + 1) (take n kept)) (part_or_bad (get_or kept i unheard).heard)
  unfolding read_from
  next_one h =
      let enough : n ≤ length kept = omega arith in
      ap (read_from i) (from_next kept n i unheard enough h)

  pub read_good : i < n → (p : Part) → part_or_bad (get_or kept i unheard).heard ≡ gives p
      → (done : List Placed) → length done ≡ 5
      → after (take i done) (read_from i (drop i (take n kept)))
      ≡ after (take (i + 1) (set done i (placed (get_or kept i unheard) p))) (read_from (i + 1) (drop (i + 1) (take n kept)))
  read_good h p e done five =
      let room : i < length done = omega arith in
      let x : Placed = placed (get_or kept i unheard) p in
      ap (after (take i done)) (next_one h ∙ ap (onwards i (get_or kept i unheard) (drop (i + 1) (take n kept))) e)
      ∙ after_one (take i done) x (read_from (suc i) (drop (i + 1) (take n kept)))
      ∙ ap (λ (d : List Placed). after d (read_from (suc i) (drop (i + 1) (take n kept))))
      (sym (take-suc-set done i x room) ∙ ap (λ (m : ℕ). take m (set done i x)) (sym (add-one i)))
      ∙ ap (λ (k : ℕ). after (take (i + 1) (set done i x)) (read_from k (drop (i + 1) (take n kept)))) (sym (add-one i))

  pub read_bad : i < n → (w : Amiss) → part_or_bad (get_or kept i unheard).heard ≡ refuses w
      → (done : List Placed) → refuses (bad i (get_or kept i unheard).place w) ≡ after done (read_from i (drop i (take n kept)))
  read_bad h w e done = sym (ap (after done) (next_one h ∙ ap (onwards i (get_or kept i unheard) (drop (i + 1) (take n kept))) e))

  pub read_end : n ≤ i → (done : List Placed) → gives done ≡ after done (read_from i (drop i (take n kept)))
  unfolding read_from
  read_end h done =
      let e : length (take n kept) ≡ n = long_take kept n long few in
      let f : length (take n kept) ≤ i = omega arith in
      sym (ap (λ (l : List Balise). after done (read_from i l)) (from_end (take n kept) i f) ∙ ap gives (append-nil done))
