-- The bytes of the telegrams are the eight bytes that the balise repeats, again and again; what
-- stands in a buffer after them stays.
-- Assumes nothing.
use mathlib.Core.Path.{◌≡◌, refl, sym, ap, ◌∙◌}
use mathlib.Core.Bool.{Bool, true, false}
use mathlib.Core.List.{List, [], ◌∷◌, ◌++◌}
use Prim.Native.Nat.{ℕ, zero, suc, ◌+◌, ◌-◌, ◌*◌, ◌%◌, ◌≤◌, ◌<◌}
use native.Mathlib.Omega.{arith}
use lib.Dec.{ltb}
use lib.ListN.{length, drop, get_or, set, length-append, length-drop, get_or-append}
use lib.Seq.{ext_get_or, get_or-append-add, get_or-drop, get_or-set_same, get_or-set_other}
use borrow.Author.Count.{below_more}
use borrow.Author.Tests.{ltb-true, ltb-false}
use Rattle.telegram.specs.Spelling.{Words}
use Rattle.balise_writer.specs.Write.{telegrams}

-- The eight bytes that the balise repeats.
abbrev pub eight : ℕ → ℕ → Words → List ℕ
eight s t w = s ∷ w.x ∷ w.y ∷ w.z ∷ t ∷ w.x ∷ w.y ∷ w.z ∷ []

-- n telegrams and a sync word are 4 n + 1 bytes.
pub telegrams_length : (s t : ℕ) (w : Words) (n : ℕ) → length (telegrams s t w n) ≡ 4 * n + 1
unfolding telegrams
telegrams_length s t w zero = refl
telegrams_length s t w (suc n) = let r : length (telegrams t s w n) ≡ 4 * n + 1 = telegrams_length t s w n in omega arith

-- With the sync words exchanged they are the same four bytes later.
exchanged : (s t : ℕ) (w : Words) (r : ℕ) → r < 8 → get_or (eight t s w) r 0 ≡ get_or (eight s t w) ((r + 4) % 8) 0
exchanged s t w zero h = refl
exchanged s t w (suc zero) h = refl
exchanged s t w (suc (suc zero)) h = refl
exchanged s t w (suc (suc (suc zero))) h = refl
exchanged s t w (suc (suc (suc (suc zero)))) h = refl
exchanged s t w (suc (suc (suc (suc (suc zero))))) h = refl
exchanged s t w (suc (suc (suc (suc (suc (suc zero)))))) h = refl
exchanged s t w (suc (suc (suc (suc (suc (suc (suc zero))))))) h = refl
exchanged s t w (suc (suc (suc (suc (suc (suc (suc (suc r)))))))) h = absurd (omega arith)

-- Byte i of the telegrams.
pub telegrams_byte : (s t : ℕ) (w : Words) (n i : ℕ) → i < 4 * n + 1 → get_or (telegrams s t w n) i 0 ≡ get_or (eight s t w) (i % 8) 0
unfolding telegrams
telegrams_byte s t w zero zero h = refl
telegrams_byte s t w zero (suc i) h = absurd (omega arith)
telegrams_byte s t w (suc n) zero h = refl
telegrams_byte s t w (suc n) (suc zero) h = refl
telegrams_byte s t w (suc n) (suc (suc zero)) h = refl
telegrams_byte s t w (suc n) (suc (suc (suc zero))) h = refl
telegrams_byte s t w (suc n) (suc (suc (suc (suc i)))) h =
    let same : (i % 8 + 4) % 8 ≡ suc (suc (suc (suc i))) % 8 = omega arith in
    telegrams_byte t s w n i (omega arith) ∙ exchanged s t w (i % 8) (omega arith) ∙ ap (λ (k : ℕ). get_or (eight s t w) k 0) same

-- One byte more: the eight bytes reach one further, and the others stay.
module _ (eight old out : List ℕ) (i : ℕ) (room : i < length out)
    (first : (k : ℕ) → k < i → get_or out k 0 ≡ get_or eight (k % 8) 0) (others : (k : ℕ) → i ≤ k → get_or out k 0 ≡ get_or old k 0) where
  abbrev v : ℕ
  v = get_or eight (i % 8) 0

  pub first_more : (k : ℕ) → k < i + 1 → get_or (set out i v) k 0 ≡ get_or eight (k % 8) 0
  first_more =
      below_more (λ k. get_or (set out i v) k 0 ≡ get_or eight (k % 8) 0) i (λ k l. get_or-set_other out i k v 0 (λ e. omega arith) ∙ first k l)
      (get_or-set_same out i v 0 room)

  pub others_less : (k : ℕ) → i + 1 ≤ k → get_or (set out i v) k 0 ≡ get_or old k 0
  others_less k l = get_or-set_other out i k v 0 (λ e. omega arith) ∙ others k (omega arith)

-- A buffer whose first 4 n + 1 bytes are those, and whose others are the old ones.
module _ (s t : ℕ) (w : Words) (n : ℕ) (old new : List ℕ) (same : length new ≡ length old) (room : 4 * n + 1 ≤ length old)
    (first : (i : ℕ) → i < 4 * n + 1 → get_or new i 0 ≡ get_or (eight s t w) (i % 8) 0)
    (others : (i : ℕ) → 4 * n + 1 ≤ i → get_or new i 0 ≡ get_or old i 0) where
  size : length (telegrams s t w n) ≡ 4 * n + 1
  size = telegrams_length s t w n

  byte : (i : ℕ) (t' : Bool) → ltb i (4 * n + 1) ≡ t' → get_or new i 0 ≡ get_or (telegrams s t w n ++ drop (length (telegrams s t w n)) old) i 0
  byte i true is =
      let h : i < 4 * n + 1 = ltb-true i (4 * n + 1) is in
      first i h ∙ sym (telegrams_byte s t w n i h)
      ∙ sym (get_or-append (telegrams s t w n) (drop (length (telegrams s t w n)) old) 0 i (omega (arith, size)))
  byte i false is =
      let h : 4 * n + 1 ≤ i = ltb-false i (4 * n + 1) is in
      let k : ℕ = i - length (telegrams s t w n) in
      let at : length (telegrams s t w n) + k ≡ i = omega (arith, size) in
      others i h
      ∙ ap (λ (j : ℕ). get_or old j 0) (sym at)
      ∙ sym (get_or-drop (length (telegrams s t w n)) old k 0)
      ∙ sym (get_or-append-add (telegrams s t w n) (drop (length (telegrams s t w n)) old) k 0)
      ∙ ap (λ (j : ℕ). get_or (telegrams s t w n ++ drop (length (telegrams s t w n)) old) j 0) at

  pub is_onto : new ≡ telegrams s t w n ++ drop (length (telegrams s t w n)) old
  is_onto =
      ext_get_or 0 new (telegrams s t w n ++ drop (length (telegrams s t w n)) old)
      (omega (arith, size, length-append (telegrams s t w n) (drop (length (telegrams s t w n)) old), length-drop (length (telegrams s t w n)) old))
      (λ i _. byte i (ltb i (4 * n + 1)) refl)
