-- Texts put into a buffer one after the other are one text put into it.
-- Assumes nothing.
use mathlib.Core.Path.{◌≡◌, sym, ap, ◌∙◌}
use mathlib.Core.List.{List, [], ◌∷◌, ◌++◌, append_assoc, append-nil}
use Prim.Native.Nat.{ℕ, suc, ◌+◌, ◌≤◌, ◌<◌}
use native.Mathlib.Nat.{add_assoc, add-zero}
use native.Mathlib.Numerals.{add-one}
use native.Mathlib.Omega.{arith}
use lib.ListN.{length, take, drop, get_or, set, length-append, take-append-drop}
use lib.Seq.{length-take-le, drop-cons, take-length, take_at, drop_at, drop-drop, set_split, take-set-le, append_snoc, length-paste}
use Rattle.text.specs.Put.{placed}

-- A text of no bytes changes nothing.
pub placed_none : (b : List ℕ) (at : ℕ) → placed [] b at ≡ b
unfolding placed
placed_none b at = simp (append-nil, add-zero, take-append-drop)

module _ (t b : List ℕ) (at : ℕ) (fits : at + length t ≤ length b) where
  -- what stands before the text and the text, as long as both
  head_length : length (take at b ++ t) ≡ at + length t
  head_length =
      let before : at ≤ length b = omega arith in
      length-append (take at b) t ∙ ap (λ (k : ℕ). k + length t) (length-take-le at b before)

  -- The buffer keeps its length.
  pub placed_length : length (placed t b at) ≡ length b
  unfolding placed
  placed_length = ap (λ (s : List ℕ). length (take at b ++ s ++ drop (at + length t) b)) (sym (take-length t)) ∙ length-paste b at t (length t) fits (omega arith)

  -- A second text after the first.
  pub placed_join : (u : List ℕ) → placed u (placed t b at) (at + length t) ≡ placed (t ++ u) b at
  unfolding placed
  placed_join u =
      let p : List ℕ = take at b ++ t in
      let q : List ℕ = drop (at + length t) b in
      let first : take (at + length t) (p ++ q) ≡ p = take_at p q (at + length t) head_length in
      let behind : drop (at + length t) (p ++ q) ≡ q = drop_at p q (at + length t) head_length in
      let rest : drop (at + length t + length u) (p ++ q) ≡ drop (at + length t + length u) b =
      sym (drop-drop (length u) (at + length t) (p ++ q)) ∙ ap (drop (length u)) behind ∙ drop-drop (length u) (at + length t) b in
      ap (λ (s : List ℕ). s ++ u ++ drop (at + length t + length u) (p ++ q)) first
      ∙ ap (λ (s : List ℕ). p ++ u ++ s) rest
      ∙ simp (append_assoc, length-append, add_assoc)

-- One byte is a text.
pub placed_one : (b : List ℕ) (at d : ℕ) → at < length b → set b at d ≡ placed (d ∷ []) b at
unfolding placed
placed_one b at d h = set_split b at d h ∙ sym (append_snoc (take at b) d (drop (suc at) b)) ∙ ap (λ (k : ℕ). take at b ++ (d ∷ []) ++ drop k b) (sym (add-one at))

-- The byte after a text, put first.
pub placed_last : (t b : List ℕ) (at d : ℕ) → at + length t < length b → placed t (set b (at + length t) d) at ≡ placed (t ++ (d ∷ [])) b at
unfolding placed
placed_last t b at d h =
    let i : ℕ = at + length t in
    let front : take at (set b i d) ≡ take at b = take-set-le at b i d (omega arith) in
    let size : length (take i b) ≡ i = length-take-le i b (omega arith) in
    let behind : drop i (set b i d) ≡ d ∷ drop (suc i) b = ap (drop i) (set_split b i d h) ∙ drop_at (take i b) (d ∷ drop (suc i) b) i size in
    let more : suc i ≡ at + length (t ++ (d ∷ [])) = simp length-append (omega arith) in
    ap (λ (s : List ℕ). s ++ t ++ drop i (set b i d)) front
    ∙ ap (λ (s : List ℕ). take at b ++ t ++ s) behind
    ∙ sym (append_snoc (take at b ++ t) d (drop (suc i) b))
    ∙ ap (λ (s : List ℕ). s ++ drop (suc i) b) (append_assoc (take at b) t (d ∷ []))
    ∙ ap (λ (k : ℕ). take at b ++ (t ++ (d ∷ [])) ++ drop k b) more

-- The first byte of those that are left, put by itself.
pub placed_next : (s b : List ℕ) (at i : ℕ) → i < length s → at + i < length b
    → placed (drop (i + 1) s) (set b (at + i) (get_or s i 0)) (at + (i + 1)) ≡ placed (drop i s) b (at + i)
placed_next s b at i in-s in_b =
    let d : ℕ = get_or s i 0 in
    let u : List ℕ = drop (i + 1) s in
    let fits : at + i + length (d ∷ []) ≤ length b = omega arith in
    ap (λ (k : ℕ). placed u (set b (at + i) d) k) (sym (add_assoc at i 1))
    ∙ ap (λ (l : List ℕ). placed u l (at + i + 1)) (placed_one b (at + i) d in_b)
    ∙ placed_join (d ∷ []) b (at + i) fits u
    ∙ ap (λ (l : List ℕ). placed l b (at + i)) (sym (rw (add-one, drop-cons s i 0)))

-- A text at the start of a buffer is the buffer's beginning.
pub placed_start : (t b : List ℕ) → take (0 + length t) (placed t b 0) ≡ t
unfolding placed
placed_start t b = take_at t (drop (0 + length t) b) (0 + length t) (omega arith)
