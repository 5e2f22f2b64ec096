-- From the pair's answer and the tests of the call to what it answers.
-- Assumes nothing.
use mathlib.Core.Path.{◌≡◌, refl, sym, ap, ap₂, ◌∙◌}
use mathlib.Core.Bool.{Bool, true, false, not, ◌&&◌, ◌||◌}
use mathlib.Core.List.{List, ◌++◌}
use Prim.Native.Nat.{ℕ, ◌+◌, ◌*◌, ◌≤◌, ◌<◌}
use lib.Dec.{leb, ltb}
use lib.ListN.{length, drop}
use borrow.Author.Tests.{ltb-true, ltb-false, le-leb, lt-leb, le-ltb, lt-ltb}
use Rattle.words.specs.Answer.{gives, refuses}
use Rattle.telegram.specs.Sync.{is_good}
use Rattle.telegram.specs.Spelling.{Words}
use Rattle.balise_writer.specs.Write.{telegrams, in_range, bytes_of, onto}
use Rattle.balise_writer.proofs.Bytes.{telegrams_length}

-- The number of telegrams is in range exactly if it is neither below 2 nor above 1,000.
pub range : (n : ℕ) → in_range n ≡ not (ltb n 2 || ltb 1000 n)
unfolding in_range
range n = go (ltb n 2) refl (ltb 1000 n) refl
  where
    go : (a : Bool) → ltb n 2 ≡ a → (b : Bool) → ltb 1000 n ≡ b → (leb 2 n && leb n 1000) ≡ not (ltb n 2 || ltb 1000 n)
    go true is b ib = simp (lt-leb 2 n (ltb-true n 2 is), is)
    go false is true ib = simp (le-leb 2 n (ltb-false n 2 is), lt-leb n 1000 (ltb-true 1000 n ib), is, ib)
    go false is false ib = simp (le-leb 2 n (ltb-false n 2 is), le-leb n 1000 (ltb-false 1000 n ib), is, ib)

-- What each way through the tests answers.
module _ (s t n : ℕ) (w : Words) (old : List ℕ) where
  pub answers_4 : is_good s t ≡ false → record { answer = refuses 4; buffer = old } ≡ onto old (bytes_of s t n (length old) w)
  unfolding bytes_of
  answers_4 g = simp g

  module _ (g : is_good s t ≡ true) where
    pub answers_20 : in_range n ≡ false → record { answer = refuses 20; buffer = old } ≡ onto old (bytes_of s t n (length old) w)
    unfolding bytes_of
    answers_20 r = simp (g, r)

    pub answers_21 : in_range n ≡ true → length old < 4 * n + 1 → record { answer = refuses 21; buffer = old } ≡ onto old (bytes_of s t n (length old) w)
    unfolding bytes_of
    answers_21 r short = simp (g, r, lt-ltb _ _ short)

    pub answers_bytes : in_range n ≡ true → 4 * n + 1 ≤ length old → (end : ℕ) → end ≡ 4 * n + 1
        → (new : List ℕ) → new ≡ telegrams s t w n ++ drop (length (telegrams s t w n)) old
        → record { answer = gives end; buffer = new } ≡ onto old (bytes_of s t n (length old) w)
    unfolding bytes_of
    answers_bytes r room end end_is new New-is =
        let bytes : bytes_of s t n (length old) w ≡ gives (telegrams s t w n) = simp (g, r, le-ltb _ _ room) in
        ap₂ (λ (k : ℕ) (b : List ℕ). record { answer = gives k; buffer = b }) (end_is ∙ sym (telegrams_length s t w n)) New-is
        ∙ ap (onto old) (sym bytes)
