-- From what the inner functions found to what the public ones answer: once for every number n of
-- bits.
-- Assumes nothing.
use mathlib.Core.Path.{◌≡◌, sym, ap, ◌∙◌, subst}
use mathlib.Core.Bool.{Bool, true, false}
use Prim.Native.Nat.{ℕ, ◌%◌, ◌^◌, ◌≤◌, ◌<◌}
use native.Mathlib.Nat.{mod-eq_of_lt}
use borrow.Author.Tests.{le-leb, lt-leb}
use Rattle.words.specs.Answer.{gives, refuses, pick}
use Rattle.words.specs.Bits.{bit}
use Rattle.words.specs.Plain.{is_code, figure, plain_word}
use Rattle.words.specs.Why.{why, are, parity, not_code_word}
use Rattle.words.specs.Code.{other, exchanged, read_word, write_word, sent}
use Rattle.words.specs.declared.Parity.{Parity}
use Rattle.words.proofs.Digits.{bit_lt, word_lt}
use Rattle.words.proofs.Figures.{figure_lt}

module _ (n w : ℕ) (t : Bool) (t_is : t ≡ is_code n (exchanged n w)) where
  -- A code word reads as its figure.
  pub accepted : (x : ℕ) → x ≡ figure n (exchanged n w) → t ≡ true → gives (x % 2 ^ n) ≡ read_word n w
  unfolding read_word
  accepted x x_is so =
      ap gives (mod-eq_of_lt (subst (λ (k : ℕ). k < 2 ^ n) (sym x_is) (figure_lt n (exchanged n w))) ∙ x_is)
      ∙ ap (λ (b : Bool). pick b (gives (figure n (exchanged n w))) (refuses (not_code_word n w))) (sym so ∙ t_is)

  -- Any other word is refused with 1, and says its parity.
  pub refused : (p : Parity) → p ≡ parity n w → t ≡ false → refuses (why 1 (are p)) ≡ read_word n w
  unfolding read_word
  refused p p-is so =
      ap (λ (q : Parity). refuses (why 1 (are q))) p-is
      ∙ ap (λ (b : Bool). pick b (gives (figure n (exchanged n w))) (refuses (not_code_word n w))) (sym so ∙ t_is)

-- A sent word has n bits.
pub sent_lt : (n x : ℕ) → sent n x < 2 ^ n
unfolding sent exchanged
sent_lt n x = word_lt (λ i. bit (plain_word n x) (other i)) (λ i. bit_lt (plain_word n x) (other i)) n

module _ (n largest x : ℕ) where
  -- A figure up to the largest is written as its word.
  pub written : (w : ℕ) → w ≡ sent n x → x ≤ largest → gives (w % 2 ^ n) ≡ write_word n largest x
  unfolding write_word
  written w w_is h =
      ap gives (mod-eq_of_lt (subst (λ (k : ℕ). k < 2 ^ n) (sym w_is) (sent_lt n x)) ∙ w_is)
      ∙ ap (λ (b : Bool). pick b (gives (sent n x)) (refuses 2)) (sym (le-leb x largest h))

  -- A larger one is refused with 2.
  pub unwritten : largest < x → refuses 2 ≡ write_word n largest x
  unfolding write_word
  unwritten h = ap (λ (b : Bool). pick b (gives (sent n x)) (refuses 2)) (sym (lt-leb x largest h))
