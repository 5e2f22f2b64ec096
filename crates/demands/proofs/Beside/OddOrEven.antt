-- Odd or even, over the readers' contracts: a received word is what was sent and its flips
-- together, and what was sent is even.
-- Assumes nothing.
use mathlib.Core.Path.{◌≡◌, refl, sym, ◌∙◌}
use mathlib.Core.Bool.{Bool, true, false}
use mathlib.Core.Logic.{◌↔◌}
use Prim.Native.Nat.{ℕ, ◌%◌}
use native.Mathlib.Omega.{arith}
use lib.Dec.{eqb}
use lib.Bits.{bit_xor}
use borrow.Author.Tests.{eqb-true, eqb-false}
use Rattle.words.specs.Answer.{Answer, gives, refuses, pick}
use Rattle.words.specs.Bits.{word, ones_of}
use Rattle.words.specs.Plain.{is_check, covers, count, even, is_code, onwards, figure}
use Rattle.words.specs.Code.{other, exchanged, read_word}
use Rattle.words.specs.Why.{Why, why, are, parity, not_code_word}
use Rattle.words.specs.Says.{says_read}
use Rattle.words.specs.declared.Parity.{Parity}
use Rattle.words.proofs.Parities.{parity_xor}
use Rattle.words.proofs.Widths.{Width, short, long}
use Rattle.words.proofs.Laws.{even_number}
use Rattle.std.specs.Prelude.{Err}
use Rattle.words.specs.declared.NotCode.{NotCode}
use Rattle.demands.specs.ByContract.{ReadShort, ReadLong}
use Rattle.demands.specs.OddOrEven.{OddOrEven, Parities}

-- The parity of a word says whether its ones are odd, or even.
told : (n f : ℕ) → ((parity n f ≡ Parity.Odd) ↔ (ones_of f n % 2 ≡ 1)) × ((parity n f ≡ Parity.Even) ↔ (ones_of f n % 2 ≡ 0))
unfolding parity
told n f = go (eqb (ones_of f n % 2) 0) refl
  where
    never : {R : Type 0} → Parity.Odd ≡ Parity.Even → R
    never e = let z : ◌≡◌ {A = ℕ} 0 1 = cc in absurd (omega arith)

    go : (t : Bool) → eqb (ones_of f n % 2) 0 ≡ t
        → ((pick t Parity.Even Parity.Odd ≡ Parity.Odd) ↔ (ones_of f n % 2 ≡ 1)) × ((pick t Parity.Even Parity.Odd ≡ Parity.Even) ↔ (ones_of f n % 2 ≡ 0))
    go true is =
        let z : ones_of f n % 2 ≡ 0 = eqb-true (ones_of f n % 2) 0 is in
        ((λ e. never (sym e), λ o. absurd (omega arith)), (λ e. z, λ o. refl))
    go false is =
        let ne : ones_of f n % 2 ≡ 0 → ⊥ = eqb-false (ones_of f n % 2) 0 is in
        ((λ e. one (ones_of f n) ne, λ o. refl), (λ e. never e, λ o. absurd (ne o)))
      where
        one : (k : ℕ) → (k % 2 ≡ 0 → ⊥) → k % 2 ≡ 1
        one k h = omega arith

-- What is refused is refused as the specification has it.
refusal : (n w : ℕ) (b : Why) → read_word n w ≡ refuses b → b ≡ not_code_word n w
unfolding read_word
refusal n w b e = go (is_code n (exchanged n w)) e
  where
    go : (t : Bool) → pick t (gives (figure n (exchanged n w))) (refuses (not_code_word n w)) ≡ refuses b → b ≡ not_code_word n w
    go true e = let z : ◌≡◌ {A = ℕ} 0 1 = cc in absurd (omega arith)
    go false e = cc

-- For a reader of n bits, each of whose answers is that of the specification.
module _ {n : ℕ} (wide : Width n) {A : Type 0} (says : A → Answer Why ℕ) (Reads : ℕ → A → Type 0)
    (answers : (w : ℕ) (r : A) → Reads w r → says r ≡ read_word n w) where
  sent_even : (c x : ℕ) (sent : A) → Reads c sent → says sent ≡ gives x → ones_of c n % 2 ≡ 0
  sent_even c x sent k e = even_number wide c x (sym (answers c sent k) ∙ e)

  flips_parity : (c f x : ℕ) (sent received : A) (p : Parity) → Reads c sent → says sent ≡ gives x → Reads (bit_xor c f) received
      → says received ≡ refuses (why 1 (are p)) → p ≡ parity n f
  flips_parity c f x sent received p k e l refused =
      let said : why 1 (are p) ≡ not_code_word n (bit_xor c f) = refusal n (bit_xor c f) (why 1 (are p)) (sym (answers (bit_xor c f) received l) ∙ refused) in
      let same : p ≡ parity n (bit_xor c f) = cc in
      same ∙ parity_xor n c f (sent_even c x sent k e)

  pub odd_or_even : OddOrEven n says Reads
  odd_or_even = record {
    code_words_even = sent_even;
    always_said = λ w r b k e. (parity n w, refusal n w b (sym (answers w r k) ∙ e));
    odd_flips = λ c f x sent received p k e l refused.
        let is = flips_parity c f x sent received p k e l refused in
        (λ odd. (told n f).0.0 (sym is ∙ odd), λ ones. is ∙ (told n f).0.1 ones);
    even_flips = λ c f x sent received p k e l refused.
        let is = flips_parity c f x sent received p k e l refused in
        (λ odd. (told n f).1.0 (sym is ∙ odd), λ ones. is ∙ (told n f).1.1 ones);
  }

pub parities : Parities
parities = record {
  short_code = odd_or_even short says_read ReadShort (λ w r called. called.1);
  long_code = odd_or_even long says_read ReadLong (λ w r called. called.1);
}

-- The hypotheses can be met: a nine was sent, 99 hex, and one bit flipped, so the word says odd;
-- two, and it says even.
one_flip : ReadShort (bit_xor 0x99 0x01) (Err (record { 0 = Parity.Odd }))
unfolding read_word parity ones_of is_code even count covers figure onwards is_check exchanged other word
one_flip = ((0x98, tt), refl)

two_flips : ReadShort (bit_xor 0x99 0x03) (Err (record { 0 = Parity.Even }))
unfolding read_word parity ones_of is_code even count covers figure onwards is_check exchanged other word
two_flips = ((0x9A, tt), refl)
