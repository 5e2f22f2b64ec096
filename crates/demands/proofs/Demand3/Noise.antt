-- The noise law over the readers' contracts: two instances of the one law of the codes.
-- Assumes nothing.
use mathlib.Core.Path.{◌≡◌, refl, sym, ap, ◌∙◌}
use mathlib.Core.Bool.{Bool, true, false, not}
use Prim.Native.Nat.{ℕ}
use lib.Bits.{bit_xor}
use Rattle.words.specs.Answer.{Answer, gives, refuses, pick}
use Rattle.words.specs.Why.{Why, not_code_word}
use Rattle.words.specs.Plain.{is_code, figure}
use Rattle.words.specs.Code.{exchanged, read_word}
use Rattle.words.proofs.Widths.{Width}
use Rattle.words.proofs.Laws.{heard, noise}
use Rattle.demands.specs.Table.{not_code}
use Rattle.demands.specs.Demand3.{ByFlipsAlone, NoiseLaw}
use Rattle.demands.proofs.Common.Rules.{true_not_false}
use Rattle.words.proofs.Never.{cannot_be}

-- What is heard of x is decided by the flips alone.
by_flips : (n x f : ℕ) (received : Answer Why ℕ) → received ≡ heard x (read_word n f) → ByFlipsAlone n x f received
unfolding read_word not_code
by_flips n x f received e = go (is_code n (exchanged n f)) refl e
  where
    y : ℕ
    y = figure n (exchanged n f)

    go : (t : Bool) → is_code n (exchanged n f) ≡ t → received ≡ heard x (pick t (gives y) (refuses (not_code_word n f))) → ByFlipsAlone n x f received
    go true is e = record { exactly_if = (λ a. ap not is, λ q. (bit_xor x y, e)); added = λ q. e }
    go false is e =
        record {
          exactly_if = (λ a. absurd (never a.0 (sym e ∙ a.1)), λ q. absurd (code q));
          added = λ q. absurd (code q);
        }
      where
        never : (v : ℕ) → refuses (not_code_word n f) ≡ gives v → ⊥
        never v q = cannot_be cc

        code : not (is_code n (exchanged n f)) ≡ false → ⊥
        code q = true_not_false (sym (ap not is) ∙ q)

-- For a reader of n bits, each of whose answers is that of the specification.
pub noise_law : {n : ℕ} → Width n → {A : Type 0} (says : A → Answer Why ℕ) (Reads : ℕ → A → Type 0)
    → ((w : ℕ) (r : A) → Reads w r → says r ≡ read_word n w) → NoiseLaw n says Reads
noise_law {n} wide says Reads answers c f x sent received at_c at_both accepted =
    by_flips n x f (says received) (answers _ received at_both ∙ noise wide c f x (sym (answers c sent at_c) ∙ accepted))
