-- Odd or even, beside demand 3 (document 02, M-106): "A word refused with 1 now also says which:
-- every code word has an even number of ones, so an odd word had an odd number of flips."
-- What the contracts allow: specs/ByContract.antt. That all of this holds:
-- proofs/Beside/OddOrEven.antt.
-- Assumes nothing.
use Rattle.std.specs.Prelude.{ℕ, ◌%◌, ◌≡◌, ◌↔◌}
use Rattle.std.specs.Int.Bits.{bit_xor}
use Rattle.words.specs.Answer.{Answer, gives, refuses}
use Rattle.words.specs.Bits.{ones_of}
use Rattle.words.specs.Why.{Why, why, are}
use Rattle.words.specs.Says.{says_read}
use Rattle.words.specs.declared.Parity.{Parity}
use Rattle.demands.specs.ByContract.{ReadShort, ReadLong}

-- The law of the code of n bits: `Reads w r` is that the contract of its reader allows the answer r
-- for the word w, and r says `says r`.
pub record OddOrEven (n : ℕ) {A : Type 0} (says : A → Answer Why ℕ) (Reads : ℕ → A → Type 0) : Type 0 where
  -- every code word has an even number of ones
  pub code_words_even : (c x : ℕ) (sent : A) → Reads c sent → says sent ≡ gives x → ones_of c n % 2 ≡ 0
  -- whatever is refused is refused with 1, and says odd or even
  pub always_said : (w : ℕ) (r : A) (b : Why) → Reads w r → says r ≡ refuses b → (p : Parity) × (b ≡ why 1 (are p))
  -- whichever code word c was sent, and whichever bits f flipped, a received word that is refused
  -- with 1 says "odd" exactly if an odd number of bits flipped, and "even" exactly if an even
  -- number did
  pub odd_flips : (c f x : ℕ) (sent received : A) (p : Parity) → Reads c sent → says sent ≡ gives x → Reads (bit_xor c f) received
      → says received ≡ refuses (why 1 (are p)) → (p ≡ Parity.Odd) ↔ (ones_of f n % 2 ≡ 1)
  pub even_flips : (c f x : ℕ) (sent received : A) (p : Parity) → Reads c sent → says sent ≡ gives x → Reads (bit_xor c f) received
      → says received ≡ refuses (why 1 (are p)) → (p ≡ Parity.Even) ↔ (ones_of f n % 2 ≡ 0)

-- Both codes.
pub record Parities : Type 0 where
  pub short_code : OddOrEven 8 says_read ReadShort
  pub long_code : OddOrEven 16 says_read ReadLong
