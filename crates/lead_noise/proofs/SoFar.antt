-- A lead whose bytes before byte i have their noise, and the others none yet.
-- Assumes nothing.
use Prim.Native.Nat.{ℕ, zero, suc, ◌+◌, ◌*◌, ◌/◌, ◌%◌, ◌≤◌, ◌<◌}
use mathlib.Core.Path.{◌≡◌, refl, sym, ap, ap₂, ◌∙◌, subst}
use mathlib.Core.Bool.{Bool, true, false, ◌&&◌}
use mathlib.Core.List.{List}
use native.Mathlib.Omega.{arith}
use lib.Dec.{ltb}
use lib.ListN.{length, get_or, set, length-set}
use lib.Seq.{ext_get_or, get_or-set_same, get_or-set_other}
use borrow.Author.Count.{below_more}
use borrow.Author.Tests.{lt-ltb, le-ltb, le-leb, lt-leb, ltb-true, ltb-false}
use Rattle.lead_noise.specs.Generator.{drawn}
use Rattle.lead_noise.specs.Noise.{noisy_byte, bits_before, is_line, noisy_at, listed, with_noise}
use Rattle.lead_noise.proofs.Bytes.{drawn_on, later_byte}

-- ---- the list f 0, f 1, ..

pub listed_length : (f : ℕ → ℕ) (n : ℕ) → length (listed f n) ≡ n
unfolding listed
listed_length f zero = refl
listed_length f (suc n) = ap suc (listed_length (λ i. f (suc i)) n)

pub listed_at : (f : ℕ → ℕ) (n i : ℕ) → i < n → get_or (listed f n) i 0 ≡ f i
unfolding listed
listed_at f zero i l = absurd (omega arith)
listed_at f (suc n) zero l = refl
listed_at f (suc n) (suc i) l = listed_at (λ k. f (suc k)) n i (omega arith)

-- A list of n numbers, each f of its index, is that one.
pub is_listed : (f : ℕ → ℕ) (n : ℕ) (l : List ℕ) → length l ≡ n → ((i : ℕ) → i < n → get_or l i 0 ≡ f i) → l ≡ listed f n
is_listed f n l same each =
    ext_get_or 0 l (listed f n) (same ∙ sym (listed_length f n)) (λ i less. each i (omega arith) ∙ sym (listed_at f n i (omega arith)))

-- ---- byte after byte

pub record SoFar (x chance : ℕ) (old new : List ℕ) (here i : ℕ) : Type 0 where
  pub as_long : length new ≡ length old
  pub at : here ≡ drawn x (bits_before i)
  pub passed : (k : ℕ) → k < i → get_or new k 0 ≡ noisy_at x chance old k
  pub ahead : (k : ℕ) → i ≤ k → get_or new k 0 ≡ get_or old k 0

pub at_first : (x chance : ℕ) (lead : List ℕ) → SoFar x chance lead lead x 0
unfolding drawn
at_first x chance lead = record { as_long = refl; at = refl; passed = λ k l. absurd (omega arith); ahead = λ k l. refl }

-- Of equal leads and numbers the same holds.
pub alike : (x chance : ℕ) (old new new' : List ℕ) (here here' i : ℕ) → new' ≡ new → here' ≡ here → SoFar x chance old new here i → SoFar x chance old new' here' i
alike x chance old new new' here here' i same at so =
    subst (λ (l : List ℕ). SoFar x chance old l here' i) (sym same) (subst (λ (y : ℕ). SoFar x chance old new y i) (sym at) so)

module _ (x chance : ℕ) (old new : List ℕ) (here i : ℕ) (so : SoFar x chance old new here i) (whole : i < length old / 16 * 16) where
  -- A byte of an odometer stays.
  pub odometer_byte : i % 16 < 4 → SoFar x chance old new here (i + 1)
  unfolding noisy_at is_line
  odometer_byte low =
      let bits : bits_before i ≡ bits_before (i + 1) = omega arith in
      record {
        as_long = so.as_long;
        at = so.at ∙ ap (drawn x) bits;
        passed = below_more (λ k. get_or new k 0 ≡ noisy_at x chance old k) i so.passed
            (so.ahead i (omega arith) ∙ sym (simp (lt-leb 4 (i % 16) low, and_false)));
        ahead = λ k l. so.ahead k (omega arith);
      }
    where
      and_false : (t : Bool) → (t && false) ≡ false
      and_false true = refl
      and_false false = refl

  -- A byte of line gets its noise.
  pub line_byte : 4 ≤ i % 16 → SoFar x chance old (set new i (noisy_byte here chance 0 (get_or new i 0))) (drawn here 8) (i + 1)
  unfolding noisy_at is_line
  line_byte high =
      let byte = noisy_byte here chance 0 (get_or new i 0) in
      let bits : bits_before i + 8 ≡ bits_before (i + 1) = omega arith in
      let frame : i / 16 < length old / 16 = omega arith in
      let same : get_or new i 0 ≡ get_or old i 0 = so.ahead i (omega arith) in
      let none : bits_before i + 0 ≡ bits_before i = omega arith in
      let made : byte ≡ noisy_byte x chance (bits_before i) (get_or old i 0) =
      ap₂ (λ (y b : ℕ). noisy_byte y chance 0 b) so.at same ∙ sym (later_byte x chance (bits_before i) 0 (get_or old i 0))
      ∙ ap (λ (j : ℕ). noisy_byte x chance j (get_or old i 0)) none in
      let room : i < length new = omega (arith, so.as_long) in
      record {
        as_long = length-set new i byte ∙ so.as_long;
        at = ap (λ (y : ℕ). drawn y 8) so.at ∙ sym (drawn_on x (bits_before i) 8) ∙ ap (drawn x) bits;
        passed = below_more (λ k. get_or (set new i byte) k 0 ≡ noisy_at x chance old k) i
            (λ k l. get_or-set_other new i k byte 0 (λ e. omega arith) ∙ so.passed k l)
            (get_or-set_same new i byte 0 room ∙ made ∙ sym (simp (lt-ltb (i / 16) (length old / 16) frame, le-leb 4 (i % 16) high)));
        ahead = λ k l. get_or-set_other new i k byte 0 (λ e. omega arith) ∙ so.ahead k (omega arith);
      }

-- At the end of the whole frames all is done.
pub at_last : (x chance : ℕ) (old new : List ℕ) (here i : ℕ) → SoFar x chance old new here i → i ≡ length old / 16 * 16
    → record { lead = new; x = here } ≡ with_noise x chance old
unfolding with_noise noisy_at is_line
at_last x chance old new here i so end =
    ap₂ (λ (l : List ℕ) (y : ℕ). record { lead = l; x = y }) (is_listed (noisy_at x chance old) (length old) new so.as_long (λ k l. each k (ltb k i) refl))
    (so.at ∙ ap (drawn x) bits)
  where
    bits : bits_before i ≡ 96 * (length old / 16)
    bits = omega arith

    each : (k : ℕ) (t : Bool) → ltb k i ≡ t → get_or new k 0 ≡ noisy_at x chance old k
    each k true is = so.passed k (ltb-true k i is)
    each k false is =
        let high : i ≤ k = ltb-false k i is in
        let beyond : length old / 16 ≤ k / 16 = omega arith in
        so.ahead k high ∙ sym (simp (le-ltb (k / 16) (length old / 16) beyond))
