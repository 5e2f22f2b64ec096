-- The laws at each of the two codes, in terms of what reading and writing answer.
-- Assumes nothing.
use mathlib.Core.Path.{◌≡◌, refl, sym, ap, ◌∙◌}
use mathlib.Core.Bool.{Bool, true, false}
use Prim.Native.Nat.{ℕ, ◌^◌, ◌≤◌, ◌<◌}
use native.Mathlib.Omega.{arith}
use lib.Dec.{leb}
use borrow.Author.Tests.{le-leb, leb-true}
use Rattle.words.specs.Answer.{Outcome, gives, refuses, pick}
use Rattle.words.specs.Plain.{is_check, carriers}
use Rattle.words.specs.Code.{read_word, write_word, sent, read_short, write_short, read_long, write_long}
use Rattle.words.proofs.Widths.{Width, short, long}
use Rattle.words.proofs.Laws.{reads_back, writes_back, figure_small}
use Rattle.words.proofs.Never.{cannot_be}

-- The largest figure that each code carries.
abbrev pub largest : {n : ℕ} → Width n → ℕ
largest short = 15
largest long = 2047

within : {n : ℕ} (wide : Width n) (x : ℕ) → x ≤ largest wide → x < 2 ^ carriers n
unfolding carriers is_check
within short x l = omega arith
within long x l = omega arith

without : {n : ℕ} (wide : Width n) (x : ℕ) → x < 2 ^ carriers n → x ≤ largest wide
unfolding carriers is_check
without short x l = omega arith
without long x l = omega arith

given : (t : Bool) (v w : ℕ) → pick {A = Outcome ℕ} t (gives v) (refuses 2) ≡ gives w → (t ≡ true) × (v ≡ w)
given true v w e = (refl, cc)
given false v w e = cannot_be cc

-- Written and read back, a figure is itself.
pub written_read : {n : ℕ} (wide : Width n) (x w : ℕ) → write_word n (largest wide) x ≡ gives w → read_word n w ≡ gives x
unfolding write_word
written_read {n} wide x w e =
    let s = given (leb x (largest wide)) (sent n x) w e in
    ap (read_word n) (sym s.1) ∙ reads_back wide x (within wide x (leb-true x (largest wide) s.0))

-- An accepted word read and written is itself.
pub read_written : {n : ℕ} (wide : Width n) (w x : ℕ) → w < 2 ^ n → read_word n w ≡ gives x → write_word n (largest wide) x ≡ gives w
unfolding write_word
read_written {n} wide w x small e =
    ap (λ (t : Bool). pick t (gives (sent n x)) (refuses 2)) (le-leb x (largest wide) (without wide x (figure_small n w x e)))
    ∙ ap gives (writes_back wide w x small e)

-- The short code.
pub short_written_read : (x w : ℕ) → write_short x ≡ gives w → read_short w ≡ gives x
short_written_read = written_read short

pub short_read_written : (w x : ℕ) → w < 256 → read_short w ≡ gives x → write_short x ≡ gives w
short_read_written = read_written short

-- The long code.
pub long_written_read : (x w : ℕ) → write_long x ≡ gives w → read_long w ≡ gives x
long_written_read = written_read long

pub long_read_written : (w x : ℕ) → w < 65536 → read_long w ≡ gives x → write_long x ≡ gives w
long_read_written = read_written long
