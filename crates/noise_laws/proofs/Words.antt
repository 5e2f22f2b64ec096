-- The words of a telegram as bits: X is a short word and not that of 15, and after an X of 0 so are
-- Y and Z.
-- Assumes nothing.
use Prim.Native.Nat.{ℕ, zero, suc, ◌+◌, ◌*◌, ◌^◌, ◌<◌}
use mathlib.Core.Path.{◌≡◌, refl, sym, ap, ap₂, ◌∙◌, subst}
use mathlib.Core.Bool.{Bool, true, false}
use mathlib.Core.List.{List}
use native.Mathlib.Nat.{pow-suc, zero-lt-suc}
use native.Mathlib.Omega.{arith}
use lib.Dec.{T, eqb}
use Rattle.words.specs.Answer.{Answer, gives, then, pick}
use Rattle.words.specs.Why.{Why}
use Rattle.words.specs.Bits.{word}
use Rattle.words.specs.Plain.{is_code, even, count, covers, figure, onwards, is_check}
use Rattle.words.specs.Code.{read_word, exchanged, other}
use Rattle.words.proofs.Ranges.{below}
use Rattle.telegram.specs.Stretch.{bit_at, bits_at}
use Rattle.telegram.specs.Telegram.{Received, named, telegram, short_word, long_word}
use Rattle.telegram.specs.declared.Telegram.{Telegram}
use Rattle.telegram.specs.declared.Word.{Word}
use Rattle.balise_line.proofs.Telegrams.{onward}
use Rattle.contact_laws.proofs.Sound.{is_read}
use Rattle.noise_laws.proofs.Tests.{spelt, is_short}

short_read : ℕ → Bool
short_read x = pick (is_read (short_word x)) (is_short x) true

short_read_law : (x : ℕ) → x < 256 → T (short_read x)
unfolding short_read short_word read_word is_code even count covers exchanged other word figure onwards is_check is_short
short_read_law x l = below short_read 256 tt x l

is_true : (t : Bool) → T t → t ≡ true
is_true true ok = refl
is_true false ok = absurd ok

accepted_short : (x a : ℕ) → x < 256 → short_word x ≡ gives a → is_short x ≡ true
unfolding short_read
accepted_short x a l e = is_true (is_short x) (subst (λ (t : Bool). T (pick t (is_short x) true)) (ap is_read e) (short_read_law x l))

pub x_short : (x y z : ℕ) (m : Telegram) → x < 256 → telegram x y z ≡ gives m → is_short x ≡ true
unfolding telegram
x_short x y z m l e = let h = onward Word.X (short_word x) _ m e in accepted_short x h.0 l h.1

zero_read : short_word 0 ≡ gives 0
unfolding short_word read_word is_code even count covers exchanged other word figure onwards is_check
zero_read = refl

-- After an X of 0 the other two are as well.
pub rest_short : (y z : ℕ) (m : Telegram) → y < 256 → z < 256 → telegram 0 y z ≡ gives m → (is_short y ≡ true) × (is_short z ≡ true)
unfolding telegram
rest_short y z m ly lz e =
    let after : Answer Why ℕ → Received = λ first. then (named Word.X first) (λ a. pick (eqb a 12) (then (named Word.YZ (long_word y z)) (λ k. gives (Telegram.Number k)))
    (then (named Word.Y (short_word y)) (λ b. then (named Word.Z (short_word z)) (λ c. gives (Telegram.Figures a b c))))) in
    let h = onward Word.Y (short_word y) (λ b. then (named Word.Z (short_word z)) (λ c. gives (Telegram.Figures 0 b c))) m (sym (ap after zero_read) ∙ e) in
    let g = onward Word.Z (short_word z) (λ c. gives (Telegram.Figures 0 h.0 c)) m h.2 in
    (accepted_short y h.0 ly h.1, accepted_short z g.0 lz g.1)

-- Bits of a buffer as a number.
pub spelt_bits : (b : List ℕ) (p a n : ℕ) → spelt (λ i. bit_at b (p + i)) a n ≡ bits_at b (p + a) n
unfolding spelt bits_at
spelt_bits b p a zero = refl
spelt_bits b p a (suc n) = let e : p + (a + n) ≡ p + a + n = omega arith in ap₂ (λ (u v : ℕ). u * 2 + v) (spelt_bits b p a n) (ap (bit_at b) e)

pub spelt_lt : (f : ℕ → ℕ) → ((i : ℕ) → f i < 2) → (a n : ℕ) → spelt f a n < 2 ^ n
unfolding spelt
spelt_lt f bits a zero = zero-lt-suc 0
spelt_lt f bits a (suc n) =
    let h : spelt f a n < 2 ^ n = spelt_lt f bits a n in
    let k : f (a + n) < 2 = bits (a + n) in
    subst (λ (m : ℕ). spelt f a n * 2 + f (a + n) < m) (sym (pow-suc 2 n)) (omega arith)

pub spelt_zero : (f : ℕ → ℕ) (a n : ℕ) → ((i : ℕ) → i < n → f (a + i) ≡ 0) → spelt f a n ≡ 0
unfolding spelt
spelt_zero f a zero none = refl
spelt_zero f a (suc n) none = ap₂ (λ (u v : ℕ). u * 2 + v) (spelt_zero f a n (λ i l. none i (omega arith))) (none n (omega arith))
