-- The zeroes of a clean stretch are those sent; and every balise's line has sixteen bits in a row
-- with eight zeroes: a sync word with four or more, and X.
-- Assumes nothing.
use Prim.Native.Nat.{ℕ, zero, suc, ◌+◌, ◌-◌, ◌%◌, ◌≤◌, ◌<◌}
use mathlib.Core.Path.{◌≡◌, refl, sym, ap, ap₂, ◌∙◌, subst}
use mathlib.Core.Logic.{◌⊎◌, inl, inr}
use mathlib.Core.Bool.{Bool, true, false, ◌&&◌}
use native.Mathlib.Omega.{arith}
use lib.Dec.{T, leb, ltb, eqb, leb→le}
use borrow.Author.Tests.{le-leb, lt-ltb, leb-true, leb-false, eqb-true, eqb-false}
use Rattle.words.specs.Answer.{Answer, gives, refuses, then, pick}
use Rattle.words.specs.Why.{Why}
use Rattle.words.specs.Bits.{bit, word}
use Rattle.words.specs.Plain.{is_code, even, count, covers, figure, onwards, is_check}
use Rattle.words.specs.Code.{read_word, exchanged, other}
use Rattle.words.proofs.Ranges.{below}
use Rattle.telegram.specs.Stretch.{bit_at}
use Rattle.telegram.specs.Sync.{differing, is_good}
use Rattle.telegram.specs.Telegram.{Received, named, telegram, short_word}
use Rattle.telegram.specs.declared.Telegram.{Telegram}
use Rattle.telegram.specs.declared.Word.{Word}
use Rattle.contact.specs.History.{zeroes_of}
use Rattle.balise_line.specs.Line.{OneBalise, Proper, Clean, repeated, sent_bit, received_bit, in_stretch, flip, unequal}
use Rattle.balise_line.proofs.Sums.{unequal_none}
use Rattle.contact_laws.specs.Zeroes.{zeroes_in, zeroes_sent}
use Rattle.words.proofs.Never.{cannot_be}

module _ (o : OneBalise) (clean : Clean o) where
  pub received : (k : ℕ) → k < o.len → bit_at o.buffer (o.start + k) ≡ sent_bit o (o.phase + k)
  unfolding flip in_stretch received_bit
  received k l =
      let j = o.phase + k in
      let e : j - o.phase ≡ k = omega arith in
      let there : leb o.phase j && ltb j (o.phase + o.len) ≡ true =
      ap₂ ◌&&◌ (le-leb o.phase j (omega arith)) (lt-ltb j (o.phase + o.len) (omega arith)) in
      ap (λ (x : ℕ). bit_at o.buffer (o.start + x)) (sym e)
      ∙ unequal_none (received_bit o j) (sent_bit o j)
      (ap (λ (t : Bool). pick t (unequal (received_bit o j) (sent_bit o j)) 0) (sym there) ∙ clean j)

  pub zeroes_sent_law : (m n : ℕ) → m + n ≤ o.len → zeroes_in o.buffer (o.start + m) n ≡ zeroes_sent o (o.phase + m) n
  unfolding zeroes_in zeroes_sent
  zeroes_sent_law m zero l = refl
  zeroes_sent_law m (suc n) l =
      let e : o.start + m + n ≡ o.start + (m + n) = omega arith in
      let f : o.phase + (m + n) ≡ o.phase + m + n = omega arith in
      ap₂ ◌+◌ (zeroes_sent_law m n (omega arith))
      (ap (λ (x : ℕ). 1 - x) (ap (bit_at o.buffer) e ∙ received (m + n) (omega arith) ∙ ap (sent_bit o) f))

-- A bit in which two words differ is a zero of one of them.
differ_zero : (a c : ℕ) → a < 2 → c < 2 → pick (eqb a c) 0 1 ≤ (1 - a) + (1 - c)
differ_zero a c l m = go (eqb a c) refl
  where
    go : (t : Bool) → eqb a c ≡ t → pick t 0 1 ≤ (1 - a) + (1 - c)
    go true q = omega arith
    go false q =
        let ne : a ≡ c → ⊥ = eqb-false a c q in
        omega arith

pub differ_zeroes : (s t n : ℕ) → differing s t n ≤ zeroes_of s n + zeroes_of t n
unfolding differing zeroes_of
differ_zeroes s t zero = omega arith
differ_zeroes s t (suc n) =
    let one = differ_zero (bit s n) (bit t n) (omega arith) (omega arith) in
    omega (arith, one, differ_zeroes s t n)

-- X has four zeroes or more: it reads, and not 15.
abbrev pub is_read : Answer Why ℕ → Bool
is_read (gives a) = true
is_read (refuses n) = false

four_zeroes : ℕ → Bool
four_zeroes x = pick (is_read (short_word x)) (leb 4 (zeroes_of x 8)) true

four_zeroes_law : (x : ℕ) → x < 256 → T (four_zeroes x)
unfolding four_zeroes short_word read_word is_code even count covers exchanged other word figure onwards is_check zeroes_of
four_zeroes_law x l = below four_zeroes 256 tt x l

first_read : (w : Answer Why ℕ) (f : ℕ → Received) (m : Telegram) → then (named Word.X w) f ≡ gives m → is_read w ≡ true
first_read (gives a) f m e = refl
first_read (refuses n) f m e = cannot_be cc

pub x_four : (x y z : ℕ) (m : Telegram) → x < 256 → telegram x y z ≡ gives m → 4 ≤ zeroes_of x 8
unfolding telegram four_zeroes
x_four x y z m l e =
    leb→le 4 (zeroes_of x 8)
    (subst (λ (t : Bool). T (pick t (leb 4 (zeroes_of x 8)) true)) (first_read (short_word x) _ m e) (four_zeroes_law x l))

-- The zeroes sent are those of what is repeated,
sent_repeated : (o : OneBalise) (j m n : ℕ) → j % 64 ≡ m → m + n ≤ 64 → zeroes_sent o j n ≡ zeroes_in (repeated o) m n
unfolding zeroes_sent zeroes_in sent_bit
sent_repeated o j m zero e l = refl
sent_repeated o j m (suc n) e l =
    let f : (j + n) % 64 ≡ m + n = omega arith in
    ap₂ ◌+◌ (sent_repeated o j m n e (omega arith)) (ap (λ (x : ℕ). 1 - bit_at (repeated o) x) f)

sums : (a c d e f g h i j k l m n p q r : ℕ)
    → 0 + a + c + d + e + f + g + h + i + j + k + l + m + n + p + q + r
    ≡ a + (c + (d + (e + (f + (g + (h + (i + 0))))))) + (j + (k + (l + (m + (n + (p + (q + (r + 0))))))))
sums a c d e f g h i j k l m n p q r = omega arith

-- those of a sync word, and of X after it.
first_sync : (o : OneBalise) → zeroes_in (repeated o) 0 16 ≡ zeroes_of o.s 8 + zeroes_of o.x 8
unfolding zeroes_in zeroes_of
first_sync o = sums _ _ _ _ _ _ _ _ _ _ _ _ _ _ _ _

second_sync : (o : OneBalise) → zeroes_in (repeated o) 32 16 ≡ zeroes_of o.t 8 + zeroes_of o.x 8
unfolding zeroes_in zeroes_of
second_sync o = sums _ _ _ _ _ _ _ _ _ _ _ _ _ _ _ _

-- One of two telegrams one after the other begins with a sync word that has four zeroes or more,
-- and so sixteen bits with eight.
pub eight_in_one : (o : OneBalise) → Proper o → (j : ℕ) → j % 32 ≡ 0 → (8 ≤ zeroes_sent o j 16) ⊎ (8 ≤ zeroes_sent o (j + 32) 16)
unfolding is_good
eight_in_one o proper j straight = by (leb 8 (zeroes_sent o j 16)) refl
  where
    seven : 7 ≤ zeroes_of o.s 8 + zeroes_of o.t 8
    seven = omega (arith, differ_zeroes o.s o.t 8, eqb-true (differing o.s o.t 8) 7 proper.pair)

    x_has : 4 ≤ zeroes_of o.x 8
    x_has = x_four o.x o.y o.z _ proper.bytes.2 proper.valid

    both_sum : zeroes_sent o j 16 + zeroes_sent o (j + 32) 16 ≡ zeroes_of o.s 8 + zeroes_of o.x 8 + (zeroes_of o.t 8 + zeroes_of o.x 8)
    both_sum = go (eqb (j % 64) 0) refl
      where
        go : (t : Bool) → eqb (j % 64) 0 ≡ t → zeroes_sent o j 16 + zeroes_sent o (j + 32) 16 ≡ zeroes_of o.s 8 + zeroes_of o.x 8 + (zeroes_of o.t 8 + zeroes_of o.x 8)
        go true q =
            let even : j % 64 ≡ 0 = eqb-true (j % 64) 0 q in
            let odd : (j + 32) % 64 ≡ 32 = omega arith in
            ap₂ ◌+◌ (sent_repeated o j 0 16 even (omega arith) ∙ first_sync o) (sent_repeated o (j + 32) 32 16 odd (omega arith) ∙ second_sync o)
        go false q =
            let ne : j % 64 ≡ 0 → ⊥ = eqb-false (j % 64) 0 q in
            let odd : j % 64 ≡ 32 = omega arith in
            let even : (j + 32) % 64 ≡ 0 = omega arith in
            let a = sent_repeated o j 32 16 odd (omega arith) ∙ second_sync o in
            let c = sent_repeated o (j + 32) 0 16 even (omega arith) ∙ first_sync o in
            omega (arith, a, c)

    by : (t : Bool) → leb 8 (zeroes_sent o j 16) ≡ t → (8 ≤ zeroes_sent o j 16) ⊎ (8 ≤ zeroes_sent o (j + 32) 16)
    by true q = inl (leb-true 8 (zeroes_sent o j 16) q)
    by false q =
        let less = leb-false 8 (zeroes_sent o j 16) q in
        inr (omega (arith, less, seven, x_has, both_sum))
