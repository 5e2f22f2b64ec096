-- What the answers mean holds.
-- Assumes nothing.
use Prim.Native.Nat.{ℕ, zero, suc, ◌<◌}
use mathlib.Core.Path.{◌≡◌, refl, sym, ap, ◌∙◌, subst}
use mathlib.Core.Logic.{◌⊎◌, inl, inr}
use mathlib.Core.Bool.{Bool, true, false, ◌||◌}
use native.Mathlib.Omega.{arith}
use lib.Dec.{T, ltb}
use borrow.Author.Tests.{ltb-true, ltb-false}
use Rattle.words.specs.Answer.{Outcome, gives, refuses, then, pick}
use Rattle.telegram.specs.Sync.{is_good}
use Rattle.balise_line.specs.Line.{OneBalise, sent_bit}
use Rattle.balise_line.proofs.Places.{or_parts}
use Rattle.contact_laws.specs.Zeroes.{zeroes_sent, fewest, Audible, Broken}
use Rattle.contact_laws.proofs.Either.{by_period}
use Rattle.telegram.specs.Spelling.{Words}
use Rattle.audibility.specs.Sound.{some, is_broken, sending, Heard, audible, broken, sound_with, sound_of}
use Rattle.audibility.specs.Means.{Asked, Means}
use Rattle.words.proofs.Never.{cannot_be}

-- One of the numbers below n passes the test,
found : (test : ℕ → Bool) (n : ℕ) → some test n ≡ true → (j : ℕ) × (test j ≡ true)
unfolding some
found test zero e = absurd (subst T (sym e) tt)
found test (suc n) e = go (or_parts (test n) (some test n) e) (found test n)
  where
    go : (test n ≡ true) ⊎ (some test n ≡ true) → (some test n ≡ true → (j : ℕ) × (test j ≡ true)) → (j : ℕ) × (test j ≡ true)
    go (inl here) on = (n, here)
    go (inr e) on = on e

-- or none does.
none : (test : ℕ → Bool) (n : ℕ) → some test n ≡ false → (j : ℕ) → j < n → test j ≡ false
unfolding some
none test zero e j l = absurd (omega arith)
none test (suc n) e j l = go (test n) (some test n) refl refl e (none test n)
  where
    go : (a b : Bool) → test n ≡ a → some test n ≡ b → (a || b) ≡ false → (some test n ≡ false → (j : ℕ) → j < n → test j ≡ false) → test j ≡ false
    go true b p q e on = absurd (subst T e tt)
    go false true p q e on = absurd (subst T e tt)
    go false false p q e on = by (ltb j n) refl
      where
        by : (t : Bool) → ltb j n ≡ t → test j ≡ false
        by true is = on q j (ltb-true j n is)
        by false is =
            let up = ltb-false j n is in
            let same : j ≡ n = omega arith in
            ap test same ∙ p

is_broken_law : (o : OneBalise) → is_broken o ≡ true → Broken o
unfolding is_broken
is_broken_law o e = let f = found (λ j. ltb (zeroes_sent o j 16) fewest) 64 e in (f.0, ltb-true (zeroes_sent o f.0 16) fewest f.1)

is_audible : (o : OneBalise) → is_broken o ≡ false → Audible o
unfolding is_broken
is_audible o e = by_period o (λ j l. ltb-false (zeroes_sent o j 16) fewest (none (λ j. ltb (zeroes_sent o j 16) fewest) 64 e j l))

-- What the words with a pair come to, the other way round.
told : (s t : ℕ) (w : Words) (a : Heard) → sound_with s t w ≡ gives a → pick (is_broken (sending s t w)) broken audible ≡ a
unfolding sound_with
told s t w a = go (is_good s t)
  where
    go : (g : Bool) → pick {A = Outcome Heard} g (gives (pick (is_broken (sending s t w)) broken audible)) (refuses 4) ≡ gives a → pick (is_broken (sending s t w)) broken audible ≡ a
    go true e = cc
    go false e = cannot_be cc

-- Balises that send the same words and sync words send the same zeroes.
alike : (o p : OneBalise) → o.s ≡ p.s → o.t ≡ p.t → o.x ≡ p.x → o.y ≡ p.y → o.z ≡ p.z → (j n : ℕ) → zeroes_sent o j n ≡ zeroes_sent p j n
unfolding zeroes_sent sent_bit
alike o p s t x y z j zero = refl
alike o p s t x y z j (suc n) =
    let r : zeroes_sent o j n ≡ zeroes_sent p j n = alike o p s t x y z j n in
    simp (r, s, t, x, y, z)

asked_so : (x y z : ℕ) (o : OneBalise) (a : Heard) (k : Asked x y z o a) → pick (is_broken (sending o.s o.t k.words)) broken audible ≡ a
unfolding sound_of
asked_so x y z o a k =
    told o.s o.t k.words a (sym (ap (λ (u : Outcome Words). then u (sound_with o.s o.t)) k.spelt_so) ∙ k.answer)

module _ (x y z : ℕ) (o : OneBalise) where
  same : {a : Heard} (k : Asked x y z o a) (j : ℕ) → zeroes_sent (sending o.s o.t k.words) j 16 ≡ zeroes_sent o j 16
  same k j = alike (sending o.s o.t k.words) o refl refl (sym k.x_is) (sym k.y_is) (sym k.z_is) j 16

  says_broken : Asked x y z o broken → Broken o
  says_broken k = go (is_broken (sending o.s o.t k.words)) refl (asked_so x y z o broken k)
    where
      go : (t : Bool) → is_broken (sending o.s o.t k.words) ≡ t → pick t broken audible ≡ broken → Broken o
      go true is e = let f = is_broken_law (sending o.s o.t k.words) is in (f.0, omega (arith, f.1, same k f.0))
      go false is e = cannot_be cc

  says_audible : Asked x y z o audible → Audible o
  says_audible k = go (is_broken (sending o.s o.t k.words)) refl (asked_so x y z o audible k)
    where
      go : (t : Bool) → is_broken (sending o.s o.t k.words) ≡ t → pick t broken audible ≡ audible → Audible o
      go false is e = λ j. omega (arith, is_audible (sending o.s o.t k.words) is j, same k j)
      go true is e = cannot_be cc

pub means : Means
means = record { says_broken = says_broken; says_audible = says_audible }
