-- The zeroes among the latest sixteen bits of a pass are no more than those of the line there;
-- before the balise there is none, and after twelve ones at most four.
-- Assumes nothing.
use Prim.Native.Nat.{ℕ, zero, suc, ◌+◌, ◌-◌, ◌*◌, ◌%◌, ◌≤◌, ◌<◌}
use mathlib.Core.Path.{◌≡◌, refl, ap, ap₂, ◌∙◌}
use mathlib.Core.Bool.{Bool, true, false}
use mathlib.Core.List.{List}
use native.Mathlib.Omega.{arith}
use lib.Dec.{ltb}
use borrow.Author.Tests.{ltb-true, ltb-false}
use Rattle.words.specs.Answer.{pick}
use Rattle.words.specs.Bits.{bit}
use Rattle.telegram.specs.Stretch.{bit_at}
use Rattle.balise_line.specs.Line.{OneBalise, repeated, sent_bit}
use Rattle.contact.specs.History.{zeroes_of, zeroes}
use Rattle.contact.proofs.Latest.{heard, latest}
use Rattle.contact_laws.specs.Zeroes.{zeroes_sent}
use Rattle.contact_laws.specs.Pass.{Pass}
use Rattle.contact_laws.proofs.Sound.{received}
use Rattle.contact_laws.proofs.Walk.{still_more}

module _ (o : OneBalise) where
  -- The line repeats itself every 64 bits.
  same_bit : (i j : ℕ) → i % 64 ≡ j % 64 → sent_bit o i ≡ sent_bit o j
  unfolding sent_bit
  same_bit i j e = ap (bit_at (repeated o)) e

  pub same_zeroes : (i j n : ℕ) → i % 64 ≡ j % 64 → zeroes_sent o i n ≡ zeroes_sent o j n
  unfolding zeroes_sent
  same_zeroes i j zero e = refl
  same_zeroes i j (suc n) e = ap₂ ◌+◌ (same_zeroes i j n e) (ap (λ (x : ℕ). 1 - x) (same_bit (i + n) (j + n) (omega arith)))

  -- The first bit apart.
  front : (j n : ℕ) → zeroes_sent o j (suc n) ≡ (1 - sent_bit o j) + zeroes_sent o (j + 1) n
  unfolding zeroes_sent
  front j zero = let e : j + 0 ≡ j = omega arith in omega (arith, ap (sent_bit o) e)
  front j (suc n) = let e : j + suc n ≡ j + 1 + n = omega arith in omega (arith, front j n, ap (sent_bit o) e)

  -- Where each of the m lowest bits of a word is a one, or the bit sent, it has no more zeroes than
  -- the line.
  no_more : (w y m : ℕ) → m ≤ y → ((k : ℕ) → k < m → 1 - bit w k ≤ 1 - sent_bit o (y - suc k)) → zeroes_of w m ≤ zeroes_sent o (y - m) m
  unfolding zeroes_of zeroes_sent
  no_more w y zero low each = omega arith
  no_more w y (suc m) low each =
      let e : y - suc m + 1 ≡ y - m = omega arith in
      omega (arith, each m (omega arith), no_more w y m (omega arith) (λ k l. each k (omega arith)), front (y - suc m) m, ap (λ (x : ℕ). zeroes_sent o x m) e)

module _ (o : OneBalise) (from to : ℕ) (pass : Pass o from to) where
  abbrev b : List ℕ
  b = o.buffer

  -- The line bit before which the sixteen bits before the first lie, some periods on.
  abbrev pub J : ℕ
  J = o.phase + from + (63 * o.start + 48)

  -- A bit of the pass has no more zeroes than the line there.
  bit_below : (x y : ℕ) → from ≤ x → x < to → y ≡ o.phase + x + 64 + 63 * o.start → 1 - bit_at b x ≤ 1 - sent_bit o y
  bit_below x y low high e = go (ltb x o.start) refl
    where
      inner : (t : Bool) → ltb x (o.start + o.len) ≡ t → o.start ≤ x → 1 - bit_at b x ≤ 1 - sent_bit o y
      inner true q up =
          let less = ltb-true x (o.start + o.len) q in
          let m = x - o.start in
          let at : x ≡ o.start + m = omega arith in
          let same = same_bit o (o.phase + m) y (omega arith) in
          omega (arith, ap (bit_at b) at ∙ received o pass.clean m (omega arith) ∙ same)
      inner false q up = omega (arith, pass.ones_after x (ltb-false x (o.start + o.len) q) high)

      go : (t : Bool) → ltb x o.start ≡ t → 1 - bit_at b x ≤ 1 - sent_bit o y
      go true q = omega (arith, pass.ones_before x low (ltb-true x o.start q))
      go false q = inner (ltb x (o.start + o.len)) refl (ltb-false x o.start q)

  -- Nor have the latest sixteen.
  pub below_line : (n : ℕ) → from + n ≤ to → zeroes (heard b from n) ≤ zeroes_sent o (J + n) 16
  unfolding zeroes
  below_line n room =
      let y = J + n + 16 in
      let e : y - 16 ≡ J + n = omega arith in
      let all = no_more o (heard b from n) y 16 (omega arith) (λ k l. each k l (ltb k n) refl) in
      omega (arith, all, ap (λ (x : ℕ). zeroes_sent o x 16) e)
    where
      each : (k : ℕ) → k < 16 → (t : Bool) → ltb k n ≡ t → 1 - bit (heard b from n) k ≤ 1 - sent_bit o (J + n + 16 - suc k)
      each k l true q =
          let less = ltb-true k n q in
          let x = from + (n - (k + 1)) in
          let is : bit (heard b from n) k ≡ bit_at b x = latest b from n k l ∙ ap (λ (t : Bool). pick t (bit_at b x) 1) q in
          omega (arith, is, bit_below x (J + n + 16 - suc k) (omega arith) (omega arith) (omega arith))
      each k l false q =
          let is : bit (heard b from n) k ≡ 1 = latest b from n k l ∙ ap (λ (t : Bool). pick t (bit_at b (from + (n - (k + 1)))) 1) q in
          omega (arith, is)

  no_zero : (w m : ℕ) → ((k : ℕ) → k < m → bit w k ≡ 1) → zeroes_of w m ≡ 0
  unfolding zeroes_of
  no_zero w zero each = refl
  no_zero w (suc m) each = omega (arith, each m (omega arith), no_zero w m (λ k l. each k (omega arith)))

  -- A bit of the history, where the line had ones.
  heard_one : (n k : ℕ) → k < 16 → (k < n → bit_at b (from + (n - (k + 1))) ≡ 1) → bit (heard b from n) k ≡ 1
  heard_one n k l is = go (ltb k n) refl
    where
      go : (t : Bool) → ltb k n ≡ t → bit (heard b from n) k ≡ 1
      go true q = latest b from n k l ∙ ap (λ (t : Bool). pick t (bit_at b (from + (n - (k + 1)))) 1) q ∙ is (ltb-true k n q)
      go false q = latest b from n k l ∙ ap (λ (t : Bool). pick t (bit_at b (from + (n - (k + 1)))) 1) q

  -- Before the balise nothing opens a contact,
  pub none_before : (k : ℕ) → from + k < o.start → zeroes (heard b from (suc k)) ≡ 0
  unfolding zeroes
  none_before k less =
      no_zero (heard b from (suc k)) 16
      (λ j l. heard_one (suc k) j l (λ m. pass.ones_before (from + (suc k - (j + 1))) (omega arith) (omega arith)))

  -- and the twelfth of the ones after it closes one.
  pub four_after : (k : ℕ) → from + k < to → o.start + o.len + 11 ≤ from + k → zeroes (heard b from (suc k)) ≤ 4
  unfolding zeroes
  four_after k room more =
      let twelve : zeroes_of (heard b from (suc k)) 12 ≡ 0 =
      no_zero (heard b from (suc k)) 12
      (λ j l. heard_one (suc k) j (omega arith) (λ m. pass.ones_after (from + (suc k - (j + 1))) (omega arith) (omega arith))) in
      omega (arith, still_more (heard b from (suc k)) 4 twelve)
