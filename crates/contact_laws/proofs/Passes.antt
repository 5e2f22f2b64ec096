-- One pass: ones, then L bits with five zeroes or more in every sixteen and eight in some, then
-- twelve ones or more. Exactly one contact opens and closes, and the detector is then as before.
-- Assumes nothing.
use Prim.Native.Nat.{ℕ, suc, ◌+◌, ◌-◌, ◌≤◌, ◌<◌}
use mathlib.Core.Path.{◌≡◌, refl, sym, ap, ◌∙◌}
use mathlib.Core.Bool.{Bool, true, false}
use mathlib.Core.List.{List}
use native.Mathlib.Omega.{arith}
use lib.Dec.{leb}
use borrow.Author.Tests.{leb-true, leb-false}
use Rattle.telegram.specs.Stretch.{bit_at}
use Rattle.contact.specs.History.{zeroes_of, zeroes}
use Rattle.contact.specs.Contacts.{outside, since, contact, contacts}
use Rattle.contact.specs.declared.Search.{Search}
use Rattle.contact.proofs.Stays.{grows, on}
use Rattle.contact_laws.specs.Zeroes.{zeroes_in}
use Rattle.contact_laws.proofs.Counts.{in_grows, in_most, in_ones, zeroes_most, run}
use Rattle.contact_laws.proofs.Walk.{First, first, Still, still_fewer, still_more, z, ones, none_opens, none_closes, opens_at, closes_at}
use Rattle.contact_laws.proofs.Quiet.{on_on, short, full}

-- What a pass leaves: the contact, and the search after it, outside a contact and with the latest
-- twelve bits ones.
pub record Passed (b : List ℕ) (h s len end top : ℕ) : Type 0 where
  -- the first bit with which there are eight zeroes, counted from the first bit of the pass
  pub opening : First (z b h s) 8 top
  -- how many of the ones after the pass are in the contact: those up to the first with which there
  -- are twelve ones
  pub closing : First (ones b (on b h s len) (s + len)) 12 11
  pub then : Search
  pub next_is : then.next ≡ s + len + closing.at + 1
  pub left_is : then.left ≡ end - (s + len + closing.at + 1)
  pub later : ℕ
  pub later_still : Still later
  pub is : contacts b outside h s (end - s)
      ≡ contact (s + opening.at) (len + closing.at - opening.at) then (contacts b outside later (s + len + 12) (end - (s + len + 12)))

module _ (b : List ℕ) (h s len end : ℕ) (still : Still h)
    (many : (m : ℕ) → m + 16 ≤ len → 5 ≤ zeroes_in b (s + m) 16)
    (quiet_after : (k : ℕ) → k < 12 → bit_at b (s + len + k) ≡ 1)
    (room : s + len + 12 ≤ end) where
  -- Before sixteen bits have come, the eight zeroes are among those that have.
  early : (n : ℕ) → n ≤ 16 → 8 ≤ zeroes (on b h s n) → 8 ≤ zeroes_in b s n
  early n low t = go (leb 4 n) refl
    where
      go : (t : Bool) → leb 4 n ≡ t → 8 ≤ zeroes_in b s n
      go true q =
          let up = leb-true 4 n q in
          omega (arith, t, short b h s n low, still_fewer h (16 - n) still (omega arith))
      go false q =
          let down = leb-false 4 n q in
          let k = 4 - n in
          let e : 12 + k ≡ 16 - n = omega arith in
          omega (arith, t, short b h s n low, still_more h k still, ap (zeroes_of h) e, in_most b s n)

  -- Once open, it stays open up to the last bit.
  stays : (k n : ℕ) → 8 ≤ zeroes (on b h s (suc k)) → k < n → n ≤ len → 5 ≤ zeroes (on b h s n)
  stays k n t later within = go (leb 16 n) refl
    where
      go : (t : Bool) → leb 16 n ≡ t → 5 ≤ zeroes (on b h s n)
      go true q =
          let up = leb-true 16 n q in
          let m = n - 16 in
          let e : m + 16 ≡ n = omega arith in
          let same : zeroes (on b h s n) ≡ zeroes_in b (s + m) 16 = ap (λ (x : ℕ). zeroes (on b h s x)) (sym e) ∙ full b h s m in
          omega (arith, many m (omega arith), same)
      go false q =
          let down = leb-false 16 n q in
          let j = n - suc k in
          let e : suc k + j ≡ n = omega arith in
          omega (arith, early (suc k) (omega arith) t, in_grows b s (suc k) j, ap (zeroes_in b s) e, short b h s n (omega arith))

  -- After n of the ones after it, not more than twelve.
  abbrev last : ℕ
  last = on b h s len

  ones_then : (n : ℕ) → n ≤ 12 → zeroes (on b last (s + len) n) ≡ zeroes_of last (16 - n)
  ones_then n low =
      let none = in_ones b (s + len) n (λ k l. quiet_after k (omega arith)) in
      omega (arith, none, short b last (s + len) n (omega arith))

  twelve : 12 ≤ ones b last (s + len) 11
  twelve = omega (arith, ones_then 12 (omega arith), zeroes_most last 4)

  pub passes_at : (top : ℕ) → top < len → 8 ≤ z b h s top → Passed b h s len end top
  unfolding zeroes_of
  passes_at top inside_it eight =
      record {
        opening = f;
        closing = g;
        then = later_on;
        next_is = refl;
        left_is = refl;
        later = on b last (s + len) 12;
        later_still = still_after;
        is = opened ∙ held ∙ closed ∙ ap₂_contact;
      }
    where
      f : First (z b h s) 8 top
      f = first (z b h s) 8 top eight

      g : First (ones b last (s + len)) 12 11
      g = first (ones b last (s + len)) 12 11 twelve

      later_on : Search
      later_on = record { next = s + len + g.at + 1; left = end - (s + len + g.at + 1); history = on b last (s + len) (suc g.at) }

      still_after : Still (on b last (s + len) 12)
      still_after =
          run b last (s + len) 0 12 (omega arith) ∙ ap (λ (x : ℕ). x + 0) (in_ones b (s + len) 12 quiet_after)

      opened : contacts b outside h s (end - s)
          ≡ contacts b (since (s + f.at)) (on b h s (suc f.at)) (s + f.at + 1) (end - (s + f.at + 1))
      opened = opens_at b h s end f (omega (arith, f.low))

      held : contacts b (since (s + f.at)) (on b h s (suc f.at)) (s + f.at + 1) (end - (s + f.at + 1))
          ≡ contacts b (since (s + f.at)) last (s + len) (end - (s + len))
      held =
          let k = f.at in
          let here = on b h s (suc k) in
          let more = len - suc k in
          let first-low = f.low in
          let e : s + k + 1 ≡ s + suc k = omega arith in
          let all : suc k + more ≡ len = omega arith in
          let there : s + suc k + more ≡ s + len = omega arith in
          ap (λ (x : ℕ). contacts b (since (s + k)) here x (end - x)) e
          ∙ none_closes b here (s + suc k) end (s + k) more (omega arith)
          (λ j l. let same : zeroes (on b here (s + suc k) (suc j)) ≡ zeroes (on b h s (suc k + suc j)) = ap zeroes (on_on b h s (suc k) (suc j)) in
          omega (arith, same, stays k (suc k + suc j) f.now (omega arith) (omega arith)))
          ∙ ap (λ (x : ℕ). contacts b (since (s + k)) x (s + suc k + more) (end - (s + suc k + more))) (on_on b h s (suc k) more ∙ ap (on b h s) all)
          ∙ ap (λ (x : ℕ). contacts b (since (s + k)) last x (end - x)) there

      closed : contacts b (since (s + f.at)) last (s + len) (end - (s + len))
          ≡ contact (s + f.at) (s + len + g.at - (s + f.at)) later_on
          (contacts b outside (on b last (s + len) (suc g.at)) (s + len + g.at + 1) (end - (s + len + g.at + 1)))
      closed = closes_at b last (s + len) end (s + f.at) g (omega (arith, g.low))

      ap₂_contact : contact (s + f.at) (s + len + g.at - (s + f.at)) later_on
          (contacts b outside (on b last (s + len) (suc g.at)) (s + len + g.at + 1) (end - (s + len + g.at + 1)))
          ≡ contact (s + f.at) (len + g.at - f.at) later_on
          (contacts b outside (on b last (s + len) 12) (s + len + 12) (end - (s + len + 12)))
      ap₂_contact =
          let j = g.at in
          let g-low = g.low in
          let f-low = f.low in
          let here = on b last (s + len) (suc j) in
          let more = 12 - suc j in
          let e : s + len + j + 1 ≡ s + len + suc j = omega arith in
          let all : suc j + more ≡ 12 = omega arith in
          let there : s + len + suc j + more ≡ s + len + 12 = omega arith in
          let long : s + len + j - (s + f.at) ≡ len + j - f.at = omega arith in
          let four : zeroes here ≤ 4 = omega (arith, g.now) in
          ap (λ (x : ℕ). contact (s + f.at) x later_on (contacts b outside here (s + len + j + 1) (end - (s + len + j + 1)))) long
          ∙ ap (contact (s + f.at) (len + j - f.at) later_on)
          (ap (λ (x : ℕ). contacts b outside here x (end - x)) e
          ∙ none_opens b here (s + len + suc j) end more (omega arith)
          (λ k l. let same : zeroes (on b here (s + len + suc j) (suc k)) ≡ zeroes (on b last (s + len) (suc j + suc k)) = ap zeroes (on_on b last (s + len) (suc j) (suc k)) in
          let n = suc j + suc k in
          let less : 16 - n + suc k ≡ 16 - suc j = omega arith in
          omega (arith, same, ones_then n (omega arith), ones_then (suc j) (omega arith), grows last (16 - n) (suc k), ap (zeroes_of last) less))
          ∙ ap (λ (x : ℕ). contacts b outside x (s + len + suc j + more) (end - (s + len + suc j + more))) (on_on b last (s + len) (suc j) more ∙ ap (on b last (s + len)) all)
          ∙ ap (λ (x : ℕ). contacts b outside (on b last (s + len) 12) x (end - x)) there)

  pub passes : (m : ℕ) → m + 16 ≤ len → 8 ≤ zeroes_in b (s + m) 16 → Passed b h s len end (m + 15)
  passes m inside_it loud =
      let e : m + 16 ≡ suc (m + 15) = omega arith in
      passes_at (m + 15) (omega arith) (omega (arith, loud, full b h s m, ap (λ (x : ℕ). zeroes (on b h s x)) e))
