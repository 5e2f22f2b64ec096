-- Where the contact over a marker begins and ends.
-- Assumes nothing.
use Prim.Native.Nat.{ℕ, suc, ◌+◌, ◌-◌, ◌≤◌, ◌<◌}
use mathlib.Core.Path.{◌≡◌, refl, sym, ap, ap₂, ◌∙◌}
use mathlib.Core.Bool.{Bool, true, false}
use mathlib.Core.List.{List}
use native.Mathlib.Omega.{arith}
use lib.Dec.{leb}
use borrow.Author.Tests.{leb-true, leb-false}
use Rattle.telegram.specs.Stretch.{bit_at}
use Rattle.contact.specs.History.{zeroes_of}
use Rattle.contact.specs.Contacts.{outside, contact, contacts}
use Rattle.contact.specs.declared.Search.{Search}
use Rattle.contact.proofs.Stays.{grows, on}
use Rattle.contact_laws.specs.Zeroes.{zeroes_in}
use Rattle.contact_laws.proofs.Counts.{in_most, in_ones, in_zeroes, run}
use Rattle.contact_laws.proofs.Walk.{Still, still_fewer, still_more, z, ones}
use Rattle.contact_laws.proofs.Passes.{Passed, passes_at}
use Rattle.contact_laws.proofs.Quiet.{on_on, short}

-- A number that is at most n and not below it.
no_sooner : (k n : ℕ) → k ≤ n → (k < n → ⊥) → k ≡ n
no_sooner k n low none = go (leb n k) refl
  where
    go : (t : Bool) → leb n k ≡ t → k ≡ n
    go true q = omega (arith, leb-true n k q)
    go false q = absurd (none (leb-false n k q))

module _ (b : List ℕ) (h s len end : ℕ) (still : Still h) (zs : (i : ℕ) → i < len → bit_at b (s + i) ≡ 0) (long : 8 ≤ len)
    (after_it : (k : ℕ) → k < 12 → bit_at b (s + len + k) ≡ 1) (room : s + len + 12 ≤ end) where
  many : (m : ℕ) → m + 16 ≤ len → 5 ≤ zeroes_in b (s + m) 16
  many m l =
      let all = in_zeroes b (s + m) 16 (λ k less. let e : s + m + k ≡ s + (m + k) = omega arith in ap (bit_at b) e ∙ zs (m + k) (omega arith)) in
      omega (arith, all)

  -- After n + 1 zeroes, up to the eighth.
  at_eight : 8 ≤ z b h s 7
  at_eight = omega (arith, short b h s 8 (omega arith), in_zeroes b s 8 (λ k l. zs k (omega arith)), still_fewer h 8 still (omega arith))

  not_sooner : (n : ℕ) → n < 7 → z b h s n < 8
  not_sooner n l = go (leb 3 n) refl
    where
      go : (t : Bool) → leb 3 n ≡ t → z b h s n < 8
      go true q =
          let up = leb-true 3 n q in
          omega (arith, short b h s (suc n) (omega arith), in_most b s (suc n), still_fewer h (16 - suc n) still (omega arith))
      go false q =
          let down = leb-false 3 n q in
          let k = 4 - suc n in
          let e : 12 + k ≡ 16 - suc n = omega arith in
          omega (arith, short b h s (suc n) (omega arith), in_most b s (suc n), still_more h k still, ap (zeroes_of h) e)

  abbrev last : ℕ
  last = on b h s len

  -- The latest five are zeroes.
  five : zeroes_of last 5 ≡ 5
  unfolding zeroes_of
  five =
      let m = len - 5 in
      let e : m + 5 ≡ len = omega arith in
      let all = in_zeroes b (s + m) 5 (λ k less. let f : s + m + k ≡ s + (m + k) = omega arith in ap (bit_at b) f ∙ zs (m + k) (omega arith)) in
      ap (λ (x : ℕ). zeroes_of x 5) (sym (on_on b h s m 5 ∙ ap (on b h s) e)) ∙ run b (on b h s m) (s + m) 0 5 (omega arith) ∙ ap (λ (x : ℕ). x + 0) all

  not_before : (n : ℕ) → n < 11 → ones b last (s + len) n < 12
  not_before n l =
      let k = 10 - n in
      let e : 5 + k ≡ 16 - suc n = omega arith in
      let none = in_ones b (s + len) (suc n) (λ j less. after_it j (omega arith)) in
      omega (arith, short b last (s + len) (suc n) (omega arith), none, five, grows last 5 k, ap (zeroes_of last) e)

  p : Passed b h s len end 7
  p = passes_at b h s len end still many after_it room 7 (omega arith) at_eight

  opens_eighth : p.opening.at ≡ 7
  opens_eighth = no_sooner p.opening.at 7 p.opening.low (λ down. omega (arith, p.opening.now, not_sooner p.opening.at down))

  closes_twelfth : p.closing.at ≡ 11
  closes_twelfth = no_sooner p.closing.at 11 p.closing.low (λ down. omega (arith, p.closing.now, not_before p.closing.at down))

  pub marker_contact : (then : Search) × (later : ℕ) × Still later
      × (contacts b outside h s (end - s) ≡ contact (s + 7) (len + 4) then (contacts b outside later (s + len + 12) (end - (s + len + 12))))
  marker_contact =
      let e : len + p.closing.at - p.opening.at ≡ len + 4 = omega (arith, opens_eighth, closes_twelfth) in (
        p.then,
        p.later,
        p.later_still,
        p.is ∙ ap₂ (λ (x y : ℕ). contact (s + x) y p.then (contacts b outside p.later (s + len + 12) (end - (s + len + 12)))) opens_eighth e,
      )
