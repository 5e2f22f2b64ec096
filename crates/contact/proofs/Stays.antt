-- The zeroes among the latest bits as one comes in, and bits after which the detector stays where
-- it stands.
-- Assumes nothing.
use Prim.Native.Nat.{ℕ, zero, suc, ◌+◌, ◌-◌, ◌≤◌, ◌<◌}
use mathlib.Core.Path.{◌≡◌, sym, ap, ◌∙◌}
use mathlib.Core.List.{List}
use native.Mathlib.Nat.{add-zero, add-suc}
use native.Mathlib.Numerals.{add-one}
use native.Mathlib.Omega.{arith}
use Rattle.words.specs.Bits.{bit}
use Rattle.telegram.specs.Stretch.{bit_at}
use Rattle.contact.specs.History.{after, zeroes_of}
use Rattle.contact.specs.Contacts.{Mode, contacts}
use Rattle.contact.proofs.Latest.{newest, older}

-- The zeroes among the n + 1 latest bits are those among the n latest before, and the new bit if it
-- is one.
pub zeroes_after : (h b n : ℕ) → b < 2 → n < 16 → zeroes_of (after h b) (suc n) ≡ (1 - b) + zeroes_of h n
unfolding zeroes_of
zeroes_after h b zero small low = omega (arith, newest h b small)
zeroes_after h b (suc n) small low =
    let shifted : bit (after h b) (suc n) ≡ bit h n = ap (λ (k : ℕ). bit (after h b) k) (sym (add-one n)) ∙ older h b n small (omega arith) in
    omega (arith, shifted, zeroes_after h b n small (omega arith))

-- More bits have no fewer zeroes.
pub grows : (w n k : ℕ) → zeroes_of w n ≤ zeroes_of w (n + k)
unfolding zeroes_of
grows w n zero = omega (arith, ap (zeroes_of w) (add-zero n))
grows w n (suc k) = omega (arith, grows w n k, ap (zeroes_of w) (add-suc n k))

-- The bits of the buffer b from bit i on, the history h before them.
module _ (b : List ℕ) (h i : ℕ) where
  -- The history after n of them.
  abbrev pub on : ℕ → ℕ
  on zero = h
  on (suc n) = after (on n) (bit_at b (i + n))

  -- Where none of n bits opens or closes, the contacts are those from after them on.
  pub behind : (mode : Mode) (end n : ℕ) → i + n ≤ end
      → ((k : ℕ) → k < n → contacts b mode (on k) (i + k) (end - (i + k)) ≡ contacts b mode (on (suc k)) (i + k + 1) (end - (i + k + 1)))
      → contacts b mode h i (end - i) ≡ contacts b mode (on n) (i + n) (end - (i + n))
  behind mode end zero room each = ap (λ (k : ℕ). contacts b mode h k (end - k)) (sym (add-zero i))
  behind mode end (suc n) room each =
      let next : i + n + 1 ≡ i + suc n = omega arith in
      behind mode end n (omega arith) (λ k less. each k (omega arith))
      ∙ each n (omega arith)
      ∙ ap (λ (k : ℕ). contacts b mode (on (suc n)) k (end - k)) next
