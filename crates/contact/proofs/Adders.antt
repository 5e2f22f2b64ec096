-- Digits added at every place of a word at once.
-- Assumes nothing.
use Prim.Native.Nat.{ℕ, zero, suc, ◌+◌, ◌-◌, ◌*◌, ◌/◌, ◌%◌, ◌^◌, ◌≤◌, ◌<◌}
use mathlib.Core.Path.{◌≡◌, refl, sym, ap, ap₂, subst, ◌∙◌}
use native.Mathlib.Nat.{add_comm}
use native.Mathlib.Omega.{arith}
use lib.Bits.{bit_and, bit_or, bit_xor, and_shr, and_mod, or_shr, or_mod, or_lt, or_add_and, xor_lt, xor_add_and, and_le_l, and_le_r}
use lib.Pow.{shr-shr}
use Rattle.words.specs.Bits.{bit}
use Rattle.words.proofs.Digits.{bit_lt}
use Rattle.words.proofs.Zero.{bit_zero}
use Rattle.telegram.proofs.Digits.{xor_digit, all_set}
use Rattle.contact.specs.History.{zeroes_of}

pub and_digits : (a b k : ℕ) → bit (bit_and a b) k ≡ bit_and (bit a k) (bit b k)
and_digits a b k = ap (λ (n : ℕ). n % 2) (and_shr a b k) ∙ and_mod (a / 2 ^ k) (b / 2 ^ k) 1

pub or_digits : (a b k : ℕ) → bit (bit_or a b) k ≡ bit_or (bit a k) (bit b k)
or_digits a b k = ap (λ (n : ℕ). n % 2) (or_shr a b k) ∙ or_mod (a / 2 ^ k) (b / 2 ^ k) 1

pub not_digit : (w k : ℕ) → k < 64 → bit (bit_xor w (2 ^ 64 - 1)) k ≡ 1 - bit w k
not_digit w k low = xor_digit w (2 ^ 64 - 1) k ∙ ap (bit_xor (bit w k)) (all_set k low) ∙ flip (bit w k) (bit_lt w k)
  where
    flip : (x : ℕ) → x < 2 → bit_xor x 1 ≡ 1 - x
    flip zero h = refl
    flip (suc zero) h = refl
    flip (suc (suc x)) h = absurd (omega arith)

-- The digits of the sum of three digits.
module _ (x y z : ℕ) (hx : x < 2) (hy : y < 2) (hz : z < 2) where
  low_digit : bit_xor (bit_xor x y) z ≡ (x + y + z) % 2
  low_digit = omega (arith, xor_add_and x y, xor_add_and (bit_xor x y) z, xor_lt 1 (bit_xor x y) z (xor_lt 1 x y hx hy) hz)

  high_digit : bit_or (bit_and x y) (bit_and z (bit_xor x y)) ≡ (x + y + z) / 2
  high_digit =
      let u = bit_xor x y in
      let g = bit_and x y in
      let h = bit_and z u in
      let v_lt : bit_xor z u < 2 = xor_lt 1 z u hz (xor_lt 1 x y hx hy) in
      let total : bit_xor z u + (g + h) * 2 ≡ x + y + z = omega (arith, xor_add_and x y, xor_add_and z u) in
      let none : bit_and g h ≡ 0 = omega (arith, and_le_l g h, and_le_r g h) in
      omega (arith, or_add_and g h)

  some_digit : bit_or (bit_or x y) z ≡ (x + y + z + 2) / 3
  some_digit =
      let u = bit_or x y in
      let u_lt : u < 2 = or_lt 1 x y hx hy in
      let v_lt : bit_or u z < 2 = or_lt 1 u z u_lt hz in
      omega (arith, or_add_and x y, and_le_l x y, and_le_r x y, or_add_and u z, and_le_l u z, and_le_r u z)

module _ (x y z k : ℕ) where
  pub sum_digit : bit (bit_xor (bit_xor x y) z) k ≡ (bit x k + bit y k + bit z k) % 2
  sum_digit =
      xor_digit (bit_xor x y) z k ∙ ap (λ (n : ℕ). bit_xor n (bit z k)) (xor_digit x y k)
      ∙ low_digit (bit x k) (bit y k) (bit z k) (bit_lt x k) (bit_lt y k) (bit_lt z k)

  pub carry_digit : bit (bit_or (bit_and x y) (bit_and z (bit_xor x y))) k ≡ (bit x k + bit y k + bit z k) / 2
  carry_digit =
      or_digits (bit_and x y) (bit_and z (bit_xor x y)) k
      ∙ ap₂ bit_or (and_digits x y k) (and_digits z (bit_xor x y) k ∙ ap (bit_and (bit z k)) (xor_digit x y k))
      ∙ high_digit (bit x k) (bit y k) (bit z k) (bit_lt x k) (bit_lt y k) (bit_lt z k)

  pub any_digit : bit (bit_or (bit_or x y) z) k ≡ (bit x k + bit y k + bit z k + 2) / 3
  any_digit =
      or_digits (bit_or x y) z k ∙ ap (λ (n : ℕ). bit_or n (bit z k)) (or_digits x y k)
      ∙ some_digit (bit x k) (bit y k) (bit z k) (bit_lt x k) (bit_lt y k) (bit_lt z k)

-- The digit k of a word shifted down by m.
pub shifted : (w m k : ℕ) → bit (w / 2 ^ m) k ≡ bit w (m + k)
shifted w m k = ap (λ (n : ℕ). n % 2) (shr-shr w m k)

-- One digit of two numbers added, with what came up from below.
column : (s c x y i : ℕ) → s ≡ (x + y + i) % 2 → c ≡ (x + y + i) / 2 → s + 2 * c ≡ x + y + i
column s c x y i p q = omega arith

-- A number is its rest by eight and eight times what goes into it.
by_eight : (low z t : ℕ) → low < 8 → low + 8 * z ≡ t → (low ≡ t % 8) × (z ≡ t / 8)
by_eight low z t h is = (omega arith, omega arith)

-- Three digits of two numbers added: those of the sum, and what goes up.
three_columns : (a b c x y z o a₁ b₁ c₁ a₂ b₂ c₂ a₃ b₃ c₃ : ℕ)
    → o ≡ 0 → a₂ ≡ a₃ → b₂ ≡ b₃ → c₂ ≡ c₃
    → a ≡ (a₁ + a₂ + o) % 2 → x ≡ (a₁ + a₂ + o) / 2 → b ≡ (b₁ + b₂ + x) % 2 → y ≡ (b₁ + b₂ + x) / 2
    → c ≡ (c₁ + c₂ + y) % 2 → z ≡ (c₁ + c₂ + y) / 2
    → (a + 2 * b + 4 * c ≡ ((a₁ + 2 * b₁ + 4 * c₁) + (a₃ + 2 * b₃ + 4 * c₃)) % 8) × (z ≡ ((a₁ + 2 * b₁ + 4 * c₁) + (a₃ + 2 * b₃ + 4 * c₃)) / 8)
three_columns a b c x y z o a₁ b₁ c₁ a₂ b₂ c₂ a₃ b₃ c₃ none ea eb ec pa px pb py pc pz =
    by_eight (a + 2 * b + 4 * c) z ((a₁ + 2 * b₁ + 4 * c₁) + (a₃ + 2 * b₃ + 4 * c₃)) (few (half a (a₁ + a₂ + o) pa) (half b (b₁ + b₂ + x) pb) (half c (c₁ + c₂ + y) pc))
    (all none ea eb ec (column a x a₁ a₂ o pa px) (column b y b₁ b₂ x pb py) (column c z c₁ c₂ y pc pz))
  where
    half : (d t : ℕ) → d ≡ t % 2 → d < 2
    half d t e = omega arith

    few : a < 2 → b < 2 → c < 2 → a + 2 * b + 4 * c < 8
    few f g h = omega arith

    all : o ≡ 0 → a₂ ≡ a₃ → b₂ ≡ b₃ → c₂ ≡ c₃ → a + 2 * x ≡ a₁ + a₂ + o → b + 2 * y ≡ b₁ + b₂ + x → c + 2 * z ≡ c₁ + c₂ + y
        → a + 2 * b + 4 * c + 8 * z ≡ (a₁ + 2 * b₁ + 4 * c₁) + (a₃ + 2 * b₃ + 4 * c₃)
    all n i j k p q r = omega arith

-- The zeroes among m + n bits are those among the m lowest and those among the n above.
pub zeroes_cut : (w m n : ℕ) → zeroes_of w (n + m) ≡ zeroes_of w m + zeroes_of (w / 2 ^ m) n
unfolding zeroes_of
zeroes_cut w m zero = let e : 0 + m ≡ m = omega arith in omega (arith, ap (zeroes_of w) e)
zeroes_cut w m (suc n) =
    let e : suc n + m ≡ suc (n + m) = omega arith in
    let f : m + n ≡ n + m = omega arith in
    let same : bit (w / 2 ^ m) n ≡ bit w (n + m) = shifted w m n ∙ ap (bit w) f in
    omega (arith, zeroes_cut w m n, ap (zeroes_of w) e)

-- The three digits of a count.
abbrev pub digits : ℕ → ℕ → ℕ → ℕ → ℕ
digits a b c k = bit a k + 2 * bit b k + 4 * bit c k

-- Two counts added at every bit: a word of digits and the same m bits above, with what goes up.
pub summed : (a b c x y z a₁ b₁ c₁ m : ℕ)
    → ((k : ℕ) → bit a k ≡ (bit a₁ k + bit (a₁ / 2 ^ m) k + bit 0 k) % 2) → ((k : ℕ) → bit x k ≡ (bit a₁ k + bit (a₁ / 2 ^ m) k + bit 0 k) / 2)
    → ((k : ℕ) → bit b k ≡ (bit b₁ k + bit (b₁ / 2 ^ m) k + bit x k) % 2) → ((k : ℕ) → bit y k ≡ (bit b₁ k + bit (b₁ / 2 ^ m) k + bit x k) / 2)
    → ((k : ℕ) → bit c k ≡ (bit c₁ k + bit (c₁ / 2 ^ m) k + bit y k) % 2) → ((k : ℕ) → bit z k ≡ (bit c₁ k + bit (c₁ / 2 ^ m) k + bit y k) / 2)
    → (k : ℕ) → (digits a b c k ≡ (digits a₁ b₁ c₁ k + digits a₁ b₁ c₁ (m + k)) % 8) × (bit z k ≡ (digits a₁ b₁ c₁ k + digits a₁ b₁ c₁ (m + k)) / 8)
summed a b c x y z a₁ b₁ c₁ m pa px pb py pc pz k =
    three_columns (bit a k) (bit b k) (bit c k) (bit x k) (bit y k) (bit z k) (bit 0 k) (bit a₁ k) (bit b₁ k) (bit c₁ k)
    (bit (a₁ / 2 ^ m) k) (bit (b₁ / 2 ^ m) k) (bit (c₁ / 2 ^ m) k) (bit a₁ (m + k)) (bit b₁ (m + k)) (bit c₁ (m + k))
    (bit_zero k) (shifted a₁ m k) (shifted b₁ m k) (shifted c₁ m k) (pa k) (px k) (pb k) (py k) (pc k) (pz k)

-- What a count tells of v: its digits are those of v, or v is eight or more.
abbrev pub Tells : ℕ → ℕ → ℕ → ℕ → ℕ → ℕ → Type 0
Tells a b c d k v = (bit d k ≡ 0 → digits a b c k ≡ v) × (1 ≤ bit d k → 8 ≤ v)

by_digit : {A : Type 0} (x : ℕ) → (x ≡ 0 → A) → (1 ≤ x → A) → A
by_digit zero f g = f refl
by_digit (suc x) f g = g (omega arith)

-- Two counts that stand side by side are one of both.
together : (low low₁ low₂ d d₁ d₂ u v : ℕ) → low ≡ (low₁ + low₂) % 8 → d ≡ (d₁ + d₂ + (low₁ + low₂) / 8 + 2) / 3
    → (d₁ ≡ 0 → low₁ ≡ u) × (1 ≤ d₁ → 8 ≤ u) → (d₂ ≡ 0 → low₂ ≡ v) × (1 ≤ d₂ → 8 ≤ v)
    → (d ≡ 0 → low ≡ u + v) × (1 ≤ d → 8 ≤ u + v)
together low low₁ low₂ d d₁ d₂ u v is set here above = (
  λ none. omega (arith, is, set, none, here.0 (omega (arith, set, none)), above.0 (omega (arith, set, none))),
  λ some. by_digit d₁
      (λ p. by_digit d₂ (λ q. omega (arith, set, some, p, q, here.0 p, above.0 q)) (λ q. omega (arith, above.1 q)))
      (λ p. omega (arith, here.1 p)),
)

-- Two counts of m bits that stand side by side are one of 2 m bits.
pub twice : (w m a b c d a' b' c' d' : ℕ)
    → ((k : ℕ) → k + m ≤ 64 → Tells a b c d k (zeroes_of (w / 2 ^ k) m))
    → ((k : ℕ) → digits a' b' c' k ≡ (digits a b c k + digits a b c (m + k)) % 8)
    → ((k : ℕ) → bit d' k ≡ (bit d k + bit d (m + k) + (digits a b c k + digits a b c (m + k)) / 8 + 2) / 3)
    → (k : ℕ) → k + (m + m) ≤ 64 → Tells a' b' c' d' k (zeroes_of (w / 2 ^ k) (m + m))
twice w m a b c d a' b' c' d' is sums sets k room =
    let both : zeroes_of (w / 2 ^ k) (m + m) ≡ zeroes_of (w / 2 ^ k) m + zeroes_of (w / 2 ^ (m + k)) m =
    zeroes_cut (w / 2 ^ k) m m ∙ ap (λ (n : ℕ). zeroes_of (w / 2 ^ k) m + zeroes_of n m) (shr-shr w k m ∙ ap (λ (n : ℕ). w / 2 ^ n) (add_comm k m)) in
    subst (Tells a' b' c' d' k) (sym both)
    (together (digits a' b' c' k) (digits a b c k) (digits a b c (m + k)) (bit d' k) (bit d k) (bit d (m + k)) (zeroes_of (w / 2 ^ k) m) (zeroes_of (w / 2 ^ (m + k)) m)
    (sums k) (sets k) (is k (omega arith)) (is (m + k) (omega arith)))

-- The count of a single bit.
pub single : (w k : ℕ) → k + 1 ≤ 64 → Tells (bit_xor w (2 ^ 64 - 1)) 0 0 0 k (zeroes_of (w / 2 ^ k) 1)
unfolding zeroes_of
single w k room =
    let low : k < 64 = omega arith in
    let same : k + 0 ≡ k = omega arith in
    let here : bit (w / 2 ^ k) 0 ≡ bit w k = shifted w k 0 ∙ ap (bit w) same in
    let flip = not_digit w k low in
    let none = bit_zero k in
    (λ z. omega arith, λ o. omega arith)

-- What `|` and `&` say of digits, as sums.
or_le : (x y : ℕ) → bit_or x y ≤ x + y
or_le x y = omega (arith, or_add_and x y)

or_some : (x y o : ℕ) → o ≡ bit_or x y → 1 ≤ o → 1 ≤ x + y
or_some x y o e h = omega (arith, or_le x y)

-- Digits of which the third is set beside a lower one are those of five or more.
up : (x y z v p g : ℕ) → x + 2 * y + 4 * z ≡ v → p ≤ x + y → g ≤ z → g ≤ p → 1 ≤ g → 4 < v
up x y z v p g is hp hz hg some = omega arith

-- What is counted, by the digits.
module _ (a b c d k v : ℕ) (tells : Tells a b c d k v) where
  pub eight : bit d k ≡ 0 → v < 8
  eight z = omega (arith, tells.0 z, bit_lt a k, bit_lt b k, bit_lt c k)

  pub four : k < 64 → bit (bit_xor (bit_or d (bit_and c (bit_or a b))) (2 ^ 64 - 1)) k ≡ 0 → 4 < v
  four low z =
      let q = bit (bit_or d (bit_and c (bit_or a b))) k in
      let p = bit_or (bit a k) (bit b k) in
      let g = bit_and (bit c k) p in
      let is : q ≡ bit_or (bit d k) g =
      or_digits d (bit_and c (bit_or a b)) k ∙ ap (bit_or (bit d k)) (and_digits c (bit_or a b) k ∙ ap (bit_and (bit c k)) (or_digits a b k)) in
      let set : 1 ≤ q = omega (arith, not_digit (bit_or d (bit_and c (bit_or a b))) k low) in
      by_digit (bit d k)
      (λ none. up (bit a k) (bit b k) (bit c k) v p g (tells.0 none) (or_le (bit a k) (bit b k)) (and_le_l (bit c k) p) (and_le_r (bit c k) p) (omega (arith, or_some (bit d k) g q is set, none)))
      (λ some. omega (arith, tells.1 some))
