-- The laws of figures and bytes: a figure below 2^64 reads back from its eight bytes, whatever its
-- place among others.
-- Assumes nothing.
use Prim.Native.Nat.{ℕ, zero, suc, ◌+◌, ◌-◌, ◌*◌, ◌/◌, ◌%◌, ◌<◌, ◌≤◌}
use mathlib.Core.Path.{◌≡◌, refl, sym, ap, ap₂, subst, ◌∙◌}
use mathlib.Core.List.{List, [], ◌∷◌, ◌++◌}
use native.Mathlib.Omega.{arith}
use lib.Dec.{ltb}
use mathlib.Core.Logic.{◌≢◌}
use lib.ListN.{length, get_or, set, take, length-append, get_or-append, drop_of_length-le}
use lib.Seq.{get_or_at, ext_get_or, get_or-set_same, get_or-set_other, set_split, length-take-le, get_or-take}
use borrow.Author.Tests.{ltb-true, ltb-false, lt-ltb}
use mathlib.Core.Bool.{Bool, true, false}
use Rattle.words.specs.Answer.{pick}
use Rattle.state_bytes.specs.Figures.{each, byte_of, byte_among, spread, high_first, eight_at, figure_at_meant}

-- ---- what holds below a number

-- What holds below n and of n holds below n + 1.
pub and_then : (P : ℕ → Type 0) (n : ℕ) → ((i : ℕ) → i < n → P i) → P n → (i : ℕ) → i < n + 1 → P i
and_then P n on at i below = so (ltb i n) refl where
  so : (b : Bool) → ltb i n ≡ b → P i
  so true e = on i (ltb-true i n e)
  so false e = let least : n ≤ i = ltb-false i n e in subst P (omega arith) at

-- What is not the next number is above it.
pub above : (k m : ℕ) → m ≤ k → k ≢ m → m + 1 ≤ k
above k m h other = omega arith

pub exactly : (k m : ℕ) → m ≤ k → k < m + 1 → k ≡ m
exactly k m h l = omega arith

-- ---- what a rule gives for each number

module _ {A : Type 0} (f : ℕ → A) where
  pub each_length : (n : ℕ) → length (each n f) ≡ n
  unfolding each
  each_length zero = refl
  each_length (suc n) = length-append (each n f) (f n ∷ []) ∙ (let e = each_length n in omega arith)

  each_in : (n i : ℕ) (d : A) (b : Bool) → ltb i n ≡ b → i < suc n → ((j : ℕ) → j < n → get_or (each n f) j d ≡ f j) → get_or (each n f ++ (f n ∷ [])) i d ≡ f i
  each_in n i d true e h on =
      let l : i < n = ltb-true i n e in
      let long : i < length (each n f) = subst (λ (m : ℕ). i < m) (sym (each_length n)) l in
      get_or-append (each n f) (f n ∷ []) d i long ∙ on i l
  each_in n i d false e h on =
      let l : n ≤ i = ltb-false i n e in
      let same : n ≡ i = omega arith in
      get_or_at (each n f) (f n) [] d i (each_length n ∙ same) ∙ ap f same

  pub each_at : (n i : ℕ) (d : A) → i < n → get_or (each n f) i d ≡ f i
  unfolding each
  each_at zero i d h = absurd (omega arith)
  each_at (suc n) i d h = each_in n i d (ltb i n) refl h (λ j l. each_at n j d l)

  -- A list of so many elements, each of which is the rule's, is what the rule gives.
  pub is_each : (n : ℕ) (d : A) (l : List A) → length l ≡ n → ((i : ℕ) → i < n → get_or l i d ≡ f i) → l ≡ each n f
  is_each n d l long at =
      ext_get_or d l (each n f) (long ∙ sym (each_length n))
      (λ i h. let below : i < n = subst (λ (m : ℕ). i < m) long h in at i below ∙ sym (each_at n i d below))

  -- One more element of a list that is filled from its beginning.
  pub more : (d : A) (l : List A) (n : ℕ) → n < length l → ((i : ℕ) → i < n → get_or l i d ≡ f i) → (i : ℕ) → i < n + 1 → get_or (set l n (f n)) i d ≡ f i
  more d l n h on =
      and_then (λ (i : ℕ). get_or (set l n (f n)) i d ≡ f i) n
      (λ i less. get_or-set_other l n i (f n) d (λ same. omega arith) ∙ on i less) (get_or-set_same l n (f n) d h)

  -- Such a list with one element more, set to what comes last.
  pub then_last : (d : A) (l : List A) (last : A) (n : ℕ) → length l ≡ n + 1 → ((i : ℕ) → i < n → get_or l i d ≡ f i) → set l n last ≡ each n f ++ (last ∷ [])
  then_last d l last n long on =
      let inside : n < length l = omega arith in
      let within : n ≤ length l = omega arith in
      let over : length l ≤ suc n = omega arith in
      set_split l n last inside
      ∙ ap₂ (λ (a b : List A). a ++ last ∷ b)
      (is_each n d (take n l) (length-take-le n l within) (λ i h. get_or-take n l i d h ∙ on i h)) (drop_of_length-le l over)

-- ---- a figure's eight bytes

-- the two halves, byte by byte
high : (n : ℕ) → n < 18446744073709551616
    → high_first (n / 72057594037927936 % 256) (n / 281474976710656 % 256) (n / 1099511627776 % 256) (n / 4294967296 % 256) ≡ n / 4294967296
high n h =
    let a : n / 72057594037927936 % 256 ≡ n / 72057594037927936 = omega arith in
    let b : n / 72057594037927936 * 256 + n / 281474976710656 % 256 ≡ n / 281474976710656 = omega arith in
    let c : n / 281474976710656 * 256 + n / 1099511627776 % 256 ≡ n / 1099511627776 = omega arith in
    let d : n / 1099511627776 * 256 + n / 4294967296 % 256 ≡ n / 4294967296 = omega arith in
    rw (a, b, c, d)

low : (n : ℕ) → high_first (n / 16777216 % 256) (n / 65536 % 256) (n / 256 % 256) (n % 256) ≡ n % 4294967296
low n = rw (first n, second n, third n, fourth n) where
  first : (n : ℕ) → n / 16777216 % 256 ≡ n % 4294967296 / 16777216
  first n = omega arith

  second : (n : ℕ) → n % 4294967296 / 16777216 * 256 + n / 65536 % 256 ≡ n % 4294967296 / 65536
  second n = omega arith

  third : (n : ℕ) → n % 4294967296 / 65536 * 256 + n / 256 % 256 ≡ n % 4294967296 / 256
  third n = omega arith

  fourth : (n : ℕ) → n % 4294967296 / 256 * 256 + n % 256 ≡ n % 4294967296
  fourth n = omega arith

last_byte : (n : ℕ) → n / 1 % 256 ≡ n % 256
last_byte n = omega arith

whole : (n : ℕ) → n / 4294967296 * 4294967296 + n % 4294967296 ≡ n
whole n = omega arith

pub digits : (n : ℕ) → n < 18446744073709551616
    → high_first (byte_of n 0) (byte_of n 1) (byte_of n 2) (byte_of n 3) * 4294967296 + high_first (byte_of n 4) (byte_of n 5) (byte_of n 6) (byte_of n 7) ≡ n
unfolding byte_of
digits n h = rw (high n h, last_byte n, low n) (whole n)

-- ---- the bytes of some figures

module _ (fs : List ℕ) (n : ℕ) where
  pub spread_length : length (spread n fs) ≡ n
  unfolding spread
  spread_length = each_length (byte_among fs) n

  pub byte_at : (j : ℕ) → j < n → get_or (spread n fs) j 0 ≡ byte_among fs j
  unfolding spread
  byte_at j h = each_at (byte_among fs) n j 0 h

  -- byte k of figure i
  byte_of_figure : (i k : ℕ) → i < n / 8 → k < 8 → get_or (spread n fs) (8 * i + k) 0 ≡ byte_of (get_or fs i 0) k
  byte_of_figure i k h l =
      let q : (8 * i + k) / 8 ≡ i = omega arith in
      let m : (8 * i + k) % 8 ≡ k = omega arith in
      byte_at (8 * i + k) (omega arith) ∙ ap₂ (λ (a b : ℕ). byte_of (get_or fs a 0) b) q m

  eight_back : (i : ℕ) → i < n / 8 → get_or fs i 0 < 18446744073709551616 → eight_at (spread n fs) i ≡ get_or fs i 0
  unfolding eight_at
  eight_back i h small =
      let m : ℕ = get_or fs i 0 in
      let zeroth : get_or (spread n fs) (8 * i) 0 ≡ byte_of m 0 = subst (λ (p : ℕ). get_or (spread n fs) p 0 ≡ byte_of m 0) (omega arith) (byte_of_figure i 0 h (omega arith)) in
      let one = byte_of_figure i 1 h (omega arith) in
      let two = byte_of_figure i 2 h (omega arith) in
      let three = byte_of_figure i 3 h (omega arith) in
      let four = byte_of_figure i 4 h (omega arith) in
      let five = byte_of_figure i 5 h (omega arith) in
      let six = byte_of_figure i 6 h (omega arith) in
      let seven = byte_of_figure i 7 h (omega arith) in
      rw (zeroth, one, two, three, four, five, six, seven) (digits m small)

  pub reads_back : (i : ℕ) → i < n / 8 → get_or fs i 0 < 18446744073709551616 → figure_at_meant (spread n fs) i ≡ get_or fs i 0
  unfolding figure_at_meant
  reads_back i h small =
      let inside : i < length (spread n fs) / 8 = subst (λ (m : ℕ). i < m / 8) (sym spread_length) h in
      ap (λ (b : Bool). pick b (eight_at (spread n fs) i) 0) (lt-ltb i (length (spread n fs) / 8) inside) ∙ eight_back i h small
