-- A store reads back from the bytes of its figures: each figure does, and is as small as its type.
-- Assumes nothing.
use Prim.Native.Nat.{ℕ, ◌+◌, ◌*◌, ◌/◌, ◌%◌, ◌<◌}
use mathlib.Core.Path.{◌≡◌, sym, ap, ap₂, subst, ◌∙◌}
use mathlib.Core.List.{List, [], ◌∷◌}
use native.Mathlib.Omega.{arith}
use lib.ListN.{length, get_or, get_or-append}
use lib.Seq.{get_or_at}
use Rattle.settings.specs.declared.Version.{Version}
use Rattle.settings.specs.declared.Store.{Store}
use Rattle.settings.specs.Store.{no_version}
use Rattle.state_bytes.specs.Figures.{each, figure_at_meant}
use Rattle.state_bytes.specs.Inside.{width_of}
use Rattle.state_bytes.specs.Stores.{version_figure, figures_of, version_at, store_in}
use Rattle.state_bytes.proofs.Bytes.{each_length, each_at, is_each}

-- a figure that is small is its own low bits
low_32 : (n m : ℕ) → n ≡ m → m < 4294967296 → m ≡ n % 4294967296
low_32 n m e small = rw e (omega arith)

low_8 : (n m : ℕ) → n ≡ m → m < 256 → m ≡ n % 256
low_8 n m e small = rw e (omega arith)

module _ (versions : List Version) (count : ℕ) (bytes : List ℕ) where
  figures_length : length (each 128 (λ (j : ℕ). version_figure (get_or versions (j / 4) no_version) (j % 4))) ≡ 128
  figures_length = each_length (λ (j : ℕ). version_figure (get_or versions (j / 4) no_version) (j % 4)) 128

  figure_is : (j : ℕ) → j < 128 → get_or (figures_of versions count) j 0 ≡ version_figure (get_or versions (j / 4) no_version) (j % 4)
  unfolding figures_of
  figure_is j h =
      let f : ℕ → ℕ = λ (j : ℕ). version_figure (get_or versions (j / 4) no_version) (j % 4) in
      get_or-append (each 128 f) (count ∷ []) 0 j (subst (λ (n : ℕ). j < n) (sym figures_length) h) ∙ each_at f 128 j 0 h

  count_is : get_or (figures_of versions count) 128 0 ≡ count
  unfolding figures_of
  count_is = get_or_at (each 128 (λ (j : ℕ). version_figure (get_or versions (j / 4) no_version) (j % 4))) count [] 0 128 figures_length

  module _ (long : length versions ≡ 32)
      (small : (j : ℕ) → j < 128 → version_figure (get_or versions (j / 4) no_version) (j % 4) < width_of (j % 4))
      (back : (i : ℕ) → i < 129 → figure_at_meant bytes i ≡ get_or (figures_of versions count) i 0) where
    -- figure k of version i, read back, and its size
    figure : (i k : ℕ) → i < 32 → k < 4 → figure_at_meant bytes (4 * i + k) ≡ version_figure (get_or versions i no_version) k
    figure i k h l =
        let q : (4 * i + k) / 4 ≡ i = omega arith in
        let m : (4 * i + k) % 4 ≡ k = omega arith in
        back (4 * i + k) (omega arith) ∙ figure_is (4 * i + k) (omega arith) ∙ ap₂ (λ (a b : ℕ). version_figure (get_or versions a no_version) b) q m

    size : (i k : ℕ) → i < 32 → k < 4 → version_figure (get_or versions i no_version) k < width_of k
    size i k h l =
        let q : (4 * i + k) / 4 ≡ i = omega arith in
        let m : (4 * i + k) % 4 ≡ k = omega arith in
        subst (λ (b : ℕ). version_figure (get_or versions i no_version) b < width_of b) m
        (subst (λ (a : ℕ). version_figure (get_or versions a no_version) ((4 * i + k) % 4) < width_of ((4 * i + k) % 4)) q (small (4 * i + k) (omega arith)))

    version_back : (i : ℕ) → i < 32 → get_or versions i no_version ≡ version_at bytes i
    version_back i h =
        let none : 4 * i + 0 ≡ 4 * i = omega arith in
        let first = ap (figure_at_meant bytes) (sym none) ∙ figure i 0 h (omega arith) in
        of_these _ _ _ _ _ _ _ _
        (low_32 _ _ first (size i 0 h (omega arith))) (low_32 _ _ (figure i 1 h (omega arith)) (size i 1 h (omega arith)))
        (low_8 _ _ (figure i 2 h (omega arith)) (size i 2 h (omega arith))) (low_8 _ _ (figure i 3 h (omega arith)) (size i 3 h (omega arith))) where
          of_these : (p q g h s u t v : ℕ) → p ≡ q → g ≡ h → s ≡ u → t ≡ v
              → ◌≡◌ {A = Version} (record { place = p; gap = g; s = s; t = t }) (record { place = q; gap = h; s = u; t = v })
          of_these p q g h s u t v a b c d = cc

    pub store_back : store_in bytes ≡ record { versions = versions; count = count }
    unfolding store_in
    store_back =
        ap₂ made (sym (is_each (version_at bytes) 32 no_version versions long version_back)) (back 128 (omega arith) ∙ count_is) where
          made : List Version → ℕ → Store
          made vs n = record { versions = vs; count = n }
