-- A ride reads back from its figures: each thing does, since it is as small as its type.
-- Assumes nothing.
use Prim.Native.Nat.{ℕ, ◌+◌, ◌-◌, ◌*◌, ◌/◌, ◌%◌, ◌<◌}
use mathlib.Core.Path.{◌≡◌, refl, sym, ap, ap₂, ◌∙◌}
use mathlib.Core.List.{List, [], ◌∷◌, ◌++◌}
use native.Mathlib.Omega.{arith}
use lib.ListN.{length, get_or}
use borrow.Author.Tests.{lt-ltb}
use Rattle.words.specs.Answer.{pick}
use mathlib.Core.Bool.{Bool}
use Rattle.state_bytes.specs.Figures.{each}
use Rattle.state_bytes.proofs.Bytes.{is_each}
use Rattle.group.specs.declared.Heard.{Heard}
use Rattle.group.specs.declared.Number.{Number}
use Rattle.group.specs.declared.Told.{Told}
use Rattle.group.specs.declared.Balise.{Balise}
use Rattle.group.specs.declared.Group.{Group}
use Rattle.ride.specs.declared.Linking.{Linking}
use Rattle.ride.specs.declared.Known.{Known}
use Rattle.ride.specs.declared.Ride.{Ride}
use Rattle.ride_bytes.specs.Things.{told_of, number_of, linking_of, heard_figure, heard_of}
use Rattle.ride_bytes.specs.Rides.{group_figures, group_of, known_of, ride_of}

-- ---- thing by thing

pub told_back : (v : ℕ) → v < 65536 → told_of v ≡ Told.Kmh v
unfolding told_of
told_back v h = ap (λ (b : Bool). pick b (Told.Kmh v) Told.Unknown) (lt-ltb v 65536 h)

pub number_back : (n : ℕ) → n < 65536 → number_of n ≡ Number.Figure n
unfolding number_of
number_back n h = ap (λ (b : Bool). pick b (Number.Figure n) Number.None) (lt-ltb n 65536 h)

pub linking_back : (d f : ℕ) → d < 4294967296 → f < 4294967296 → linking_of d f ≡ Linking.Set d f
unfolding linking_of
linking_back d f hd hf =
    let low : f % 4294967296 ≡ f = omega arith in
    ap (λ (b : Bool). pick b (Linking.Set d (f % 4294967296)) Linking.Unset) (lt-ltb d 4294967296 hd) ∙ ap (λ (g : ℕ). Linking.Set d g) low

pub heard_back : (x y z : ℕ) → x < 256 → y < 256 → z < 256 → heard_of (x * 65536 + y * 256 + z) ≡ Heard.Words x y z
unfolding heard_of
heard_back x y z hx hy hz =
    let n : ℕ = x * 65536 + y * 256 + z in
    let small : x * 65536 + y * 256 + z < 16777216 = omega arith in
    let a : (x * 65536 + y * 256 + z) / 65536 ≡ x = omega arith in
    let b : (x * 65536 + y * 256 + z) / 256 % 256 ≡ y = omega arith in
    let c : (x * 65536 + y * 256 + z) % 256 ≡ z = omega arith in
    rw (lt-ltb (x * 65536 + y * 256 + z) 16777216 small, a, b, c)

-- ---- a group

-- A balise's place and what was heard there, as figures.
abbrev pub PlaceFigure : Balise → ℕ → Type 0
PlaceFigure b p = (p ≡ b.place) × (p % 4294967296 ≡ p)

abbrev pub HeardFigure : Balise → ℕ → Type 0
HeardFigure b h = (h ≡ heard_figure b.heard) × (heard_of h ≡ b.heard)

abbrev made : ℕ → Heard → Balise
made p h = record { place = p; heard = h }

balise_back : (b : Balise) (p h : ℕ) → PlaceFigure b p → HeardFigure b h → made (p % 4294967296) (heard_of h) ≡ b
balise_back b p h ps hs = ap₂ made (ps.1 ∙ ps.0) hs.1

abbrev grouped : List Balise → ℕ → ℕ → Group
grouped kept count last = record { kept = kept; count = count; last = last }

pub five : {A : Type 0} (a b c d e a' b' c' d' e' : A) → a ≡ a' → b ≡ b' → c ≡ c' → d ≡ d' → e ≡ e'
    → ◌≡◌ {A = List A} (a ∷ b ∷ c ∷ d ∷ e ∷ []) (a' ∷ b' ∷ c' ∷ d' ∷ e' ∷ [])
five a b c d e a' b' c' d' e' p q r s t = cc

module _ (no : Balise) (count last p0 p1 p2 p3 p4 h0 h1 h2 h3 h4 : ℕ) where
  -- The figures, one by one.
  abbrev pub twelve : List ℕ
  twelve = count ∷ last ∷ p0 ∷ p1 ∷ p2 ∷ p3 ∷ p4 ∷ h0 ∷ h1 ∷ h2 ∷ h3 ∷ h4 ∷ []

  pub group_figures_law : (kept : List Balise) → length kept ≡ 5
      → PlaceFigure (get_or kept 0 no) p0 → PlaceFigure (get_or kept 1 no) p1 → PlaceFigure (get_or kept 2 no) p2 → PlaceFigure (get_or kept 3 no) p3 → PlaceFigure (get_or kept 4 no) p4
      → HeardFigure (get_or kept 0 no) h0 → HeardFigure (get_or kept 1 no) h1 → HeardFigure (get_or kept 2 no) h2 → HeardFigure (get_or kept 3 no) h3 → HeardFigure (get_or kept 4 no) h4
      → count % 256 ≡ count → last % 4294967296 ≡ last
      → (twelve ≡ group_figures (grouped kept count last)) × (group_of (λ (i : ℕ). get_or twelve (i - 6) 0) ≡ grouped kept count last)
  unfolding group_figures each
  group_figures_law (v ∷ w ∷ x ∷ y ∷ z ∷ []) long a b c d e f g h i j m n = (
    ap₂ (λ (ps hs : List ℕ). count ∷ last ∷ ps ++ hs) (five _ _ _ _ _ _ _ _ _ _ a.0 b.0 c.0 d.0 e.0) (five _ _ _ _ _ _ _ _ _ _ f.0 g.0 h.0 i.0 j.0),
    ap₂ (λ (ks : List Balise) (k : ℕ). grouped ks k (last % 4294967296)) (five _ _ _ _ _ _ _ _ _ _ (balise_back v p0 h0 a f) (balise_back w p1 h1 b g) (balise_back x p2 h2 c h) (balise_back y p3 h3 d i) (balise_back z p4 h4 e j)) m
        ∙ ap (λ (k : ℕ). grouped (v ∷ w ∷ x ∷ y ∷ z ∷ []) count k) n,
  )
  group_figures_law [] long a b c d e f g h i j m n = absurd (omega (arith, long))
  group_figures_law (v ∷ []) long a b c d e f g h i j m n = absurd (omega (arith, long))
  group_figures_law (v ∷ w ∷ []) long a b c d e f g h i j m n = absurd (omega (arith, long))
  group_figures_law (v ∷ w ∷ x ∷ []) long a b c d e f g h i j m n = absurd (omega (arith, long))
  group_figures_law (v ∷ w ∷ x ∷ y ∷ []) long a b c d e f g h i j m n = absurd (omega (arith, long))
  group_figures_law (v ∷ w ∷ x ∷ y ∷ z ∷ u ∷ q) long a b c d e f g h i j m n = absurd (omega (arith, long))

-- ---- a ride

-- Two rules that agree on eighteen figures give one ride.
pub alike : (f g : ℕ → ℕ) → ((i : ℕ) → i < 18 → f i ≡ g i) → ride_of f ≡ ride_of g
unfolding ride_of each
alike f g h =
    rw (
      h 0 (omega arith),
      h 1 (omega arith),
      h 2 (omega arith),
      h 3 (omega arith),
      h 4 (omega arith),
      h 5 (omega arith),
      h 6 (omega arith),
      h 7 (omega arith),
      h 8 (omega arith),
      h 9 (omega arith),
      h 10 (omega arith),
      h 11 (omega arith),
      h 12 (omega arith),
      h 13 (omega arith),
      h 14 (omega arith),
      h 15 (omega arith),
      h 16 (omega arith),
      h 17 (omega arith),
    )

abbrev ridden : ℕ → Group → Known → Ride
ridden o g k = record { odometer = o; group = g; known = k }

-- The figures of both, one after the other.
abbrev pub eighteen : List ℕ → List ℕ → List ℕ
eighteen k g =
    get_or k 0 0 ∷ get_or k 1 0 ∷ get_or k 2 0 ∷ get_or k 3 0 ∷ get_or k 4 0 ∷ get_or k 5 0
    ∷ get_or g 0 0 ∷ get_or g 1 0 ∷ get_or g 2 0 ∷ get_or g 3 0 ∷ get_or g 4 0 ∷ get_or g 5 0
    ∷ get_or g 6 0 ∷ get_or g 7 0 ∷ get_or g 8 0 ∷ get_or g 9 0 ∷ get_or g 10 0 ∷ get_or g 11 0 ∷ []

pub joined : (k g : List ℕ) → length k ≡ 6 → length g ≡ 12 → eighteen k g ≡ k ++ g
unfolding each
joined k g hk hg =
    sym (ap₂ ◌++◌ (is_each (λ (i : ℕ). get_or k i 0) 6 0 k hk (λ i h. refl)) (is_each (λ (i : ℕ). get_or g i 0) 12 0 g hg (λ i h. refl)))

-- Known figures and a group's, of which each reads back, are a ride's.
pub ride_back : (ride : Ride) (k g : List ℕ) → get_or k 0 0 ≡ ride.odometer → ride.odometer % 4294967296 ≡ ride.odometer
    → known_of (λ (i : ℕ). get_or k i 0) ≡ ride.known → group_of (λ (i : ℕ). get_or g (i - 6) 0) ≡ ride.group
    → ride_of (λ (i : ℕ). get_or (eighteen k g) i 0) ≡ ride
unfolding ride_of each
ride_back ride k g o low ks gs =
    ap₂ (λ (a : ℕ) (b : Group). ridden (a % 4294967296) b (known_of (λ (i : ℕ). get_or k i 0))) o gs
    ∙ ap₂ (λ (a : ℕ) (c : Known). ridden a ride.group c) low ks
