-- A row of figures that is put together of its parts' is the row of the whole.
-- Assumes nothing.
use Prim.Native.Nat.{ℕ}
use mathlib.Core.Path.{◌≡◌, refl, ap, ◌∙◌}
use mathlib.Core.List.{List, [], ◌∷◌}
use lib.ListN.{get_or}
use Rattle.telegram.specs.declared.Telegram.{Telegram}
use Rattle.antenna.specs.declared.Places.{Places}
use Rattle.antenna.specs.declared.Sound.{Sound}
use Rattle.antenna.specs.declared.Stand.{Stand}
use Rattle.ear_bytes.specs.declared.Hearing.{Hearing}
use Rattle.ear_bytes.specs.Ears.{telegram_figures, places_figures, as_figure, stand_figures, last_kind, last_place, figures_of}

-- The first figures of a row, one by one.
abbrev four : List ℕ → List ℕ
four l = get_or l 0 0 ∷ get_or l 1 0 ∷ get_or l 2 0 ∷ get_or l 3 0 ∷ []

abbrev ten : List ℕ → List ℕ
ten l = get_or l 0 0 ∷ get_or l 1 0 ∷ get_or l 2 0 ∷ get_or l 3 0 ∷ get_or l 4 0 ∷ get_or l 5 0 ∷ get_or l 6 0 ∷ get_or l 7 0 ∷ get_or l 8 0 ∷ get_or l 9 0 ∷ []

abbrev seventeen : List ℕ → List ℕ
seventeen l =
    get_or l 0 0 ∷ get_or l 1 0 ∷ get_or l 2 0 ∷ get_or l 3 0 ∷ get_or l 4 0 ∷ get_or l 5 0 ∷ get_or l 6 0 ∷ get_or l 7 0 ∷ get_or l 8 0 ∷ get_or l 9 0 ∷ get_or l 10 0
    ∷ get_or l 11 0 ∷ get_or l 12 0 ∷ get_or l 13 0 ∷ get_or l 14 0 ∷ get_or l 15 0 ∷ get_or l 16 0 ∷ []

all_four : (m : Telegram) → four (telegram_figures m) ≡ telegram_figures m
all_four (Telegram.Figures x y z) = refl
all_four (Telegram.Number n) = refl

pub of_alike : (l : List ℕ) (m : Telegram) (x y z first count : ℕ) → l ≡ telegram_figures m
    → 1 ∷ x ∷ y ∷ z ∷ first ∷ count ∷ four l ≡ places_figures (Places.Alike m x y z first count)
of_alike l m x y z first count e = ap (λ (k : List ℕ). 1 ∷ x ∷ y ∷ z ∷ first ∷ count ∷ four k) e ∙ ap (λ (k : List ℕ). 1 ∷ x ∷ y ∷ z ∷ first ∷ count ∷ k) (all_four m)

all_ten : (p : Places) → ten (places_figures p) ≡ places_figures p
all_ten Places.NoPlace = refl
all_ten (Places.Alike m x y z first count) = ap (λ (k : List ℕ). 1 ∷ x ∷ y ∷ z ∷ first ∷ count ∷ k) (all_four m)
all_ten Places.Differ = refl

abbrev of_sound : Sound → ℕ → List ℕ → List ℕ
of_sound sound plain l = 1 ∷ sound.s ∷ sound.t ∷ sound.length ∷ sound.forty ∷ sound.ones ∷ plain ∷ l

pub of_inside : (l : List ℕ) (plain : ℕ) (sound : Sound) → l ≡ places_figures sound.places → plain ≡ as_figure sound.plain
    → of_sound sound plain (ten l) ≡ stand_figures (Stand.Inside sound)
of_inside l plain sound e f =
    ap (λ (k : List ℕ). of_sound sound plain (ten k)) e ∙ ap (of_sound sound plain) (all_ten sound.places)
    ∙ ap (λ (n : ℕ). of_sound sound n (places_figures sound.places)) f

all_seventeen : (s : Stand) → seventeen (stand_figures s) ≡ stand_figures s
all_seventeen Stand.Outside = refl
all_seventeen (Stand.Inside sound) = ap (of_sound sound (as_figure sound.plain)) (all_ten sound.places)

pub of_all : (l : List ℕ) (kind place : ℕ) (h : Hearing) → l ≡ stand_figures h.tape.ear.stand → kind ≡ last_kind h.tape.last → place ≡ last_place h.tape.last
    → h.tape.ear.history ∷ h.tape.odometer ∷ h.tape.opened ∷ h.bit ∷ kind ∷ place ∷ seventeen l ≡ figures_of h
unfolding figures_of
of_all l kind place h e f g =
    let before : ℕ → ℕ → List ℕ → List ℕ = λ (a b : ℕ) (k : List ℕ). h.tape.ear.history ∷ h.tape.odometer ∷ h.tape.opened ∷ h.bit ∷ a ∷ b ∷ k in
    ap (λ (k : List ℕ). before kind place (seventeen k)) e ∙ ap (before kind place) (all_seventeen h.tape.ear.stand)
    ∙ ap (λ (a : ℕ). before a place (stand_figures h.tape.ear.stand)) f
    ∙ ap (λ (b : ℕ). before (last_kind h.tape.last) b (stand_figures h.tape.ear.stand)) g
