-- A hearing reads back from the bytes of its figures: each figure does, and is as small as its
-- type.
-- Assumes nothing.
use Prim.Native.Nat.{ℕ, ◌+◌, ◌%◌, ◌<◌}
use mathlib.Core.Path.{◌≡◌, refl, sym, ap, ◌∙◌}
use mathlib.Core.Bool.{Bool, true, false, not}
use mathlib.Core.List.{List, [], ◌∷◌, ◌++◌}
use native.Mathlib.Omega.{arith}
use lib.Dec.{eqb}
use lib.ListN.{length, get_or}
use lib.Seq.{get_or-append-add}
use Rattle.telegram.specs.declared.Telegram.{Telegram}
use Rattle.antenna.specs.declared.Places.{Places}
use Rattle.antenna.specs.declared.Sound.{Sound}
use Rattle.antenna.specs.declared.Stand.{Stand}
use Rattle.std.specs.Prelude.{Option, Some, None}
use Rattle.state_bytes.specs.Figures.{figure_at_meant}
use Rattle.ear_bytes.specs.declared.Hearing.{Hearing}
use Rattle.ear_bytes.specs.Ears.{telegram_figures, places_figures, as_figure, stand_figures, last_kind, last_place, figures_of, telegram_in, places_in, stand_in, last_in, ear_in}
use Rattle.ear_bytes.specs.Sizes.{TelegramFits, PlacesFit, StandFits, LastFits, HearingFits}
use Rattle.ear_bytes.proofs.Read.{figures_read, number_read, none_read, alike_read, differ_read, sound_read, outside_read, inside_read, never_read, at_read, hearing_read}

-- a figure that is small is its own low bits
low8 : (n : ℕ) → n < 256 → n ≡ n % 256
low8 n small = omega arith

low16 : (n : ℕ) → n < 65536 → n ≡ n % 65536
low16 n small = omega arith

low32 : (n : ℕ) → n < 4294967296 → n ≡ n % 4294967296
low32 n small = omega arith

some : ◌≡◌ {A = ℕ} 1 0 → ⊥
some e = absurd (omega arith)

two : ◌≡◌ {A = ℕ} 2 0 → ⊥
two e = absurd (omega arith)

not_one : ◌≡◌ {A = ℕ} 2 1 → ⊥
not_one e = absurd (omega arith)

-- The figures from one on read back as those of a row.
abbrev From : List ℕ → ℕ → ℕ → List ℕ → Type 0
From b at n row = (i : ℕ) → i < n → get_or row i 0 ≡ figure_at_meant b (at + i)

module _ (b : List ℕ) where
  -- the rest of a row, after its first figures
  behind : (at n m : ℕ) (a row : List ℕ) → From b at n (a ++ row) → (i : ℕ) → i < m → (k : ℕ) → k ≡ length a → k + m ≡ n → get_or row i 0 ≡ figure_at_meant b (at + (k + i))
  behind at n m a row from i h k long all =
      sym (get_or-append-add a row i 0) ∙ ap (λ (z : ℕ). get_or (a ++ row) (z + i) 0) (sym long) ∙ from (k + i) (omega arith)

  telegram_back : (m : Telegram) → TelegramFits m → From b 19 4 (telegram_figures m) → m ≡ telegram_in b
  telegram_back (Telegram.Figures x y z) (u, v, w) at =
      figures_read b 0 x y z x y z (at 0 (omega arith)) (at 1 (omega arith)) (at 2 (omega arith)) (at 3 (omega arith)) refl (low8 x u) (low8 y v) (low8 z w)
  telegram_back (Telegram.Number n) u at = number_read b 1 n n (at 0 (omega arith)) (at 1 (omega arith)) some (low16 n u)

  places_back : (p : Places) → PlacesFit p → From b 13 10 (places_figures p) → p ≡ places_in b
  places_back Places.NoPlace fits at = none_read b 0 (at 0 (omega arith)) refl
  places_back (Places.Alike m x y z first count) (u, v, w, fits) at =
      alike_read b 1 x y z x y z first count m (at 0 (omega arith)) some refl (at 1 (omega arith)) (at 2 (omega arith)) (at 3 (omega arith))
      (telegram_back m fits rest) (low8 x u) (low8 y v) (low8 z w) (at 4 (omega arith)) (at 5 (omega arith))
    where
      rest : From b 19 4 (telegram_figures m)
      rest i h =
          let sum : 13 + (6 + i) ≡ 19 + i = omega arith in
          behind 13 10 4 (1 ∷ x ∷ y ∷ z ∷ first ∷ count ∷ []) (telegram_figures m) at i h 6 refl refl ∙ ap (figure_at_meant b) sum
  places_back Places.Differ fits at = differ_read b 2 (at 0 (omega arith)) two not_one

  plain_back : (p : Bool) → p ≡ not (eqb (as_figure p) 0)
  plain_back true = refl
  plain_back false = refl

  as_read : (sound : Sound) → sound ≡ record { s = sound.s; t = sound.t; length = sound.length; forty = sound.forty; ones = sound.ones; plain = not (eqb (as_figure sound.plain) 0); places = sound.places }
  as_read sound = ap (λ (p : Bool). record { s = sound.s; t = sound.t; length = sound.length; forty = sound.forty; ones = sound.ones; plain = p; places = sound.places }) (plain_back sound.plain)

  stand_back : (s : Stand) → StandFits s → From b 6 17 (stand_figures s) → s ≡ stand_in b
  stand_back Stand.Outside fits at = outside_read b 0 (at 0 (omega arith)) refl
  stand_back (Stand.Inside sound) (u, v, fits) at =
      inside_read b 1 sound (at 0 (omega arith)) some
      (as_read sound
      ∙ sound_read b sound.s sound.s sound.t sound.t sound.length sound.forty sound.ones (as_figure sound.plain) sound.places
      (at 1 (omega arith)) (at 2 (omega arith)) (low8 sound.s u) (low8 sound.t v) (at 3 (omega arith)) (at 4 (omega arith)) (at 5 (omega arith)) (at 6 (omega arith))
      (places_back sound.places fits rest))
    where
      rest : From b 13 10 (places_figures sound.places)
      rest i h =
          let sum : 6 + (7 + i) ≡ 13 + i = omega arith in
          behind 6 17 10 (1 ∷ sound.s ∷ sound.t ∷ sound.length ∷ sound.forty ∷ sound.ones ∷ as_figure sound.plain ∷ []) (places_figures sound.places) at i h 7 refl refl
          ∙ ap (figure_at_meant b) sum

  last_back : (l : (Option ℕ)) → LastFits l → last_kind l ≡ figure_at_meant b 4 → last_place l ≡ figure_at_meant b 5 → l ≡ last_in b
  last_back None fits e f = never_read b 0 e refl
  last_back (Some place) fits e f = at_read b 1 place place e some f (low32 place fits)

  -- where the ear stands, among all figures
  row_of_stand : (hearing : Hearing) (i : ℕ) → get_or (stand_figures hearing.tape.ear.stand) i 0 ≡ get_or (figures_of hearing) (6 + i) 0
  unfolding figures_of
  row_of_stand hearing i =
      let tape = hearing.tape in
      sym (get_or-append-add (tape.ear.history ∷ tape.odometer ∷ tape.opened ∷ hearing.bit ∷ last_kind tape.last ∷ last_place tape.last ∷ []) (stand_figures tape.ear.stand) i 0)

  pub ear_back : (hearing : Hearing) → HearingFits hearing → ((i : ℕ) → i < 23 → figure_at_meant b i ≡ get_or (figures_of hearing) i 0) → ear_in b ≡ hearing
  unfolding figures_of
  ear_back hearing (u, v, w, last_fits, stand-fits) back =
      let tape = hearing.tape in
      let rest : From b 6 17 (stand_figures tape.ear.stand) = λ i low. row_of_stand hearing i ∙ sym (back (6 + i) (omega arith)) in
      sym
      (hearing_read b tape.ear.history tape.ear.history tape.odometer tape.odometer tape.opened tape.opened hearing.bit tape.ear.stand tape.last
      (sym (back 0 (omega arith))) (sym (back 1 (omega arith))) (sym (back 2 (omega arith))) (low16 tape.ear.history u)
      (stand_back tape.ear.stand stand-fits rest) (low32 tape.odometer v) (low32 tape.opened w)
      (last_back tape.last last_fits (sym (back 4 (omega arith))) (sym (back 5 (omega arith)))) (sym (back 3 (omega arith))))
