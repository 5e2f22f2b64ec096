-- One bit of the line: what it hands out is what the tape records, and an open contact opened in
-- the frame of its first bit.
-- Assumes nothing.
use Prim.Native.Nat.{ℕ, ◌+◌, ◌-◌, ◌/◌, ◌≤◌, ◌<◌}
use mathlib.Core.Path.{◌≡◌, refl, sym, ap, ◌∙◌}
use mathlib.Core.Bool.{Bool, true, false}
use mathlib.Core.List.{List, [], ◌∷◌}
use native.Mathlib.Omega.{arith}
use Rattle.words.specs.Answer.{Outcome, pick}
use Rattle.words.specs.Limits.{largest64}
use Rattle.contact.specs.History.{after as shifted, opens as opens_now, closes as closes_now}
use Rattle.contact.specs.Judge.{Contact}
use Rattle.antenna.specs.declared.Sound.{Sound}
use Rattle.antenna.specs.declared.Stand.{Stand}
use Rattle.antenna.specs.Sound.{begun, with_bit, judged}
use Rattle.antenna.specs.Hearing.{Step, nothing, opened, closed, hear, standing}
use Rattle.antenna.specs.Line.{told, placed, ear_after_meant, hands_out}
use Rattle.recording.specs.declared.Tape.{Tape}
use Rattle.recording.specs.Kept.{record_at}
use Rattle.recording.specs.Recording.{after_step}
use Rattle.recording.specs.Contacts.{in_force, records_for, without_positions}
use Rattle.antenna.proofs.Ends.{begun_one, longer}
use Rattle.recording.proofs.NoPosition.{no_records, no_position, not_where}

module _ (lead : List ℕ) where
  -- At bit g: an open contact opened in the frame of its first bit.
  abbrev pub OpenedIn : Stand → ℕ → ℕ → Type 0
  OpenedIn Stand.Outside odometer g = Unit
  OpenedIn (Stand.Inside sound) odometer g = (sound.length ≤ g) × (odometer ≡ in_force lead ((g - sound.length) / 96))

  pub record AfterBit (tape : Tape) (g : ℕ) (x : Step) : Type 0 where
    pub records : without_positions (after_step tape x).records ≡ records_for lead (hands_out g x)
    pub ear : (after_step tape x).tape.ear ≡ ear_after_meant x
    pub odometer : (after_step tape x).tape.odometer ≡ tape.odometer
    pub opened_in : OpenedIn (after_step tape x).tape.ear.stand (after_step tape x).tape.opened (g + 1)

  from_outside : (tape : Tape) (g now bit s t : ℕ) (b : Bool) → tape.odometer ≡ in_force lead (g / 96)
      → AfterBit tape g (pick b (opened (record { history = now; stand = Stand.Inside (with_bit (begun s t) bit) })) (nothing (record { history = now; stand = Stand.Outside })))
  unfolding without_positions records_for
  from_outside tape g now bit s t true o =
      let e = begun_one s t bit in
      let f : g + 1 - (with_bit (begun s t) bit).length ≡ g = omega arith in
      record { records = refl; ear = refl; odometer = refl; opened_in = (omega arith, o ∙ ap (λ (z : ℕ). in_force lead (z / 96)) (sym f)) }
  from_outside tape g now bit s t false o = record { records = refl; ear = refl; odometer = refl; opened_in = tt }

  closes_one : (at start len : ℕ) (o : Outcome Contact) → at ≡ in_force lead (start / 96)
      → without_positions (record_at at o ∷ []) ≡ records_for lead (told start len (placed start o) ∷ [])
  unfolding without_positions records_for
  closes_one at start len o e =
      let n = no_position at o in
      rw n (ap (λ (r : List ℕ). r ∷ []) (ap (λ (z : ℕ). record_at z o) e ∙ sym (not_where (in_force lead (start / 96)) start o)))

  from_inside : (tape : Tape) (sound : Sound) (g now bit : ℕ) (b : Bool) → g < largest64 → OpenedIn (Stand.Inside sound) tape.opened g
      → AfterBit tape g (pick b (closed (record { history = now; stand = Stand.Outside }) sound.length (judged sound)) (nothing (record { history = now; stand = Stand.Inside (with_bit sound bit) })))
  from_inside tape sound g now bit true fits (low, at) =
      record { records = closes_one tape.opened (g - sound.length) sound.length (judged sound) at; ear = refl; odometer = refl; opened_in = tt }
  from_inside tape sound g now bit false fits (low, at) =
      let small : sound.length < largest64 = omega arith in
      let e = longer sound bit small in
      let f : g + 1 - (with_bit sound bit).length ≡ g - sound.length = omega arith in
      record { records = no_records lead; ear = refl; odometer = refl; opened_in = (omega arith, at ∙ ap (λ (z : ℕ). in_force lead (z / 96)) (sym f)) }

  by_stand : (tape : Tape) (stand : Stand) (g now bit s t : ℕ) → g < largest64 → tape.odometer ≡ in_force lead (g / 96) → OpenedIn stand tape.opened g → AfterBit tape g (standing stand now bit s t)
  by_stand tape Stand.Outside g now bit s t fits o h = from_outside tape g now bit s t (opens_now now) o
  by_stand tape (Stand.Inside sound) g now bit s t fits o h = from_inside tape sound g now bit (closes_now now) fits h

  pub after_bit : (tape : Tape) (g bit s t : ℕ) → g < largest64 → tape.odometer ≡ in_force lead (g / 96) → OpenedIn tape.ear.stand tape.opened g → AfterBit tape g (hear tape.ear bit s t)
  unfolding hear
  after_bit tape g bit s t fits o h = by_stand tape tape.ear.stand g (shifted tape.ear.history bit) bit s t fits o h
