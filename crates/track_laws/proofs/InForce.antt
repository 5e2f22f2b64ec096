-- No frame of a track's lead is refused: the odometer in force is its own, and so is that of a
-- record.
-- Assumes nothing.
use Prim.Native.Nat.{ℕ, zero, suc, ◌+◌, ◌-◌, ◌*◌, ◌/◌, ◌≤◌, ◌<◌}
use mathlib.Core.Path.{◌≡◌, sym, ap, ap₂, ◌∙◌}
use mathlib.Core.List.{List}
use native.Mathlib.Omega.{arith}
use native.Mathlib.Nat.{le-div_iff_mul-le, div-mul-le_self, mul-add-div, add-zero, zero-div}
use borrow.Author.Tests.{le-ltb}
use Rattle.settings.specs.declared.Store.{Store}
use Rattle.contact.specs.Judge.{judge}
use Rattle.antenna.specs.Line.{told}
use Rattle.recording.specs.Frame.{accepted_after}
use Rattle.recording.specs.Kept.{record_at}
use Rattle.recording.specs.Recording.{held_at}
use Rattle.recording.specs.Contacts.{before, in_force, s_in, t_in, record_for}
use Rattle.recording.specs.Document.{whole_line}
use Rattle.track_lead.specs.Way.{highest}
use Rattle.track_lead.specs.Lead.{Item, first_frame, odometer_at, frames_at}
use Rattle.track_laws.specs.WholeWay.{Throughout}
use Rattle.track_laws.proofs.Frames.{the_odometer}

accepted : (last given : ℕ) → last ≤ given → given ≤ 4000000000 → accepted_after last given ≡ given
unfolding accepted_after
accepted last given on low = simp (le-ltb _ _ low, le-ltb _ _ on)

module _ (n s t begin : ℕ) (items : List Item) (some : 0 < n) (m : ℕ) (low : (k : ℕ) → k < m → odometer_at n begin k ≤ highest) where
  abbrev lead : List ℕ
  lead = frames_at n s t begin items 0 m

  pub in_force_law : (k : ℕ) → k < m → in_force lead k ≡ odometer_at n begin k
  unfolding before
  in_force_law zero less =
      let here = low 0 less in
      ap (accepted_after 0) (the_odometer n s t begin items m 0 less (omega (arith, here))) ∙ accepted 0 (odometer_at n begin 0) (omega arith) here
  in_force_law (suc k) less =
      let here = low (suc k) less in
      let rises : k / n ≤ suc k / n = (le-div_iff_mul-le some).1 (omega (arith, div-mul-le_self k n)) in
      ap₂ accepted_after (in_force_law k (omega arith)) (the_odometer n s t begin items m (suc k) less (omega (arith, here)))
      ∙ accepted (odometer_at n begin k) (odometer_at n begin (suc k)) (omega (arith, rises)) here

  -- The record of a contact that begins in the first frame of a place.
  pub kept_there : (store : Store) → Throughout store s t → (place skipped len : ℕ) (bytes : List ℕ) → begin ≤ place → first_frame n begin place < m → skipped < 96
      → record_at place (judge (whole_line lead) (96 * first_frame n begin place + skipped) len s t) ≡ bytes
      → let start = 96 * first_frame n begin place + skipped in
      record_for lead (told start len (judge (whole_line lead) start len (s_in store lead start) (t_in store lead start))) ≡ bytes
  kept_there store held place skipped len bytes after-begin inside_it first is =
      let f = first_frame n begin place in
      let start = 96 * f + skipped in
      let e : start / 96 ≡ f = omega arith in
      let whole : f / n ≡ place - begin =
      ap (λ (x : ℕ). x / n) (sym (add-zero f)) ∙ mul-add-div some (place - begin) 0 ∙ none_over in
      let there : in_force lead (start / 96) ≡ place =
      ap (in_force lead) e ∙ in_force_law f inside_it ∙ ap (λ (x : ℕ). begin + x) whole ∙ omega arith in
      let high : place ≤ highest = omega (arith, low f inside_it, whole) in
      let now = held place high in
      ap₂ (λ (x y : ℕ). record_at (in_force lead (start / 96)) (judge (whole_line lead) start len x y)) (ap (λ (x : ℕ). (held_at store x).s) there ∙ now.0) (ap (λ (x : ℕ). (held_at store x).t) there ∙ now.1)
      ∙ ap (λ (x : ℕ). record_at x (judge (whole_line lead) start len s t)) there ∙ is
    where
      none_over : place - begin + 0 / n ≡ place - begin
      none_over = ap (λ (x : ℕ). place - begin + x) (zero-div n) ∙ add-zero (place - begin)
