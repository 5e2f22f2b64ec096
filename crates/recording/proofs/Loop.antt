-- The loop of going on: what is to come from where it stands is what was to come.
-- Assumes nothing.
use Prim.Native.Nat.{ℕ, ◌+◌, ◌-◌, ◌^◌, ◌≤◌, ◌<◌}
use mathlib.Core.Path.{◌≡◌, sym, ap, ◌∙◌, subst}
use mathlib.Core.Bool.{Bool, true, false}
use mathlib.Core.List.{List}
use native.Mathlib.Omega.{arith}
use Rattle.words.specs.Answer.{gives, pick}
use Rattle.words.proofs.Never.{cannot_be}
use Rattle.settings.specs.declared.Store.{Store}
use Rattle.settings.specs.declared.Held.{Held}
use Rattle.settings.specs.At.{leaves}
use Rattle.contact.specs.Says.{says_judged}
use Rattle.contact.specs.declared.Judged.{Judged}
use Rattle.antenna.specs.declared.Ear.{Ear}
use Rattle.antenna.specs.declared.Until.{Until}
use Rattle.antenna.specs.Piece.{First, opened_at, closed_at, used_up as over, first}
use Rattle.antenna.specs.Says.{says_until}
use Rattle.antenna.proofs.Within.{Within, within}
use Rattle.recorder.specs.Record.{bytes_of, blank}
use Rattle.recording.specs.declared.Tape.{Tape}
use Rattle.recording.specs.Frame.{line_of, odometer_of, accepted_after}
use Rattle.recording.specs.Kept.{record_at}
use Rattle.recording.specs.Recording.{with_odometer, hears_on, opens, closes, positioned, is_due, held_at, in_frame_meant, frames_of}
use Rattle.recording.specs.Asking.{Going, gave, first_of}
use Rattle.recording.proofs.Held.{InForce, held_on}
use Rattle.recording.proofs.Turning.{turn_opened, turn_closed, turn_due, turn_on}

pub record Stands (store : Store) (lead : List ℕ) (n : ℕ) (start : Going) (held : Held) (tape : Tape) (k i : ℕ) : Type 0 where
  pub frames : n ≡ frames_of lead
  pub few : n < 2 ^ 60
  pub told : start ≡ first_of store lead tape k i (n - k)
  pub in_force_law : InForce store held

-- In frame k: its odometer, the tape with what is in force, and the settings held.
module _ (store : Store) (lead : List ℕ) (n : ℕ) (start : Going) (old : Held) (tape : Tape) (k i : ℕ) (inv : Stands store lead n start old tape k i) (low : k < n)
    (own odometer : ℕ) (here : Tape) (held : Held) (o : own ≡ odometer_of lead k) (a : odometer ≡ accepted_after tape.odometer own) (w : here ≡ with_odometer tape odometer)
    (h : held ≡ pick (leaves old here.odometer) (held_at store here.odometer) old)
    (r : Until) (says : says_until r ≡ gives (first (line_of lead k) held.s held.t here.ear i (96 - i))) where
  now : here ≡ in_frame_meant store lead k tape
  now = cc

  pair : (held ≡ held_at store here.odometer) × InForce store held
  pair = held_on store old held here.odometer inv.in_force_law h

  is_first : (f : First) → says_until r ≡ gives f → f ≡ first (line_of lead k) held.s held.t here.ear i (96 - i)
  is_first f e = cc

  pub within_opened : (ear : Ear) (at : ℕ) → r ≡ Until.Opened ear at → (i ≤ at) × (at < 96)
  within_opened ear at e =
      let f = is_first (opened_at ear at) (ap says_until e) in
      let inside : Within i (i + (96 - i)) (opened_at ear at) = subst (λ (x : First). Within i (i + (96 - i)) x) (sym f) (within (line_of lead k) held.s held.t (96 - i) i here.ear) in
      (inside.0, omega arith)

  pub within_closed : (ear : Ear) (at len : ℕ) (judged : Judged) → r ≡ Until.Closed ear at len judged → (i ≤ at) × (at < 96)
  within_closed ear at len judged e =
      let f = is_first (closed_at ear at len (says_judged judged)) (ap says_until e) in
      let inside : Within i (i + (96 - i)) (closed_at ear at len (says_judged judged)) =
      subst (λ (x : First). Within i (i + (96 - i)) x) (sym f) (within (line_of lead k) held.s held.t (96 - i) i here.ear) in
      (inside.0, omega arith)

  pub opened : (ear : Ear) (at : ℕ) → r ≡ Until.Opened ear at → (next : Tape) → next ≡ opens here ear → Stands store lead n start held next k (at + 1)
  opened ear at e next is =
      let f = is_first (opened_at ear at) (ap says_until e) in
      let b = within_opened ear at e in
      let t = turn_opened store lead tape here held k i n low now pair.0 ear at f b.0 b.1 in
      record { frames = inv.frames; few = inv.few; told = inv.told ∙ t ∙ ap (λ (x : Tape). first_of store lead x k (at + 1) (n - k)) (sym is); in_force_law = pair.1 }

  pub closed : (ear : Ear) (at len : ℕ) (judged : Judged) → r ≡ Until.Closed ear at len judged → (next : Tape) (bytes : List ℕ)
      → next ≡ closes here ear → bytes ≡ record_at here.opened (says_judged judged) → gave next k (at + 1) bytes ≡ start
  closed ear at len judged e next bytes is kept =
      let t = turn_closed store lead tape here held k i n low now pair.0 ear at len (says_judged judged) (is_first (closed_at ear at len (says_judged judged)) (ap says_until e)) in
      let told = inv.told in
      cc

  -- The frame is over, and the tape heard it out.
  module _ (ear : Ear) (e : r ≡ Until.Over ear) (heard : Tape) (due : Bool) (out : heard ≡ hears_on here ear) (d : due ≡ is_due heard) where
    whether : is_due (hears_on here ear) ≡ due
    whether = sym (d ∙ ap is_due out)

    pub position : due ≡ true → (next : Tape) (bytes : List ℕ) → next ≡ positioned heard → bytes ≡ bytes_of heard.odometer (blank 3) → gave next (k + 1) 0 bytes ≡ start
    position is-due next bytes is kept =
        let t = turn_due store lead tape here held k i n low now pair.0 ear (is_first (over ear) (ap says_until e)) (whether ∙ is-due) in
        let told = inv.told in
        let p : positioned heard ≡ positioned (hears_on here ear) = ap positioned out in
        let q : heard.odometer ≡ here.odometer = ap (λ (x : Tape). x.odometer) out in
        let b : bytes ≡ bytes_of here.odometer (blank 3) = kept ∙ ap (λ (x : ℕ). bytes_of x (blank 3)) q in
        ap (λ (x : Tape). gave x (k + 1) 0 bytes) (is ∙ p) ∙ ap (λ (x : List ℕ). gave (positioned (hears_on here ear)) (k + 1) 0 x) b ∙ sym t ∙ sym told

    pub on : due ≡ false → Stands store lead n start held heard (k + 1) 0
    on not_due =
        let t = turn_on store lead tape here held k i n low now pair.0 ear (is_first (over ear) (ap says_until e)) (whether ∙ not_due) in
        record { frames = inv.frames; few = inv.few; told = inv.told ∙ t ∙ ap (λ (x : Tape). first_of store lead x (k + 1) 0 (n - (k + 1))) (sym out); in_force_law = pair.1 }

  pub never : r ≡ Until.Beyond → {A : Type 0} → A
  never e {A} = cannot_be cc
