-- What comes first in a frame by what the ear hears first; and one turn of going on.
-- Assumes nothing.
use Prim.Native.Nat.{ℕ, zero, suc, ◌+◌, ◌-◌, ◌≤◌, ◌<◌}
use mathlib.Core.Path.{◌≡◌, refl, sym, ap, ◌∙◌}
use mathlib.Core.Bool.{Bool, true, false}
use mathlib.Core.List.{List}
use native.Mathlib.Omega.{arith}
use lib.Dec.{ltb}
use borrow.Author.Tests.{le-ltb}
use Rattle.words.specs.Answer.{Outcome, pick}
use Rattle.telegram.specs.Stretch.{bit_at}
use Rattle.settings.specs.declared.Store.{Store}
use Rattle.settings.specs.declared.Held.{Held}
use Rattle.antenna.specs.declared.Ear.{Ear}
use Rattle.antenna.specs.Hearing.{Step, nothing, opened, closed, hear}
use Rattle.antenna.specs.Piece.{First, opened_at, closed_at, used_up as over, or_on as ear_or_on, first}
use Rattle.contact.specs.Judge.{Contact}
use Rattle.recorder.specs.Record.{bytes_of, blank}
use Rattle.recording.specs.declared.Tape.{Tape}
use Rattle.recording.specs.Frame.{line_of, odometer_of, accepted_after}
use Rattle.recording.specs.Kept.{record_at}
use Rattle.recording.specs.Recording.{with_odometer, hears_on, opens, closes, positioned, is_due, held_at, in_frame_meant, frames_of}
use Rattle.recording.specs.Asking.{InBits, recorded_at, heard_out, or_on, first_in, gave, used_up, or_next, first_of, go_on}

-- ---- in a frame

abbrev pub by_first : List ℕ → ℕ → ℕ → Tape → ℕ → First → InBits
by_first b s t tape end (opened_at ear j) = first_in b s t (opens tape ear) (j + 1) (end - (j + 1))
by_first b s t tape end (closed_at ear j length judgement) = recorded_at (closes tape ear) j (record_at tape.opened judgement)
by_first b s t tape end (over ear) = heard_out (hears_on tape ear)

module _ (b : List ℕ) (s t : ℕ) where
  same_tape : (tape : Tape) (e : Ear) (end : ℕ) (w : First) → by_first b s t (hears_on tape e) end w ≡ by_first b s t tape end w
  same_tape tape e end (opened_at ear j) = refl
  same_tape tape e end (closed_at ear j length judgement) = refl
  same_tape tape e end (over ear) = refl

  by_step : (tape : Tape) (i n : ℕ) (x : Step)
      → ((next : Tape) → first_in b s t next (i + 1) n ≡ by_first b s t next (i + 1 + n) (first b s t next.ear (i + 1) n))
      → or_on tape i x (λ next. first_in b s t next (i + 1) n) ≡ by_first b s t tape (i + suc n) (ear_or_on i x (λ e. first b s t e (i + 1) n))
  by_step tape i n (nothing e) on =
      let m : i + 1 + n ≡ i + suc n = omega arith in
      on (hears_on tape e) ∙ same_tape tape e (i + 1 + n) (first b s t e (i + 1) n) ∙ ap (λ (z : ℕ). by_first b s t tape z (first b s t e (i + 1) n)) m
  by_step tape i n (opened e) on =
      let m : n ≡ i + suc n - (i + 1) = omega arith in
      ap (λ (z : ℕ). first_in b s t (opens tape e) (i + 1) z) m
  by_step tape i n (closed e length judgement) on = refl

  pub heard_first : (n : ℕ) (tape : Tape) (i : ℕ) → first_in b s t tape i n ≡ by_first b s t tape (i + n) (first b s t tape.ear i n)
  unfolding first_in first
  heard_first zero tape i = refl
  heard_first (suc n) tape i = by_step tape i n (hear tape.ear (bit_at b i) s t) (λ next. heard_first n next (i + 1))

-- ---- the odometer in force stays

twice_by : (b : Bool) (last given : ℕ) → ltb given last ≡ b → pick (ltb given (pick b last given)) (pick b last given) given ≡ pick b last given
twice_by true last given e = rw e
twice_by false last given e = rw (le-ltb given given (omega arith))

by_high : (b : Bool) (last given : ℕ) → ltb 4000000000 given ≡ b
    → pick b (pick b last (pick (ltb given last) last given)) (pick (ltb given (pick b last (pick (ltb given last) last given))) (pick b last (pick (ltb given last) last given)) given)
    ≡ pick b last (pick (ltb given last) last given)
by_high true last given e = refl
by_high false last given e = twice_by (ltb given last) last given refl

pub twice : (last given : ℕ) → accepted_after (accepted_after last given) given ≡ accepted_after last given
unfolding accepted_after
twice last given = by_high (ltb 4000000000 given) last given refl

-- ---- one turn

module _ (store : Store) (lead : List ℕ) where
  -- A tape that is in frame k already.
  pub still : (tape next : Tape) (k : ℕ) → next.odometer ≡ (in_frame_meant store lead k tape).odometer → in_frame_meant store lead k next ≡ next
  still tape next k e =
      let o : accepted_after next.odometer (odometer_of lead k) ≡ next.odometer =
      ap (λ (z : ℕ). accepted_after z (odometer_of lead k)) e ∙ twice tape.odometer (odometer_of lead k) ∙ sym e in
      ap (λ (z : ℕ). with_odometer next z) o

  unfold_turn : (tape : Tape) (k i n : ℕ) → k < n
      → first_of store lead tape k i (n - k)
      ≡ or_next k (first_in (line_of lead k) (held_at store (in_frame_meant store lead k tape).odometer).s (held_at store (in_frame_meant store lead k tape).odometer).t (in_frame_meant store lead k tape) i (96 - i))
      (λ next. first_of store lead next (k + 1) 0 (n - (k + 1)))
  unfolding first_of
  unfold_turn tape k i n low =
      let e : n - k ≡ suc (n - (k + 1)) = omega arith in
      rw e

  -- In frame k from bit i on, the ear hears w first.
  module _ (tape here : Tape) (held : Held) (k i n : ℕ) (low : k < n) (now : here ≡ in_frame_meant store lead k tape) (pair : held ≡ held_at store here.odometer) where
    turn : (w : First) → w ≡ first (line_of lead k) held.s held.t here.ear i (96 - i)
        → first_of store lead tape k i (n - k)
        ≡ or_next k (by_first (line_of lead k) held.s held.t here (i + (96 - i)) w) (λ next. first_of store lead next (k + 1) 0 (n - (k + 1)))
    turn w e =
        let a = unfold_turn tape k i n low in
        let h = heard_first (line_of lead k) held.s held.t (96 - i) here i in
        let b : first_in (line_of lead k) (held_at store (in_frame_meant store lead k tape).odometer).s (held_at store (in_frame_meant store lead k tape).odometer).t (in_frame_meant store lead k tape) i (96 - i)
        ≡ by_first (line_of lead k) held.s held.t here (i + (96 - i)) w = cc in
        a ∙ ap (λ (x : InBits). or_next k x (λ next. first_of store lead next (k + 1) 0 (n - (k + 1)))) b

    -- A contact opens: on from the bit after it, in the same frame.
    pub turn_opened : (ear : Ear) (j : ℕ) → opened_at ear j ≡ first (line_of lead k) held.s held.t here.ear i (96 - i) → i ≤ j → j < 96
        → first_of store lead tape k i (n - k) ≡ first_of store lead (opens here ear) k (j + 1) (n - k)
    turn_opened ear j e above below =
        let o : here.odometer ≡ (in_frame_meant store lead k tape).odometer = ap (λ (x : Tape). x.odometer) now in
        let s = still tape (opens here ear) k o in
        let m : i + (96 - i) ≡ 96 = omega arith in
        let a = turn (opened_at ear j) e in
        let b = unfold_turn (opens here ear) k (j + 1) n low in
        let c : by_first (line_of lead k) held.s held.t here (i + (96 - i)) (opened_at ear j)
        ≡ first_in (line_of lead k) (held_at store (in_frame_meant store lead k (opens here ear)).odometer).s (held_at store (in_frame_meant store lead k (opens here ear)).odometer).t (in_frame_meant store lead k (opens here ear)) (j + 1) (96 - (j + 1)) = cc in
        a ∙ ap (λ (x : InBits). or_next k x (λ next. first_of store lead next (k + 1) 0 (n - (k + 1)))) c ∙ sym b

    -- A contact closes: its record.
    pub turn_closed : (ear : Ear) (j len : ℕ) (judgement : Outcome Contact) → closed_at ear j len judgement ≡ first (line_of lead k) held.s held.t here.ear i (96 - i)
        → first_of store lead tape k i (n - k) ≡ gave (closes here ear) k (j + 1) (record_at here.opened judgement)
    turn_closed ear j len judgement e = turn (closed_at ear j len judgement) e

    -- The frame is over: a position record, or on in the next frame.
    pub turn_due : (ear : Ear) → over ear ≡ first (line_of lead k) held.s held.t here.ear i (96 - i) → is_due (hears_on here ear) ≡ true
        → first_of store lead tape k i (n - k) ≡ gave (positioned (hears_on here ear)) (k + 1) 0 (bytes_of here.odometer (blank 3))
    turn_due ear e due = turn (over ear) e ∙ simp due

    pub turn_on : (ear : Ear) → over ear ≡ first (line_of lead k) held.s held.t here.ear i (96 - i) → is_due (hears_on here ear) ≡ false
        → first_of store lead tape k i (n - k) ≡ first_of store lead (hears_on here ear) (k + 1) 0 (n - (k + 1))
    turn_on ear e due = turn (over ear) e ∙ simp due

  -- No frame is left.
  pub no_frame : (tape : Tape) (k i n : ℕ) → n ≤ k → first_of store lead tape k i (n - k) ≡ used_up tape k i
  unfolding first_of
  no_frame tape k i n high =
      let e : n - k ≡ 0 = omega arith in
      rw e

  pub goes : (tape : Tape) (k i : ℕ) → go_on store lead tape k i ≡ first_of store lead tape k i (frames_of lead - k)
  unfolding go_on
  goes tape k i = refl
