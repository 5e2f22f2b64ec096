-- What going on comes to: a record of eight bytes, never beyond the frames, or the end of the last
-- of them.
-- Assumes nothing.
use Prim.Native.Nat.{ℕ, zero, suc, ◌+◌, ◌-◌, ◌*◌, ◌≤◌, ◌<◌}
use mathlib.Core.Path.{◌≡◌, refl}
use mathlib.Core.Bool.{Bool, true, false}
use mathlib.Core.List.{List}
use native.Mathlib.Omega.{arith}
use lib.ListN.{length}
use Rattle.words.specs.Answer.{pick}
use Rattle.telegram.specs.Stretch.{bit_at}
use Rattle.settings.specs.declared.Store.{Store}
use Rattle.antenna.specs.Hearing.{Step, nothing, opened, closed}
use Rattle.antenna.specs.Hearing as antenna
use Rattle.recorder.specs.Record.{bytes_of, blank}
use Rattle.recording.specs.declared.Tape.{Tape}
use Rattle.recording.specs.Frame.{line_of}
use Rattle.recording.specs.Recording.{hears_on, opens, positioned, is_due, held_at, in_frame_meant, frames_of}
use Rattle.recording.specs.Asking.{InBits, recorded_at, heard_out, or_on, first_in, Going, gave, used_up, or_next, first_of, go_on}
use Rattle.recording.proofs.Eights.{record_eight}
use Rattle.ear_bytes.specs.declared.Hearing.{Hearing}
use Rattle.ear_bytes.specs.Hearing.{after_going, some_of, room_for, hear}

-- In a frame: a record of eight bytes, or its end.
abbrev EightIn : InBits → Type 0
EightIn (recorded_at tape i bytes) = length bytes ≡ 8
EightIn (heard_out tape) = Unit {0}

module _ (b : List ℕ) (s t : ℕ) where
  by_step : (tape : Tape) (i n : ℕ) (x : Step) → ((next : Tape) → EightIn (first_in b s t next (i + 1) n)) → EightIn (or_on tape i x (λ next. first_in b s t next (i + 1) n))
  by_step tape i n (nothing ear) on = on (hears_on tape ear)
  by_step tape i n (opened ear) on = on (opens tape ear)
  by_step tape i n (closed ear long judgement) on = record_eight tape.opened judgement

  in_frame : (n : ℕ) (tape : Tape) (i : ℕ) → EightIn (first_in b s t tape i n)
  unfolding first_in
  in_frame zero tape i = tt
  in_frame (suc n) tape i = by_step tape i n (antenna.hear tape.ear (bit_at b i) s t) (λ next. in_frame n next (i + 1))

-- Of n frames.
abbrev pub Within : ℕ → Going → Type 0
Within n (gave tape k i bytes) = (k ≤ n) × (length bytes ≡ 8)
Within n (used_up tape k i) = k ≡ n

module _ (store : Store) (lead : List ℕ) (n : ℕ) where
  due_or_on : (tape : Tape) (k m : ℕ) (b : Bool) → k < n → Within n (first_of store lead tape (k + 1) 0 m)
      → Within n (pick b (gave (positioned tape) (k + 1) 0 (bytes_of tape.odometer (blank 3))) (first_of store lead tape (k + 1) 0 m))
  due_or_on tape k m true low on = (omega arith, refl)
  due_or_on tape k m false low on = on

  by_bits : (k m : ℕ) (w : InBits) → EightIn w → k < n → ((t : Tape) → Within n (first_of store lead t (k + 1) 0 m))
      → Within n (or_next k w (λ next. first_of store lead next (k + 1) 0 m))
  by_bits k m (recorded_at t j bytes) e low on = (omega arith, e)
  by_bits k m (heard_out t) e low on = due_or_on t k m (is_due t) low (on t)

  stays : (m : ℕ) (tape : Tape) (k i : ℕ) → k + m ≡ n → Within n (first_of store lead tape k i m)
  unfolding first_of
  stays zero tape k i all = omega arith
  stays (suc m) tape k i all =
      let here = in_frame_meant store lead k tape in
      let held = held_at store here.odometer in
      by_bits k m (first_in (line_of lead k) held.s held.t here i (96 - i)) (in_frame (line_of lead k) held.s held.t (96 - i) here i) (omega arith) (λ t. stays m t (k + 1) 0 (omega arith))

module _ (store : Store) (lead : List ℕ) where
  -- From a place of the lead on.
  pub goes_to : (tape : Tape) (k i : ℕ) → k ≤ frames_of lead → Within (frames_of lead) (go_on store lead tape k i)
  unfolding go_on
  goes_to tape k i low = stays store lead (frames_of lead) (frames_of lead - k) tape k i (omega arith)

  after_it : (m : ℕ) (g : Going) → Within (frames_of lead) g → ((t : Tape) (k i : ℕ) → k ≤ frames_of lead → (some_of (go_on store lead) m t k i).frame ≤ frames_of lead)
      → (after_going g (some_of (go_on store lead) m)).frame ≤ frames_of lead
  after_it m (gave t k i bytes) p on = on t k i p.0
  after_it m (used_up t k i) p on = omega arith

  pub stands_at : (m : ℕ) (tape : Tape) (k i : ℕ) → k ≤ frames_of lead → (some_of (go_on store lead) m tape k i).frame ≤ frames_of lead
  unfolding some_of
  stands_at zero tape k i p = p
  stands_at (suc m) tape k i p = after_it m (go_on store lead tape k i) (goes_to tape k i p) (λ t k' i' q. stands_at m t k' i' q)

-- No more bytes of the lead are used than there are.
pub used_bytes : (hearing : Hearing) (store : Store) (lead buffer : List ℕ) → 16 * (hear hearing store lead buffer).wrote.frames ≤ length lead
unfolding hear
used_bytes hearing store lead buffer =
    let p = stands_at store lead (room_for buffer) hearing.tape 0 hearing.bit (omega arith) in omega arith
