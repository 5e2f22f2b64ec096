-- At the end, by itself and asked as frames are.
-- Assumes nothing.
use Prim.Native.Nat.{ℕ}
use mathlib.Core.Path.{◌≡◌, refl, sym, ap, ap₂, ◌∙◌}
use mathlib.Core.Bool.{true}
use mathlib.Core.List.{List}
use Rattle.antenna.specs.declared.Sound.{Sound}
use Rattle.antenna.specs.declared.Stand.{Stand}
use Rattle.recorder.specs.Record.{bytes_of, blank}
use Rattle.recording.specs.declared.Tape.{Tape}
use Rattle.std.specs.Prelude.{Option, Some, None}
use Rattle.recording.specs.declared.Ended.{Ended}
use Rattle.recording.specs.Recording.{positioned, cut, is_above}
use Rattle.recording.specs.Asking.{Ending, one, finish_in, finish, of_ending}
use Rattle.recording.specs.Says.{says_came, says_taken, end_came, says_ended}

-- Outside a contact and above the last record: a position record.
pub last_one : (tape next : Tape) (bytes : List ℕ) → tape.ear.stand ≡ Stand.Outside → is_above tape.last tape.odometer ≡ true → next ≡ positioned tape
    → bytes ≡ bytes_of tape.odometer (blank 3) → one next bytes ≡ finish tape
unfolding finish
last_one tape next bytes outside above e b = simp (e, b, outside, above)

-- Inside a contact: the record of what is cut.
pub cut_one : (tape next : Tape) (bytes : List ℕ) (sound : Sound) → tape.ear.stand ≡ Stand.Inside sound → next ≡ cut tape
    → bytes ≡ bytes_of tape.opened (blank 2) → one next bytes ≡ finish tape
unfolding finish
cut_one tape next bytes sound inside e b = ap₂ one e b ∙ ap (λ (stand : Stand). finish_in stand tape) (sym inside)

-- ---- asked as frames are

came_ended : (c : Option (List ℕ)) (k i : ℕ) (tape : Tape) → says_came c tape k i ≡ of_ending k i (end_came c tape)
came_ended (Some bytes) k i tape = refl
came_ended None k i tape = refl

-- What the end answers, with the frame and the bit beside it.
pub ended_is : (k i : ℕ) (w : Ended) (e : Ending) → says_ended w ≡ e
    → says_taken (record { tape = w.tape; frame = k; bit = i; came = w.came }) ≡ of_ending k i e
ended_is k i w e says = came_ended w.came k i w.tape ∙ ap (of_ending k i) says
