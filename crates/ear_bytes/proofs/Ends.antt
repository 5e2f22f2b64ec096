-- At the lead's end: what is written, and then what is left, is all; and where nothing is written
-- though there is room, nothing is left.
-- Assumes nothing.
use Prim.Native.Nat.{ℕ, zero, suc, ◌≤◌}
use mathlib.Core.Path.{◌≡◌, refl, sym, ap, ◌∙◌}
use mathlib.Core.Bool.{Bool, true, false}
use mathlib.Core.List.{List, [], ◌∷◌, ◌++◌}
use native.Mathlib.Omega.{arith}
use lib.ListN.{length, length-append}
use Rattle.words.specs.Answer.{pick}
use Rattle.recorder.specs.Record.{bytes_of, blank}
use Rattle.antenna.specs.declared.Stand.{Stand}
use Rattle.recording.specs.declared.Tape.{Tape}
use Rattle.recording.specs.Recording.{Taped, positioned, is_above, the_end_meant}
use Rattle.recording.specs.Asking.{Ending, one, none, finish_in, finish, of_ending}
use Rattle.recording.specs.Laws.{then_ended}
use Rattle.recording.proofs.Asking.{end_asked}
use Rattle.ear_bytes.specs.Hearing.{joined, Stood, at_end, after_going, some_of, room_for, end}
use Rattle.ear_bytes.specs.Laws.{AnyRoomAtEnd, NoneLeft}
use Rattle.ear_bytes.proofs.Pieces.{joined_two, wrote_so}

-- What comes at the end: a record of eight bytes, or nothing, and the tape stays.
abbrev Fits : Tape → Ending → Type 0
Fits tape (one t bytes) = length bytes ≡ 8
Fits tape (none t) = t ≡ tape

by_place : (tape : Tape) (b : Bool) → Fits tape (pick b (one (positioned tape) (bytes_of tape.odometer (blank 3))) (none tape))
by_place tape true = refl
by_place tape false = refl

by_stand : (tape : Tape) (stand : Stand) → Fits tape (finish_in stand tape)
by_stand tape (Stand.Inside sound) = refl
by_stand tape Stand.Outside = by_place tape (is_above tape.last tape.odometer)

fits : (tape : Tape) → Fits tape (finish tape)
unfolding finish
fits tape = by_stand tape tape.ear.stand

-- ---- all of it

by_ending : (m i : ℕ) (tape : Tape) (g : Ending) → Fits tape g → finish tape ≡ g
    → ((t : Tape) → (the_end_meant t).records ≡ (some_of at_end m t 0 i).records ++ (the_end_meant (some_of at_end m t 0 i).tape).records)
    → (the_end_meant tape).records ≡ (after_going (of_ending 0 i g) (some_of at_end m)).records ++ (the_end_meant (after_going (of_ending 0 i g) (some_of at_end m)).tape).records
by_ending m i tape (one t bytes) fit e on = ap (λ (x : Taped). x.records) (end_asked tape ∙ ap then_ended e) ∙ ap (λ (l : List (List ℕ)). bytes ∷ l) (on t)
by_ending m i tape (none t) fit e on = ap (λ (x : Tape). (the_end_meant x).records) (sym fit)

some_ends : (m i : ℕ) (tape : Tape) → (the_end_meant tape).records ≡ (some_of at_end m tape 0 i).records ++ (the_end_meant (some_of at_end m tape 0 i).tape).records
unfolding some_of
some_ends zero i tape = refl
some_ends (suc m) i tape = by_ending m i tape (finish tape) (fits tape) refl (λ t. some_ends m i t)

pub any_room_at_end : AnyRoomAtEnd
unfolding end
any_room_at_end hearing buffer =
    let s : Stood = some_of at_end (room_for buffer) hearing.tape 0 hearing.bit in
    let on : List (List ℕ) = (the_end_meant s.tape).records in
    ap joined (some_ends (room_for buffer) hearing.bit hearing.tape) ∙ joined_two s.records on
    ∙ ap (λ (l : List ℕ). l ++ joined on) (sym (wrote_so (joined s.records) buffer))

-- ---- none left

left_by : (m i : ℕ) (tape : Tape) (g : Ending) → Fits tape g → finish tape ≡ g → length (joined (after_going (of_ending 0 i g) (some_of at_end m)).records) ≡ 0 → (the_end_meant tape).records ≡ []
left_by m i tape (one t bytes) fit e few = absurd (omega (arith, length-append bytes (joined (some_of at_end m t 0 i).records), fit))
left_by m i tape (none t) fit e few = ap (λ (x : Taped). x.records) (end_asked tape ∙ ap then_ended e)

none_of : (n i : ℕ) (tape : Tape) → 1 ≤ n → length (joined (some_of at_end n tape 0 i).records) ≡ 0 → (the_end_meant tape).records ≡ []
unfolding some_of
none_of zero i tape some few = absurd (omega arith)
none_of (suc m) i tape some few = left_by m i tape (finish tape) (fits tape) refl few

pub none_left : NoneLeft
unfolding end
none_left hearing buffer room few = none_of (room_for buffer) hearing.bit hearing.tape (omega arith) few
