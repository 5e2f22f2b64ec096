-- Each contract fixes its function's whole answer: any two answers that it allows are equal.
-- Assumes nothing.
use Prim.Native.Nat.{ℕ}
use mathlib.Core.Path.{◌≡◌, refl, sym, ap, ◌∙◌}
use mathlib.Core.List.{List}
use Rattle.words.proofs.Told.{Fixed}
use Rattle.recording.specs.declared.Tape.{Tape}
use Rattle.std.specs.Prelude.{Option, Some, None}
use Rattle.recording.specs.declared.Taken.{Taken}
use Rattle.recording.specs.declared.Ended.{Ended}
use Rattle.recording.specs.Asking.{Going, gave, used_up, Ending, one, none}
use Rattle.recording.specs.Says.{says_came, says_taken, end_came, says_ended}
use Rattle.recording.proofs.fresh.Kinds as fresh_kinds
use Rattle.recording.proofs.fresh.Reads as fresh_reads
use Rattle.recording.proofs.go_on.Kinds as go_kinds
use Rattle.recording.proofs.go_on.Reads as go_reads
use Rattle.recording.proofs.end.Kinds as end_kinds
use Rattle.recording.proofs.end.Reads as end_reads

-- From what an answer says, the answer.
abbrev taken_of : Going → Taken
taken_of (gave tape frame bit r) = record { tape = tape; frame = frame; bit = bit; came = Some r }
taken_of (used_up tape frame bit) = record { tape = tape; frame = frame; bit = bit; came = None }

came_back : (came : Option (List ℕ)) (tape : Tape) (frame bit : ℕ) → taken_of (says_came came tape frame bit) ≡ record { tape = tape; frame = frame; bit = bit; came = came }
came_back (Some bytes) tape frame bit = refl
came_back None tape frame bit = refl

taken_back : (r : Taken) → taken_of (says_taken r) ≡ r
taken_back r = came_back r.came r.tape r.frame r.bit

abbrev ended_of : Ending → Ended
ended_of (one tape r) = record { tape = tape; came = Some r }
ended_of (none tape) = record { tape = tape; came = None }

end_back : (came : Option (List ℕ)) (tape : Tape) → ended_of (end_came came tape) ≡ record { tape = tape; came = came }
end_back (Some bytes) tape = refl
end_back None tape = refl

ended_back : (r : Ended) → ended_of (says_ended r) ≡ r
ended_back r = end_back r.came r.tape

pub fresh_determined : Fixed 0 fresh_kinds.ps fresh_kinds.r fresh_reads.Post
fresh_determined κs a r r' x x' p q = p ∙ sym q

pub go_on_determined : Fixed 1 go_kinds.ps go_kinds.r go_reads.Post
go_on_determined κs a r r' x x' p q = sym (taken_back r) ∙ ap taken_of (p ∙ sym q) ∙ taken_back r'

pub end_determined : Fixed 0 end_kinds.ps end_kinds.r end_reads.Post
end_determined κs a r r' x x' p q = sym (ended_back r) ∙ ap ended_of (p ∙ sym q) ∙ ended_back r'
