-- The contract fixes the whole answer, the bytes too: any two answers that it allows are equal.
-- Assumes nothing.
use Prim.Native.Nat.{ℕ}
use mathlib.Core.Path.{◌≡◌, refl, sym, ap, ◌∙◌}
use mathlib.Core.List.{List}
use lib.Dec.{eqb}
use Rattle.std.specs.Prelude.{Result, Ok, Err}
use Rattle.words.specs.Answer.{Outcome, gives, refuses, pick}
use Rattle.recorder.specs.Says.{number_of, says_recorded}
use Rattle.recorder.specs.declared.RecordRefused.{RecordRefused}
use Rattle.recorder.proofs.record_of.Kinds as kinds
use Rattle.recorder.proofs.record_of.Reads as reads
use Rattle.words.proofs.Told.{Fixed}

-- From what an answer says, the answer.
abbrev refused_of : ℕ → RecordRefused
refused_of n =
    pick (eqb n 2) RecordRefused.TooLarge (pick (eqb n 3) RecordRefused.Fifteen (pick (eqb n 4) RecordRefused.NotSeven (pick (eqb n 5) RecordRefused.Beyond RecordRefused.TooHigh)))

refused_back : (e : RecordRefused) → refused_of (number_of e) ≡ e
refused_back RecordRefused.TooLarge = refl
refused_back RecordRefused.Fifteen = refl
refused_back RecordRefused.NotSeven = refl
refused_back RecordRefused.Beyond = refl
refused_back RecordRefused.TooHigh = refl

abbrev pub recorded_of : Outcome (List ℕ) → Result (List ℕ) RecordRefused
recorded_of (gives bytes) = Ok bytes
recorded_of (refuses n) = Err (refused_of n)

pub recorded_back : (r : Result (List ℕ) RecordRefused) → recorded_of (says_recorded r) ≡ r
recorded_back (Ok bytes) = refl
recorded_back (Err e) = ap Err (refused_back e)

pub record_of_determined : Fixed 0 kinds.ps kinds.r reads.Post
record_of_determined κs a r r' x x' p q = sym (recorded_back r) ∙ ap recorded_of (p ∙ sym q) ∙ recorded_back r'
