-- What the functions inside this crate say of lines that are taken. No caller reads it; contracts
-- can cite only what stands here.
-- Assumes nothing.
use Rattle.std.specs.Prelude.{ℕ, Bool, true, false, List, [], ◌∷◌}
use Rattle.words.specs.Answer.{Outcome, gives, refuses}
use Rattle.text.specs.Put.{Put, put, came}
use Rattle.ride.specs.declared.Line.{Line}
use Rattle.acceptance.specs.declared.Acceptance.{Acceptance}
use Rattle.acceptance_text.specs.declared.taking.Troubles.{Troubles}
use Rattle.acceptance_text.specs.declared.taking.Written.{Written}
use Rattle.acceptance_text.specs.Taking.{Taking}

-- A run, what went wrong, and what putting the text came to.
pub record Writing : Type 0 where
  pub run : Acceptance
  pub troubles : Troubles
  pub text : Put

-- What was taken, its text put into a buffer from a place on.
abbrev pub writes : Taking → List ℕ → ℕ → Writing
writes t buffer at = record { run = t.run; troubles = t.troubles; text = put t.text buffer at }

-- An answer and the buffer together.
abbrev pub written : Written → List ℕ → Writing
written w buffer = record { run = w.run; troubles = w.troubles; text = came w.next buffer }

-- Whether a record changes nothing of the run: it was accepted, and gave no line.
abbrev pub is_quiet : Outcome (List Line) → Bool
is_quiet (gives []) = true
is_quiet (gives (l ∷ ls)) = false
is_quiet (refuses n) = false
