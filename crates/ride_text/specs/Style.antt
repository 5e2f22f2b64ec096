-- How lines are written: as document 01 has them, or each fault line with its reason after a colon
-- (request M-103).
-- Assumes nothing.
use Rattle.std.specs.Prelude.{Bool, true, false}

-- Whether with reasons.
abbrev pub Style : Type 0
Style = Bool

abbrev pub plain : Style
plain = false

abbrev pub with_reasons : Style
with_reasons = true
