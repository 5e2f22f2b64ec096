-- Less does not always do.
-- Assumes nothing.
use mathlib.Core.Path.{◌∙◌}
use native.Mathlib.Omega.{arith}
use Rattle.contact_laws.specs.Limits.{LessDoesNot}
use Rattle.contact_laws.proofs.Over.{listened}
use Rattle.contact_laws.proofs.Refused.{short, short_fair, short_answered, zeroes_ahead, zeroes_ahead_answered}
use Rattle.contact_laws.proofs.Eleven.{line, part, two_in_a_row, one_for_both, line_taken}

pub less_does_not : LessDoesNot
less_does_not =
    record {
      one_bit_less = (short, omega arith, short_fair, short_answered);
      one_less_between = (
        line,
        11,
        0,
        384,
        part 16 61,
        part 194 31,
        omega arith,
        line_taken,
        two_in_a_row,
        λ w l. (28, 340, record { next = 369; left = 15; history = 40191 }, listened line 0 384 w l ∙ one_for_both),
      );
      false_place = (zeroes_ahead, omega arith, zeroes_ahead_answered);
    }
