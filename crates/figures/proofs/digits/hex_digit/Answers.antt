-- `hex_digit` goes by the kind of character.
use native.Mathlib.Omega.{arith}
use Rattle.figures.proofs.Characters.{decimal_digit, small_letter, large_letter, below_digits, below_large, below_small, above_small}
use Rattle.figures.proofs.digits.hex_digit.Goals as goal

pub returns-in-48-to-57 : goal.returns-in-48-to-57
returns-in-48-to-57 c = decimal_digit c.args.c (omega arith) (omega arith)

pub returns-in-65-to-70 : goal.returns-in-65-to-70
returns-in-65-to-70 c = large_letter c.args.c (omega arith) (omega arith)

pub returns-in-97-to-102 : goal.returns-in-97-to-102
returns-in-97-to-102 c = small_letter c.args.c (omega arith) (omega arith)

pub returns-in_default : goal.returns-in_default
returns-in_default c = below_digits c.args.c (omega arith)

pub returns-in_default-2 : goal.returns-in_default-2
returns-in_default-2 c = below_large c.args.c (omega arith) (omega arith)

pub returns-in_default-3 : goal.returns-in_default-3
returns-in_default-3 c = below_small c.args.c (omega arith) (omega arith)

pub returns-in_default-4 : goal.returns-in_default-4
returns-in_default-4 c = above_small c.args.c (omega arith)
