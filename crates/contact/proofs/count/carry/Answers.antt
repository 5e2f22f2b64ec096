-- Digit by digit.
-- Assumes nothing.
use Rattle.contact.proofs.Adders.{carry_digit}
use Rattle.contact.proofs.count.carry.Goals as goal

pub returns : goal.returns
returns c k = carry_digit c.args.x c.args.y c.args.z k
