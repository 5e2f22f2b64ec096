-- A byte is a word of the short code exactly if it is the word of its high four bits.
-- Assumes nothing.
use Rattle.words.proofs.Short.{listed_is}
use Rattle.words.proofs.reading.is_short.Goals as goal

pub returns : goal.returns
returns c = listed_is c.args.w c.ranges.w.fits
