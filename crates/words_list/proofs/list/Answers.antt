-- `list` meets its contract: the table passes the test at each of its 2,048 entries, which is
-- computed.
use mathlib.Core.Path.{refl}
use Rattle.words.specs.Bits.{word}
use Rattle.words.specs.Plain.{is_check, covers, count, carriers, carried, made_even, plain_word}
use Rattle.words.specs.Code.{other, exchanged, sent}
use Rattle.words_list.proofs.Entries.{the_list}
use Rattle.words_list.proofs.list.Goals as goal

pub returns : goal.returns
unfolding sent exchanged other word plain_word carried carriers is_check made_even count covers
returns c = the_list _ tt refl
