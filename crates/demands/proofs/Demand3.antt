-- Demand 3 holds.
-- Assumes nothing.
pub mod Handed
pub mod Together
pub mod JudgedAlike
pub mod Clean
pub mod Noise
pub mod Needed
use Rattle.words.specs.Says.{says_read}
use Rattle.balise_line.specs.Line.{OneBalise, Proper}
use Rattle.demands.specs.ByContract.{ReadShort, ReadLong}
use Rattle.demands.specs.Demand3.{OnlyTheSent, Demand3}
use Rattle.words.proofs.Widths.{short, long}
use Rattle.demands.proofs.Demand3.Noise.{noise_law}
use Rattle.balise_line.proofs.Sent.{AllSent}
use Rattle.balise_line.proofs.TooFew.{few_flips_few}
use Rattle.balise_line.proofs.Stretch.{all_sent_law}
use Rattle.balise_line.proofs.Unflipped.{unflipped_among}
use Rattle.demands.proofs.Demand3.Handed.{asking_ends, every_sent, all_places_sent, unflipped_comes}
use Rattle.demands.proofs.Demand3.Together.{survey_sent}
use Rattle.demands.proofs.Demand3.JudgedAlike.{judge_sent, under_sent}
use Rattle.demands.proofs.Demand3.Clean.{comes_all_sent}

-- Where every place has the words sent, only the sent is handed out. This is all that is asked of a
-- hypothesis on the flips.
pub only_the_sent : (o : OneBalise) → Proper o → AllSent o → OnlyTheSent o
only_the_sent o proper every-place =
    record {
      every = every_sent o proper every-place;
      unflipped = unflipped_comes o proper;
      all_places = all_places_sent o proper every-place;
      unflipped_places = unflipped_among o proper;
      judge = judge_sent o proper every-place;
      survey = survey_sent o proper every-place;
      judge_under_law = under_sent o proper every-place;
    }

pub demand_3 : Demand3
demand_3 =
    record {
      short_code = noise_law short says_read ReadShort (λ w r called. called.1);
      long_code = noise_law long says_read ReadLong (λ w r called. called.1);
      stretch = λ o proper quiet. only_the_sent o proper (all_sent_law o proper (few_flips_few o quiet));
      ends = asking_ends;
      clean = λ o proper clean. comes_all_sent o clean proper;
    }
