-- Document 01's proved cases hold: each is computed by the definitions.
-- Assumes nothing.
use mathlib.Core.Path.{ap}
use Rattle.words.specs.Bits.{word}
use Rattle.words.specs.Why.{numbered}
use Rattle.words.specs.Plain.{is_check, covers, count, even, is_code, onwards, figure, carriers, carried, made_even, plain_word}
use Rattle.words.specs.Code.{other, exchanged, sent, read_word, write_word}
use Rattle.group.specs.Distance.{distance}
use Rattle.demands.specs.Cases.{cases, AllHold}

pub cases_hold : AllHold cases
unfolding read_word write_word sent plain_word carried carriers made_even is_code even count covers figure onwards is_check exchanged other word distance
cases_hold = (
  (λ a c. c.1, λ r c. c.1),
  (
    (λ a c. c.1, λ r c. c.1),
    (
      (λ a c. c.1, λ r c. c.1),
      (
        λ r c. ap numbered c.1,
        (
          (λ a c. c.1, λ r c. c.1),
          (
            (λ a c. c.1, λ r c. c.1),
            (
              (λ a c. c.1, λ r c. c.1),
              (
                λ r c. ap numbered c.1,
                (
                  λ r c. c.1,
                  (
                    λ r c. c.1,
                    (
                      λ r c. c.1,
                      (
                        λ r c. c.1,
                        (
                          λ r c. c.1,
                          tt,
                        ),
                      ),
                    ),
                  ),
                ),
              ),
            ),
          ),
        ),
      ),
    ),
  ),
)
