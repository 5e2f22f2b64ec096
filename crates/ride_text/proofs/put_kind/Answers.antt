-- By the kind.
use Rattle.text.proofs.Standing.{by_case}
use Rattle.ride_text.specs.Text.{kind_word}
use Rattle.ride_text.proofs.put_kind.Goals as goal

pub returns-in-Signal : goal.returns-in-Signal
returns-in-Signal c = by_case kind_word _ _ c.in-Signal.is c.put.ensures

pub returns-in-Warning : goal.returns-in-Warning
returns-in-Warning c = by_case kind_word _ _ c.in-Warning.is c.put-in-Warning.ensures

pub returns-in-Annulled : goal.returns-in-Annulled
returns-in-Annulled c = by_case kind_word _ _ c.in-Annulled.is c.put-in-Annulled.ensures

pub returns-in-Line : goal.returns-in-Line
returns-in-Line c = by_case kind_word _ _ c.in-Line.is c.put-in-Line.ensures

pub returns-in-Route : goal.returns-in-Route
returns-in-Route c = by_case kind_word _ _ c.in-Route.is c.put-in-Route.ensures
