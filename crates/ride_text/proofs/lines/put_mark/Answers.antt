-- `put_mark` puts the word for each mark.
use Rattle.text.proofs.Standing.{by_case}
use Rattle.ride_text.specs.Text.{mark}
use Rattle.ride_text.proofs.lines.put_mark.Goals as goal

pub returns-in-Unmarked : goal.returns-in-Unmarked
returns-in-Unmarked c = by_case mark _ _ c.in-Unmarked.is c.put.ensures

pub returns-in-First : goal.returns-in-First
returns-in-First c = by_case mark _ _ c.in-First.is c.put-in-First.ensures

pub returns-in-Early : goal.returns-in-Early
returns-in-Early c = by_case mark _ _ c.in-Early.is c.put-in-Early.ensures

pub returns-in-Good : goal.returns-in-Good
returns-in-Good c = by_case mark _ _ c.in-Good.is c.put-in-Good.ensures

pub returns-in-Late : goal.returns-in-Late
returns-in-Late c = by_case mark _ _ c.in-Late.is c.put-in-Late.ensures
