-- By how many lines there are; two lines put one after the other are one text put.
-- Assumes nothing.
use mathlib.Core.Path.{sym, ap, ◌∙◌}
use Rattle.text.specs.Put.{Put}
use Rattle.ride.specs.declared.Lines.{Lines}
use Rattle.ride.specs.Says.{says_lines}
use Rattle.acceptance_text.specs.Taking.{started, take_all}
use Rattle.acceptance_text.specs.Inside.{writes}
use Rattle.acceptance_text.proofs.Takings.{put_nothing, one_then_one, room_for_one}
use Rattle.acceptance_text.proofs.taking.take_lines.Goals as goal

pub take_line-requires-in-Two : goal.take_line-requires-in-Two
take_line-requires-in-Two c =
    room_for_one c.args.run c.args.troubles _ _ c.args.buf.now _ c.args.at c.requires c.take_line-first.ensures

pub returns-in-None : goal.returns-in-None
unfolding take_all
returns-in-None c =
    let a = c.args in
    ap (λ (p : Put). record { run = a.run; troubles = a.troubles; text = p }) (put_nothing a.buf.now a.at)
    ∙ sym (ap (λ (ls : Lines). writes (take_all (started a.run a.troubles) (says_lines ls)) a.buf.now a.at) c.in-None.is)

pub returns-in-One : goal.returns-in-One
returns-in-One c =
    let a = c.args in
    c.take_line.ensures
    ∙ sym (ap (λ (ls : Lines). writes (take_all (started a.run a.troubles) (says_lines ls)) a.buf.now a.at) c.in-One.is)

pub returns-in-Two : goal.returns-in-Two
returns-in-Two c =
    let a = c.args in
    one_then_one a.run a.troubles c.in-Two.one c.in-Two.two _ _ a.buf.now _ _ a.at c.requires c.take_line-first.ensures c.take_line-in-Two.ensures
    ∙ sym (ap (λ (ls : Lines). writes (take_all (started a.run a.troubles) (says_lines ls)) a.buf.now a.at) c.in-Two.is)
