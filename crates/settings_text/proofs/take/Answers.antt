-- `take` goes by what the line says.
use mathlib.Core.Path.{sym, ap, ◌∙◌}
use Rattle.settings_text.specs.Taking.{stated_to, take_line}
use Rattle.settings_text.proofs.take.Goals as goal

pub returns-in-Nothing : goal.returns-in-Nothing
unfolding take_line
returns-in-Nothing c =
    let s = c.args.store in
    ap (stated_to s) (sym c.in-Nothing.is) ∙ ap (stated_to s) c.read_line-stated.ensures

pub returns-in-Version : goal.returns-in-Version
unfolding take_line
returns-in-Version c =
    let s = c.args.store in
    c.give.ensures ∙ ap (stated_to s) (sym c.in-Version.is) ∙ ap (stated_to s) c.read_line-stated.ensures

pub returns-in-Unreadable : goal.returns-in-Unreadable
unfolding take_line
returns-in-Unreadable c =
    let s = c.args.store in
    ap (stated_to s) (sym c.in-Unreadable.is) ∙ ap (stated_to s) c.read_line-stated.ensures
