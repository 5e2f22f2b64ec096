-- `balise` goes by what spelling the words answers.
use mathlib.Core.Path.{sym, ap, ◌∙◌}
use Rattle.std.specs.Prelude.{Err}
use Rattle.telegram.specs.Says.{says_spelt}
use Rattle.track_text.specs.Read.{balise}
use Rattle.track_text.proofs.balise.Goals as goal

pub returns-in-Ok : goal.returns-in-Ok
returns-in-Ok c =
    ap (balise c.args.place) (sym (ap says_spelt c.in-Ok.is) ∙ c.spell.ensures)

pub returns-in-Err-TooLarge : goal.returns-in-Err-TooLarge
returns-in-Err-TooLarge c =
    let is = c.in-Err-TooLarge.is ∙ ap Err c.in-Err-TooLarge.field-0-is in
    ap (balise c.args.place) (sym (ap says_spelt is) ∙ c.spell.ensures)

pub returns-in-Err-Fifteen : goal.returns-in-Err-Fifteen
returns-in-Err-Fifteen c =
    let is = c.in-Err-Fifteen.is ∙ ap Err c.in-Err-Fifteen.field-0-is in
    ap (balise c.args.place) (sym (ap says_spelt is) ∙ c.spell.ensures)
