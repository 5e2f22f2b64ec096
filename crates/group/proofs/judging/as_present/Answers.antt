-- What the group says decides whether it is accepted.
-- Assumes nothing.
use mathlib.Core.Path.{◌≡◌, sym, ap, ◌∙◌}
use lib.ListN.{take}
use Rattle.std.proofs.lemmas.Result.{err_from_is_err_and}
use Rattle.words.specs.Answer.{gives, refuses}
use Rattle.group_rows.specs.Row.{Y, Z}
use Rattle.group.specs.declared.Number.{Number}
use Rattle.group.specs.Judge.{content_of, message_of}
use Rattle.group.proofs.judging.as_present.Goals as goal

pub returns-in_err-more : goal.returns-in_err-more
returns-in_err-more c =
    let row = c.args.row in
    let p = err_from_is_err_and c.from_residual.result c.from_residual.ensures.1 in
    let e : content_of row.kind row.speed (Y row.a.part) (Z row.a.part) (take c.args.n c.args.p) ≡ refuses 15 =
    rw (← c.y_of.ensures, ← c.z_of.ensures) (sym c.in_err-more.ensures) in
    rw (p.1, p.2, e)

pub returns : goal.returns
returns c =
    let row = c.args.row in
    let e : content_of row.kind row.speed (Y row.a.part) (Z row.a.part) (take c.args.n c.args.p) ≡ gives c.in_ok-more.more =
    rw (← c.y_of.ensures, ← c.z_of.ensures) (sym c.in_ok-more.ensures) in
    rw e (ap gives (c.message.ensures ∙ ap (λ (n : Number). message_of row n c.in_ok-more.more) c.requires.1))
