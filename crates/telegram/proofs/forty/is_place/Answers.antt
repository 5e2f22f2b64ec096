-- Where the outer bytes are no sync pair there is no place; where they are, the three words decide.
-- Assumes nothing.
use mathlib.Core.Path.{ap, ap₂, sym, ◌∙◌}
use mathlib.Core.Bool.{Bool, ◌&&◌}
use borrow.Author.Tests.{not-true, not-false}
use Rattle.telegram.specs.Place.{accepted}
use Rattle.telegram.proofs.Window.{inner}
use Rattle.telegram.proofs.Words.{read_accepted}
use Rattle.telegram.proofs.forty.is_place.Goals as goal

pub returns-then-not-outer_are_syncs : goal.returns-then-not-outer_are_syncs
returns-then-not-outer_are_syncs c =
    let o = c.outer_are_syncs in
    ap (λ (x : Bool). x && accepted (inner c.args.v)) (sym (not-true o.result c.if-not-outer_are_syncs.true-raw) ∙ o.ensures)

pub returns : goal.returns
returns c =
    let o = c.outer_are_syncs in
    c.is_ok.ensures.value ∙ read_accepted c.words_of.result
    ∙ ap₂ (λ (x y : Bool). x && y) (sym (not-false o.result c.if-not-outer_are_syncs.false-raw) ∙ o.ensures)
    (ap accepted c.words_of.ensures)
