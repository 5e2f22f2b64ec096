-- A preset point with such a target is refused; any other signal has its distance by B and C.
-- Assumes nothing.
use mathlib.Core.Path.{◌≡◌, ap, ◌∙◌}
use mathlib.Core.Bool.{true, false, ◌&&◌}
use lib.ListN.{take}
use Rattle.group.specs.Distance.{is_preset, no_increase}
use Rattle.group.specs.Judge.{y_of, z_of, B, distance_of, signal_distance}
use Rattle.group.proofs.contents.signal_distance.Goals as goal

pub returns-then-by-no_increase : goal.returns-then-by-no_increase
unfolding signal_distance
returns-then-by-no_increase c =
    let by = c.y_sought-by.ensures ∙ ap y_of c.requires.1 in
    let test : is_preset (y_of (B (take c.args.n c.args.p))) && no_increase c.args.az ≡ true = rw (← by, ← c.no_increase.ensures) c.if-by-no_increase.true in
    rw test

pub returns : goal.returns
unfolding signal_distance distance_of
returns c =
    let by = c.y_sought-by.ensures ∙ ap y_of c.requires.1 in
    let bz = c.z_sought-bz.ensures ∙ ap z_of c.requires.1 in
    let test : is_preset (y_of (B (take c.args.n c.args.p))) && no_increase c.args.az ≡ false = rw (← by, ← c.no_increase.ensures) c.if-by-no_increase.false in
    c.link_distance.ensures ∙ rw (test, by, bz, c.first_of-c.ensures)
