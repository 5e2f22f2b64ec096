-- `in_force` goes from version to version: what is in force among those from here on is in force
-- among all.
use mathlib.Core.Path.{sym, ◌∙◌}
use borrow.Author.Tests.{le-leb, lt-leb}
use Rattle.settings.specs.Store.{versions_of}
use Rattle.settings.specs.At.{held_at}
use Rattle.settings.proofs.Walking.{held_next, held_here, held_last, held_first}
use Rattle.settings.proofs.places.in_force.Goals as goal

pub loop-i-init : goal.loop-i-init
loop-i-init c =
    let a = c.args in
    held_first a.store.versions a.store.count c.well_formed.0.1.1.0.1.0.1 c.requires.1 a.place c.requires.0

pub returns-then-place-next : goal.returns-then-place-next
unfolding held_at versions_of
returns-then-place-next c =
    let a = c.args in
    c.holds.ensures
    ∙ held_here a.store.versions a.store.count c.well_formed.0.1.1.0.1.0.1 c.requires.1 c.loop-i.now a.place c.loop-i.i
    c.loop-i-test.true (lt-leb _ _ c.if-place-next.true)
    ∙ c.loop-i.invariant

pub loop-i-preserved : goal.loop-i-preserved
loop-i-preserved c =
    let a = c.args in
    sym (held_next a.store.versions a.store.count c.well_formed.0.1.1.0.1.0.1 c.requires.1 c.loop-i.now a.place c.loop-i.i
    c.loop-i-test.true (le-leb _ _ c.if-place-next.false))
    ∙ c.loop-i.invariant

pub returns : goal.returns
unfolding held_at versions_of
returns c =
    let a = c.args in
    c.holds-2.ensures
    ∙ held_last a.store.versions a.store.count c.well_formed.0.1.1.0.1.0.1 c.requires.1 c.loop-i.now a.place c.loop-i.i
    c.loop-i-test.false
    ∙ c.loop-i.invariant
