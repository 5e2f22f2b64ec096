-- The entries of the records passed stand before the room that is left.
-- Assumes nothing.
use Prim.Native.Nat.{◌/◌, ◌<◌}
use mathlib.Core.Path.{◌≡◌, refl, ap, ◌∙◌}
use mathlib.Core.List.{List}
use native.Mathlib.Omega.{arith}
use lib.ListN.{length, set, length-set}
use Rattle.ride.specs.Over.{first_records}
use Rattle.acceptance.specs.declared.Entry.{Entry}
use Rattle.acceptance.proofs.Filling.{filled, fill_next, fill_end}
use Rattle.acceptance.proofs.reading.entries.Goals as goal

pub loop-i-init : goal.loop-i-init
unfolding first_records
loop-i-init c = (refl, ap length c.no_entries-entries.ensures, c.no_entries-entries.ensures)

pub loop-i-preserved : goal.loop-i-preserved
loop-i-preserved c =
    let b = c.args.bytes.now in
    let i = c.loop-i.i in
    let room : i < 64 = omega (arith, c.requires) in (
      c.loop-i.invariant.0,
      simp length-set c.loop-i.invariant.1,
      ap (λ (es : List Entry). set es i c.entry_at.result) c.loop-i.invariant.2 ∙ ap (set (filled b i) i) c.entry_at.ensures ∙ fill_next b i room,
    )

pub returns : goal.returns
returns c =
    let b = c.args.bytes.now in
    let last : c.loop-i.i ≡ length b / 8 = omega arith in
    c.loop-i.invariant.2 ∙ ap (filled b) last ∙ fill_end b
