-- Figure by figure; each reads back.
-- Assumes nothing.
use mathlib.Core.Path.{◌≡◌}
use Prim.Native.Nat.{◌%◌}
use native.Mathlib.Omega.{arith}
use lib.ListN.{length}
use Rattle.group.specs.declared.Heard.{Heard}
use Rattle.ride_bytes.proofs.Back.{group_figures_law}
use Rattle.ride_bytes.proofs.groups.figures.Goals as goal

pub returns : goal.returns
returns c =
    let long : length c.args.kept ≡ 5 = omega (arith, c.well_formed.0.1.0.1) in
    let few : c.args.count % 256 ≡ c.args.count = omega arith in
    let near : c.args.last % 4294967296 ≡ c.args.last = omega arith in
    let both = group_figures_law (record { place = 0; heard = Heard.Words 0 0 0 }) c.args.count c.args.last _ _ _ _ _ _ _ _ _ _ c.args.kept long
    c.place_figure.ensures c.place_figure-2.ensures c.place_figure-3.ensures c.place_figure-4.ensures c.place_figure-5.ensures
    c.heard_figure.ensures c.heard_figure-2.ensures c.heard_figure-3.ensures c.heard_figure-4.ensures c.heard_figure-5.ensures few near in
    record { value = both.0; i_value = both.1 }
