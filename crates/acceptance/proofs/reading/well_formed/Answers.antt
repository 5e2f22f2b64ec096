-- The length is judged, then the count, then the records.
-- Assumes nothing.
use Prim.Native.Nat.{◌%◌, ◌/◌}
use mathlib.Core.Path.{◌≡◌, ◌∙◌}
use mathlib.Core.Bool.{true, false}
use lib.Dec.{eqb, leb}
use lib.ListN.{length}
use borrow.Author.Tests.{eq-eqb, ne_eqb, le-leb, lt-leb}
use Rattle.acceptance.specs.Plan.{well_formed}
use Rattle.acceptance.proofs.reading.well_formed.Goals as goal

pub returns-then-bytes-ne0 : goal.returns-then-bytes-ne0
unfolding well_formed
returns-then-bytes-ne0 c =
    let n = length c.args.bytes.now in
    let odd : eqb (n % 8) 0 ≡ false = ne_eqb (n % 8) 0 c.if-bytes-ne0.true in
    simp odd

pub returns-then-bytes-gt64 : goal.returns-then-bytes-gt64
unfolding well_formed
returns-then-bytes-gt64 c =
    let n = length c.args.bytes.now in
    let even : eqb (n % 8) 0 ≡ true = eq-eqb (n % 8) 0 c.if-bytes-ne0.false in
    let many : leb (n / 8) 64 ≡ false = lt-leb (n / 8) 64 c.if-bytes-gt64.true in
    simp (even, many)

pub returns : goal.returns
unfolding well_formed
returns c =
    let n = length c.args.bytes.now in
    let even : eqb (n % 8) 0 ≡ true = eq-eqb (n % 8) 0 c.if-bytes-ne0.false in
    let few : leb (n / 8) 64 ≡ true = le-leb (n / 8) 64 c.if-bytes-gt64.false in
    c.all_good.ensures ∙ simp (even, few)
