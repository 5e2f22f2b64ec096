-- `has` asks whether the first sign comes before the end.
use mathlib.Core.Path.{ap, ◌∙◌}
use Prim.Native.Nat.{ℕ}
use lib.Dec.{ltb}
use lib.ListN.{length}
use Rattle.figures.specs.Fields.{has}
use Rattle.figures.proofs.Signs.{place_first}
use Rattle.figures.proofs.fields.has.Goals as goal

pub returns : goal.returns
unfolding has
returns c =
    let a = c.args in
    ap (λ (n : ℕ). ltb n (length a.text.now)) (c.place_of.ensures ∙ place_first a.sign a.text.now)
