-- `put_figure` puts nothing for none, and else the space, the `n` and the number, which has at most
-- five digits.
use mathlib.Core.Path.{sym, ap, ◌∙◌}
use mathlib.Core.List.{List, ◌++◌}
use Prim.Native.Nat.{ℕ, ◌<◌, ◌^◌}
use native.Mathlib.Omega.{arith}
use Rattle.text.specs.Text.{codes}
use Rattle.text.specs.Put.{put}
use Rattle.text.proofs.Decimal.{five_digits}
use Rattle.text.proofs.Standing.{by_case}
use Rattle.ride_text.specs.Text.{number}
use Rattle.ride_text.proofs.lines.put_figure.Goals as goal

pub returns-in-None : goal.returns-in-None
returns-in-None c = by_case number _ _ c.in-None.is c.put.ensures

pub returns-in-Figure : goal.returns-in-Figure
returns-in-Figure c =
    let a = c.args in
    let small : c.in-Figure.m < 2 ^ 16 = omega arith in
    by_case number a.buf.now a.at c.in-Figure.is
    (c.put_number.ensures ∙ ap (λ (t : List ℕ). put (codes " n" ++ t) a.buf.now a.at) (sym (five_digits c.in-Figure.m small)))
