-- `put_lines` puts at most two lines one after the other.
use mathlib.Core.Path.{sym, ap, ◌∙◌}
use mathlib.Core.List.{List}
use Prim.Native.Nat.{ℕ}
use native.Mathlib.Omega.{arith}
use Rattle.text.specs.Put.{put}
use Rattle.text.proofs.Standing.{room_after, join, by_case}
use Rattle.ride.specs.declared.Lines.{Lines}
use Rattle.ride.specs.Says.{says_lines}
use Rattle.ride_text.specs.Text.{line_text, lines_text}
use Rattle.ride_text.proofs.Texts.{put_nothing, one_is, two_is, one_fits, two_fit}
use Rattle.ride_text.proofs.records.put_lines.Goals as goal

pub put_text-requires : goal.put_text-requires
put_text-requires c =
    one_fits c.args.reasons c.args.closed c.in-One.a c.args.out.now c.args.at c.requires

pub put_text-next-requires : goal.put_text-next-requires
put_text-next-requires c =
    one_fits c.args.reasons c.args.closed c.in-Two.a c.args.out.now c.args.at c.requires

pub put_text-requires-in-Two : goal.put_text-requires-in-Two
put_text-requires-in-Two c =
    let a = c.args in
    room_after a.out.now a.at (line_text a.reasons a.closed c.in-Two.a) (line_text a.reasons a.closed c.in-Two.b) (two_fit a.reasons a.closed c.in-Two.a c.in-Two.b a.out.now a.at c.requires) c.put_text-next.ensures

pub returns-in-None : goal.returns-in-None
unfolding lines_text
returns-in-None c =
    let a = c.args in
    by_case (λ (v : Lines). lines_text a.reasons a.closed (says_lines v)) a.out.now a.at c.in-None.is
    (put_nothing a.out.now a.at (omega (arith, c.requires)))

pub returns-in-One : goal.returns-in-One
returns-in-One c =
    let a = c.args in
    c.put_text.ensures
    ∙ ap (λ (t : List ℕ). put t a.out.now a.at) (one_is a.reasons a.closed c.in-One.a)
    ∙ ap (λ (v : Lines). put (lines_text a.reasons a.closed (says_lines v)) a.out.now a.at) (sym c.in-One.is)

pub returns-in-Two : goal.returns-in-Two
returns-in-Two c =
    let a = c.args in
    join a.out.now a.at (line_text a.reasons a.closed c.in-Two.a) (line_text a.reasons a.closed c.in-Two.b) (two_fit a.reasons a.closed c.in-Two.a c.in-Two.b a.out.now a.at c.requires) c.put_text-next.ensures c.put_text-in-Two.ensures
    ∙ ap (λ (t : List ℕ). put t a.out.now a.at) (two_is a.reasons a.closed c.in-Two.a c.in-Two.b)
    ∙ ap (λ (v : Lines). put (lines_text a.reasons a.closed (says_lines v)) a.out.now a.at) (sym c.in-Two.is)
