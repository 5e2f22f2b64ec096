-- The judgement of balises that were read, from how they fit the rows of each direction.
-- Assumes nothing.
use mathlib.Core.Path.{◌≡◌, refl}
use mathlib.Core.List.{List}
use Rattle.words.specs.Answer.{Outcome, refuses}
use Rattle.group_rows.specs.Row.{Fit}
use Rattle.group_rows.specs.Rows.{present, opposite, fit_in}
use Rattle.group_rows.specs.Fitting.{speed_of, as_or, fitting}
use Rattle.group_rows.specs.declared.Direction.{Direction}
use Rattle.group_rows.specs.declared.Kind.{Kind}
use Rattle.group_rows.specs.declared.Placed.{Placed}
use Rattle.group_rows.specs.declared.Picked.{Picked}
use Rattle.group.specs.Balise.{then}
use Rattle.group.specs.declared.Message.{Message}
use Rattle.group.specs.Judge.{judge_as, judge_read}

-- What a row of this direction and kind says, with this balise as A.
abbrev pub said : Direction → Kind → Placed → Picked
said direction kind a = record { direction = direction; kind = kind; speed = speed_of kind a; a = a }

abbrev pub decide : Fit → Fit → List Placed → Outcome Message
decide p o bs = then (as_or Direction.Present p (as_or Direction.Opposite o (refuses 13))) (λ row. judge_as row.direction row bs)

pub decides : (bs : List Placed) → judge_read bs ≡ decide (fit_in present bs) (fit_in opposite bs) bs
unfolding judge_read fitting
decides bs = refl
