-- Where a walk over the balises of a group stands: for each case what it leaves of the rows. No
-- promise to a caller cites this; the functions that the walk is cut into do.
-- Assumes nothing.
use Rattle.std.specs.Prelude.{List, [], ◌∷◌, ◌++◌, Option, Some, None, Result, Ok, Err}
use Rattle.group_rows.specs.declared.Direction.{Direction}
use Rattle.group_rows.specs.declared.Kind.{Kind}
use Rattle.group_rows.specs.declared.Picked.{Picked}
use Rattle.group_rows.specs.declared.NoRow.{NoRow}
use Rattle.group_rows.specs.declared.stands.Before.{Before}
use Rattle.group_rows.specs.declared.stands.Must.{Must}
use Rattle.group_rows.specs.declared.stands.May.{May}
use Rattle.group_rows.specs.declared.stands.Tail.{Tail}
use Rattle.group_rows.specs.declared.stands.Walk.{Walk}
use Rattle.group_rows.specs.Row.{all, ◌to◌, category, any, one_of, M, Member, A, must, may, none, found}
use Rattle.group_rows.specs.Rows.{present, opposite}
use Rattle.group_rows.specs.Fitting.{no_row}
use Rattle.group_rows.specs.Open.{Rest, rest, whole}

-- ---- after A

-- What may come, and the group may end.
abbrev pub may_be : May → List Member
may_be May.Fourteen = may (any 14) ∷ may (any 12) ∷ []
may_be May.Eight = may (any 8) ∷ may (any 12) ∷ []
may_be May.Twelve = may (any 12) ∷ []
may_be May.Nothing = []

-- What must come, and what may follow it.
abbrev pub must_be : Must → List Member
must_be Must.Nine = must (any 9) ∷ may_be May.Fourteen
must_be Must.LowNine = must (category 9 (0 to 13) all) ∷ may_be May.Fourteen
must_be Must.Five = must (any 5) ∷ []
must_be Must.Marker = must M ∷ []
must_be Must.ThreeFiveSeven = must (one_of (3 ∷ 5 ∷ 7 ∷ [])) ∷ []

-- ---- before A

-- What is left of a present row of this kind, and of an opposite one.
abbrev pub ahead : Kind → List Member → Rest
ahead kind ms = rest Direction.Present kind 0 none ms

abbrev pub back : Kind → List Member → Rest
back kind ms = rest Direction.Opposite kind 0 none ms

-- "1 9 [14] [12]", and the same with 4, and with 10, after what else may come.
abbrev pub with_nine : (List Member → List Member) → List Rest
with_nine from =
    ahead Kind.Signal (from (A (any 1) ∷ must_be Must.Nine))
    ∷ ahead Kind.Signal (from (A (any 4) ∷ must_be Must.Nine))
    ∷ ahead Kind.Annulled (from (A (any 10) ∷ must_be Must.Nine))
    ∷ []

-- "1, 4 or 10, then [8] [12]", and "2", after what else must come.
abbrev pub after_nine : (List Member → List Member) → List Rest
after_nine from =
    back Kind.Signal (from (A (any 1) ∷ may_be May.Eight))
    ∷ back Kind.Signal (from (A (any 4) ∷ may_be May.Eight))
    ∷ back Kind.Annulled (from (A (any 10) ∷ may_be May.Eight))
    ∷ back Kind.Warning (from (A (any 2) ∷ []))
    ∷ []

abbrev pub rows_before : Before → List Rest
rows_before Before.Nothing = whole Direction.Present present ++ whole Direction.Opposite opposite
rows_before Before.Number =
    with_nine (λ ms. may (any 8) ∷ ms)
    ++ (after_nine (λ ms. may (any 14) ∷ must (any 9) ∷ ms)
    ++ (back Kind.Warning (must M ∷ A (any 2) ∷ []) ∷ []))
rows_before Before.Eight =
    ahead Kind.Signal (A (any 1) ∷ must_be Must.Nine)
    ∷ ahead Kind.Signal (A (any 4) ∷ must_be Must.Nine)
    ∷ ahead Kind.Warning (A (category 2 all (0 to 13)) ∷ must_be Must.LowNine)
    ∷ ahead Kind.Annulled (A (any 10) ∷ must_be Must.Nine)
    ∷ []
rows_before Before.NumberEight = with_nine (λ ms. ms)
rows_before Before.BackFourteen = after_nine (λ ms. must (any 9) ∷ ms)
rows_before Before.BackNine = after_nine (λ ms. ms)
rows_before Before.BackMarker =
    back Kind.Warning (A (any 2) ∷ []) ∷ back Kind.Line (A (category 3 (9 to 14) all) ∷ []) ∷ []
rows_before Before.BackNumberMarker = back Kind.Warning (A (any 2) ∷ []) ∷ []

-- ---- everywhere

-- What is left of the row whose word is this.
abbrev pub with_rest : Picked → List Member → Rest
with_rest p ms = rest p.direction p.kind p.speed (found p.a) ms

-- What a stand leaves of the rows.
abbrev pub rows_of : Walk → List Rest
rows_of (Walk.Before passed) = rows_before passed
rows_of (Walk.After (Tail.Must next) p) = with_rest p (must_be next) ∷ []
rows_of (Walk.After (Tail.May next) p) = with_rest p (may_be next) ∷ []

-- What a step leaves open.
abbrev pub open_after : Option Walk → List Rest
open_after (Some at) = rows_of at
open_after None = []

-- The row of a group that ends here.
abbrev pub ended : Walk → Result Picked NoRow
ended (Walk.Before passed) = Err no_row
ended (Walk.After (Tail.Must next) p) = Err no_row
ended (Walk.After (Tail.May next) p) = Ok p
