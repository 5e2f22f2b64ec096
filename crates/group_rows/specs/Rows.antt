-- The rows of document 01, in its order and words. A member stands as document 01 writes it:
-- `must (any 9)` for 9, `may (any 12)` for [12], `M` for a marker; `A` is the balise that the row
-- calls A. A figure condition stands at the member that carries the figure:
-- `category 3 (0 to 8) (0 to 13)` is a 3 with Y 0 to 8 and Z 0 to 13.
-- Assumes nothing.
use Rattle.std.specs.Prelude.{ℕ, suc, List, [], ◌∷◌, leb}
use Rattle.words.specs.Answer.{pick}
use Rattle.group_rows.specs.declared.Kind.{Kind}
use Rattle.group_rows.specs.declared.Placed.{Placed}
use Rattle.group_rows.specs.Row.{Figures, all, ◌to◌, Asked, category, one_of, M, any, A, must, may, Row, row, is_category, Fit, misfit, fit_rows}

-- ---- "Present direction, in the order passed"

-- "signal: [12] [8] 1 9 [14] [12], and the same with 4 for 1"
abbrev pub signal : ℕ → Row
signal a = row Kind.Signal (may (any 12) ∷ may (any 8) ∷ A (any a) ∷ must (any 9) ∷ may (any 14) ∷ may (any 12) ∷ [])

-- "warning board: [8] 2 9 [14] [12], AZ 0 to 13 and BY 0 to 13"
abbrev pub warning : Row
warning =
    row Kind.Warning
    (may (any 8) ∷ A (category 2 all (0 to 13)) ∷ must (category 9 (0 to 13) all) ∷ may (any 14) ∷ may (any 12) ∷ [])

-- "annulled: [12] [8] 10 9 [14] [12]"
abbrev pub annulled : Row
annulled = row Kind.Annulled (may (any 12) ∷ may (any 8) ∷ A (any 10) ∷ must (any 9) ∷ may (any 14) ∷ may (any 12) ∷ [])

-- "line speed board: 3 5 if AY is 0 to 8; 3 M if AY is 9 to 14; AZ 0 to 13"
abbrev pub line : Figures → Asked → Row
line ay next = row Kind.Line (A (category 3 ay (0 to 13)) ∷ must next ∷ [])

-- "route board: 5 followed by 3, 5 or 7, with AY 2 and AZ 0 to 13, or AY 4 and AZ 10"
abbrev pub route : Figures → Figures → Row
route ay az = row Kind.Route (A (category 5 ay az) ∷ must (one_of (3 ∷ 5 ∷ 7 ∷ [])) ∷ [])

-- The rows of the present direction.
abbrev pub present : List Row
present =
    signal 1
    ∷ signal 4
    ∷ warning
    ∷ annulled
    ∷ line (0 to 8) (any 5)
    ∷ line (9 to 14) M
    ∷ route (2 to 2) (0 to 13)
    ∷ route (4 to 4) (10 to 10)
    ∷ []

-- ---- "Opposite direction, in the order passed"

-- "[12] [14] 9, then 1, 4 or 10, then [8] [12]"
abbrev pub nine_then : Kind → ℕ → Row
nine_then kind a = row kind (may (any 12) ∷ may (any 14) ∷ must (any 9) ∷ A (any a) ∷ may (any 8) ∷ may (any 12) ∷ [])

-- "[12] [14] 9 2"
abbrev pub nine_two : Row
nine_two = row Kind.Warning (may (any 12) ∷ may (any 14) ∷ must (any 9) ∷ A (any 2) ∷ [])

-- "or [12] M 2"
abbrev pub marker_two : Row
marker_two = row Kind.Warning (may (any 12) ∷ must M ∷ A (any 2) ∷ [])

-- "M 3 if AY is 9 to 14"
abbrev pub marker_three : Row
marker_three = row Kind.Line (must M ∷ A (category 3 (9 to 14) all) ∷ [])

-- The rows of the opposite direction; after the 9, a 1 or a 4 is a signal and a 10 an annulled one.
abbrev pub opposite : List Row
opposite =
    nine_then Kind.Signal 1
    ∷ nine_then Kind.Signal 4
    ∷ nine_then Kind.Annulled 10
    ∷ nine_two
    ∷ marker_two
    ∷ marker_three
    ∷ []

-- ---- "and the number balise N (12) appears at most once"

-- How many of the balises are of the category n.
unfoldable pub how_many : ℕ → List Placed → ℕ
how_many n [] = 0
how_many n (b ∷ bs) = pick (is_category n b.part) (suc (how_many n bs)) (how_many n bs)

-- How the balises fit the rows of a direction, with 12 at most once.
unfoldable pub fit_in : List Row → List Placed → Fit
fit_in rows bs = pick (leb (how_many 12 bs) 1) (fit_rows rows bs) misfit
