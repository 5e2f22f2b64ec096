-- A route board is of the present direction: no opposite row has its kind.
-- Assumes nothing.
use mathlib.Core.Path.{◌≡◌, refl, sym, ap, ◌∙◌}
use mathlib.Core.Bool.{Bool, true, false, not, ◌&&◌}
use mathlib.Core.List.{List, [], ◌∷◌}
use lib.Dec.{eqb, ltb, leb}
use borrow.Author.Tests.{not-true}
use Rattle.words.specs.Answer.{Outcome, gives, refuses, pick}
use Rattle.group.specs.Balise.{balises, then, read_all}
use Rattle.group_rows.specs.Row.{Row, row, fits, Found, none, found, called_a, Fit, misfit, fit, fit_with, fit_row_meant, or_else, fit_rows}
use Rattle.group_rows.specs.Rows.{present, opposite, how_many, fit_in}
use Rattle.group.specs.declared.Content.{Content}
use Rattle.group.specs.declared.Message.{Message}
use Rattle.group.specs.Numbers.{number_of}
use Rattle.group.specs.Judge.{content_of, message_of, judge_read, judge}
use Rattle.group_rows.specs.Fitting.{speed_of, fitting}
use Rattle.group_rows.specs.declared.Direction.{Direction}
use Rattle.group_rows.specs.declared.Kind.{Kind}
use Rattle.group_rows.specs.declared.Placed.{Placed}
use Rattle.group_rows.specs.Row.{Y, Z}
use Rattle.group.specs.declared.Group.{Group}
use Rattle.balise_line.proofs.Places.{and_parts}
use Rattle.demands.proofs.Common.Rules.{true_not_false, never}
use Rattle.demands.proofs.Common.Fits.{said, decide}
use Rattle.words.proofs.Never.{cannot_be}

abbrev is_route : Kind → Bool
is_route Kind.Signal = false
is_route Kind.Warning = false
is_route Kind.Annulled = false
is_route Kind.Line = false
is_route Kind.Route = true

abbrev of_row : Row → Bool
of_row (row kind members) = is_route kind

-- No row of the list is a route board's.
abbrev no_route : List Row → Bool
no_route [] = true
no_route (r ∷ rows) = not (of_row r) && no_route rows

-- A fit has the kind of its row.
fit_kind : (r : Row) (bs : List Placed) (k : Kind) (a : Placed) → fit_row_meant r bs ≡ fit k a → is_route k ≡ of_row r
unfolding fit_row_meant
fit_kind (row kind members) bs k a e = go (fits members bs) (called_a members bs) e
  where
    go : (t : Bool) (f : Found) → pick t (fit_with kind f) misfit ≡ fit k a → is_route k ≡ is_route kind
    go false f q = cannot_be cc
    go true none q = cannot_be cc
    go true (found c) q = let same : kind ≡ k = cc in ap is_route (sym same)

fits_no_route : (rows : List Row) → no_route rows ≡ true → (bs : List Placed) (k : Kind) (a : Placed) → fit_rows rows bs ≡ fit k a → is_route k ≡ false
unfolding fit_rows
fits_no_route [] free bs k a e = cannot_be cc
fits_no_route (r ∷ rows) free bs k a e =
    let both = and_parts (not (of_row r)) (no_route rows) free in
    go (fits_no_route rows both.1 bs k a) (not-true (of_row r) both.0) (fit_row_meant r bs) refl e
  where
    go : (fit_rows rows bs ≡ fit k a → is_route k ≡ false) → of_row r ≡ false → (f : Fit) → fit_row_meant r bs ≡ f → or_else f (fit_rows rows bs) ≡ fit k a → is_route k ≡ false
    go on here misfit is q = on q
    go on here (fit k' a') is q = fit_kind r bs k a (is ∙ q) ∙ here

in_opposite : (bs : List Placed) (k : Kind) (a : Placed) → fit_in opposite bs ≡ fit k a → is_route k ≡ false
unfolding fit_in
in_opposite bs k a e = go (leb (how_many 12 bs) 1) e
  where
    go : (t : Bool) → pick t (fit_rows opposite bs) misfit ≡ fit k a → is_route k ≡ false
    go true q = fits_no_route opposite refl bs k a q
    go false q = cannot_be cc

decided_way : (bs : List Placed) (m : Message) (p o : Fit) → ((k : Kind) (a : Placed) → o ≡ fit k a → is_route k ≡ false)
    → decide p o bs ≡ gives m → m.kind ≡ Kind.Route → m.direction ≡ Direction.Present
decided_way bs m misfit misfit there e kind = absurd (never 13 e)
decided_way bs m misfit (fit k a) there e kind =
    let is : k ≡ m.kind = cc in absurd (true_not_false (sym (ap is_route (is ∙ kind)) ∙ there k a refl))
decided_way bs m (fit k a) o there e kind = go (content_of k (speed_of k a) (Y a.part) (Z a.part) bs) e
  where
    go : (c : Outcome Content) → then c (λ more. gives (message_of (said Direction.Present k a) (number_of bs) more)) ≡ gives m → m.direction ≡ Direction.Present
    go (refuses n) q = absurd (never n q)
    go (gives c) q = let is : Direction.Present ≡ m.direction = cc in sym is

pub route_present : (g : Group) (m : Message) → judge g ≡ gives m → m.kind ≡ Kind.Route → m.direction ≡ Direction.Present
unfolding judge judge_read fitting
route_present g m e kind = go (eqb g.count 1) (ltb 5 g.count) (read_all (balises g)) e
  where
    go : (t u : Bool) (o : Outcome (List Placed)) → pick t (refuses 10) (pick u (refuses 11) (then o judge_read)) ≡ gives m → m.direction ≡ Direction.Present
    go true u o q = absurd (never 10 q)
    go false true o q = absurd (never 11 q)
    go false false (refuses n) q = absurd (never n q)
    go false false (gives bs) q = decided_way bs m (fit_in present bs) (fit_in opposite bs) (in_opposite bs) q kind
