-- In a present line or route board A is the first balise: its row begins with A.
-- Assumes nothing.
use mathlib.Core.Path.{◌≡◌, refl, ap, ◌∙◌, subst}
use mathlib.Core.Logic.{◌⊎◌, inl, inr}
use mathlib.Core.Bool.{Bool, true, false, ◌&&◌}
use mathlib.Core.List.{List, [], ◌∷◌}
use Prim.Native.Nat.{ℕ}
use native.Mathlib.Omega.{arith}
use lib.Dec.{leb}
use Rattle.words.specs.Answer.{pick}
use Rattle.group_rows.specs.Row.{◌to◌, Asked, category, M, any, A, Member, Row, row, meets, fits, Found, none, found, first, called_a, Fit, misfit, fit, fit_with, fit_row_meant, or_else, fit_rows}
use Rattle.group_rows.specs.Rows.{signal, warning, annulled, line, route, present, how_many, fit_in}
use Rattle.group_rows.specs.declared.Kind.{Kind}
use Rattle.group_rows.specs.declared.Placed.{Placed}
use Rattle.words.proofs.Never.{cannot_be}

-- a line or a route board
abbrev pub Board : Kind → Type 0
Board k = (k ≡ Kind.Line) ⊎ (k ≡ Kind.Route)

-- the balise is the first of the group
abbrev pub Head : List Placed → Placed → Type 0
Head bs a = (rest : List Placed) × (bs ≡ a ∷ rest)

-- A row that begins with A gives the first balise.
head_row : (kind : Kind) (w : Asked) (ms : List Member) (bs : List Placed) (k : Kind) (a : Placed) → fit_row_meant (row kind (A w ∷ ms)) bs ≡ fit k a → Head bs a
unfolding fit_row_meant fits first
head_row kind w ms [] k a e = cannot_be cc
head_row kind w ms (b ∷ bs) k a e = go (meets w b.part) (fits ms bs) e
  where
    go : (t u : Bool) → pick (t && u) (fit_with kind (pick t (found b) (first w bs))) misfit ≡ fit k a → Head (b ∷ bs) a
    go false u q = cannot_be cc
    go true false q = cannot_be cc
    go true true q = let same : b ≡ a = cc in (bs, ap (λ (v : Placed). v ∷ bs) same)

-- A row of another kind gives no board.
other_row : (kind : Kind) (ms : List Member) → (Board kind → ⊥) → (bs : List Placed) (k : Kind) (a : Placed) → fit_row_meant (row kind ms) bs ≡ fit k a → Board k → Head bs a
unfolding fit_row_meant
other_row kind ms other bs k a e is = absurd (other (go (fits ms bs) (called_a ms bs) e is))
  where
    go : (t : Bool) (f : Found) → pick t (fit_with kind f) misfit ≡ fit k a → Board k → Board kind
    go false f q is = cannot_be cc
    go true none q is = cannot_be cc
    go true (found c) q is = let same : k ≡ kind = cc in subst Board same is

-- Every row of a list gives the first balise, if it is of a board.
abbrev Heads : List Row → Type 0
Heads rows = (bs : List Placed) (k : Kind) (a : Placed) → fit_rows rows bs ≡ fit k a → Board k → Head bs a

no_heads : Heads []
unfolding fit_rows
no_heads bs k a e is = cannot_be cc

one_head : (r : Row) (rows : List Row) → ((bs : List Placed) (k : Kind) (a : Placed) → fit_row_meant r bs ≡ fit k a → Board k → Head bs a) → Heads rows → Heads (r ∷ rows)
unfolding fit_rows
one_head r rows here rest bs k a e is = go (fit_row_meant r bs) refl e
  where
    go : (f : Fit) → fit_row_meant r bs ≡ f → or_else f (fit_rows rows bs) ≡ fit k a → Head bs a
    go misfit same q = rest bs k a q is
    go (fit k' a') same q = here bs k a (same ∙ q) is

-- the kinds, told apart by a number
abbrev which_kind : Kind → ℕ
which_kind Kind.Signal = 0
which_kind Kind.Warning = 1
which_kind Kind.Annulled = 2
which_kind Kind.Line = 3
which_kind Kind.Route = 4

no_board : (k : Kind) → (which_kind k ≡ 3 → ⊥) → (which_kind k ≡ 4 → ⊥) → Board k → ⊥
no_board k line route (inl e) = line (ap which_kind e)
no_board k line route (inr e) = route (ap which_kind e)

present_heads : Heads present
present_heads =
    one_head (signal 1) _ (other_row Kind.Signal _ (no_board Kind.Signal (λ e. omega arith) (λ e. omega arith)))
    (one_head (signal 4) _ (other_row Kind.Signal _ (no_board Kind.Signal (λ e. omega arith) (λ e. omega arith)))
    (one_head warning _ (other_row Kind.Warning _ (no_board Kind.Warning (λ e. omega arith) (λ e. omega arith)))
    (one_head annulled _ (other_row Kind.Annulled _ (no_board Kind.Annulled (λ e. omega arith) (λ e. omega arith)))
    (one_head (line (0 to 8) (any 5)) _ (λ bs k a e is. head_row Kind.Line (category 3 (0 to 8) (0 to 13)) _ bs k a e)
    (one_head (line (9 to 14) M) _ (λ bs k a e is. head_row Kind.Line (category 3 (9 to 14) (0 to 13)) _ bs k a e)
    (one_head (route (2 to 2) (0 to 13)) _ (λ bs k a e is. head_row Kind.Route (category 5 (2 to 2) (0 to 13)) _ bs k a e)
    (one_head (route (4 to 4) (10 to 10)) _ (λ bs k a e is. head_row Kind.Route (category 5 (4 to 4) (10 to 10)) _ bs k a e)
    no_heads)))))))

-- In a present line or route board A is the first balise.
pub board_head : (bs : List Placed) (k : Kind) (a : Placed) → fit_in present bs ≡ fit k a → Board k → Head bs a
unfolding fit_in
board_head bs k a e is = go (leb (how_many 12 bs) 1) e
  where
    go : (t : Bool) → pick t (fit_rows present bs) misfit ≡ fit k a → Head bs a
    go true q = present_heads bs k a q is
    go false q = cannot_be cc
