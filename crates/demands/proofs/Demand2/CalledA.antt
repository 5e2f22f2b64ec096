-- The balise that a row calls A is one of the group's, of a category that the row's kind has as A.
-- Assumes nothing.
use mathlib.Core.Path.{◌≡◌, refl, sym, ap, ◌∙◌, subst}
use mathlib.Core.Bool.{Bool, true, false, ◌&&◌}
use mathlib.Core.List.{List, [], ◌∷◌, Memᴰ}
use Prim.Native.Nat.{ℕ}
use lib.Dec.{eqb, ltb, leb}
use Rattle.words.specs.Answer.{Outcome, gives, refuses, pick}
use Rattle.group.specs.Balise.{balises, then, read_all}
use Rattle.group_rows.specs.Row.{Figures, all, ◌to◌, Asked, category, M, any, Member, Row, row, is_category, is_one_of, within, Y, Z, meets, fits, Found, none, found, first, called_a, Fit, misfit, fit, fit_with, fit_row_meant, or_else, fit_rows}
use Rattle.group_rows.specs.Rows.{signal, warning, annulled, line, route, present, nine_then, nine_two, marker_two, marker_three, opposite, how_many, fit_in}
use Rattle.group.specs.declared.Content.{Content}
use Rattle.group.specs.Numbers.{number_of}
use Rattle.group.specs.Judge.{content_of, message_of, judge_read, judge}
use Rattle.group_rows.specs.Fitting.{speed_of, fitting}
use Rattle.demands.proofs.Common.Rules.{never}
use Rattle.demands.proofs.Common.Fits.{said, decide}
use Rattle.group_rows.specs.declared.Direction.{Direction}
use Rattle.group.specs.declared.Group.{Group}
use Rattle.group_rows.specs.declared.Kind.{Kind}
use Rattle.group.specs.declared.Message.{Message}
use Rattle.group_rows.specs.declared.Part.{Part}
use Rattle.group_rows.specs.declared.Placed.{Placed}
use Rattle.demands.specs.Table.{list_of, parts_of}
use Rattle.demands.specs.Said.{as_a, Its-A}
use Rattle.balise_line.proofs.Places.{and_parts, or_left, or_right}
use Rattle.demands.proofs.Demand2.Boards.{Board, Head, board_head}
use Rattle.words.proofs.Never.{cannot_be}

-- What is sought is among the balises, and is what was asked.
first_of : (w : Asked) (bs : List Placed) (a : Placed) → first w bs ≡ found a → Memᴰ a bs × (meets w a.part ≡ true)
unfolding first
first_of w [] a e = cannot_be cc
first_of w (b ∷ bs) a e = go (meets w b.part) refl e (first_of w bs a)
  where
    go : (t : Bool) → meets w b.part ≡ t → pick t (found b) (first w bs) ≡ found a → (first w bs ≡ found a → Memᴰ a bs × (meets w a.part ≡ true))
        → Memᴰ a (b ∷ bs) × (meets w a.part ≡ true)
    go true is q on = let same : a ≡ b = cc in (Memᴰ.head same, ap (λ (v : Placed). meets w v.part) same ∙ is)
    go false is q on = let r = on q in (Memᴰ.tail r.0, r.1)

-- A balise of the group that can be A for this kind.
abbrev CanBeA : List Placed → Kind → Placed → Type 0
CanBeA bs kind a = Memᴰ a bs × (is_one_of (as_a kind) a.part ≡ true)

-- Of a row that asks w of its A, where what meets w has a category of the kind's A.
fit_row : (kind : Kind) (ms : List Member) (w : Asked) → ((bs : List Placed) → called_a ms bs ≡ first w bs)
    → ((p : Part) → meets w p ≡ true → is_one_of (as_a kind) p ≡ true)
    → (bs : List Placed) (k : Kind) (a : Placed) → fit_row_meant (row kind ms) bs ≡ fit k a → CanBeA bs k a
unfolding fit_row_meant
fit_row kind ms w called asked bs k a e = go (fits ms bs) (called_a ms bs) (called bs) e
  where
    go : (t : Bool) (f : Found) → f ≡ first w bs → pick t (fit_with kind f) misfit ≡ fit k a → CanBeA bs k a
    go false f is q = cannot_be cc
    go true none is q = cannot_be cc
    go true (found c) is q =
        let same_k : kind ≡ k = cc in
        let same_a : c ≡ a = cc in
        let r = first_of w bs c (sym is) in
        subst (λ (v : Kind). CanBeA bs v a) same_k (subst (λ (v : Placed). CanBeA bs kind v) same_a (r.0, asked c.part r.1))

-- Every row of a list gives such an A.
abbrev Every : List Row → Type 0
Every rows = (bs : List Placed) (k : Kind) (a : Placed) → fit_rows rows bs ≡ fit k a → CanBeA bs k a

none_fits : Every []
unfolding fit_rows
none_fits bs k a e = cannot_be cc

one_more : (r : Row) (rows : List Row) → ((bs : List Placed) (k : Kind) (a : Placed) → fit_row_meant r bs ≡ fit k a → CanBeA bs k a) → Every rows → Every (r ∷ rows)
unfolding fit_rows
one_more r rows here rest bs k a e = go (fit_row_meant r bs) refl e
  where
    go : (f : Fit) → fit_row_meant r bs ≡ f → or_else f (fit_rows rows bs) ≡ fit k a → CanBeA bs k a
    go misfit is q = rest bs k a q
    go (fit k' a') is q = here bs k a (is ∙ q)

-- what meets a category with figures is of that category
of_category : (n : ℕ) (y z : Figures) (p : Part) → meets (category n y z) p ≡ true → is_category n p ≡ true
of_category n y z p e = (and_parts (is_category n p) (within y (Y p)) (and_parts (is_category n p && within y (Y p)) (within z (Z p)) e).0).0

-- the first of the kind's categories, or the second
only : (n : ℕ) (y z : Figures) (ns : List ℕ) (p : Part) → meets (category n y z) p ≡ true → is_one_of (n ∷ ns) p ≡ true
only n y z ns p e = or_left (is_one_of ns p) (of_category n y z p e)

second : (k n : ℕ) (y z : Figures) (ns : List ℕ) (p : Part) → meets (category n y z) p ≡ true → is_one_of (k ∷ n ∷ ns) p ≡ true
second k n y z ns p e = or_right (is_category k p) (or_left (is_one_of ns p) (of_category n y z p e))

present_a : Every present
present_a =
    one_more (signal 1) _ (fit_row Kind.Signal _ (any 1) (λ bs. refl) (only 1 all all (4 ∷ [])))
    (one_more (signal 4) _ (fit_row Kind.Signal _ (any 4) (λ bs. refl) (second 1 4 all all []))
    (one_more warning _ (fit_row Kind.Warning _ (category 2 all (0 to 13)) (λ bs. refl) (only 2 all (0 to 13) []))
    (one_more annulled _ (fit_row Kind.Annulled _ (any 10) (λ bs. refl) (only 10 all all []))
    (one_more (line (0 to 8) (any 5)) _ (fit_row Kind.Line _ (category 3 (0 to 8) (0 to 13)) (λ bs. refl) (only 3 (0 to 8) (0 to 13) []))
    (one_more (line (9 to 14) M) _ (fit_row Kind.Line _ (category 3 (9 to 14) (0 to 13)) (λ bs. refl) (only 3 (9 to 14) (0 to 13) []))
    (one_more (route (2 to 2) (0 to 13)) _ (fit_row Kind.Route _ (category 5 (2 to 2) (0 to 13)) (λ bs. refl) (only 5 (2 to 2) (0 to 13) []))
    (one_more (route (4 to 4) (10 to 10)) _ (fit_row Kind.Route _ (category 5 (4 to 4) (10 to 10)) (λ bs. refl) (only 5 (4 to 4) (10 to 10) []))
    none_fits)))))))

opposite_a : Every opposite
opposite_a =
    one_more (nine_then Kind.Signal 1) _ (fit_row Kind.Signal _ (any 1) (λ bs. refl) (only 1 all all (4 ∷ [])))
    (one_more (nine_then Kind.Signal 4) _ (fit_row Kind.Signal _ (any 4) (λ bs. refl) (second 1 4 all all []))
    (one_more (nine_then Kind.Annulled 10) _ (fit_row Kind.Annulled _ (any 10) (λ bs. refl) (only 10 all all []))
    (one_more nine_two _ (fit_row Kind.Warning _ (any 2) (λ bs. refl) (only 2 all all []))
    (one_more marker_two _ (fit_row Kind.Warning _ (any 2) (λ bs. refl) (only 2 all all []))
    (one_more marker_three _ (fit_row Kind.Line _ (category 3 (9 to 14) all) (λ bs. refl) (only 3 (9 to 14) all []))
    none_fits)))))

in_direction : (rows : List Row) → Every rows → (bs : List Placed) (k : Kind) (a : Placed) → fit_in rows bs ≡ fit k a → CanBeA bs k a
unfolding fit_in
in_direction rows every bs k a e = go (leb (how_many 12 bs) 1) e
  where
    go : (t : Bool) → pick t (fit_rows rows bs) misfit ≡ fit k a → CanBeA bs k a
    go true q = every bs k a q
    go false q = cannot_be cc

-- ---- the message

-- a message that takes its place, AY and AZ from this balise
from_a : (bs : List Placed) (direction : Direction) (k : Kind) (a : Placed) (c : Content) (m : Message) → CanBeA bs k a → (direction ≡ Direction.Present → Board k → Head bs a)
    → message_of (said direction k a) (number_of bs) c ≡ m → Its-A bs m
from_a bs direction k a c m can heads e =
    record {
      a = a;
      of_group = can.0;
      category = subst (λ (v : Kind). is_one_of (as_a v) a.part ≡ true) (ap (λ (v : Message). v.kind) e) can.1;
      first = λ d is. heads (ap (λ (v : Message). v.direction) e ∙ d) (subst Board (sym (ap (λ (v : Message). v.kind) e)) is);
      place_is = sym (ap (λ (v : Message). v.place) e);
      ay_is = sym (ap (λ (v : Message). v.ay) e);
      az_is = sym (ap (λ (v : Message). v.az) e);
    }

decided_a : (bs : List Placed) (m : Message) (p o : Fit) → ((k : Kind) (a : Placed) → p ≡ fit k a → CanBeA bs k a) → ((k : Kind) (a : Placed) → o ≡ fit k a → CanBeA bs k a)
    → ((k : Kind) (a : Placed) → p ≡ fit k a → Board k → Head bs a) → decide p o bs ≡ gives m → Its-A bs m
decided_a bs m misfit misfit here there heads e = absurd (never 13 e)
decided_a bs m misfit (fit k a) here there heads e =
    let is : message_of (said Direction.Opposite k a) (number_of bs) Content.Nothing ≡ m = cc in from_a bs Direction.Opposite k a Content.Nothing m (there k a refl) (λ q. cannot_be cc) is
decided_a bs m (fit k a) o here there heads e = go (content_of k (speed_of k a) (Y a.part) (Z a.part) bs) e
  where
    go : (c : Outcome Content) → then c (λ more. gives (message_of (said Direction.Present k a) (number_of bs) more)) ≡ gives m → Its-A bs m
    go (refuses n) q = absurd (never n q)
    go (gives c) q = let is : message_of (said Direction.Present k a) (number_of bs) c ≡ m = cc in from_a bs Direction.Present k a c m (here k a refl) (λ q. heads k a refl) is

-- Every accepted group has an A.
pub has_a : (g : Group) (m : Message) → judge g ≡ gives m → Its-A (parts_of g) m
unfolding judge judge_read fitting parts_of
has_a g m e = go (eqb g.count 1) (ltb 5 g.count) (read_all (balises g)) e
  where
    go : (t u : Bool) (o : Outcome (List Placed)) → pick t (refuses 10) (pick u (refuses 11) (then o judge_read)) ≡ gives m → Its-A (list_of o) m
    go true u o q = absurd (never 10 q)
    go false true o q = absurd (never 11 q)
    go false false (refuses n) q = absurd (never n q)
    go false false (gives bs) q = decided_a bs m (fit_in present bs) (fit_in opposite bs) (in_direction present present_a bs) (in_direction opposite opposite_a bs) (board_head bs) q
