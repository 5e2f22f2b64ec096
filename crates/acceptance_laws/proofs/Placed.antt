-- A line by its place and kind, as if each had one: of a line that is no group they are not looked
-- at.
-- Assumes nothing.
use Rattle.std.proofs.Common.{Option, Some}
use Prim.Native.Nat.{ℕ}
use mathlib.Core.Path.{◌≡◌, refl, sym, ap₂, ◌∙◌}
use mathlib.Core.Bool.{Bool, ◌&&◌}
use mathlib.Core.List.{List, [], ◌∷◌}
use Rattle.words.specs.Answer.{pick}
use Rattle.group_rows.specs.declared.Kind.{Kind}
use Rattle.ride.specs.declared.Line.{Line}
use Rattle.acceptance.specs.declared.Entry.{Entry}
use Rattle.acceptance.specs.Taking.{is_for}
use Rattle.acceptance_laws.specs.Lines.{is_group, is_group_for, first_for}
use Rattle.acceptance_laws.proofs.Meeting.{with}

abbrev pub place_in : Line → ℕ
place_in (Line.Group g) = g.place
place_in (Line.Fault place n) = 0
place_in (Line.Missed place) = 0
place_in (Line.Record number n) = 0
place_in (Line.Trace n) = 0

abbrev pub kind_in : Line → Kind
kind_in (Line.Group g) = g.kind
kind_in (Line.Fault place n) = Kind.Signal
kind_in (Line.Missed place) = Kind.Signal
kind_in (Line.Record number n) = Kind.Signal
kind_in (Line.Trace n) = Kind.Signal

-- A line is a group for an entry if it is a present group, and its place and kind are the entry's.
pub group_for : (tolerance : ℕ) (e : Entry) (l : Line) → is_group_for tolerance e l ≡ (is_group l && is_for tolerance (place_in l) (kind_in l) e)
group_for tolerance e (Line.Group g) = refl
group_for tolerance e (Line.Fault place n) = refl
group_for tolerance e (Line.Missed place) = refl
group_for tolerance e (Line.Record number n) = refl
group_for tolerance e (Line.Trace n) = refl

-- The first group for an entry, by the first line.
pub first_of : (tolerance : ℕ) (e : Entry) (l : Line) (ls : List Line)
    → first_for tolerance e (l ∷ ls) ≡ pick (is_group_for tolerance e l) (Some (place_in l)) (first_for tolerance e ls)
unfolding first_for
first_of tolerance e (Line.Group g) ls = refl
first_of tolerance e (Line.Fault place n) ls = refl
first_of tolerance e (Line.Missed place) ls = refl
first_of tolerance e (Line.Record number n) ls = refl
first_of tolerance e (Line.Trace n) ls = refl

-- Neither asks whether the entry is met.
for_same : (tolerance : ℕ) (e : Entry) (m : Option ℕ) (l : Line) → is_group_for tolerance (with e m) l ≡ is_group_for tolerance e l
for_same tolerance e m l = group_for tolerance (with e m) l ∙ sym (group_for tolerance e l)

pub first_same : (tolerance : ℕ) (e : Entry) (m : Option ℕ) (ls : List Line) → first_for tolerance (with e m) ls ≡ first_for tolerance e ls
unfolding first_for
first_same tolerance e m [] = refl
first_same tolerance e m (l ∷ ls) =
    first_of tolerance (with e m) l ls
    ∙ ap₂ (λ (b : Bool) (x : Option ℕ). pick b (Some (place_in l)) x) (for_same tolerance e m l) (first_same tolerance e m ls)
    ∙ sym (first_of tolerance e l ls)
