-- A line taken: what it can come to, and what the plan is after it.
-- Assumes nothing.
use Rattle.std.proofs.Common.{Option, Some, None}
use Prim.Native.Nat.{ℕ, ◌≤◌, ◌<◌}
use native.Mathlib.Omega.{arith}
use mathlib.Core.Path.{◌≡◌, refl, sym, ap, ap₂, ◌∙◌}
use mathlib.Core.Bool.{Bool, true, false, ◌&&◌}
use mathlib.Core.List.{List, [], ◌∷◌, map}
use lib.Dec.{ltb}
use lib.ListN.{length, get_or, set, length-take}
use lib.Seq.{take-set-lt, get_or-take}
use borrow.Author.Tests.{ltb-true, ltb-false}
use Rattle.words.specs.Answer.{pick}
use Rattle.ride.specs.declared.Line.{Line}
use Rattle.acceptance.specs.declared.Entry.{Entry}
use Rattle.acceptance.specs.declared.Acceptance.{Acceptance}
use Rattle.acceptance.specs.declared.Role.{Role}
use Rattle.acceptance.specs.declared.Took.{Took}
use Rattle.acceptance.specs.Plan.{no_entry, apart}
use Rattle.acceptance.specs.Taking.{planned, is_for, waiting, met_at, after_wanted, after_extra, take_group, no_part, take_line}
use Rattle.acceptance_laws.specs.Lines.{is_group, is_group_for}
use Rattle.acceptance_laws.proofs.Placed.{place_in, kind_in, group_for}
use Rattle.acceptance_laws.proofs.Meeting.{met_once, with, meet, one_met, none_met}

-- The index of the entry that waits for the group that a line is.
abbrev pub waits_for : Acceptance → Line → ℕ
waits_for s l = waiting s.tolerance (place_in l) (kind_in l) (planned s)

abbrev pub wanted_took : Acceptance → Line → ℕ → Took
wanted_took s l i = record { state = after_wanted s i (place_in l); answer = Role.Wanted i }

abbrev pub extra_took : Acceptance → Took
extra_took s = record { state = after_extra s; answer = Role.Extra }

-- What taking a line comes to: no part, wanted, or extra.
pub data Case (s : Acceptance) (l : Line) : Type 0 where
  none : is_group l ≡ false → take_line s l ≡ no_part s → Case s l
  wanted : is_group l ≡ true → waits_for s l < length (planned s) → take_line s l ≡ wanted_took s l (waits_for s l) → Case s l
  extra : is_group l ≡ true → length (planned s) ≤ waits_for s l → take_line s l ≡ extra_took s → Case s l

-- By its three kinds.
line_is : (s : Acceptance) (l : Line) → take_line s l ≡ pick (is_group l) (take_group s (place_in l) (kind_in l)) (no_part s)
unfolding take_line
line_is s (Line.Group g) = refl
line_is s (Line.Fault place n) = refl
line_is s (Line.Missed place) = refl
line_is s (Line.Record number n) = refl
line_is s (Line.Trace n) = refl

group_is : (s : Acceptance) (l : Line) → take_group s (place_in l) (kind_in l) ≡ pick (ltb (waits_for s l) (length (planned s))) (wanted_took s l (waits_for s l)) (extra_took s)
unfolding take_group
group_is s l = refl

by_group : (s : Acceptance) (l : Line) (b : Bool) → is_group l ≡ true → ltb (waits_for s l) (length (planned s)) ≡ b → Case s l
by_group s l true g e =
    wanted g (ltb-true (waits_for s l) (length (planned s)) e)
    (line_is s l ∙ ap (λ (b : Bool). pick b (take_group s (place_in l) (kind_in l)) (no_part s)) g ∙ group_is s l
    ∙ ap (λ (b : Bool). pick b (wanted_took s l (waits_for s l)) (extra_took s)) e)
by_group s l false g e =
    extra g (ltb-false (waits_for s l) (length (planned s)) e)
    (line_is s l ∙ ap (λ (b : Bool). pick b (take_group s (place_in l) (kind_in l)) (no_part s)) g ∙ group_is s l
    ∙ ap (λ (b : Bool). pick b (wanted_took s l (waits_for s l)) (extra_took s)) e)

by_line : (s : Acceptance) (l : Line) (b : Bool) → is_group l ≡ b → Case s l
by_line s l true g = by_group s l (ltb (waits_for s l) (length (planned s))) g refl
by_line s l false g = none g (line_is s l ∙ ap (λ (b : Bool). pick b (take_group s (place_in l) (kind_in l)) (no_part s)) g)

pub case : (s : Acceptance) (l : Line) → Case s l
case s l = by_line s l (is_group l) refl

-- ---- the plan after a line

-- An entry after a line.
abbrev pub after_line : ℕ → Line → Entry → Entry
after_line tolerance l e = with e (met_once (is_group_for tolerance e l) (place_in l) e.met)

map_same : (f g : Entry → Entry) → ((e : Entry) → f e ≡ g e) → (es : List Entry) → map f es ≡ map g es
map_same f g h [] = refl
map_same f g h (e ∷ es) = ap₂ (λ (x : Entry) (xs : List Entry). x ∷ xs) (h e) (map_same f g h es)

map_stays : (f : Entry → Entry) → ((e : Entry) → f e ≡ e) → (es : List Entry) → map f es ≡ es
map_stays f h [] = refl
map_stays f h (e ∷ es) = ap₂ (λ (x : Entry) (xs : List Entry). x ∷ xs) (h e) (map_stays f h es)

not_met : (place : ℕ) (m : Option ℕ) → met_once false place m ≡ m
not_met place None = refl
not_met place (Some q) = refl

-- A line that is no present group leaves every entry; one that is meets those that it is for.
pub others_stay : (tolerance : ℕ) (l : Line) (es : List Entry) → is_group l ≡ false → map (after_line tolerance l) es ≡ es
others_stay tolerance l es g =
    map_stays (after_line tolerance l)
    (λ (e : Entry).
    ap (λ (b : Bool). with e (met_once b (place_in l) e.met)) (group_for tolerance e l)
    ∙ ap (λ (b : Bool). with e (met_once (b && is_for tolerance (place_in l) (kind_in l) e) (place_in l) e.met)) g
    ∙ ap (with e) (not_met (place_in l) e.met)) es

group_meets : (tolerance : ℕ) (l : Line) (es : List Entry) → is_group l ≡ true → map (meet tolerance (place_in l) (kind_in l)) es ≡ map (after_line tolerance l) es
group_meets tolerance l es g =
    map_same (meet tolerance (place_in l) (kind_in l)) (after_line tolerance l)
    (λ (e : Entry).
    ap (λ (b : Bool). with e (met_once (b && is_for tolerance (place_in l) (kind_in l) e) (place_in l) e.met)) (sym g)
    ∙ ap (λ (b : Bool). with e (met_once b (place_in l) e.met)) (sym (group_for tolerance e l))) es

-- The entry written anew, within the plan.
pub wanted_plan : (s : Acceptance) (i place : ℕ) → i < length (planned s) → planned (after_wanted s i place) ≡ set (planned s) i (met_at place (get_or (planned s) i no_entry))
unfolding after_wanted
wanted_plan s i place h =
    let few : i < s.count = omega (arith, length-take s.count s.entries) in
    take-set-lt s.count s.entries i (met_at place (get_or s.entries i no_entry)) few
    ∙ ap (λ (e : Entry). set (planned s) i (met_at place e)) (sym (get_or-take s.count s.entries i no_entry few))

pub extra_plan : (s : Acceptance) → planned (after_extra s) ≡ planned s
unfolding after_extra
extra_plan s = refl

pub plan_after : (s : Acceptance) (l : Line) → apart s.tolerance (planned s) ≡ true → Case s l
    → planned (take_line s l).state ≡ map (after_line s.tolerance l) (planned s)
plan_after s l a (none g is) = ap (λ (t : Took). planned t.state) is ∙ sym (others_stay s.tolerance l (planned s) g)
plan_after s l a (wanted g h is) =
    ap (λ (t : Took). planned t.state) is ∙ wanted_plan s (waits_for s l) (place_in l) h
    ∙ one_met s.tolerance (place_in l) (kind_in l) (planned s) a (waits_for s l) refl h
    ∙ group_meets s.tolerance l (planned s) g
plan_after s l a (extra g h is) =
    ap (λ (t : Took). planned t.state) is ∙ extra_plan s
    ∙ sym (none_met s.tolerance (place_in l) (kind_in l) (planned s) h)
    ∙ group_meets s.tolerance l (planned s) g

-- The tolerance stays.
pub tolerance_after : (s : Acceptance) (l : Line) → Case s l → (take_line s l).state.tolerance ≡ s.tolerance
unfolding after_wanted after_extra
tolerance_after s l (none g is) = ap (λ (t : Took). t.state.tolerance) is
tolerance_after s l (wanted g h is) = ap (λ (t : Took). t.state.tolerance) is
tolerance_after s l (extra g h is) = ap (λ (t : Took). t.state.tolerance) is
