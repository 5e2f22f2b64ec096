-- Lines taken one after the other: the plan after them, the answers, and the counts.
-- Assumes nothing.
use Rattle.std.proofs.Common.{Option, Some, None}
use Prim.Native.Nat.{ℕ, suc, ◌+◌, ◌*◌, ◌≤◌, ◌<◌}
use native.Mathlib.Omega.{arith}
use mathlib.Core.Path.{◌≡◌, refl, sym, ap, ap₂, ◌∙◌}
use mathlib.Core.Bool.{Bool, true, false, ◌&&◌}
use mathlib.Core.List.{List, [], ◌∷◌, map}
use lib.Dec.{ltb}
use borrow.Author.Tests.{lt-ltb}
use Rattle.words.specs.Answer.{pick}
use Rattle.words.specs.Limits.{largest64}
use Rattle.ride.specs.declared.Line.{Line}
use Rattle.acceptance.specs.declared.Entry.{Entry}
use Rattle.acceptance.specs.declared.Acceptance.{Acceptance}
use Rattle.acceptance.specs.declared.Took.{Took}
use Rattle.acceptance.specs.Plan.{is_beyond, apart}
use Rattle.acceptance.specs.Taking.{planned, after_wanted, after_extra, take_line}
use Rattle.acceptance.specs.Report.{met_in}
use Rattle.acceptance_laws.specs.Lines.{is_group, groups_in, is_group_for, first_for, is_wanted, is_extra, wanted_in, extra_in}
use Rattle.acceptance_laws.proofs.Placed.{place_in, kind_in, first_of, first_same}
use Rattle.acceptance_laws.proofs.Meeting.{met_once, with, one_more}
use Rattle.acceptance_laws.proofs.Cases.{Case, none, wanted, extra, case, waits_for, after_line, wanted_plan, extra_plan, plan_after, tolerance_after}

-- The run after some lines, and the answers to them.
unfoldable pub run_over : Acceptance → List Line → Acceptance
run_over s [] = s
run_over s (l ∷ ls) = run_over (take_line s l).state ls

unfoldable pub answers_to : Acceptance → List Line → List Took
answers_to s [] = []
answers_to s (l ∷ ls) = take_line s l ∷ answers_to (take_line s l).state ls

-- ---- the plan after some lines

-- An entry after some lines: one that was met stays so, another is met by the first group for it.
abbrev pub met_all : Option ℕ → Option ℕ → Option ℕ
met_all first None = first
met_all first (Some place) = Some place

abbrev pub after_lines : ℕ → List Line → Entry → Entry
after_lines tolerance ls e = with e (met_all (first_for tolerance e ls) e.met)

met_twice : (b : Bool) (place : ℕ) (first m : Option ℕ) → met_all first (met_once b place m) ≡ met_all (pick b (Some place) first) m
met_twice true place first None = refl
met_twice false place first None = refl
met_twice b place first (Some q) = refl

none_yet : (m : Option ℕ) → met_all None m ≡ m
none_yet None = refl
none_yet (Some q) = refl

one_line : (tolerance : ℕ) (l : Line) (ls : List Line) (e : Entry) → after_lines tolerance ls (after_line tolerance l e) ≡ after_lines tolerance (l ∷ ls) e
unfolding first_for
one_line tolerance l ls e =
    let m : Option ℕ = met_once (is_group_for tolerance e l) (place_in l) e.met in
    ap (λ (x : Option ℕ). with e (met_all x m)) (first_same tolerance e m ls)
    ∙ ap (with e) (met_twice (is_group_for tolerance e l) (place_in l) (first_for tolerance e ls) e.met)
    ∙ ap (λ (x : Option ℕ). with e (met_all x e.met)) (sym (first_of tolerance e l ls))

map_twice : (tolerance : ℕ) (l : Line) (ls : List Line) (es : List Entry)
    → map (after_lines tolerance ls) (map (after_line tolerance l) es) ≡ map (after_lines tolerance (l ∷ ls)) es
map_twice tolerance l ls [] = refl
map_twice tolerance l ls (e ∷ es) = ap₂ (λ (x : Entry) (xs : List Entry). x ∷ xs) (one_line tolerance l ls e) (map_twice tolerance l ls es)

map_none : (tolerance : ℕ) (es : List Entry) → map (after_lines tolerance []) es ≡ es
unfolding first_for
map_none tolerance [] = refl
map_none tolerance (e ∷ es) = ap₂ (λ (x : Entry) (xs : List Entry). x ∷ xs) (ap (with e) (none_yet e.met)) (map_none tolerance es)

-- No line moves an entry.
beyond_same : (tolerance p : ℕ) (f : Entry → Entry) → ((e : Entry) → (f e).place ≡ e.place) → (es : List Entry) → is_beyond tolerance p (map f es) ≡ is_beyond tolerance p es
beyond_same tolerance p f h [] = refl
beyond_same tolerance p f h (e ∷ es) = ap (ltb (p + 2 * tolerance)) (h e)

pub apart_same : (tolerance : ℕ) (f : Entry → Entry) → ((e : Entry) → (f e).place ≡ e.place) → (es : List Entry) → apart tolerance (map f es) ≡ apart tolerance es
unfolding apart
apart_same tolerance f h [] = refl
apart_same tolerance f h (e ∷ es) =
    ap₂ ◌&&◌ (ap (λ (p : ℕ). is_beyond tolerance p (map f es)) (h e) ∙ beyond_same tolerance e.place f h es) (apart_same tolerance f h es)

pub apart_after : (s : Acceptance) (l : Line) → apart s.tolerance (planned s) ≡ true → apart (take_line s l).state.tolerance (planned (take_line s l).state) ≡ true
apart_after s l a =
    ap₂ apart (tolerance_after s l (case s l)) (plan_after s l a (case s l))
    ∙ apart_same s.tolerance (after_line s.tolerance l) (λ (e : Entry). refl) (planned s) ∙ a

pub plan_over : (s : Acceptance) (ls : List Line) → apart s.tolerance (planned s) ≡ true
    → planned (run_over s ls) ≡ map (after_lines s.tolerance ls) (planned s)
unfolding run_over
plan_over s [] a = sym (map_none s.tolerance (planned s))
plan_over s (l ∷ ls) a =
    plan_over (take_line s l).state ls (apart_after s l a)
    ∙ ap₂ (λ (t : ℕ) (es : List Entry). map (after_lines t ls) es) (tolerance_after s l (case s l)) (plan_after s l a (case s l))
    ∙ map_twice s.tolerance l ls (planned s)

pub tolerance_over : (s : Acceptance) (ls : List Line) → (run_over s ls).tolerance ≡ s.tolerance
unfolding run_over
tolerance_over s [] = refl
tolerance_over s (l ∷ ls) = tolerance_over (take_line s l).state ls ∙ tolerance_after s l (case s l)

pub apart_over : (s : Acceptance) (ls : List Line) → apart s.tolerance (planned s) ≡ true → apart (run_over s ls).tolerance (planned (run_over s ls)) ≡ true
unfolding run_over
apart_over s [] a = a
apart_over s (l ∷ ls) a = apart_over (take_line s l).state ls (apart_after s l a)

-- ---- the counts

-- An entry more is met for each group answered wanted.
wanted_step : (s : Acceptance) (l : Line) → Case s l
    → met_in (planned (take_line s l).state) ≡ pick (is_wanted (take_line s l).answer) (suc (met_in (planned s))) (met_in (planned s))
wanted_step s l (none g is) =
    ap (λ (t : Took). met_in (planned t.state)) is ∙ sym (ap (λ (t : Took). pick (is_wanted t.answer) (suc (met_in (planned s))) (met_in (planned s))) is)
wanted_step s l (wanted g h is) =
    ap (λ (t : Took). met_in (planned t.state)) is ∙ ap met_in (wanted_plan s (waits_for s l) (place_in l) h)
    ∙ one_more s.tolerance (place_in l) (kind_in l) (planned s) (waits_for s l) refl h
    ∙ sym (ap (λ (t : Took). pick (is_wanted t.answer) (suc (met_in (planned s))) (met_in (planned s))) is)
wanted_step s l (extra g h is) =
    ap (λ (t : Took). met_in (planned t.state)) is ∙ ap met_in (extra_plan s)
    ∙ sym (ap (λ (t : Took). pick (is_wanted t.answer) (suc (met_in (planned s))) (met_in (planned s))) is)

one_on : (b : Bool) (m w x : ℕ) → x ≡ pick b (suc m) m + w → x ≡ m + pick b (suc w) w
one_on true m w x e = omega arith
one_on false m w x e = omega arith

pub wanted_over : (s : Acceptance) (ls : List Line) → met_in (planned (run_over s ls)) ≡ met_in (planned s) + wanted_in (answers_to s ls)
unfolding run_over answers_to wanted_in
wanted_over s [] = omega arith
wanted_over s (l ∷ ls) =
    one_on (is_wanted (take_line s l).answer) (met_in (planned s)) (wanted_in (answers_to (take_line s l).state ls)) _
    (wanted_over (take_line s l).state ls ∙ ap (λ (m : ℕ). m + wanted_in (answers_to (take_line s l).state ls)) (wanted_step s l (case s l)))

-- A group more is extra for each answered so, while the count has room.
extra_step : (s : Acceptance) (l : Line) → (is_group l ≡ true → s.extra < largest64) → Case s l
    → (take_line s l).state.extra ≡ pick (is_extra (take_line s l).answer) (suc s.extra) s.extra
unfolding after_wanted after_extra
extra_step s l h (none g is) = ap (λ (t : Took). t.state.extra) is ∙ sym (ap (λ (t : Took). pick (is_extra t.answer) (suc s.extra) s.extra) is)
extra_step s l h (wanted g w is) = ap (λ (t : Took). t.state.extra) is ∙ sym (ap (λ (t : Took). pick (is_extra t.answer) (suc s.extra) s.extra) is)
extra_step s l h (extra g w is) =
    let more : s.extra + 1 ≡ suc s.extra = omega arith in
    ap (λ (t : Took). t.state.extra) is ∙ ap (λ (b : Bool). pick b (s.extra + 1) s.extra) (lt-ltb s.extra largest64 (h g))
    ∙ more ∙ sym (ap (λ (t : Took). pick (is_extra t.answer) (suc s.extra) s.extra) is)

-- Room for all groups is room for one, and then for the others.
room_for_one : (s : Acceptance) (l : Line) (n : ℕ) → s.extra + pick (is_group l) (suc n) n ≤ largest64 → is_group l ≡ true → s.extra < largest64
room_for_one s l n h g =
    let is : pick (is_group l) (suc n) n ≡ suc n = ap (λ (b : Bool). pick b (suc n) n) g in
    omega arith

room_after : (s : Acceptance) (l : Line) (n : ℕ) → s.extra + pick (is_group l) (suc n) n ≤ largest64 → Case s l → (take_line s l).state.extra + n ≤ largest64
unfolding after_wanted after_extra
room_after s l n h (none g is) =
    let same : (take_line s l).state.extra ≡ s.extra = ap (λ (t : Took). t.state.extra) is in
    let one : pick (is_group l) (suc n) n ≡ n = ap (λ (b : Bool). pick b (suc n) n) g in
    omega arith
room_after s l n h (wanted g w is) =
    let same : (take_line s l).state.extra ≡ s.extra = ap (λ (t : Took). t.state.extra) is in
    let one : pick (is_group l) (suc n) n ≡ suc n = ap (λ (b : Bool). pick b (suc n) n) g in
    omega arith
room_after s l n h (extra g w is) =
    let one : pick (is_group l) (suc n) n ≡ suc n = ap (λ (b : Bool). pick b (suc n) n) g in
    let more : (take_line s l).state.extra ≡ s.extra + 1 =
    ap (λ (t : Took). t.state.extra) is ∙ ap (λ (b : Bool). pick b (s.extra + 1) s.extra) (lt-ltb s.extra largest64 (room_for_one s l n h g)) in
    omega arith

pub extra_over : (s : Acceptance) (ls : List Line) → s.extra + groups_in ls ≤ largest64
    → (run_over s ls).extra ≡ s.extra + extra_in (answers_to s ls)
unfolding run_over answers_to extra_in groups_in
extra_over s [] h = omega arith
extra_over s (l ∷ ls) h =
    one_on (is_extra (take_line s l).answer) s.extra (extra_in (answers_to (take_line s l).state ls)) _
    (extra_over (take_line s l).state ls (room_after s l (groups_in ls) h (case s l))
    ∙ ap (λ (m : ℕ). m + extra_in (answers_to (take_line s l).state ls)) (extra_step s l (room_for_one s l (groups_in ls) h) (case s l)))

-- Each present group is answered wanted or extra, and nothing else is.
group_step : (s : Acceptance) (l : Line) (n w x : ℕ) → n ≡ w + x → Case s l
    → pick (is_group l) (suc n) n ≡ pick (is_wanted (take_line s l).answer) (suc w) w + pick (is_extra (take_line s l).answer) (suc x) x
group_step s l n w x e (none g is) =
    ap (λ (b : Bool). pick b (suc n) n) g ∙ e
    ∙ sym (ap (λ (t : Took). pick (is_wanted t.answer) (suc w) w + pick (is_extra t.answer) (suc x) x) is)
group_step s l n w x e (wanted g h is) =
    let more : suc n ≡ suc w + x = omega arith in
    ap (λ (b : Bool). pick b (suc n) n) g ∙ more
    ∙ sym (ap (λ (t : Took). pick (is_wanted t.answer) (suc w) w + pick (is_extra t.answer) (suc x) x) is)
group_step s l n w x e (extra g h is) =
    let more : suc n ≡ w + suc x = omega arith in
    ap (λ (b : Bool). pick b (suc n) n) g ∙ more
    ∙ sym (ap (λ (t : Took). pick (is_wanted t.answer) (suc w) w + pick (is_extra t.answer) (suc x) x) is)

pub groups_over : (s : Acceptance) (ls : List Line) → groups_in ls ≡ wanted_in (answers_to s ls) + extra_in (answers_to s ls)
unfolding answers_to wanted_in extra_in groups_in
groups_over s [] = refl
groups_over s (l ∷ ls) =
    group_step s l (groups_in ls) (wanted_in (answers_to (take_line s l).state ls)) (extra_in (answers_to (take_line s l).state ls))
    (groups_over (take_line s l).state ls) (case s l)
