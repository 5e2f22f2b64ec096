-- The present groups among a ride's lines, and the one that an entry is met by (document 02,
-- M-113): "an entry is met by the first present group of its kind whose A place lies within the
-- tolerance."
-- Assumes nothing.
use Rattle.std.specs.Prelude.{ℕ, suc, Bool, true, false, ◌&&◌, ◌||◌, List, [], ◌∷◌, Option, Some, None}
use Rattle.words.specs.Answer.{pick}
use Rattle.ride.specs.declared.Line.{Line}
use Rattle.acceptance.specs.declared.Entry.{Entry}
use Rattle.acceptance.specs.declared.Role.{Role}
use Rattle.acceptance.specs.declared.Took.{Took}
use Rattle.acceptance.specs.Taking.{is_present, is_for}

-- Whether a line is an accepted group of the present direction.
abbrev pub is_group : Line → Bool
is_group (Line.Group g) = is_present g.direction
is_group (Line.Fault place n) = false
is_group (Line.Missed place) = false
is_group (Line.Record number n) = false
is_group (Line.Trace n) = false

-- "the present groups accepted in the ride, counted from the ride's lines"
unfoldable pub groups_in : List Line → ℕ
groups_in [] = 0
groups_in (l ∷ ls) = pick (is_group l) (suc (groups_in ls)) (groups_in ls)

-- Whether a line is a present group of the entry's kind whose A place lies within the tolerance; no
-- other line is.
abbrev pub is_group_for : ℕ → Entry → Line → Bool
is_group_for tolerance e (Line.Group g) = is_present g.direction && is_for tolerance g.place g.kind e
is_group_for tolerance e (Line.Fault place n) = false
is_group_for tolerance e (Line.Missed place) = false
is_group_for tolerance e (Line.Record number n) = false
is_group_for tolerance e (Line.Trace n) = false

-- Whether some line is such a group,
unfoldable pub some_for : ℕ → Entry → List Line → Bool
some_for tolerance e [] = false
some_for tolerance e (l ∷ ls) = is_group_for tolerance e l || some_for tolerance e ls

-- and where the A balise of the first such group lies.
unfoldable pub first_for : ℕ → Entry → List Line → Option ℕ
first_for tolerance e [] = None
first_for tolerance e (Line.Group g ∷ ls) = pick (is_group_for tolerance e (Line.Group g)) (Some g.place) (first_for tolerance e ls)
first_for tolerance e (Line.Fault place n ∷ ls) = first_for tolerance e ls
first_for tolerance e (Line.Missed place ∷ ls) = first_for tolerance e ls
first_for tolerance e (Line.Record number n ∷ ls) = first_for tolerance e ls
first_for tolerance e (Line.Trace n ∷ ls) = first_for tolerance e ls

-- Whether a line was answered wanted, or extra.
abbrev pub is_wanted : Role → Bool
is_wanted (Role.Wanted i) = true
is_wanted Role.Extra = false
is_wanted Role.NoPart = false

abbrev pub is_extra : Role → Bool
is_extra (Role.Wanted i) = false
is_extra Role.Extra = true
is_extra Role.NoPart = false

-- How many lines were.
unfoldable pub wanted_in : List Took → ℕ
wanted_in [] = 0
wanted_in (t ∷ ts) = pick (is_wanted t.answer) (suc (wanted_in ts)) (wanted_in ts)

unfoldable pub extra_in : List Took → ℕ
extra_in [] = 0
extra_in (t ∷ ts) = pick (is_extra t.answer) (suc (extra_in ts)) (extra_in ts)

-- What went wrong, counted from the ride's lines: the faults,
unfoldable pub faults_in : List Line → ℕ
faults_in [] = 0
faults_in (Line.Fault place n ∷ ls) = suc (faults_in ls)
faults_in (Line.Group g ∷ ls) = faults_in ls
faults_in (Line.Missed place ∷ ls) = faults_in ls
faults_in (Line.Record number n ∷ ls) = faults_in ls
faults_in (Line.Trace n ∷ ls) = faults_in ls

-- and the refused records.
unfoldable pub refused_in : List Line → ℕ
refused_in [] = 0
refused_in (Line.Record number n ∷ ls) = suc (refused_in ls)
refused_in (Line.Group g ∷ ls) = refused_in ls
refused_in (Line.Fault place n ∷ ls) = refused_in ls
refused_in (Line.Missed place ∷ ls) = refused_in ls
refused_in (Line.Trace n ∷ ls) = refused_in ls
