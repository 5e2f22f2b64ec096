-- A plan of the test track (document 02, M-113): "up to 64 entries of kind, place in dm and one
-- tolerance for all, 0 to 500 dm, with neighbouring places more than twice the tolerance apart."
-- "Plan records are of one fixed size, no header: 8 bytes, place in 0 to 3 high byte first, kind in
-- 4 (0 signal, 1 warning, 2 annulled, 3 line, 4 route), 5 to 7 zero."
-- Assumes nothing.
use Rattle.std.specs.Prelude.{ℕ, ◌+◌, ◌-◌, ◌*◌, ◌/◌, ◌%◌, Bool, true, ◌&&◌, List, [], ◌∷◌, ◌++◌, map, eqb, leb, ltb, length, replicate, None}
use Rattle.words.specs.Answer.{Outcome, gives, refuses, pick}
use Rattle.group_rows.specs.declared.Kind.{Kind}
use Rattle.ride.specs.Record.{byte, blank}
use Rattle.ride.specs.Over.{records}
use Rattle.acceptance.specs.declared.Entry.{Entry}
use Rattle.acceptance.specs.declared.Acceptance.{Acceptance}

-- "place in 0 to 3 high byte first"
unfoldable pub place_of : List ℕ → ℕ
place_of r = ((byte r 0 * 256 + byte r 1) * 256 + byte r 2) * 256 + byte r 3

-- "kind in 4 (0 signal, 1 warning, 2 annulled, 3 line, 4 route)": the number of a kind,
abbrev pub number_of : Kind → ℕ
number_of Kind.Signal = 0
number_of Kind.Warning = 1
number_of Kind.Annulled = 2
number_of Kind.Line = 3
number_of Kind.Route = 4

-- and the kind with a number.
unfoldable pub kind_of : ℕ → Kind
kind_of n =
    pick (eqb n 0) Kind.Signal (pick (eqb n 1) Kind.Warning (pick (eqb n 2) Kind.Annulled (pick (eqb n 3) Kind.Line Kind.Route)))

-- Whether a record is good: a kind of 0 to 4, and "5 to 7 zero".
unfoldable pub is_good : List ℕ → Bool
is_good r = leb (byte r 4) 4 && blank r

-- Whether all records are.
unfoldable pub all_good : List (List ℕ) → Bool
all_good [] = true
all_good (r ∷ rs) = is_good r && all_good rs

-- The entry of a record; no group has met it.
unfoldable pub entry_of : List ℕ → Entry
entry_of r = record { place = place_of r; kind = kind_of (byte r 4); met = None }

-- The entries of a plan's bytes.
abbrev pub entries_of : List ℕ → List Entry
entries_of bytes = map entry_of (records bytes)

-- Whether the next entry, if there is one, lies more than twice the tolerance beyond this place.
abbrev pub is_beyond : ℕ → ℕ → List Entry → Bool
is_beyond tolerance place [] = true
is_beyond tolerance place (e ∷ es) = ltb (place + 2 * tolerance) e.place

-- "neighbouring places more than twice the tolerance apart", in rising order.
unfoldable pub apart : ℕ → List Entry → Bool
apart tolerance [] = true
apart tolerance (e ∷ es) = is_beyond tolerance e.place es && apart tolerance es

-- A place of a plan that no entry has taken.
abbrev pub no_entry : Entry
no_entry = record { place = 0; kind = Kind.Signal; met = None }

-- A run that has not begun, over so many entries: none is met, and no group was extra.
unfoldable pub plan_with : ℕ → List Entry → Acceptance
plan_with tolerance es =
    record { entries = es ++ replicate (64 - length es) no_entry; count = length es; tolerance = tolerance; extra = 0 }

-- The empty plan.
abbrev pub empty_plan : Acceptance
empty_plan = plan_with 0 []

-- What is said of a plan that is taken: that it is good.
pub data Good : Type 0 where
  good : Good

-- What reading a plan answers: that it is good, or the number of its refusal; and the plan, "with
-- no report" of a refused one: the empty plan.
pub record Planning : Type 0 where
  pub answer : Outcome Good
  pub plan : Acceptance

-- Whether the bytes are a plan's: "a bad plan record, length or count above 64" is what they are
-- not.
unfoldable pub well_formed : List ℕ → Bool
well_formed bytes = eqb (length bytes % 8) 0 && leb (length bytes / 8) 64 && all_good (records bytes)

-- "26 for a bad plan record, length or count above 64; 27 for entries out of order or too near; 28
-- for the tolerance; judged 28, 26, 27, with no report."
unfoldable pub plan : List ℕ → ℕ → Planning
plan bytes tolerance =
    pick (leb tolerance 500)
    (pick (well_formed bytes)
    (pick (apart tolerance (entries_of bytes))
    (record { answer = gives good; plan = plan_with tolerance (entries_of bytes) })
    (record { answer = refuses 27; plan = empty_plan }))
    (record { answer = refuses 26; plan = empty_plan }))
    (record { answer = refuses 28; plan = empty_plan })
