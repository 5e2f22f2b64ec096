-- A ride's line is taken (document 02, M-113): "an entry is met by the first present group of its
-- kind whose A place lies within the tolerance. Report .. each accepted present group as wanted (it
-- is the one that met an entry) or extra; the groups are answered one at a time as the ride's lines
-- come, so no list of them is kept. A place exactly at the tolerance is within it." "Opposite and
-- refused groups take no part."
-- Assumes nothing.
use Rattle.std.specs.Prelude.{ℕ, suc, ◌+◌, Bool, true, false, ◌&&◌, List, [], ◌∷◌, eqb, leb, ltb, length, take, get_or, set, Option, Some, None}
use Rattle.words.specs.Answer.{pick}
use Rattle.words.specs.Limits.{largest64}
use Rattle.group_rows.specs.declared.Direction.{Direction}
use Rattle.group_rows.specs.declared.Kind.{Kind}
use Rattle.ride.specs.declared.Line.{Line}
use Rattle.acceptance.specs.declared.Entry.{Entry}
use Rattle.acceptance.specs.declared.Acceptance.{Acceptance}
use Rattle.acceptance.specs.declared.Role.{Role}
use Rattle.acceptance.specs.declared.Took.{Took}
use Rattle.acceptance.specs.Plan.{number_of, no_entry}

-- The entries of a run's plan.
abbrev pub planned : Acceptance → List Entry
planned s = take s.count s.entries

-- Whether a group is one of the present direction.
abbrev pub is_present : Direction → Bool
is_present Direction.Present = true
is_present Direction.Opposite = false

-- Whether an entry is still absent.
abbrev pub is_absent : Option ℕ → Bool
is_absent None = true
is_absent (Some place) = false

-- Whether two places lie within the tolerance: "A place exactly at the tolerance is within it."
abbrev pub within : ℕ → ℕ → ℕ → Bool
within tolerance a b = leb a (b + tolerance) && leb b (a + tolerance)

-- Whether the group is of the entry's kind and its A place lies within the tolerance.
abbrev pub is_for : ℕ → ℕ → Kind → Entry → Bool
is_for tolerance place kind e = eqb (number_of e.kind) (number_of kind) && within tolerance e.place place

-- Whether the entry waits for the group: none before met it.
abbrev pub waits : ℕ → ℕ → Kind → Entry → Bool
waits tolerance place kind e = is_absent e.met && is_for tolerance place kind e

-- The index of the first entry that waits for the group; the number of entries if none does.
unfoldable pub waiting : ℕ → ℕ → Kind → List Entry → ℕ
waiting tolerance place kind [] = 0
waiting tolerance place kind (e ∷ es) = pick (waits tolerance place kind e) 0 (suc (waiting tolerance place kind es))

-- An entry that a group at this place met.
abbrev pub met_at : ℕ → Entry → Entry
met_at place e = record { place = e.place; kind = e.kind; met = Some place }

-- One more; the largest number of 64 bits stands for that many or more.
abbrev pub one_more : ℕ → ℕ
one_more n = pick (ltb n largest64) (n + 1) n

-- The run after a group met the entry with this index,
unfoldable pub after_wanted : Acceptance → ℕ → ℕ → Acceptance
after_wanted s i place =
    record { entries = set s.entries i (met_at place (get_or s.entries i no_entry)); count = s.count; tolerance = s.tolerance; extra = s.extra }

-- and after an extra group.
unfoldable pub after_extra : Acceptance → Acceptance
after_extra s = record { entries = s.entries; count = s.count; tolerance = s.tolerance; extra = one_more s.extra }

-- A present group: it meets the first entry that waits for it, or it is extra.
unfoldable pub take_group : Acceptance → ℕ → Kind → Took
take_group s place kind =
    let i : ℕ = waiting s.tolerance place kind (planned s) in
    pick (ltb i (length (planned s)))
    (record { state = after_wanted s i place; answer = Role.Wanted i })
    (record { state = after_extra s; answer = Role.Extra })

-- What takes no part leaves the run as it is.
abbrev pub no_part : Acceptance → Took
no_part s = record { state = s; answer = Role.NoPart }

-- A line of the ride: a present group is wanted or extra; an opposite or a refused group, a missed
-- signal and a refusal take no part.
unfoldable pub take_line : Acceptance → Line → Took
take_line s (Line.Group g) = pick (is_present g.direction) (take_group s g.place g.kind) (no_part s)
take_line s (Line.Fault place n) = no_part s
take_line s (Line.Missed place) = no_part s
take_line s (Line.Record number n) = no_part s
take_line s (Line.Trace n) = no_part s
