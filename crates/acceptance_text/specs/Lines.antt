-- The lines of a depot's acceptance run as text: a present group (`1003 signal wanted 1`, `2000
-- warning extra`), an entry of the plan (`entry 1 at 1000 signal met at 1003`, `entry 2 at 5000
-- line absent`), the sum (`2 entries: 1 met, 1 absent; 2 present groups: 1 wanted, 1 extra`), what
-- a depot signs (`faults 1, records refused 10: see explain`, `not passed`) and a refused plan
-- (`plan refused 27: entries out of order or too near`). The words do not change with the counts.
-- Entries are counted from 1.
-- Assumes nothing.
use Rattle.std.specs.Prelude.{ℕ, ◌+◌, Bool, ◌&&◌, List, ◌++◌, eqb, ltb, Option, Some, None}
use Prim.Native.String.{String}
use Rattle.words.specs.Answer.{pick}
use Rattle.text.specs.Text.{codes, decimal}
use Rattle.group_rows.specs.declared.Kind.{Kind}
use Rattle.ride_text.specs.Text.{kind_word}
use Rattle.acceptance.specs.declared.Entry.{Entry}
use Rattle.acceptance.specs.declared.Role.{Role}
use Rattle.acceptance.specs.declared.Sums.{Sums}
use Rattle.acceptance.specs.Taking.{one_more}
use Rattle.refusals.specs.Words.{refused}

-- A group's part: wanted with the number of its entry, or extra. A group that takes no part is said
-- to.
unfoldable pub part_words : Role → List ℕ
part_words (Role.Wanted i) = codes " wanted " ++ decimal (one_more i) ++ codes "\n"
part_words Role.Extra = codes " extra\n"
part_words Role.NoPart = codes " no part\n"

-- The line of a group: its A place, its kind and its part.
unfoldable pub group_line : ℕ → Kind → Role → List ℕ
group_line place kind part = decimal place ++ kind_word kind ++ part_words part

-- Whether an entry was met, and where.
unfoldable pub met_words : Option ℕ → List ℕ
met_words None = codes " absent\n"
met_words (Some place) = codes " met at " ++ decimal place ++ codes "\n"

-- The line of the entry with this index.
unfoldable pub entry_line : ℕ → Entry → List ℕ
entry_line i e = codes "entry " ++ decimal (one_more i) ++ codes " at " ++ decimal e.place ++ kind_word e.kind ++ met_words e.met

-- Words and a number after them.
abbrev pub counted : String → ℕ → List ℕ
counted words n = codes words ++ decimal n

-- The line of the sum: the entries, and the groups; as many groups are wanted as entries are met.
unfoldable pub sum_line : Sums → List ℕ
sum_line s =
    (counted "" s.entries ++ counted " entries: " s.met ++ counted " met, " s.absent)
    ++ (counted " absent; " s.present ++ counted " present groups: " s.met ++ counted " wanted, " s.extra ++ codes " extra\n")

-- A ride passes where no entry is absent and no group is extra.
unfoldable pub is_passed : Sums → Bool
is_passed s = eqb s.absent 0 && eqb s.extra 0

-- What went wrong on the way, both counts, where anything did.
unfoldable pub trouble_line : ℕ → ℕ → List ℕ
trouble_line faults records =
    pick (ltb 0 (faults + records))
    (counted "faults " faults ++ counted ", records refused " records ++ codes ": see explain\n")
    (codes "")

-- Whether the ride passed.
unfoldable pub verdict : Bool → List ℕ
verdict passed = pick passed (codes "passed\n") (codes "not passed\n")

-- The last lines: what went wrong, and whether the ride passed.
unfoldable pub last_lines : Sums → ℕ → ℕ → List ℕ
last_lines s faults records = trouble_line faults records ++ verdict (is_passed s)

-- The line of a refused plan.
unfoldable pub refused_line : ℕ → List ℕ
refused_line n = codes "plan " ++ refused n
