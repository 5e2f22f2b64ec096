-- The report of a run (document 02, M-113): "Report each entry as met or absent", and the sums.
-- Assumes nothing.
use Rattle.std.specs.Prelude.{ℕ, suc, ◌+◌, ◌-◌, List, [], ◌∷◌, leb, ltb, length, get_or, Option, Some, None}
use Rattle.words.specs.Answer.{pick}
use Rattle.words.specs.Limits.{largest64}
use Rattle.acceptance.specs.declared.Entry.{Entry}
use Rattle.acceptance.specs.declared.Acceptance.{Acceptance}
use Rattle.acceptance.specs.declared.Sums.{Sums}
use Rattle.acceptance.specs.Plan.{no_entry}
use Rattle.acceptance.specs.Taking.{planned, is_absent}

-- The entry with this index, the first has 0: its place and kind, and that it is absent or the
-- place of the group that met it; or that there is no such entry.
unfoldable pub report : Acceptance → ℕ → Option Entry
report s i = pick (ltb i (length (planned s))) (Some (get_or (planned s) i no_entry)) None

-- How many entries are met.
unfoldable pub met_in : List Entry → ℕ
met_in [] = 0
met_in (e ∷ es) = pick (is_absent e.met) (met_in es) (suc (met_in es))

-- A count of groups; the largest number of 64 bits stands for that many or more.
abbrev pub up_to_most : ℕ → ℕ
up_to_most n = pick (leb n largest64) n largest64

-- The sums: the entries, those met and those absent; the present groups, and those of them that are
-- extra. The others are wanted: as many as the entries met.
unfoldable pub sum_up : Acceptance → Sums
sum_up s =
    let met : ℕ = met_in (planned s) in
    record {
      entries = length (planned s);
      met = met;
      absent = length (planned s) - met;
      present = up_to_most (met + s.extra);
      extra = s.extra;
    }
