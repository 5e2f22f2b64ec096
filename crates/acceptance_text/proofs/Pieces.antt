-- The lines by their pieces, as they are put, and how long they are at most.
-- Assumes nothing.
use Rattle.std.proofs.Common.{Option, Some, None}
use mathlib.Core.Path.{◌≡◌, refl}
use mathlib.Core.Bool.{Bool, true, false}
use mathlib.Core.List.{List, ◌++◌, append_assoc}
use Prim.Native.Nat.{ℕ, ◌+◌, ◌<◌, ◌≤◌}
use native.Mathlib.Omega.{arith}
use lib.Dec.{ltb}
use lib.ListN.{length, length-append}
use borrow.Author.Tests.{lt-ltb, le-ltb}
use Rattle.words.specs.Answer.{pick}
use Rattle.text.specs.Text.{codes}
use Rattle.text.proofs.Decimal.{decimal_length}
use Rattle.text.proofs.Standing.{numbered}
use Rattle.group_rows.specs.declared.Kind.{Kind}
use Rattle.acceptance.specs.declared.Entry.{Entry}
use Rattle.acceptance.specs.declared.Role.{Role}
use Rattle.acceptance.specs.declared.Sums.{Sums}
use Rattle.acceptance.specs.Taking.{one_more}
use Rattle.ride_text.specs.Text.{kind_word}
use Rattle.ride_text.proofs.Longest.{kind_length}
use Rattle.refusals.specs.Words.{refused}
use Rattle.refusals.proofs.Lengths.{refused_length as words_length}
use Rattle.acceptance_text.specs.Lines.{part_words, group_line, met_words, entry_line, sum_line, trouble_line, verdict, refused_line}

pub wanted_is : (i : ℕ) → numbered " wanted " (one_more i) ++ codes "\n" ≡ part_words (Role.Wanted i)
unfolding part_words
wanted_is i = refl

pub group_is : (place : ℕ) (kind : Kind) (part : Role) → numbered "" place ++ kind_word kind ++ part_words part ≡ group_line place kind part
unfolding group_line
group_is place kind part = refl

pub met_is : (place : ℕ) → numbered " met at " place ++ codes "\n" ≡ met_words (Some place)
unfolding met_words
met_is place = refl

pub entry_is : (i : ℕ) (e : Entry) → numbered "entry " (one_more i) ++ numbered " at " e.place ++ kind_word e.kind ++ met_words e.met ≡ entry_line i e
unfolding entry_line
entry_is i e = simp append_assoc

abbrev pub entries_part : ℕ → ℕ → ℕ → List ℕ
entries_part entries met absent = numbered "" entries ++ numbered " entries: " met ++ numbered " met, " absent

abbrev pub groups_part : ℕ → ℕ → ℕ → List ℕ
groups_part present wanted extra = numbered " absent; " present ++ numbered " present groups: " wanted ++ numbered " wanted, " extra ++ codes " extra\n"

pub sum_is : (s : Sums) → entries_part s.entries s.met s.absent ++ groups_part s.present s.met s.extra ≡ sum_line s
unfolding sum_line
sum_is s = refl

pub refused_is : (n : ℕ) → codes "plan " ++ refused n ≡ refused_line n
unfolding refused_line
refused_is n = refl

-- Both counts of what went wrong.
abbrev pub counts_part : ℕ → ℕ → List ℕ
counts_part faults records = numbered "faults " faults ++ numbered ", records refused " records ++ codes ": see explain\n"

-- They are said where anything went wrong,
pub trouble_some : (faults records : ℕ) → 0 < faults + records → counts_part faults records ≡ trouble_line faults records
unfolding trouble_line
trouble_some faults records h = simp (lt-ltb _ _ h)

-- and else nothing is.
pub trouble_none : (faults records : ℕ) → faults + records ≤ 0 → codes "" ≡ trouble_line faults records
unfolding trouble_line
trouble_none faults records h = simp (le-ltb _ _ h)

part_length : (p : Role) → length (part_words p) ≤ 29
unfolding part_words
part_length (Role.Wanted i) = simp length-append (omega (arith, decimal_length (one_more i)))
part_length Role.Extra = omega arith
part_length Role.NoPart = omega arith

met_length : (m : Option ℕ) → length (met_words m) ≤ 29
unfolding met_words
met_length None = omega arith
met_length (Some place) = simp length-append (omega (arith, decimal_length place))

-- No line is longer than this.
pub group_length : (place : ℕ) (kind : Kind) (part : Role) → length (group_line place kind part) ≤ 64
unfolding group_line
group_length place kind part = simp length-append (omega (arith, decimal_length place, kind_length kind, part_length part))

pub entry_length : (i : ℕ) (e : Entry) → length (entry_line i e) ≤ 128
unfolding entry_line
entry_length i e = simp length-append (omega (arith, decimal_length (one_more i), decimal_length e.place, kind_length e.kind, met_length e.met))

pub sum_length : (s : Sums) → length (sum_line s) ≤ 256
unfolding sum_line
sum_length s =
    simp length-append
    (omega (arith, decimal_length s.entries, decimal_length s.met, decimal_length s.absent, decimal_length s.present, decimal_length s.extra))

pub refused_length : (n : ℕ) → length (refused_line n) ≤ 128
unfolding refused_line
refused_length n = simp length-append (omega (arith, words_length n))

trouble_length : (faults records : ℕ) → length (trouble_line faults records) ≤ 79
unfolding trouble_line
trouble_length faults records =
    either_length (ltb 0 (faults + records)) (counts_part faults records) (codes "")
    (simp length-append (omega (arith, decimal_length faults, decimal_length records))) (omega arith)
  where
    either_length : (b : Bool) (t u : List ℕ) → length t ≤ 79 → length u ≤ 79 → length (pick b t u) ≤ 79
    either_length true t u h k = h
    either_length false t u h k = k

verdict_length : (passed : Bool) → length (verdict passed) ≤ 11
unfolding verdict
verdict_length true = omega arith
verdict_length false = omega arith

pub last_length : (passed : Bool) (faults records : ℕ) → length (trouble_line faults records ++ verdict passed) ≤ 128
last_length passed faults records = simp length-append (omega (arith, trouble_length faults records, verdict_length passed))
