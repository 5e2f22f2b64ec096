-- The lines of an acceptance run, computed.
-- Assumes nothing.
use Rattle.std.proofs.Common.{Some, None}
use mathlib.Core.Path.{◌≡◌, refl}
use Rattle.text.specs.Text.{codes, digits, decimal}
use Rattle.group_rows.specs.declared.Kind.{Kind}
use Rattle.acceptance.specs.declared.Role.{Role}
use Rattle.refusals.specs.Words.{table, worded, refused}
use Rattle.acceptance_text.specs.Lines.{part_words, group_line, met_words, entry_line, sum_line, is_passed, trouble_line, verdict, last_lines, refused_line}

pub groups : (group_line 1003 Kind.Signal (Role.Wanted 0) ≡ codes "1003 signal wanted 1\n") × (group_line 2000 Kind.Warning Role.Extra ≡ codes "2000 warning extra\n")
unfolding group_line part_words decimal digits
groups = (refl, refl)

pub entries : (entry_line 0 (record { place = 1000; kind = Kind.Signal; met = Some 1003 }) ≡ codes "entry 1 at 1000 signal met at 1003\n")
    × (entry_line 1 (record { place = 5000; kind = Kind.Line; met = None }) ≡ codes "entry 2 at 5000 line absent\n")
unfolding entry_line met_words decimal digits
entries = (refl, refl)

pub the_sum : sum_line (record { entries = 2; met = 1; absent = 1; present = 2; extra = 1 })
    ≡ codes "2 entries: 1 met, 1 absent; 2 present groups: 1 wanted, 1 extra\n"
unfolding sum_line decimal digits
the_sum = refl

pub refused_plan : refused_line 27 ≡ codes "plan refused 27: entries out of order or too near\n"
unfolding refused_line refused worded table decimal digits
refused_plan = refl

pub signed : last_lines (record { entries = 2; met = 1; absent = 1; present = 2; extra = 1 }) 1 10
    ≡ codes "faults 1, records refused 10: see explain\nnot passed\n"
unfolding last_lines trouble_line verdict is_passed decimal digits
signed = refl

pub signed_passed : last_lines (record { entries = 2; met = 2; absent = 0; present = 2; extra = 0 }) 0 0 ≡ codes "passed\n"
unfolding last_lines trouble_line verdict is_passed
signed_passed = refl
