-- `list_one` lists the record by itself in the rest of the buffer.
-- Assumes nothing.
use mathlib.Core.Path.{◌≡◌, ap}
use mathlib.Core.List.{[], ◌∷◌}
use native.Mathlib.Omega.{arith}
use lib.ListN.{drop}
use Rattle.settings.specs.At.{gap_at}
use Rattle.ride_text.specs.Style.{with_reasons}
use Rattle.ride_text.specs.Says.{says_done, says_listed}
use Rattle.ride_text.specs.List.{list_taken}
use Rattle.lead_text.proofs.OneMore.{alone, took, written_in, not_refused}
use borrow.Author.Rules.{rules}
use Rattle.lead_text.proofs.record_lines.list_one.Goals.{After-list-listed}
use Rattle.lead_text.proofs.record_lines.list_one.Goals as goal

-- What is listed is the record, in the rest of the buffer.
listed : (c : After-list-listed) →
    says_listed c.list-listed.result c.list-listed.new.out ≡ list_taken with_reasons (gap_at c.args.store) c.args.ride c.args.number (c.args.bytes ∷ []) (drop c.args.at c.args.out.now)
listed c =
    let a = c.args in
    alone c.args.store c.args.ride c.args.number c.args.bytes c.args.out.now c.args.at c.requires.store_value (search rules) c.list-listed.result c.list-listed.new.out c.list-listed.ensures

pub overflow_add-result : goal.overflow_add-result
overflow_add-result c =
    omega (arith, written_in (gap_at c.args.store) c.args.ride c.args.number c.args.bytes c.args.out.now c.args.at c.list-listed.result c.list-listed.new.out _ _ (listed (goal.at-overflow_add-result c).After-list-listed) c.in-Ok.is c.requires.at_in_bounds c.list-listed.auto.out)

pub returns-in-Ok : goal.returns-in-Ok
returns-in-Ok c =
    took (gap_at c.args.store) c.args.ride c.args.number c.args.bytes c.args.out.now c.args.at c.list-listed.result c.list-listed.new.out _ _ (listed (goal.at-returns-in-Ok c).After-list-listed) c.in-Ok.is

pub returns-in-Err : goal.returns-in-Err
returns-in-Err c =
    not_refused (gap_at c.args.store) c.args.ride c.args.number c.args.bytes c.args.out.now c.args.at c.list-listed.result c.list-listed.new.out _ (listed (goal.at-returns-in-Err c).After-list-listed) (ap says_done c.in-Err.is)
