-- `put_what` goes by what the contact is.
use mathlib.Core.Path.{subst}
use Prim.Native.Nat.{◌+◌, ◌≤◌}
use lib.ListN.{length}
use Rattle.text.proofs.Standing.{by_case}
use Rattle.contact.specs.declared.Judged.{Judged}
use Rattle.refusals.specs.Words.{table, worded}
use Rattle.contact_text.specs.Lines.{what}
use Rattle.contact_text.proofs.lines.put_what.Goals as goal

pub put_read-requires : goal.put_read-requires
put_read-requires c =
    subst (λ (j : Judged). c.args.at + length (what j) ≤ length c.args.buf.now) c.in-Read.is c.requires

pub returns-in-Read : goal.returns-in-Read
unfolding what worded table
returns-in-Read c = by_case what _ _ c.in-Read.is c.put_read.ensures

pub returns-in-Marker : goal.returns-in-Marker
unfolding what worded table
returns-in-Marker c = by_case what _ _ c.in-Marker.is c.put.ensures

pub returns-in-NotSeven : goal.returns-in-NotSeven
unfolding what worded table
returns-in-NotSeven c = by_case what _ _ c.in-NotSeven.is c.put-in-NotSeven.ensures

pub returns-in-Beyond : goal.returns-in-Beyond
unfolding what worded table
returns-in-Beyond c = by_case what _ _ c.in-Beyond.is c.put-in-Beyond.ensures

pub returns-in-Differ : goal.returns-in-Differ
unfolding what worded table
returns-in-Differ c = by_case what _ _ c.in-Differ.is c.put-in-Differ.ensures

pub returns-in-Neither : goal.returns-in-Neither
unfolding what worded table
returns-in-Neither c = by_case what _ _ c.in-Neither.is c.put-in-Neither.ensures
