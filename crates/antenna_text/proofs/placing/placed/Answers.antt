-- Case by case.
-- Assumes nothing.
use Rattle.antenna_text.proofs.Shown.{is_read, is_marker_law, is_not_seven, is_beyond, is_differ, is_neither}
use Rattle.antenna_text.proofs.placing.placed.Goals as goal

pub returns-in-Read : goal.returns-in-Read
returns-in-Read c = is_read _ c.in-Read.is c.number_at.ensures

pub returns-in-Marker : goal.returns-in-Marker
returns-in-Marker c = is_marker_law _ c.in-Marker.is

pub returns-in-NotSeven : goal.returns-in-NotSeven
returns-in-NotSeven c = is_not_seven _ c.in-NotSeven.is

pub returns-in-Beyond : goal.returns-in-Beyond
returns-in-Beyond c = is_beyond _ c.in-Beyond.is

pub returns-in-Differ : goal.returns-in-Differ
returns-in-Differ c = is_differ _ c.in-Differ.is

pub returns-in-Neither : goal.returns-in-Neither
returns-in-Neither c = is_neither _ c.in-Neither.is
