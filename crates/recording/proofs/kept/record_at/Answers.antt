-- Case by case.
-- Assumes nothing.
use Rattle.recording.proofs.kept.record_at.Goals as goal

pub returns-in-Read : goal.returns-in-Read
returns-in-Read c = rw c.in-Read.is (rw c.in-Read.is at c.information.ensures)

pub returns-in-Marker : goal.returns-in-Marker
returns-in-Marker c = rw c.in-Marker.is c.blank_at.ensures

pub returns-in-NotSeven : goal.returns-in-NotSeven
returns-in-NotSeven c = rw c.in-NotSeven.is c.blank_at-in-NotSeven.ensures

pub returns-in-Beyond : goal.returns-in-Beyond
returns-in-Beyond c = rw c.in-Beyond.is c.blank_at-in-Beyond.ensures

pub returns-in-Differ : goal.returns-in-Differ
returns-in-Differ c = rw c.in-Differ.is c.blank_at-in-Differ.ensures

pub returns-in-Neither : goal.returns-in-Neither
returns-in-Neither c = rw c.in-Neither.is c.blank_at-in-Neither.ensures
