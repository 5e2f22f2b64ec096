-- `content_of` goes by what the contact was judged.
use mathlib.Core.Path.{sym, ap, ◌∙◌}
use Rattle.recorder.specs.Record.{content_of}
use Rattle.recorder.proofs.keeping.content_of.Goals as goal

pub returns-in-Read : goal.returns-in-Read
unfolding content_of
returns-in-Read c = c.as_information.ensures ∙ ap content_of (sym c.in-Read.is)

pub returns-in-Marker : goal.returns-in-Marker
unfolding content_of
returns-in-Marker c = c.without_words.ensures ∙ ap content_of (sym c.in-Marker.is)

pub returns-in-NotSeven : goal.returns-in-NotSeven
unfolding content_of
returns-in-NotSeven c = ap content_of (sym c.in-NotSeven.is)

pub returns-in-Beyond : goal.returns-in-Beyond
unfolding content_of
returns-in-Beyond c = ap content_of (sym c.in-Beyond.is)

pub returns-in-Differ : goal.returns-in-Differ
unfolding content_of
returns-in-Differ c = c.without_words-in-Differ.ensures ∙ ap content_of (sym c.in-Differ.is)

pub returns-in-Neither : goal.returns-in-Neither
unfolding content_of
returns-in-Neither c = c.without_words-in-Neither.ensures ∙ ap content_of (sym c.in-Neither.is)
