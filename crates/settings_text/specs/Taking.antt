-- A line given to the store of the settings, or to none yet: a store of no version.
-- Assumes nothing.
use Rattle.std.specs.Prelude.{eqb}
use Rattle.words.specs.Answer.{Outcome, gives, refuses, pick}
use Rattle.settings.specs.declared.Version.{Version}
use Rattle.settings.specs.declared.Store.{Store}
use Rattle.settings.specs.Versions.{Kept}
use Rattle.settings.specs.Store.{Change, begin, add}
use Rattle.lines.specs.declared.TextLine.{TextLine}
use Rattle.settings_text.specs.declared.line.Stated.{Stated}
use Rattle.settings_text.specs.declared.Condition.{Condition}
use Rattle.settings_text.specs.declared.Taken.{Taken}
use Rattle.settings_text.specs.Line.{stated}

-- The store after a version was given to it; "store unchanged" by a refusal.
abbrev pub after_it : Outcome Kept → Store → Store → Taken
after_it (gives k) before after = record { store = after; how = Condition.Fine }
after_it (refuses n) before after = record { store = before; how = Condition.Refused n }

abbrev pub changed : Store → Change → Taken
changed before change = after_it change.answer before change.store

-- A version given to the store: the first opens it, and its place is 0, else that is told; any
-- other is added.
unfoldable pub given : Store → Version → Taken
given store v =
    pick (eqb store.count 0)
    (pick (eqb v.place 0)
    (changed store (begin v.gap v.s v.t))
    (record { store = store; how = Condition.FirstPlace }))
    (changed store (add store v))

-- What a line states, given to the store: blank lines and comments leave it.
abbrev pub stated_to : Store → Stated → Taken
stated_to store Stated.Nothing = record { store = store; how = Condition.Fine }
stated_to store (Stated.Version place gap s t) = given store (record { place = place; gap = gap; s = s; t = t })
stated_to store Stated.Unreadable = record { store = store; how = Condition.Unreadable }

-- A line taken.
unfoldable pub take_line : Store → TextLine → Taken
take_line store line = stated_to store (stated line)
