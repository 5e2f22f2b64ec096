-- What the arguments before the cards come to: where the cards begin, and which store is ridden
-- under.
-- Assumes nothing.
use Rattle.std.specs.Prelude.{◌≡◌, ℕ, ◌+◌}
use Rattle.words.specs.Answer.{gives}
use Rattle.settings.specs.declared.Store.{Store}
use Rattle.settings.specs.Versions.{kept}
use Rattle.settings.specs.Store.{plain, judged}
use Rattle.console.specs.declared.before.StoreOf.{StoreOf}

-- The first argument after them, where they begin with this one: `-s SETTINGS` are two.
abbrev pub cards_from : ℕ → StoreOf → ℕ
cards_from at StoreOf.Plain = at
cards_from at StoreOf.Settings = at + 2

-- The store: document 01's gap where no settings are named, a good one where they are. Where
-- nothing is ridden there is none: an error has no store.
abbrev pub Ridden : StoreOf → Store → Type 0
Ridden StoreOf.Plain store = store ≡ plain 40
Ridden StoreOf.Settings store = judged store ≡ gives kept
