-- The version in force at a place (document 02, M-111): "Any place up to 4,000,000,000 can be asked
-- and answers with the version in force there." That it is the one with the highest place not above
-- the asked one is a law of Laws.antt.
-- Assumes nothing.
use Rattle.std.specs.Prelude.{ℕ, ◌+◌, Bool, ◌||◌, List, [], ◌∷◌, leb, ltb}
use Rattle.words.specs.Answer.{Outcome, gives, refuses, pick}
use Rattle.settings.specs.declared.Version.{Version}
use Rattle.settings.specs.declared.Store.{Store}
use Rattle.settings.specs.declared.Held.{Held}
use Rattle.settings.specs.Versions.{then, highest}
use Rattle.settings.specs.Store.{no_version, versions_of, judged}

-- Where the last version's force ends: after the highest place that can be asked.
abbrev pub ending : ℕ
ending = highest + 1

-- A version with the places from which and until which it is in force.
abbrev pub holds : Version → ℕ → Held
holds v until = record { gap = v.gap; s = v.s; t = v.t; from = v.place; until = until }

-- The version in force at a place, among one and those that follow it: "each in force from a stated
-- odometer place until the next one's".
unfoldable pub held_from : Version → List Version → ℕ → Held
held_from v [] place = holds v ending
held_from v (next ∷ vs) place = pick (leb next.place place) (held_from next vs place) (holds v next.place)

-- The version in force at a place, among some. Where there is none, no gap and no pair: a store is
-- never empty.
abbrev pub held_among : List Version → ℕ → Held
held_among [] place = holds no_version ending
held_among (v ∷ vs) place = held_from v vs place

-- The version of a store that is in force at a place.
unfoldable pub held_at : Store → ℕ → Held
held_at store place = held_among (versions_of store) place

-- The gap in force at a place: "A record is treated with the gap in force at its own odometer".
unfoldable pub gap_at : Store → ℕ → ℕ
gap_at store place = (held_at store place).gap

-- Asking for a place: the store's own refusal, then "18 for a place above 4,000,000,000", else the
-- version in force there.
unfoldable pub asked : Store → ℕ → Outcome Held
asked store place =
    then (judged store) λ k.
    pick (ltb highest place) (refuses 18) (gives (held_at store place))

-- ---- holding a version from one place to the next

-- Whether a place lies outside those at which the held settings are in force.
unfoldable pub leaves : Held → ℕ → Bool
leaves held place = ltb place held.from || leb held.until place

-- What an asking gives is held from then on; a refusal changes nothing.
abbrev pub held_or : Held → Outcome Held → Held
held_or held (gives next) = next
held_or held (refuses n) = held

-- The settings to hold at a place that was asked for.
unfoldable pub hold : Store → Held → ℕ → Held
hold store held place = held_or held (asked store place)

-- Going over many places, the settings to hold at the next one: the store is asked only where it
-- lies outside those of the held ones.
unfoldable pub held_for : Store → Held → ℕ → Held
held_for store held place = pick (leaves held place) (hold store held place) held
