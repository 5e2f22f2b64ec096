-- What is promised of a store (document 02, M-111), of any store that is judged good, and so of
-- every one that `begin` and `add` made.
-- Assumes nothing.
use Rattle.std.specs.Prelude.{ℕ, ◌<◌, ◌≤◌, ◌≡◌, length, get_or}
use Rattle.words.specs.Answer.{Outcome, gives}
use Rattle.settings.specs.declared.Version.{Version}
use Rattle.settings.specs.declared.Store.{Store}
use Rattle.settings.specs.declared.Held.{Held}
use Rattle.settings.specs.Versions.{then, highest, kept}
use Rattle.settings.specs.Store.{no_version, begin, judged, add}
use Rattle.settings.specs.At.{asked}

-- Version i of a store, the first at 0.
abbrev pub version_at : Store → ℕ → Version
version_at store i = get_or store.versions i no_version

-- The version that is held, without the place where its force ends.
abbrev pub version_in : Held → Version
version_in held = record { place = held.from; gap = held.gap; s = held.s; t = held.t }

-- The version that an asking answers with, or its refusal.
abbrev pub answer : Outcome Held → Outcome Version
answer o = then o λ held. gives (version_in held)

-- The version in force at a place is one of the store's, its place is not above the asked one, and
-- it is the highest such.
pub record InForce (store : Store) (place : ℕ) (held : Held) : Type 0 where
  pub number : ℕ
  pub of_these : number < store.count
  pub is : version_in held ≡ version_at store number
  pub not_above : held.from ≤ place
  pub highest_such : (i : ℕ) → i < store.count → (version_at store i).place ≤ place → (version_at store i).place ≤ held.from

-- The laws of the settings. A store's array has 32 places, as the type says.
pub record Settings : Type 0 where
  -- "A store is opened with its first version, at place 0, so it is never empty."
  pub opened_good : (gap s t : ℕ) → (begin gap s t).answer ≡ gives kept → judged (begin gap s t).store ≡ gives kept
  -- "Versions are added in rising place order": a store that was added to is without a fault.
  pub added_good : (store : Store) (v : Version) → length store.versions ≡ 32 → (add store v).answer ≡ gives kept → judged (add store v).store ≡ gives kept
  -- "Any place up to 4,000,000,000 can be asked"
  pub any_place : (store : Store) (place : ℕ) → judged store ≡ gives kept → place ≤ highest → (held : Held) × (asked store place ≡ gives held)
  -- "and answers with the version in force there": the one with the highest place not above the
  -- asked one.
  pub in_force_law : (store : Store) (place : ℕ) (held : Held) → length store.versions ≡ 32 → asked store place ≡ gives held → InForce store place held
  -- "each in force from a stated odometer place until the next one's": the asked place lies there,
  -- and every other place there is answered alike.
  pub from_there : (store : Store) (place : ℕ) (held : Held) → asked store place ≡ gives held → (held.from ≤ place) × (place < held.until)
  pub until_there : (store : Store) (place other : ℕ) (held : Held) → asked store place ≡ gives held → held.from ≤ other → other < held.until → asked store other ≡ gives held
  -- "never altered": adding changes no answer below the added place, and from it on the added
  -- version is in force.
  pub same_below : (store : Store) (v : Version) (place : ℕ) → length store.versions ≡ 32 → (add store v).answer ≡ gives kept → place < v.place
      → answer (asked (add store v).store place) ≡ answer (asked store place)
  pub new_from : (store : Store) (v : Version) (place : ℕ) → length store.versions ≡ 32 → (add store v).answer ≡ gives kept → v.place ≤ place → place ≤ highest
      → answer (asked (add store v).store place) ≡ gives v
