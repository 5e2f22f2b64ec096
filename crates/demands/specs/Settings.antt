-- What document 02 promises of settings that change on the way (M-111), of every store that calls
-- of `begin` and `add` made, over their contracts and that of `at`. What it is for a version to be
-- in force: `InForce` of settings/specs/Laws.antt.
-- Assumes nothing.
use Rattle.std.specs.Prelude.{ℕ, Result, Ok, ◌<◌, ◌≤◌, ◌≡◌}
use Rattle.words.specs.Answer.{gives}
use Rattle.settings.specs.declared.Version.{Version}
use Rattle.settings.specs.declared.Store.{Store}
use Rattle.settings.specs.declared.Held.{Held}
use Rattle.settings.specs.declared.Begun.{Begun}
use Rattle.settings.specs.declared.Added.{Added}
use Rattle.settings.specs.declared.Bad.{Bad}
use Rattle.settings.specs.Versions.{highest, kept}
use Rattle.settings.specs.Says.{says_verdict}
use Rattle.settings.specs.Laws.{version_in, InForce}
use Rattle.demands.specs.Stores.{BeginStore, AddVersion, AskAt}

-- A store that calls made: `begin` opened it, and `add` was called as often as one likes, refused
-- or not.
pub data Made : Store → Type 0 where
  opened : (gap s t : ℕ) (r : Begun) → BeginStore gap s t r → says_verdict r.verdict ≡ gives kept → Made r.store
  added : (store : Store) (v : Version) (r : Added) → Made store → AddVersion store v r → Made r.store

-- This version was added to this store, which is then the one that `add` answered with.
pub record OneMore (store : Store) (v : Version) (r : Added) : Type 0 where
  pub made : Made store
  pub called : AddVersion store v r
  pub taken : says_verdict r.verdict ≡ gives kept

pub record SettingsKept : Type 0 where
  -- "A store is opened with its first version, at place 0, so it is never empty"; "up to 32
  -- versions"
  pub never_empty : (store : Store) → Made store → (1 ≤ store.count) × (store.count ≤ 32)
  -- "Any place up to 4,000,000,000 can be asked and answers with the version in force there."
  pub any_place : (store : Store) (place : ℕ) (r : Result Held Bad) → Made store → place ≤ highest → AskAt store place r → (held : Held) × (r ≡ Ok held) × InForce store place held
  -- "each in force from a stated odometer place until the next one's": the asked place lies there,
  -- and every other place there is answered alike
  pub from_there : (store : Store) (place : ℕ) (held : Held) → Made store → AskAt store place (Ok held) → (held.from ≤ place) × (place < held.until)
  pub until_there : (store : Store) (place other : ℕ) (held : Held) (r : Result Held Bad) → Made store → AskAt store place (Ok held) → held.from ≤ other → other < held.until
      → AskAt store other r → r ≡ Ok held
  -- "never altered": after one more, the places below it are answered with the version that was in
  -- force there
  pub same_below : (store : Store) (v : Version) (a : Added) (place : ℕ) (before after : Held) → OneMore store v a → place < v.place
      → AskAt store place (Ok before) → AskAt a.store place (Ok after) → version_in after ≡ version_in before
  -- and from its place on it is in force itself
  pub new_from : (store : Store) (v : Version) (a : Added) (place : ℕ) (after : Held) → OneMore store v a → v.place ≤ place
      → AskAt a.store place (Ok after) → version_in after ≡ v
