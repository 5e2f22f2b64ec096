-- The store of the settings (document 02, M-111): "A store is opened with its first version, at
-- place 0, so it is never empty. Versions are added in rising place order and never altered."
-- Assumes nothing.
use Rattle.std.specs.Prelude.{ℕ, ◌+◌, ◌-◌, List, [], ◌∷◌, eqb, ltb, take, get_or, set, replicate}
use Rattle.words.specs.Answer.{Outcome, gives, refuses, pick}
use Rattle.settings.specs.declared.Version.{Version}
use Rattle.settings.specs.declared.Store.{Store}
use Rattle.settings.specs.Versions.{then, Kept, kept, settings_of, follows}

-- A place of a store that no version has taken.
abbrev pub no_version : Version
no_version = record { place = 0; gap = 0; s = 0; t = 0 }

-- No store: its count is 0.
unfoldable pub no_store_meant : Store
no_store_meant = record { versions = replicate 32 no_version; count = 0 }

-- The versions of a store, in the order added.
unfoldable pub versions_of : Store → List Version
versions_of store = take store.count store.versions

-- What opening a store, or adding to one, answers: that it is done, or the number of a refusal; and
-- the store after it.
pub record Change : Type 0 where
  pub answer : Outcome Kept
  pub store : Store

-- ---- opening

-- The first version, "at place 0".
abbrev pub first_of : ℕ → ℕ → ℕ → Version
first_of gap s t = record { place = 0; gap = gap; s = s; t = t }

-- A store with its first version.
unfoldable pub opened : Version → Store
opened v = record { versions = set no_store_meant.versions 0 v; count = 1 }

-- A store is opened with good settings; refused, there is none.
abbrev pub opened_if : Version → Outcome Kept → Change
opened_if v (gives k) = record { answer = gives k; store = opened v }
opened_if v (refuses n) = record { answer = refuses n; store = no_store_meant }

-- Opening a store: "4 and 19 for the settings".
unfoldable pub begin : ℕ → ℕ → ℕ → Change
begin gap s t = opened_if (first_of gap s t) (settings_of gap s t)

-- A plain gap as a store: one version, in force everywhere. No ride looks at its sync pair.
abbrev pub plain : ℕ → Store
plain gap = (begin gap 0x00 0x7F).store

-- ---- a lent store: 25, 19, 24 for the store as a whole, then as adding version by version would

-- The versions after one that is in force from `last` on, each added after the one before: the
-- first bad one refuses.
unfoldable pub all_follow : ℕ → List Version → Outcome Kept
all_follow last [] = gives kept
all_follow last (v ∷ vs) =
    then (follows last v) λ k.
    all_follow v.place vs

-- No version at all: no gap is set, 19. A first place that is not 0 is not above what comes before
-- it, 24. Else the first version's settings, and then the others.
unfoldable pub in_order_meant : List Version → Outcome Kept
in_order_meant [] = refuses 19
in_order_meant (v ∷ vs) =
    pick (eqb v.place 0)
    (then (settings_of v.gap v.s v.t) λ k.
    all_follow 0 vs)
    (refuses 24)

-- The judgement of a store: 25 for a count above 32, else that of its versions.
unfoldable pub judged : Store → Outcome Kept
judged store = pick (ltb 32 store.count) (refuses 25) (in_order_meant (versions_of store))

-- ---- adding

-- The place of the last version.
abbrev pub last_place : Store → ℕ
last_place store = (get_or store.versions (store.count - 1) no_version).place

-- The store with one version more.
unfoldable pub with_one : Store → Version → Store
with_one store v = record { versions = set store.versions store.count v; count = store.count + 1 }

-- Whether a version is added: the store's own refusal; 4, 19, 18 and 24 for the version; "then 25
-- for a 33rd version".
unfoldable pub may_add : Store → Version → Outcome Kept
may_add store v =
    then (judged store) λ k.
    then (follows (last_place store) v) λ k.
    pick (ltb store.count 32) (gives kept) (refuses 25)

-- The store after it: "the store is unchanged" by a refusal.
abbrev pub added_if : Store → Version → Outcome Kept → Change
added_if store v (gives k) = record { answer = gives k; store = with_one store v }
added_if store v (refuses n) = record { answer = refuses n; store = store }

-- Adding a version to a store.
unfoldable pub add : Store → Version → Change
add store v = added_if store v (may_add store v)
