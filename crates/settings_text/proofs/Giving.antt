-- A version given to the store, by where the store stands.
-- Assumes nothing.
use mathlib.Core.Path.{◌≡◌}
use Prim.Native.Nat.{◌<◌}
use native.Mathlib.Omega.{arith}
use borrow.Author.Tests.{eq-eqb, ne_eqb}
use Rattle.settings.specs.declared.Version.{Version}
use Rattle.settings.specs.declared.Store.{Store}
use Rattle.settings.specs.Store.{begin, add}
use Rattle.settings_text.specs.declared.Condition.{Condition}
use Rattle.settings_text.specs.declared.Taken.{Taken}
use Rattle.settings_text.specs.Taking.{changed, given}

module _ (store : Store) (v : Version) where
  pub to_a_store : 0 < store.count → changed store (add store v) ≡ given store v
  unfolding given
  to_a_store h = let some : store.count ≡ 0 → ⊥ = λ e. omega arith in simp (ne_eqb _ _ some)

  pub to_none : store.count ≡ 0 → v.place ≡ 0 → changed store (begin v.gap v.s v.t) ≡ given store v
  unfolding given
  to_none e z = simp (eq-eqb _ _ e, eq-eqb _ _ z)

  pub not_from_0 : store.count ≡ 0 → 0 < v.place → ◌≡◌ {A = Taken} (record { store = store; how = Condition.FirstPlace }) (given store v)
  unfolding given
  not_from_0 e h = let some : v.place ≡ 0 → ⊥ = λ z. omega arith in simp (eq-eqb _ _ e, ne_eqb _ _ some)
