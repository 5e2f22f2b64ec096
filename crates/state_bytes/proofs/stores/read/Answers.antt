-- Version after version is that of the bytes, and the count is the last figure.
-- Assumes nothing.
use Prim.Native.Nat.{ℕ, ◌+◌, ◌<◌}
use mathlib.Core.Path.{◌≡◌, refl, sym, ap₂, subst, ◌∙◌}
use mathlib.Core.List.{List}
use native.Mathlib.Omega.{arith}
use lib.ListN.{length, get_or, set, length-set}
use Rattle.settings.specs.declared.Version.{Version}
use Rattle.settings.specs.declared.Store.{Store}
use Rattle.settings.specs.Store.{no_version}
use Rattle.state_bytes.specs.Stores.{version_at, store_in}
use Rattle.state_bytes.proofs.Bytes.{is_each, more}
use Rattle.state_bytes.proofs.stores.read.Goals as goal

abbrev kept : List Version → ℕ → Store
kept versions count = record { versions = versions; count = count }

pub loop-i-init : goal.loop-i-init
loop-i-init c = (refl, λ j h. absurd (omega arith))

pub loop-i-preserved : goal.loop-i-preserved
loop-i-preserved c =
    let l = c.loop-i in
    let bytes = c.args.bytes.now in
    let v = c.version_at.result in
    let inside : l.i < length l.versions = subst (λ (n : ℕ). l.i < n) (sym l.invariant.0) c.loop-i-test.true in
    let set_long : length (set l.versions l.i v) ≡ 32 = length-set l.versions l.i v ∙ l.invariant.0 in
    let filled : (j : ℕ) → j < l.i + 1 → get_or (set l.versions l.i v) j no_version ≡ version_at bytes j =
    subst (λ (w : Version). (j : ℕ) → j < l.i + 1 → get_or (set l.versions l.i w) j no_version ≡ version_at bytes j) (sym c.version_at.ensures)
    (more (version_at bytes) no_version l.versions l.i inside l.invariant.1) in
    (set_long, filled)

pub returns : goal.returns
unfolding store_in
returns c =
    let l = c.loop-i in
    let bytes = c.args.bytes.now in
    let all : l.i ≡ 32 = omega arith in
    let on : (j : ℕ) → j < 32 → get_or l.versions j no_version ≡ version_at bytes j = λ j h. l.invariant.1 j (subst (λ (n : ℕ). j < n) (sym all) h) in
    ap₂ kept (is_each (version_at bytes) 32 no_version l.versions l.invariant.0 on) c.figure_at.ensures
