-- Each arm hands over the figure of its number, which is as small as its type.
-- Assumes nothing.
use mathlib.Core.Path.{◌≡◌, sym, ap, subst}
use Prim.Native.Nat.{ℕ, ◌<◌}
use native.Mathlib.Omega.{arith}
use borrow.Author.Rules.{rules}
use Rattle.settings.specs.declared.Version.{Version}
use Rattle.state_bytes.specs.Inside.{width_of}
use Rattle.state_bytes.specs.Stores.{version_figure}
use Rattle.state_bytes.proofs.Bytes.{above, exactly}
use Rattle.state_bytes.proofs.stores.version_figure.Goals as goal

-- the arm of figure m
arm : (v : Version) (k m : ℕ) → k ≡ m → version_figure v m < width_of m → (version_figure v m ≡ version_figure v k) × (version_figure v m < width_of k)
arm v k m e small = (ap (version_figure v) (sym e), subst (λ (j : ℕ). version_figure v m < width_of j) (sym e) small)

pub returns-in-0 : goal.returns-in-0
returns-in-0 c = arm c.args.version c.args.k 0 c.in-0.is (search rules)

pub returns-in-1 : goal.returns-in-1
returns-in-1 c = arm c.args.version c.args.k 1 c.in-1.is (search rules)

pub returns-in-2 : goal.returns-in-2
returns-in-2 c = arm c.args.version c.args.k 2 c.in-2.is (search rules)

pub returns-in_default : goal.returns-in_default
returns-in_default c =
    let k = c.args.k in
    let r = c.in_default.in_default-own.rest in
    let from1 = above k 0 (omega arith) r.0.0.1 in
    let from2 = above k 1 from1 r.0.1 in
    let from3 = above k 2 from2 r.1 in
    arm c.args.version k 3 (exactly k 3 from3 c.requires) (search rules)
