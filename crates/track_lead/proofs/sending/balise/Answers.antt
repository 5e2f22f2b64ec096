-- `balise` has three frames of telegrams, and ones after them.
use Prim.Native.Nat.{ℕ, ◌≤◌}
use mathlib.Core.Path.{◌≡◌, sym, ap}
use native.Mathlib.Omega.{arith}
use Rattle.balise_writer.specs.Write.{telegrams}
use Rattle.track_lead.specs.declared.Thing.{Thing}
use Rattle.track_lead.specs.Sent.{line_in}
use Rattle.track_lead.proofs.Ones.{ones_there, balise_over}
use Rattle.track_lead.proofs.sending.balise.Goals.{Start}
use Rattle.track_lead.proofs.sending.balise.Goals as goal

-- Frame j of the balise that a call is about.
abbrev there : Start → ℕ → Type 0
there c k = line_in c.args.s c.args.t (Thing.Balise c.args.x c.args.y c.args.z) k ≡ line_in c.args.s c.args.t (Thing.Balise c.args.x c.args.y c.args.z) c.args.j

at : (c : Start) (k : ℕ) → c.args.j ≡ k → there c k
at c k is = ap (line_in c.args.s c.args.t (Thing.Balise c.args.x c.args.y c.args.z)) (sym is)

pub returns-in-0 : goal.returns-in-0
unfolding line_in telegrams
returns-in-0 c = at (goal.at-returns-in-0 c).Start 0 c.in-0.is

pub returns-in-1 : goal.returns-in-1
unfolding line_in telegrams
returns-in-1 c = at (goal.at-returns-in-1 c).Start 1 c.in-1.is

pub returns-in-2 : goal.returns-in-2
unfolding line_in telegrams
returns-in-2 c = at (goal.at-returns-in-2 c).Start 2 c.in-2.is

pub returns-in_default : goal.returns-in_default
returns-in_default c =
    let a = c.args in
    let late : 3 ≤ a.j = omega (arith, c.in_default.in_default-own.rest) in
    sym (ones_there a.s a.t (Thing.Balise a.x a.y a.z) a.j (balise_over a.s a.t a.x a.y a.z a.j late))
