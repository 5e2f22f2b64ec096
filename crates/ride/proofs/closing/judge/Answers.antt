-- `judge` goes by the judgement, as the definitions do.
use Prim.Native.Nat.{ℕ, ◌<◌}
use mathlib.Core.Path.{ap, sym, subst, ◌∙◌}
use native.Mathlib.Omega.{arith}
use Rattle.words.specs.Answer.{refuses}
use Rattle.group.specs.declared.GroupRefused.{GroupRefused}
use Rattle.group.specs.Says.{refused_as, says_group_judged}
use Rattle.ride.proofs.Cases.{verdict_on}
use Rattle.ride.proofs.closing.judge.Goals as goal

-- Each refusal has a number.
has_number : (e : GroupRefused) → 0 < refused_as e
has_number GroupRefused.One = omega arith
has_number GroupRefused.Many = omega arith
has_number GroupRefused.Unread = omega arith
has_number GroupRefused.NoRow = omega arith
has_number GroupRefused.NoDistance = omega arith

pub faulty-requires : goal.faulty-requires
faulty-requires c = rw c.from.ensures (has_number c.in-Err.refused)

pub returns-in-Ok : goal.returns-in-Ok
returns-in-Ok c =
    let a = c.args in
    c.accepted.ensures ∙ ap (verdict_on a.group a.known) (sym (ap says_group_judged c.in-Ok.is) ∙ c.judge.ensures)

pub returns-in-Err : goal.returns-in-Err
returns-in-Err c =
    let a = c.args in
    c.faulty.ensures
    ∙ ap (λ (n : ℕ). verdict_on a.group a.known (refuses n)) c.from.ensures
    ∙ ap (verdict_on a.group a.known) (sym (ap says_group_judged c.in-Err.is) ∙ c.judge.ensures)
