-- The balises passed lead to where the walk stands, with as many times 12 as are left.
-- Assumes nothing.
use Prim.Native.Nat.{ℕ, ◌+◌, ◌≤◌, ◌<◌, ◌-◌}
use mathlib.Core.Path.{◌≡◌, sym, ap, subst, ◌∙◌}
use mathlib.Core.List.{List}
use mathlib.Core.Logic.{⊎_elim}
use native.Mathlib.Omega.{arith}
use lib.ListN.{length, take, drop, get_or}
use lib.Seq.{take_all}
use Rattle.group_rows.specs.Open.{Rest, after}
use Rattle.group_rows.specs.Stands.{rows_of, open_after}
use Rattle.group_rows.specs.Opening.{Leads, Speeds}
use Rattle.group_rows.specs.declared.Placed.{Placed}
use Rattle.group_rows.proofs.Ahead.{five_again, head_is, then_ahead}
use Rattle.group_rows.proofs.Leads.{blank, start, on_other, on_number, on_too_many, nothing_left}
use Rattle.group_rows.proofs.Speeds as speeds
use borrow.Author.Rules.{rules}
use Rattle.group_rows.proofs.running.follow.Goals.{After-next, At-loop-i, In-loop-i, Start}
use Rattle.group_rows.proofs.running.follow.Goals as goal

long : (s : Start) → length s.args.p ≡ 5
long s = omega (arith, s.well_formed.0.1.0.1)

-- The first balise ahead is the next one.
abbrev next_one : At-loop-i → Placed
next_one t = get_or t.loop-i.ahead 0 blank

next_is : (t : In-loop-i) → next_one (goal.at-In-loop-i t).At-loop-i ≡ get_or t.args.p t.loop-i.i blank
next_is u =
    let few : u.loop-i.i < 5 = omega (arith, u.loop-i-test.true, u.requires) in
    head_is u.args.p u.loop-i.ahead u.loop-i.i (long (goal.at-In-loop-i u).Start) u.loop-i.invariant.2 few u.loop-i.invariant.3 blank

within : (u : In-loop-i) → u.loop-i.i < length u.args.p
within u = omega (arith, u.loop-i-test.true, u.requires, long (goal.at-In-loop-i u).Start)

-- One balise on.
led : (g : After-next) → Leads (take (g.loop-i.i + 1) g.args.p)
    g.if-is_category.left (after (rows_of g.loop-i.at) (next_one (goal.at-After-next g).At-loop-i))
led g =
    let p = g.args.p in
    let rs = rows_of g.loop-i.at in
    let test = sym g.is_category.ensures in
    ⊎_elim
    (λ w.
    let e : g.loop-i.left ≡ g.if-is_category.left + 1 = omega (arith, w.if-left-eq0.false, w.left-is) in
    on_number p g.loop-i.i (within (goal.at-After-next g).In-loop-i) (next_one (goal.at-After-next g).At-loop-i) (next_is (goal.at-After-next g).In-loop-i) rs g.if-is_category.left (test ∙ w.if-is_category.true)
    (subst (λ (m : ℕ). Leads (take g.loop-i.i p) m rs) e g.loop-i.invariant.0))
    (λ w.
    on_other p g.loop-i.i (within (goal.at-After-next g).In-loop-i) (next_one (goal.at-After-next g).At-loop-i) (next_is (goal.at-After-next g).In-loop-i) rs g.if-is_category.left (test ∙ w.if-is_category.false)
    (subst (λ (m : ℕ). Leads (take g.loop-i.i p) m rs) (sym w.left-is) g.loop-i.invariant.0))
    g.if-is_category.branch-raw

pub loop-i-init : goal.loop-i-init
loop-i-init c =
    let five : length c.args.p ≤ 5 = omega (arith, long c) in
    (start, speeds.start, long c, take_all 5 c.args.p five)

pub returns-then-left-eq0 : goal.returns-then-left-eq0
returns-then-left-eq0 c =
    let p = c.args.p in
    let rs = rows_of c.loop-i.at in
    record {
      within = search rules;
      left = c.loop-i.left;
      leads = c.loop-i.invariant.0;
      speeds = c.loop-i.invariant.1;
      stuck = λ _.
          on_too_many p c.loop-i.i (within (goal.at-returns-then-left-eq0 c).In-loop-i) (next_one (goal.at-returns-then-left-eq0 c).At-loop-i) (next_is (goal.at-returns-then-left-eq0 c).In-loop-i) rs (sym c.is_category.ensures ∙ c.if-is_category.true)
          (subst (λ (m : ℕ). Leads (take c.loop-i.i p) m rs) c.if-left-eq0.true c.loop-i.invariant.0);
    }

pub returns-in_default : goal.returns-in_default
returns-in_default c =
    record {
      within = search rules;
      left = c.loop-i.left;
      leads = c.loop-i.invariant.0;
      speeds = c.loop-i.invariant.1;
      stuck = λ _.
          nothing_left (take (c.loop-i.i + 1) c.args.p) c.if-is_category.left
          (subst (λ (rs : List Rest). Leads (take (c.loop-i.i + 1) c.args.p) c.if-is_category.left rs) (sym c.next.ensures ∙ ap open_after c.in_default.is) (led (goal.at-returns-in_default c).After-next));
    }

pub loop-i-preserved : goal.loop-i-preserved
loop-i-preserved c =
    let p = c.args.p in
    let q = c.loop-i.ahead in
    let few : c.loop-i.i < 5 = omega (arith, c.loop-i-test.true, c.requires) in
    let e = sym c.next.ensures ∙ ap open_after c.in-Some.is in
    let onto = sym c.after_first-ahead.ensures in (
      subst (λ (rs : List Rest). Leads (take (c.loop-i.i + 1) p) c.if-is_category.left rs) e (led (goal.at-loop-i-preserved c).After-next),
      subst Speeds e (speeds.one_more (rows_of c.loop-i.at) (next_one (goal.at-loop-i-preserved c).At-loop-i) c.loop-i.invariant.1),
      subst (λ (l : List Placed). length l ≡ 5) onto (five_again q c.loop-i.invariant.2),
      subst (λ (l : List Placed). take (5 - (c.loop-i.i + 1)) l ≡ drop (c.loop-i.i + 1) p) onto
          (then_ahead p q c.loop-i.i (long (goal.at-loop-i-preserved c).Start) c.loop-i.invariant.2 few c.loop-i.invariant.3 blank),
    )

pub returns : goal.returns
returns c =
    let all : c.loop-i.i ≡ c.args.n = omega (arith, c.loop-i-test.false, c.loop-i.auto.i-end) in
    record {
      within = search rules;
      left = c.loop-i.left;
      leads = subst (λ (k : ℕ). Leads (take k c.args.p) c.loop-i.left (rows_of c.loop-i.at)) all c.loop-i.invariant.0;
      speeds = c.loop-i.invariant.1;
      stuck = λ h. absurd (none_more h);
    }
  where
    none_more : {m : ℕ} → m < m → ⊥
    none_more h = omega arith
