-- The balises read so far stand before what is left, and the number is theirs.
-- Assumes nothing.
use Prim.Native.Nat.{ℕ, ◌+◌, ◌-◌, ◌≤◌, ◌<◌}
use mathlib.Core.Path.{◌≡◌, refl, sym, ap, subst, ◌∙◌}
use mathlib.Core.List.{List}
use native.Mathlib.Omega.{arith}
use lib.ListN.{length, take, get_or, length-set}
use lib.Seq.{take_all}
use Rattle.group_rows.proofs.Ahead.{five_again, head_is, then_ahead}
use Rattle.words.specs.Answer.{gives}
use Rattle.group.specs.declared.Balise.{Balise}
use Rattle.group.specs.Balise.{part_heard, read_all}
use Rattle.group.specs.Inside.{else_number}
use Rattle.group.specs.declared.Number.{Number}
use Rattle.group.specs.Numbers.{number_of}
use Rattle.group.proofs.Hearing.{after_none, placed, unheard, number_next, read_good, read_bad, read_end}
use Rattle.group.proofs.reading.read_all.Goals.{At-loop-i}
use Rattle.group.proofs.reading.read_all.Goals as goal

-- The balise that is read is balise i.
head : (t : At-loop-i) → t.loop-i.i < t.args.n → get_or t.loop-i.ahead 0 unheard ≡ get_or t.args.kept t.loop-i.i unheard
head t h = head_is t.args.kept t.loop-i.ahead t.loop-i.i t.well_formed.0.1.0.1 t.loop-i.invariant.3 (omega (arith, h, t.requires)) t.loop-i.invariant.4 unheard

pub loop-i-init : goal.loop-i-init
unfolding number_of
loop-i-init c =
    let five : length c.args.kept ≡ 5 = omega (arith, c.well_formed.0.1.0.1) in
    let all : length c.args.kept ≤ 5 = omega arith in (
      refl,
      after_none (read_all (take c.args.n c.args.kept)),
      refl,
      five,
      take_all 5 c.args.kept all,
    )

pub returns-in_err-part-clause-result_value : goal.returns-in_err-part-clause-result_value
returns-in_err-part-clause-result_value c =
    let b = head (goal.at-returns-in_err-part-clause-result_value c).At-loop-i c.loop-i-test.true in
    let e = sym (ap (λ (b : Balise). part_heard b.heard) b) ∙ sym c.in_err-part.ensures in
    rw c.from_residual.ensures
    (read_bad c.args.kept c.args.n c.loop-i.i c.well_formed.0.1.0.1 c.requires c.loop-i-test.true e (take c.loop-i.i c.loop-i.parts)
    ∙ sym c.loop-i.invariant.1)

pub loop-i-preserved : goal.loop-i-preserved
loop-i-preserved c =
    let taken = c.loop-i-test.true in
    let b = head (goal.at-loop-i-preserved c).At-loop-i taken in
    let e = sym (ap (λ (b : Balise). part_heard b.heard) b) ∙ sym c.in_ok-part.ensures in
    let room : c.loop-i.i < length c.loop-i.parts = omega arith in (
      simp length-set c.loop-i.invariant.0,
      rw b
          (c.loop-i.invariant.1
          ∙ read_good c.args.kept c.args.n c.loop-i.i c.well_formed.0.1.0.1 c.requires taken c.in_ok-part.part e c.loop-i.parts c.loop-i.invariant.0),
      c.else_number-number.ensures
          ∙ ap (λ (n : Number). else_number n c.in_ok-part.part) c.loop-i.invariant.2
          ∙ number_next c.loop-i.parts c.loop-i.i (placed (get_or c.loop-i.ahead 0 unheard) c.in_ok-part.part) room,
      subst (λ (l : List Balise). length l ≡ 5) (sym c.after_first-ahead.ensures) (five_again c.loop-i.ahead c.loop-i.invariant.3),
      ap (λ (l : List Balise). take (5 - (c.loop-i.i + 1)) l) c.after_first-ahead.ensures
          ∙ then_ahead c.args.kept c.loop-i.ahead c.loop-i.i c.well_formed.0.1.0.1 c.loop-i.invariant.3 (omega (arith, taken, c.requires)) c.loop-i.invariant.4 unheard,
    )

pub returns : goal.returns
returns c =
    let last : c.args.n ≡ c.loop-i.i = omega arith in record {
      result_value = ap (λ (m : ℕ). gives (take m c.loop-i.parts)) last
          ∙ read_end c.args.kept c.args.n c.loop-i.i c.well_formed.0.1.0.1 c.requires c.loop-i-test.false (take c.loop-i.i c.loop-i.parts)
          ∙ sym c.loop-i.invariant.1;
      number_value = c.loop-i.invariant.2 ∙ ap (λ (m : ℕ). number_of (take m c.loop-i.parts)) (sym last);
    }
