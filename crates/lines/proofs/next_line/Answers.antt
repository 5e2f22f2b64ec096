-- `next_line` takes one character a turn: what is left of the block, with the line so far, comes to
-- what the whole does.
use mathlib.Core.Path.{◌≡◌, refl, sym, ap, ◌∙◌}
use Prim.Native.Nat.{ℕ}
use native.Mathlib.Omega.{arith}
use Rattle.lines.specs.Reading.{unfinished, next_line}
use Rattle.lines.proofs.Steps.{at_the_end, at_newline, goes_on, in_comment, at_stop, at_letter}
use Rattle.lines.proofs.next_line.Invariants.{reader}
use Rattle.lines.proofs.next_line.Goals as goal

pub loop-i-init : goal.loop-i-init
unfolding next_line
loop-i-init c = (refl, omega arith)

pub returns-then-c-eq10 : goal.returns-then-c-eq10
returns-then-c-eq10 c =
    let t = c.args.text.now in
    c.whole.ensures ∙ at_newline (reader c.loop-i.line c.loop-i.word c.loop-i.comment) t c.loop-i.i (omega arith) c.if-c-eq10.true ∙ sym c.loop-i.invariant.0

pub loop-i-preserved-then-comment : goal.loop-i-preserved-then-comment
loop-i-preserved-then-comment c =
    let t = c.args.text.now in
    let n = c.loop-i in (
      n.invariant.0 ∙ goes_on (reader n.line n.word n.comment) t n.i (omega arith) c.if-c-eq10.false (reader n.line n.word n.comment)
          (rw c.if-comment.true (in_comment n.line n.word _)),
      omega arith,
    )

pub loop-i-preserved-then-is_stop : goal.loop-i-preserved-then-is_stop
loop-i-preserved-then-is_stop c =
    let t = c.args.text.now in
    let n = c.loop-i in (
      n.invariant.0 ∙ goes_on (reader n.line n.word n.comment) t n.i (omega arith) c.if-c-eq10.false _
          (rw (c.closed-line.ensures, c.no_letters-word.ensures, c.if-comment.false) (at_stop n.line n.word _ (sym c.is_stop.ensures ∙ c.if-is_stop.true))),
      omega arith,
    )

pub loop-i-preserved : goal.loop-i-preserved
loop-i-preserved c =
    let t = c.args.text.now in
    let n = c.loop-i in (
      n.invariant.0 ∙ goes_on (reader n.line n.word n.comment) t n.i (omega arith) c.if-c-eq10.false _
          (rw (c.letter_on-word.ensures, c.if-comment.false) (at_letter n.line n.word _ (sym c.is_stop.ensures ∙ c.if-is_stop.false))),
      omega arith,
    )

pub returns : goal.returns
returns c =
    let t = c.args.text.now in
    let n = c.loop-i in
    let here : c.max.result ≡ n.i = omega arith in
    c.unfinished.ensures
    ∙ ap (λ (k : ℕ). unfinished n.line n.word n.comment k) here
    ∙ at_the_end (reader n.line n.word n.comment) t n.i c.loop-i-test.false
    ∙ sym n.invariant.0
