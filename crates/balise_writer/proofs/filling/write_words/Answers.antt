-- `write_words` tests in the order of the refusals, and then fills the buffer.
use mathlib.Core.Path.{◌≡◌, sym, ap, ◌∙◌}
use mathlib.Core.Bool.{true, not}
use Prim.Native.Nat.{◌+◌, ◌*◌, ◌≤◌, ◌<◌}
use native.Mathlib.Omega.{arith}
use lib.ListN.{length}
use Rattle.telegram.specs.Sync.{is_good}
use Rattle.telegram.specs.Says.{says_pair}
use Rattle.telegram.specs.Spelling.{Words}
use Rattle.balise_writer.specs.Write.{in_range}
use Rattle.telegram.proofs.Pairs.{is_good_law, not_good}
use Rattle.balise_writer.proofs.Bytes.{is_onto}
use Rattle.balise_writer.proofs.Answers.{range, answers_4, answers_20, answers_21, answers_bytes}
use borrow.Author.Rules.{rules}
use Rattle.balise_writer.proofs.filling.write_words.Goals.{Else-n, In-Ok, Start}
use Rattle.balise_writer.proofs.filling.write_words.Goals as goal

-- the words, and that the pair is good
abbrev words : Start → Words
words c = record { x = c.args.x; y = c.args.y; z = c.args.z }

is_pair : (c : In-Ok) → let a = c.args in is_good a.s a.t ≡ true
is_pair c =
    let a = c.args in
    is_good_law a.s a.t (ap says_pair (sym c.in-Ok.is) ∙ c.good_pair.ensures)

in_range_law : (c : Else-n) → in_range c.args.n ≡ true
in_range_law c = range c.args.n ∙ ap not c.if-n.false

pub returns-in_default : goal.returns-in_default
returns-in_default c =
    let a = c.args in
    answers_4 a.s a.t a.n (words (goal.at-returns-in_default c).Start) a.out.now
    (not_good a.s a.t (ap says_pair (sym c.in_default.is) ∙ c.good_pair.ensures))

pub returns-then-n : goal.returns-then-n
returns-then-n c =
    let a = c.args in
    answers_20 a.s a.t a.n (words (goal.at-returns-then-n c).Start) a.out.now (is_pair (goal.at-returns-then-n c).In-Ok) (range a.n ∙ ap not c.if-n.true)

pub returns-then-out-end : goal.returns-then-out-end
returns-then-out-end c =
    let a = c.args in
    let short : length a.out.now < 4 * a.n + 1 = omega arith in
    answers_21 a.s a.t a.n (words (goal.at-returns-then-out-end c).Start) a.out.now (is_pair (goal.at-returns-then-out-end c).In-Ok) (in_range_law (goal.at-returns-then-out-end c).Else-n) short

pub returns : goal.returns
returns c =
    let a = c.args in
    let room : 4 * a.n + 1 ≤ length a.out.now = omega arith in
    let kept : length c.fill.new.out ≡ length a.out.now = search rules in
    let end : a.n * 4 + 1 ≡ 4 * a.n + 1 = omega arith in
    answers_bytes a.s a.t a.n (words (goal.at-returns c).Start) a.out.now (is_pair (goal.at-returns c).In-Ok) (in_range_law (goal.at-returns c).Else-n) room (a.n * 4 + 1) end c.fill.new.out
    (is_onto a.s a.t (words (goal.at-returns c).Start) a.n a.out.now c.fill.new.out kept room
    (λ i h. c.fill.ensures.by_index i (omega arith)) (λ i h. c.fill.ensures.by_index_2 i (omega arith)))
