-- `read_long` is right because a code word stands in the list, at its figure alone: where the
-- search meets the word, that is its figure; where it has passed all of the list, the word is no
-- code word.
use mathlib.Core.Path.{◌≡◌, refl, sym, ap, ◌∙◌}
use mathlib.Core.Bool.{false}
use mathlib.Core.List.{List}
use Prim.Native.Nat.{ℕ, ◌<◌}
use native.Mathlib.Omega.{arith}
use lib.ListN.{get_or}
use borrow.Author.Count.{below_more}
use borrow.Author.Rules.{rules}
use Rattle.words.proofs.Answers.{refused}
use Rattle.words_list.specs.Listed.{list}
use Rattle.words_list.proofs.Law.{listed_reads, not_listed}
use Rattle.words_list.proofs.read_long.Goals as goal

pub returns-then-words-figure : goal.returns-then-words-figure
returns-then-words-figure c =
    let x : ℕ = c.loop-figure.figure in
    let here : get_or list x 0 ≡ c.args.word = ap (λ (l : List ℕ). get_or l x 0) (sym c.list-words.ensures) ∙ c.if-words-figure.true in
    sym (listed_reads x c.args.word (omega (arith, c.loop-figure-test.true)) here)

pub loop-figure-preserved : goal.loop-figure-preserved
loop-figure-preserved c = below_more _ _ c.loop-figure.invariant c.if-words-figure.false

pub returns : goal.returns
returns c =
    let none : (x : ℕ) → x < 2048 → get_or list x 0 ≡ c.args.word → ⊥ =
    λ x l e. c.loop-figure.invariant x (omega (arith, c.loop-figure-test.false)) (ap (λ (l : List ℕ). get_or l x 0) c.list-words.ensures ∙ e) in
    refused 16 c.args.word false (sym (not_listed c.args.word (search rules) none)) c.parity.result c.parity.ensures refl
