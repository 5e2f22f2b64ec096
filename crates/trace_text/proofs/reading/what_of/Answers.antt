-- `what_of` goes by the number of words.
use mathlib.Core.Path.{ap, ap₂, ◌∙◌}
use native.Mathlib.Omega.{arith}
use borrow.Author.Tests.{eq-eqb, ne_eqb}
use lib.ListN.{get_or}
use Rattle.lines.specs.declared.Word.{Word}
use Rattle.lines.proofs.Places.{beyond, word_there}
use Rattle.trace_text.specs.Said.{named, numbered, figures, raw, nth, what_of}
use Rattle.trace_text.proofs.reading.what_of.Goals as goal

pub returns-in-2 : goal.returns-in-2
unfolding what_of
returns-in-2 c =
    let line = c.args.line in
    let one = word_there line 1 (omega arith) in
    c.named.ensures ∙ ap (λ (w : Word). named w.name) one ∙ simp (eq-eqb _ _ c.in-2.is)

pub returns-in-3 : goal.returns-in-3
unfolding what_of
returns-in-3 c =
    let line = c.args.line in
    let one = word_there line 1 (omega arith) in
    let two = word_there line 2 (omega arith) in
    c.numbered.ensures ∙ ap₂ (λ (v w : Word). numbered v.number w.number) one two ∙ simp c.in-3.is

pub returns-in-4 : goal.returns-in-4
unfolding what_of
returns-in-4 c =
    let line = c.args.line in
    let one = word_there line 1 (omega arith) in
    let two = word_there line 2 (omega arith) in
    let three = word_there line 3 (omega arith) in
    c.figures.ensures
    ∙ ap₂ (λ (v w : Word). figures v.number w.number (get_or line.words 3 beyond).number) one two
    ∙ ap (λ (w : Word). figures (nth line 1).number (nth line 2).number w.number) three
    ∙ simp c.in-4.is

pub returns-in-6 : goal.returns-in-6
unfolding what_of
returns-in-6 c =
    let line = c.args.line in
    let one = word_there line 1 (omega arith) in
    let two = word_there line 2 (omega arith) in
    let three = word_there line 3 (omega arith) in
    let four = word_there line 4 (omega arith) in
    let five = word_there line 5 (omega arith) in
    c.raw_of.ensures
    ∙ ap₂ (λ (v w : Word). raw v.name w.byte (get_or line.words 3 beyond).byte (get_or line.words 4 beyond).byte (get_or line.words 5 beyond).byte) one two
    ∙ ap₂ (λ (v w : Word). raw (nth line 1).name (nth line 2).byte v.byte w.byte (get_or line.words 5 beyond).byte) three four
    ∙ ap (λ (w : Word). raw (nth line 1).name (nth line 2).byte (nth line 3).byte (nth line 4).byte w.byte) five
    ∙ simp c.in-6.is

pub returns-in_default : goal.returns-in_default
unfolding what_of
returns-in_default c = simp (ne_eqb _ _ c.in_default.in_default-own.rest.0.0.0.1, ne_eqb _ _ c.in_default.in_default-own.rest.0.0.1, ne_eqb _ _ c.in_default.in_default-own.rest.0.1, ne_eqb _ _ c.in_default.in_default-own.rest.1)
