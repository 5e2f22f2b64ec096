-- `write` spells the words, and goes on to the bytes if there are words.
use mathlib.Core.Path.{sym, ap, ◌∙◌}
use mathlib.Core.List.{List}
use Rattle.std.specs.Prelude.{Err}
use Prim.Native.Nat.{ℕ}
use lib.ListN.{length}
use Rattle.words.specs.Answer.{Outcome, then}
use Rattle.telegram.specs.Spelling.{Words}
use Rattle.balise_writer.specs.Write.{bytes_of, Writing, onto, write}
use Rattle.telegram.specs.Says.{says_spelt}
use Rattle.balise_writer.proofs.write.Goals as goal

-- what the words' answer o comes to
abbrev after : ℕ → ℕ → ℕ → List ℕ → Outcome Words → Writing
after s t n out o = onto out (then o (bytes_of s t n (length out)))

pub returns-in-Ok : goal.returns-in-Ok
unfolding write
returns-in-Ok c =
    let a = c.args in
    c.write_words.ensures
    ∙ ap (after a.s a.t a.n a.out.now) (sym (ap says_spelt c.in-Ok.is) ∙ c.spell.ensures)

pub returns-in-Err-TooLarge : goal.returns-in-Err-TooLarge
unfolding write
returns-in-Err-TooLarge c =
    let a = c.args in
    let is = c.in-Err-TooLarge.is ∙ ap Err c.in-Err-TooLarge.field-0-is in
    ap (after a.s a.t a.n a.out.now) (sym (ap says_spelt is) ∙ c.spell.ensures)

pub returns-in-Err-Fifteen : goal.returns-in-Err-Fifteen
unfolding write
returns-in-Err-Fifteen c =
    let a = c.args in
    let is = c.in-Err-Fifteen.is ∙ ap Err c.in-Err-Fifteen.field-0-is in
    ap (after a.s a.t a.n a.out.now) (sym (ap says_spelt is) ∙ c.spell.ensures)
