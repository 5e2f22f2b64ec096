-- `sound_of` spells the words, and goes on to their line if there are words.
use mathlib.Core.Path.{sym, ap, ◌∙◌}
use Rattle.std.specs.Prelude.{Err}
use Rattle.words.specs.Answer.{Outcome, then}
use Rattle.telegram.specs.Spelling.{Words}
use Rattle.telegram.specs.Says.{says_spelt}
use Rattle.audibility.specs.Sound.{sound_with, sound_of}
use Rattle.audibility.proofs.sound_of.Goals as goal

pub returns-in-Ok : goal.returns-in-Ok
unfolding sound_of
returns-in-Ok c =
    let a = c.args in
    c.sound.ensures ∙ ap (λ (o : Outcome Words). then o (sound_with a.s a.t)) (sym (ap says_spelt c.in-Ok.is) ∙ c.spell.ensures)

pub returns-in-Err-TooLarge : goal.returns-in-Err-TooLarge
unfolding sound_of
returns-in-Err-TooLarge c =
    let a = c.args in
    ap (λ (o : Outcome Words). then o (sound_with a.s a.t)) (sym (ap says_spelt (c.in-Err-TooLarge.is ∙ ap Err c.in-Err-TooLarge.field-0-is)) ∙ c.spell.ensures)

pub returns-in-Err-Fifteen : goal.returns-in-Err-Fifteen
unfolding sound_of
returns-in-Err-Fifteen c =
    let a = c.args in
    ap (λ (o : Outcome Words). then o (sound_with a.s a.t)) (sym (ap says_spelt (c.in-Err-Fifteen.is ∙ ap Err c.in-Err-Fifteen.field-0-is)) ∙ c.spell.ensures)
