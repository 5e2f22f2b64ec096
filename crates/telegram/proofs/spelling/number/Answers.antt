-- `number` writes the number as one long word, whose two bytes are Y and Z.
use mathlib.Core.Path.{◌≡◌, refl, sym, ap, ap₂, ◌∙◌}
use Prim.Native.Nat.{ℕ, ◌/◌, ◌%◌}
use Rattle.words.specs.Answer.{gives}
use Rattle.words.specs.Bits.{word}
use Rattle.words.specs.Plain.{is_check, covers, count, carriers, carried, made_even, plain_word}
use Rattle.words.specs.Code.{other, exchanged, sent}
use Rattle.words.specs.Says.{says_written}
use Rattle.std.specs.Prelude.{Err}
use Rattle.std.proofs.lemmas.Result.{err_from_is_err_and}
use Rattle.telegram.specs.Says.{says_spelt}
use Rattle.telegram.specs.Spelling.{words_of}
use Rattle.telegram.proofs.Spellings.{written, unwritten, large_number, number_out}
use Rattle.telegram.proofs.spelling.number.Goals as goal

-- the word for 12
twelve : sent 8 12 ≡ 0xC3
unfolding sent exchanged other word plain_word made_even carried carriers count covers is_check
twelve = refl

pub returns-in_err-w : goal.returns-in_err-w
returns-in_err-w c =
    let m = c.args.m in
    let p = err_from_is_err_and c.from_residual.result c.from_residual.ensures.1 in
    ap says_spelt (p.1 ∙ ap Err p.2)
    ∙ large_number m (unwritten 16 2047 m (ap says_written (sym c.in_err-w.was) ∙ c.write_long.ensures))

pub returns : goal.returns
unfolding words_of
returns c =
    let m = c.args.m in
    let w = c.in_ok-w in
    let is = written 16 2047 m w.w (ap says_written (sym w.was) ∙ c.write_long.ensures) in
    ap₂ (λ (a b : ℕ). gives (record { x = a; y = b / 256; z = b % 256 })) (sym twelve) is.1 ∙ number_out m is.0
