-- `figures` judges Y, and then Z, each as a short word of a telegram.
use mathlib.Core.Path.{ap, ◌∙◌}
use Prim.Native.Nat.{ℕ}
use Rattle.std.specs.Prelude.{Err}
use Rattle.std.proofs.lemmas.Result.{err_from_is_err_and}
use Rattle.words.specs.Answer.{gives, then}
use Rattle.telegram.specs.Telegram.{Received, named, short_word}
use Rattle.telegram.specs.Says.{says_telegram_read}
use Rattle.telegram.specs.declared.Telegram.{Telegram}
use Rattle.telegram.specs.declared.Word.{Word}
use Rattle.telegram.proofs.Words.{goes_on, stops}
use Rattle.telegram.proofs.after_x.figures.Goals as goal

-- what follows a Z that reads c, and a Y that reads b
abbrev last : ℕ → ℕ → ℕ → Received
last a b c = gives (Telegram.Figures a b c)

abbrev after : ℕ → ℕ → ℕ → Received
after a z b = then (named Word.Z (short_word z)) (last a b)

pub returns-in_err-b : goal.returns-in_err-b
returns-in_err-b c =
    let a = c.args in
    let p = err_from_is_err_and c.from_residual.result c.from_residual.ensures.1 in
    ap says_telegram_read (p.1 ∙ ap Err p.2)
    ∙ stops (named Word.Y (short_word a.y)) (after a.a a.z) c.figure.result c.figure.ensures c.in_err-b.field-0.0 c.in_err-b.was

pub returns-in_err-c : goal.returns-in_err-c
returns-in_err-c c =
    let a = c.args in
    let p = err_from_is_err_and c.from_residual-in_err-c.result c.from_residual-in_err-c.ensures.1 in
    ap says_telegram_read (p.1 ∙ ap Err p.2)
    ∙ stops (named Word.Z (short_word a.z)) (last a.a c.in_ok-b.b) c.figure-2.result c.figure-2.ensures c.in_err-c.field-0.0 c.in_err-c.was
    ∙ goes_on (named Word.Y (short_word a.y)) (after a.a a.z) c.figure.result c.figure.ensures c.in_ok-b.b c.in_ok-b.was

pub returns : goal.returns
returns c =
    let a = c.args in
    goes_on (named Word.Z (short_word a.z)) (last a.a c.in_ok-b.b) c.figure-2.result c.figure-2.ensures c.in_ok-c.c c.in_ok-c.was
    ∙ goes_on (named Word.Y (short_word a.y)) (after a.a a.z) c.figure.result c.figure.ensures c.in_ok-b.b c.in_ok-b.was
