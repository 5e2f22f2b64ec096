-- `read` judges X first, and reads Y and Z by what X says.
use mathlib.Core.Path.{ap, sym, ◌∙◌}
use mathlib.Core.Bool.{Bool}
use lib.Dec.{eqb}
use borrow.Author.Tests.{eq-eqb, ne_eqb}
use Prim.Native.Nat.{ℕ}
use Rattle.std.specs.Prelude.{Err}
use Rattle.std.proofs.lemmas.Result.{err_from_is_err_and}
use Rattle.words.specs.Answer.{gives, then, pick}
use Rattle.telegram.specs.Telegram.{Received, named, short_word, long_word, telegram}
use Rattle.telegram.specs.Says.{says_telegram_read}
use Rattle.telegram.specs.declared.Telegram.{Telegram}
use Rattle.telegram.specs.declared.Word.{Word}
use Rattle.telegram.proofs.Words.{goes_on, stops}
use Rattle.telegram.proofs.read.Goals as goal

-- how Y and Z are read after an X that reads a: as one long word where it is 12
abbrev by_twelve : ℕ → ℕ → ℕ → Bool → Received
by_twelve y z a twelve =
    pick twelve (then (named Word.YZ (long_word y z)) (λ m. gives (Telegram.Number m)))
    (then (named Word.Y (short_word y)) (λ b. then (named Word.Z (short_word z)) (λ c. gives (Telegram.Figures a b c))))

abbrev after : ℕ → ℕ → ℕ → Received
after y z a = by_twelve y z a (eqb a 12)

pub returns-in_err-a : goal.returns-in_err-a
unfolding telegram
returns-in_err-a c =
    let a = c.args in
    let p = err_from_is_err_and c.from_residual.result c.from_residual.ensures.1 in
    ap says_telegram_read (p.1 ∙ ap Err p.2)
    ∙ stops (named Word.X (short_word a.x)) (after a.y a.z) c.figure.result c.figure.ensures c.in_err-a.field-0.0 c.in_err-a.was

pub returns-then-a-eq12 : goal.returns-then-a-eq12
unfolding telegram
returns-then-a-eq12 c =
    let a = c.args in
    let x = c.in_ok-a in
    c.number.ensures ∙ ap (by_twelve a.y a.z x.a) (sym (eq-eqb x.a 12 c.if-a-eq12.true))
    ∙ goes_on (named Word.X (short_word a.x)) (after a.y a.z) c.figure.result c.figure.ensures x.a x.was

pub returns-else-a-eq12 : goal.returns-else-a-eq12
unfolding telegram
returns-else-a-eq12 c =
    let a = c.args in
    let x = c.in_ok-a in
    c.figures.ensures ∙ ap (by_twelve a.y a.z x.a) (sym (ne_eqb x.a 12 c.if-a-eq12.false))
    ∙ goes_on (named Word.X (short_word a.x)) (after a.y a.z) c.figure.result c.figure.ensures x.a x.was
