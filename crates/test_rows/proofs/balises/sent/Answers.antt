-- The figure, and then its word.
-- Assumes nothing.
use Prim.Native.Nat.{ℕ}
use mathlib.Core.Path.{sym, ap, ◌∙◌}
use Rattle.words.specs.Code.{write_short}
use Rattle.words.specs.Says.{says_written}
use Rattle.std.specs.Prelude.{Result}
use Rattle.words.specs.declared.TooLarge.{TooLarge}
use Rattle.test_rows.specs.Balises.{word_of, sent_as}
use Rattle.test_rows.proofs.balises.sent.Goals as goal

pub returns-in-Ok : goal.returns-in-Ok
unfolding sent_as
returns-in-Ok c =
    ap (λ (r : Result ℕ TooLarge). word_of (says_written r)) (sym c.in-Ok.is)
    ∙ ap word_of c.write_short.ensures
    ∙ ap (λ (x : ℕ). word_of (write_short x)) c.figure.ensures

pub returns-in-Err : goal.returns-in-Err
unfolding sent_as
returns-in-Err c =
    ap (λ (r : Result ℕ TooLarge). word_of (says_written r)) (sym c.in-Err.is)
    ∙ ap word_of c.write_short.ensures
    ∙ ap (λ (x : ℕ). word_of (write_short x)) c.figure.ensures
