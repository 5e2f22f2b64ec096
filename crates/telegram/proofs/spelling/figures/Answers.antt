-- `figures` writes the three figures, and then looks whether one of them is 15.
use mathlib.Core.Path.{◌≡◌, sym, ap, ◌∙◌}
use Prim.Native.Nat.{ℕ, ◌≤◌, ◌<◌}
use borrow.Author.Tests.{lt-ltb, le-ltb}
use Rattle.std.specs.Prelude.{Result, Ok, Err}
use Rattle.std.proofs.lemmas.Result.{err_from_is_err_and}
use Rattle.words.specs.Code.{sent, write_short}
use Rattle.words.specs.Says.{says_written}
use Rattle.words.specs.declared.TooLarge.{TooLarge}
use Rattle.telegram.specs.Says.{says_spelt}
use Rattle.telegram.proofs.Spellings.{written, unwritten, large, fifteen, spelt_out}
use Rattle.telegram.proofs.spelling.figures.Goals as goal

-- A figure that was written as w, or was not.
module _ (x : ℕ) (r : Result ℕ TooLarge) (says : says_written r ≡ write_short x) where
  is_word : (w : ℕ) → r ≡ Ok w → (x ≤ 15) × (w ≡ sent 8 x)
  is_word w is = written 8 15 x w (sym (ap says_written is) ∙ says)

  is_large : (e : TooLarge) → r ≡ Err e → 15 < x
  is_large e is = unwritten 8 15 x (sym (ap says_written is) ∙ says)

pub returns-in_err-a : goal.returns-in_err-a
returns-in_err-a c =
    let a = c.args in
    let p = err_from_is_err_and c.from_residual.result c.from_residual.ensures.1 in
    let h : 15 < a.x = is_large a.x c.write_short.result c.write_short.ensures c.in_err-a.field-0.0 c.in_err-a.was in
    ap says_spelt (p.1 ∙ ap Err p.2) ∙ large a.x a.y a.z (simp (lt-ltb _ _ h))

pub returns-in_err-b : goal.returns-in_err-b
returns-in_err-b c =
    let a = c.args in
    let p = err_from_is_err_and c.from_residual-in_err-b.result c.from_residual-in_err-b.ensures.1 in
    let hx = (is_word a.x c.write_short.result c.write_short.ensures c.in_ok-a.a c.in_ok-a.was).0 in
    let h : 15 < a.y = is_large a.y c.short.result c.short.ensures c.in_err-b.field-0.0 c.in_err-b.was in
    ap says_spelt (p.1 ∙ ap Err p.2) ∙ large a.x a.y a.z (simp (le-ltb _ _ hx, lt-ltb _ _ h))

pub returns-in_err-c : goal.returns-in_err-c
returns-in_err-c c =
    let a = c.args in
    let p = err_from_is_err_and c.from_residual-in_err-c.result c.from_residual-in_err-c.ensures.1 in
    let hx = (is_word a.x c.write_short.result c.write_short.ensures c.in_ok-a.a c.in_ok-a.was).0 in
    let hy = (is_word a.y c.short.result c.short.ensures c.in_ok-b.b c.in_ok-b.was).0 in
    let h : 15 < a.z = is_large a.z c.write_short-2.result c.write_short-2.ensures c.in_err-c.field-0.0 c.in_err-c.was in
    ap says_spelt (p.1 ∙ ap Err p.2) ∙ large a.x a.y a.z (simp (le-ltb _ _ hx, le-ltb _ _ hy, lt-ltb _ _ h))

pub returns-then-x-y : goal.returns-then-x-y
returns-then-x-y c =
    let a = c.args in
    let hx = is_word a.x c.write_short.result c.write_short.ensures c.in_ok-a.a c.in_ok-a.was in
    let hy = is_word a.y c.short.result c.short.ensures c.in_ok-b.b c.in_ok-b.was in
    let hz = is_word a.z c.write_short-2.result c.write_short-2.ensures c.in_ok-c.c c.in_ok-c.was in
    fifteen a.x a.y a.z hx.0 hy.0 hz.0 c.if-x-y.true

pub returns : goal.returns
returns c =
    let a = c.args in
    let hx = is_word a.x c.write_short.result c.write_short.ensures c.in_ok-a.a c.in_ok-a.was in
    let hy = is_word a.y c.short.result c.short.ensures c.in_ok-b.b c.in_ok-b.was in
    let hz = is_word a.z c.write_short-2.result c.write_short-2.ensures c.in_ok-c.c c.in_ok-c.was in
    spelt_out a.x a.y a.z hx.0 hy.0 hz.0 c.in_ok-a.a c.in_ok-b.b c.in_ok-c.c hx.1 hy.1 hz.1 c.if-x-y.false
