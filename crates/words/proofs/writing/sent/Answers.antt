-- `sent` is its definition: the figure's bits, the five checks made even one after the other, the
-- exchange.
use mathlib.Core.Path.{◌≡◌, ap, ◌∙◌}
use Prim.Native.Nat.{ℕ}
use Rattle.words.specs.Plain.{made_even, plain_word}
use Rattle.words.specs.Code.{exchanged, sent}
use Rattle.words.proofs.writing.sent.Goals as goal

-- One check more: what is made of a word is made of what that word is.
on : (n check : ℕ) {w v r : ℕ} → w ≡ v → r ≡ made_even n w check → r ≡ made_even n v check
on n check is made = made ∙ ap (λ (h : ℕ). made_even n h check) is

-- Each word follows from the one before it: the bare figure, the checks 8, 4, 2, 1 and 0, the
-- exchange.
pub returns : goal.returns
unfolding sent plain_word
returns c =
    let even = c.before in
    let bare = even.before.before.before.before.before in
    let n = bare.args.n in
    let with8 = on n 8 bare.carried-bare.ensures.0 even.made_even-with8.ensures.0 in
    let with4 = on n 4 with8 even.made_even-with4.ensures.0 in
    let with2 = on n 2 with4 even.made_even-with2.ensures.0 in
    let with1 = on n 1 with2 even.made_even-with1.ensures.0 in
    let with0 = on n 0 with1 even.made_even-with0.ensures.0 in
    c.exchanged.ensures ∙ ap (exchanged n) with0
