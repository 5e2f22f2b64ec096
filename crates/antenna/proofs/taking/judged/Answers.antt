-- The pair, the length, then the places.
-- Assumes nothing.
use Prim.Native.Nat.{ℕ}
use mathlib.Core.Path.{◌≡◌, refl, sym, ap, ◌∙◌}
use mathlib.Core.Bool.{Bool, true, false}
use borrow.Author.Tests.{le-leb, lt-leb}
use Rattle.words.specs.Answer.{Outcome, gives, refuses, pick}
use Rattle.telegram.specs.Sync.{Good, good, is_good, good_pair}
use Rattle.telegram.specs.Says.{says_pair}
use Rattle.std.specs.Prelude.{Result, Ok, Err, ⊤}
use Rattle.telegram.specs.declared.NotSeven.{NotSeven}
use Rattle.antenna.specs.Sound.{judged}
use Rattle.antenna.proofs.taking.judged.Goals as goal

-- What the judgement of a pair says, as a test.
abbrev is_given : Outcome Good → Bool
is_given (gives g) = true
is_given (refuses n) = false

found : (s t : ℕ) (r o : Result ⊤ NotSeven) → says_pair r ≡ good_pair s t → r ≡ o → is_good s t ≡ is_given (says_pair o)
unfolding good_pair
found s t r o says e = sym (ap (λ (x : Result ⊤ NotSeven). is_given (says_pair x)) (sym e) ∙ ap is_given says ∙ go (is_good s t))
  where
    go : (i : Bool) → is_given (pick i (gives good) (refuses 4)) ≡ i
    go true = refl
    go false = refl

pub returns-in-Err : goal.returns-in-Err
unfolding judged
returns-in-Err c =
    let a = c.args.sound in
    simp (found a.s a.t c.good_pair.result (Err c.in-Err.field-0) c.good_pair.ensures c.in-Err.is)

pub returns-then-sound-le16777216 : goal.returns-then-sound-le16777216
unfolding judged
returns-then-sound-le16777216 c =
    let a = c.args.sound in
    simp (found a.s a.t c.good_pair.result (Ok c.in-Ok.field-0) c.good_pair.ensures c.in-Ok.is, le-leb _ _ c.if-sound-le16777216.true) c.by_places.ensures

pub returns-else-sound-le16777216 : goal.returns-else-sound-le16777216
unfolding judged
returns-else-sound-le16777216 c =
    let a = c.args.sound in
    simp (found a.s a.t c.good_pair.result (Ok c.in-Ok.field-0) c.good_pair.ensures c.in-Ok.is, lt-leb _ _ c.if-sound-le16777216.false)
