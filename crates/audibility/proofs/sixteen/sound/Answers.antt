-- `sound` asks for a good pair, and then for sixteen bits with few zeroes among those of ten bytes.
use mathlib.Core.Path.{◌≡◌, sym, ap, ap₂, ◌∙◌}
use mathlib.Core.Bool.{Bool, true, false}
use Rattle.words.specs.Answer.{Outcome, gives, refuses, pick}
use Rattle.telegram.specs.Says.{says_pair}
use Rattle.telegram.specs.Spelling.{Words}
use Rattle.telegram.proofs.Pairs.{is_good_law, not_good}
use Rattle.audibility.specs.Sound.{is_broken, sending, Heard, audible, broken, sound_with}
use Rattle.audibility.proofs.Ten.{ten_broken}
use Rattle.audibility.proofs.sixteen.sound.Goals as goal

-- what a good pair, and whether it is broken, come to
abbrev picked : Bool → Bool → Outcome Heard
picked g b = pick g (gives (pick b broken audible)) (refuses 4)

pub returns-in_default : goal.returns-in_default
unfolding sound_with
returns-in_default c =
    let a = c.args in
    let w : Words = record { x = a.x; y = a.y; z = a.z } in
    let bad = not_good a.s a.t (sym (ap says_pair c.in_default.is) ∙ c.good_pair.ensures) in
    ap (λ (t : Bool). picked t (is_broken (sending a.s a.t w))) (sym bad)

pub returns-then-some_few : goal.returns-then-some_few
unfolding sound_with
returns-then-some_few c =
    let a = c.args in
    let w : Words = record { x = a.x; y = a.y; z = a.z } in
    let good = is_good_law a.s a.t (sym (ap says_pair c.in-Ok.is) ∙ c.good_pair.ensures) in
    let so : is_broken (sending a.s a.t w) ≡ true = sym (ten_broken a.s a.t w) ∙ sym c.some_few.ensures ∙ c.if-some_few.true in
    ap₂ picked (sym good) (sym so)

pub returns-else-some_few : goal.returns-else-some_few
unfolding sound_with
returns-else-some_few c =
    let a = c.args in
    let w : Words = record { x = a.x; y = a.y; z = a.z } in
    let good = is_good_law a.s a.t (sym (ap says_pair c.in-Ok.is) ∙ c.good_pair.ensures) in
    let so : is_broken (sending a.s a.t w) ≡ false = sym (ten_broken a.s a.t w) ∙ sym c.some_few.ensures ∙ c.if-some_few.false in
    ap₂ picked (sym good) (sym so)
