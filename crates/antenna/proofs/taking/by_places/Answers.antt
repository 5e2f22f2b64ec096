-- Case by case.
-- Assumes nothing.
use Prim.Native.Nat.{ℕ}
use mathlib.Core.Path.{◌≡◌, sym, ap, ◌∙◌}
use mathlib.Core.Bool.{Bool, true, false}
use borrow.Author.Tests.{le-leb, lt-leb}
use lib.Dec.{leb}
use Rattle.words.specs.Answer.{Outcome, gives, pick}
use Rattle.telegram.specs.declared.Telegram.{Telegram}
use Rattle.contact.specs.Judge.{Contact, read}
use Rattle.antenna.specs.declared.Places.{Places}
use Rattle.antenna.specs.Sound.{marker_or, by_places}
use Rattle.antenna.proofs.taking.by_places.Goals as goal

-- Places that are alike: x is whether they are two or more.
counted : (left : Outcome Contact) (places : Places) (m : Telegram) (a b c first count : ℕ) (x : Bool)
    → places ≡ Places.Alike m a b c first count → leb 2 count ≡ x
    → pick x (gives (read (gives m) first count)) left ≡ by_places left places
counted left places m a b c first count x e test =
    ap (λ (i : Bool). pick i (gives (read (gives m) first count)) left) (sym test) ∙ sym (ap (by_places left) e)

pub returns-then-count-ge2 : goal.returns-then-count-ge2
returns-then-count-ge2 c =
    let a = c.args in
    counted (marker_or a.length a.ones a.plain) a.places c.in-Alike.telegram c.in-Alike.x c.in-Alike.y c.in-Alike.z c.in-Alike.first c.in-Alike.count
    true c.in-Alike.is (le-leb _ _ c.if-count-ge2.true)

pub returns-else-count-ge2 : goal.returns-else-count-ge2
returns-else-count-ge2 c =
    let a = c.args in
    c.marker_or.ensures
    ∙ counted (marker_or a.length a.ones a.plain) a.places c.in-Alike.telegram c.in-Alike.x c.in-Alike.y c.in-Alike.z c.in-Alike.first c.in-Alike.count
    false c.in-Alike.is (lt-leb _ _ c.if-count-ge2.false)

pub returns-in-NoPlace : goal.returns-in-NoPlace
returns-in-NoPlace c = rw c.in-NoPlace.is c.marker_or-in-NoPlace.ensures
