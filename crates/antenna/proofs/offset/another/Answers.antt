-- Case by case.
-- Assumes nothing.
use Prim.Native.Nat.{ℕ}
use mathlib.Core.Path.{◌≡◌, sym, ap, ◌∙◌}
use mathlib.Core.Bool.{Bool, true, false, ◌&&◌}
use lib.Dec.{eqb}
use Rattle.words.specs.Answer.{pick}
use Rattle.telegram.specs.declared.Telegram.{Telegram}
use Rattle.antenna.specs.declared.Places.{Places}
use Rattle.antenna.specs.Places.{more, another}
use Rattle.antenna.proofs.offset.another.Goals as goal

-- Places that are alike so far: `same` is whether the new one is as they are.
compared : (m : Telegram) (x y z p : ℕ) (places : Places) (kept : Telegram) (a b c first count : ℕ) (same : Bool)
    → places ≡ Places.Alike kept a b c first count → eqb a x && eqb b y && eqb c z ≡ same
    → pick same (Places.Alike kept a b c first (more count)) Places.Differ ≡ another m x y z p places
compared m x y z p places kept a b c first count same e test =
    ap (λ (i : Bool). pick i (Places.Alike kept a b c first (more count)) Places.Differ) (sym test) ∙ sym (ap (another m x y z p) e)

pub returns-in-NoPlace : goal.returns-in-NoPlace
returns-in-NoPlace c = rw c.in-NoPlace.is

pub returns-then-a-x : goal.returns-then-a-x
returns-then-a-x c =
    let a = c.args in
    ap (Places.Alike c.in-Alike.kept c.in-Alike.a c.in-Alike.b c.in-Alike.c c.in-Alike.first) c.more.ensures
    ∙ compared a.telegram a.x a.y a.z a.place a.places c.in-Alike.kept c.in-Alike.a c.in-Alike.b c.in-Alike.c c.in-Alike.first c.in-Alike.count
    true c.in-Alike.is c.if-a-x.true

pub returns-else-a-x : goal.returns-else-a-x
returns-else-a-x c =
    let a = c.args in
    compared a.telegram a.x a.y a.z a.place a.places c.in-Alike.kept c.in-Alike.a c.in-Alike.b c.in-Alike.c c.in-Alike.first c.in-Alike.count
    false c.in-Alike.is c.if-a-x.false
