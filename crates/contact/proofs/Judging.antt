-- The judgement of a contact follows from the survey of its places: alike and two or more, or
-- differing, or else the marker's rule.
-- Assumes nothing.
use mathlib.Core.Path.{◌≡◌, refl, sym}
use mathlib.Core.Bool.{Bool, true, false, ◌&&◌, not}
use mathlib.Core.List.{List, [], ◌∷◌}
use Prim.Native.Nat.{ℕ}
use lib.Dec.{leb, eqb}
use lib.ListN.{length}
use Rattle.words.specs.Answer.{Outcome, gives, refuses, pick}
use Rattle.telegram.specs.Stretch.{inside}
use Rattle.telegram.specs.Sync.{is_good}
use Rattle.telegram.specs.Telegram.{Received}
use Rattle.telegram.specs.Place.{words_at, places}
use Rattle.telegram.specs.Survey.{all_as, Alike, alike, together, survey}
use Rattle.contact.specs.Judge.{Contact, read, marker, is_marker, judgement, judge}

-- What is left where there are not two places: a marker, or refusal 8.
abbrev pub marker_or : List ℕ → ℕ → ℕ → Outcome Contact
marker_or b start len = pick (is_marker b start len) (gives marker) (refuses 8)

-- What a survey makes of a contact, with what is left where there are not two places.
abbrev pub from_survey : Outcome Contact → Outcome Alike → Outcome Contact
from_survey left (gives (alike m first count)) = pick (leb 2 count) (gives (read m first count)) left
from_survey left (refuses n) = pick (eqb n 6) left (refuses n)

-- Several places: y is whether they are two or more, x whether all are alike.
several : (left : Outcome Contact) (m : Received) (p n : ℕ) (x : Bool)
    → pick (leb 2 n && x) (gives (read m p n)) (pick (not x) (refuses 7) left) ≡ from_survey left (pick x (gives (alike m p n)) (refuses 7))
several left m p n true = go (leb 2 n)
  where
    go : (y : Bool) → pick (y && true) (gives (read m p n)) left ≡ pick y (gives (read m p n)) left
    go true = refl
    go false = refl
several left m p n false = go (leb 2 n)
  where
    go : (y : Bool) → pick {A = Outcome Contact} (y && false) (gives (read m p n)) (refuses 7) ≡ refuses 7
    go true = refl
    go false = refl

module _ (b : List ℕ) (start len s t : ℕ) where
  by_places : (ps : List ℕ) → judgement b start len ps ≡ from_survey (marker_or b start len) (together b ps)
  unfolding judgement
  by_places [] = refl
  by_places (p ∷ ps) = several (marker_or b start len) (words_at b p) p (length (p ∷ ps)) (all_as b p ps)

  pub by_survey : judge b start len s t ≡ from_survey (marker_or b start len) (survey b start len s t)
  unfolding judge survey
  by_survey = go (is_good s t) (inside b start len)
    where
      go : (g i : Bool) → pick g (pick i (judgement b start len (places b start len s t)) (refuses 5)) (refuses 4)
          ≡ from_survey (marker_or b start len) (pick g (pick i (together b (places b start len s t)) (refuses 5)) (refuses 4))
      go true true = by_places (places b start len s t)
      go true false = refl
      go false i = refl

  -- A survey that is not refused with 4 or 5 is of a stretch that is taken.
  pub is_taken : (o : Outcome Alike) → survey b start len s t ≡ o → (o ≡ refuses 4 → ⊥) → (o ≡ refuses 5 → ⊥) → inside b start len ≡ true
  unfolding survey
  is_taken o e not4 not5 = go (is_good s t) (inside b start len) refl e
    where
      go : (g i : Bool) → inside b start len ≡ i → pick g (pick i (together b (places b start len s t)) (refuses 5)) (refuses 4) ≡ o
          → inside b start len ≡ true
      go true true i-is e = i-is
      go true false i-is e = absurd (not5 (sym e))
      go false i i-is e = absurd (not4 (sym e))
