-- What the search's answer says of a stretch: a place handed out is its first, and what it refuses,
-- the survey refuses too.
-- Assumes nothing.
use mathlib.Core.Path.{◌≡◌, refl, ap, ◌∙◌}
use mathlib.Core.Bool.{Bool, true, false}
use mathlib.Core.List.{List, [], ◌∷◌}
use Prim.Native.Nat.{ℕ}
use Rattle.words.specs.Answer.{gives, refuses, pick}
use Rattle.telegram.specs.Stretch.{inside}
use Rattle.telegram.specs.Sync.{is_good}
use Rattle.telegram.specs.Telegram.{Received}
use Rattle.telegram.specs.Place.{words_at, places, at, first_of, find}
use Rattle.telegram.specs.Survey.{together, survey}
use Rattle.telegram.proofs.Rest.{First, first_and_rest}
use Rattle.words.proofs.Never.{cannot_be}

-- What it says that the place p is handed out with m: the stretch is a good one, p is its first
-- place, and m is read there.
pub record Handed (b : List ℕ) (start len s t p : ℕ) (m : Received) : Type 0 where
  pub good : is_good s t ≡ true
  pub taken : inside b start len ≡ true
  pub rest : List ℕ
  pub list : places b start len s t ≡ p ∷ rest
  pub first : First b s t start len p rest
  pub says : m ≡ words_at b p

module _ (b : List ℕ) (start len s t : ℕ) where
  pub handed : (p : ℕ) (m : Received) → find b start len s t ≡ gives (at p m) → Handed b start len s t p m
  unfolding find
  handed p m e = go (is_good s t) (inside b start len) (places b start len s t) refl refl refl e
    where
      go : (g i : Bool) (ps : List ℕ) → is_good s t ≡ g → inside b start len ≡ i → places b start len s t ≡ ps
          → pick g (pick i (first_of b ps) (refuses 5)) (refuses 4) ≡ gives (at p m) → Handed b start len s t p m
      go true true (q ∷ qs) g-is i-is list e =
          let same : q ≡ p = cc in
          let listed : places b start len s t ≡ p ∷ qs = list ∙ ap (λ (k : ℕ). k ∷ qs) same in
          record {
            good = g-is;
            taken = i-is;
            rest = qs;
            list = listed;
            first = first_and_rest b s t start len p qs listed;
            says = (cc);
          }
      go true true [] g-is i-is list e = cannot_be cc
      go true false ps g-is i-is list e = cannot_be cc
      go false i ps g-is i-is list e = cannot_be cc

  pub as_refused : (n : ℕ) → find b start len s t ≡ refuses n → survey b start len s t ≡ refuses n
  unfolding find survey
  as_refused n e = go (is_good s t) (inside b start len) (places b start len s t) e
    where
      go : (g i : Bool) (ps : List ℕ) → pick g (pick i (first_of b ps) (refuses 5)) (refuses 4) ≡ refuses n
          → pick g (pick i (together b ps) (refuses 5)) (refuses 4) ≡ refuses n
      go true true [] e = cc
      go true true (q ∷ qs) e = cc
      go true false ps e = cc
      go false i ps e = cc
