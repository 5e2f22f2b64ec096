-- What it says of a stretch that it is taken, and that a stretch inside one that is taken is taken.
-- Assumes nothing.
use Prim.Native.Nat.{ℕ, ◌+◌, ◌*◌, ◌^◌, ◌≤◌, ◌<◌}
use mathlib.Core.Path.{◌≡◌, refl, sym, ap, ◌∙◌}
use mathlib.Core.Bool.{Bool, true, false, ◌&&◌}
use mathlib.Core.List.{List}
use native.Mathlib.Omega.{arith}
use borrow.Author.Tests.{leb-true, ltb-true, le-leb, lt-ltb}
use lib.Dec.{leb, ltb}
use lib.ListN.{length}
use Rattle.words.specs.Answer.{Outcome, gives, refuses, pick}
use Rattle.telegram.specs.Stretch.{inside, Taken, taken as is_taken, stretch_of}
use Rattle.telegram.specs.Says.{says_reach}
use Rattle.telegram.specs.declared.Beyond.{Beyond}
use Rattle.std.specs.Prelude.{Result, Ok, Err, ⊤}
pub use Rattle.words.proofs.Linear.{and_parts as both}

pub taken : (b : List ℕ) (start len : ℕ) → inside b start len ≡ true
    → (start + len ≤ 8 * length b) × (start + len < 2 ^ 64) × (len ≤ 16777216)
unfolding inside
taken b start len e =
    let low = both (leb (start + len) (8 * length b) && ltb (start + len) (2 ^ 64)) (leb len 16777216) e in
    let ends = both (leb (start + len) (8 * length b)) (ltb (start + len) (2 ^ 64)) low.0 in
    (leb-true _ _ ends.0, ltb-true _ _ ends.1, leb-true _ _ low.1)

pub part_taken : (b : List ℕ) (start len from n : ℕ) → inside b start len ≡ true → from + n ≤ start + len → n ≤ len
    → inside b from n ≡ true
unfolding inside
part_taken b start len from n e within shorter =
    let t = taken b start len e in
    let ends : from + n ≤ 8 * length b = omega arith in
    let fits : from + n < 2 ^ 64 = omega arith in
    let small : n ≤ 16777216 = omega arith in
    simp (le-leb _ _ ends, lt-ltb _ _ fits, le-leb _ _ small)

-- what the judgement of a stretch says, as a test
abbrev is_given : Outcome Taken → Bool
is_given (gives t) = true
is_given (refuses n) = false

-- A stretch of which `inside` answers r.
module _ (b : List ℕ) (start len : ℕ) (r : Result ⊤ Beyond) (says : says_reach r ≡ stretch_of b start len) where
  as_judged : inside b start len ≡ is_given (says_reach r)
  unfolding stretch_of
  as_judged = sym (ap is_given says ∙ go (inside b start len))
    where
      go : (i : Bool) → is_given (pick i (gives is_taken) (refuses 5)) ≡ i
      go true = refl
      go false = refl

  pub judged_inside : (u : ⊤) → r ≡ Ok u → inside b start len ≡ true
  judged_inside u e = as_judged ∙ ap (λ (x : Result ⊤ Beyond). is_given (says_reach x)) e

  pub judged_beyond : (x : Beyond) → r ≡ Err x → inside b start len ≡ false
  judged_beyond o e = as_judged ∙ ap (λ (x : Result ⊤ Beyond). is_given (says_reach x)) e
