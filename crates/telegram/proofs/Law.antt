-- The law of the search: asked again from the bit after a place, and so on until 6, it hands out
-- exactly the places of the stretch, each once and in order.
-- Assumes nothing.
use mathlib.Core.Path.{◌≡◌, refl, sym, ap, ◌∙◌, subst}
use mathlib.Core.Bool.{true}
use mathlib.Core.List.{List, [], ◌∷◌}
use Prim.Native.Nat.{ℕ, zero, suc, ◌+◌, ◌-◌, ◌<◌}
use native.Mathlib.Nat.{not-suc-le-zero}
use native.Mathlib.Omega.{arith}
use Rattle.words.specs.Answer.{Outcome, gives, refuses}
use Rattle.telegram.specs.Stretch.{inside}
use Rattle.telegram.specs.Sync.{is_good}
use Rattle.telegram.specs.Telegram.{Received}
use Rattle.telegram.specs.Place.{words_at, places, Single, at, first_of, find}
use Rattle.telegram.proofs.Taken.{part_taken}
use Rattle.telegram.proofs.Rest.{first_and_rest}

-- What comes of asking on and on, where `Says start len o` is that asking with a stretch is
-- answered by o: a place with its telegram, and then what comes from the bit after it to the same
-- end; or nothing more, by refusal 6.
pub data Comes (Says : ℕ → ℕ → Outcome Single → Type 0) : ℕ → ℕ → List Single → Type 0 where
  further : {start len p : ℕ} {m : Received} {rest : List Single}
      → Says start len (gives (at p m)) → Comes Says (p + 1) (start + len - (p + 1)) rest → Comes Says start len (at p m ∷ rest)
  ends : {start len : ℕ} → Says start len (refuses 6) → Comes Says start len []

-- The places listed, each with its telegram.
abbrev pub with_telegrams : List ℕ → List ℕ → List Single
with_telegrams b [] = []
with_telegrams b (p ∷ ps) = at p (words_at b p) ∷ with_telegrams b ps

-- The specification's answers.
abbrev pub Specified : List ℕ → ℕ → ℕ → ℕ → ℕ → Outcome Single → Type 0
Specified b s t start len o = find b start len s t ≡ o

module _ (b : List ℕ) (s t : ℕ) (good : is_good s t ≡ true) where
  -- Of a good pair and a stretch that is taken, the search says the first of the places.
  is_first : (start len : ℕ) → inside b start len ≡ true → find b start len s t ≡ first_of b (places b start len s t)
  unfolding find
  is_first start len taken = simp (good, taken)

  step : (start len : ℕ) → inside b start len ≡ true
      → ((p l : ℕ) → l < len → inside b p l ≡ true → Comes (Specified b s t) p l (with_telegrams b (places b p l s t)))
      → (ps : List ℕ) → places b start len s t ≡ ps → Comes (Specified b s t) start len (with_telegrams b ps)
  step start len taken on [] e = ends (is_first start len taken ∙ ap (first_of b) e)
  step start len taken on (p ∷ ps) e =
      let f = first_and_rest b s t start len p ps e in
      let rest = on (p + 1) (start + len - (p + 1)) (omega arith) (part_taken b start len (p + 1) (start + len - (p + 1)) taken (omega arith) (omega arith)) in
      further (is_first start len taken ∙ ap (first_of b) e)
      (subst (λ (qs : List ℕ). Comes (Specified b s t) (p + 1) (start + len - (p + 1)) (with_telegrams b qs)) (sym f.others) rest)

  shorter : (n start len : ℕ) → len < n → inside b start len ≡ true
      → Comes (Specified b s t) start len (with_telegrams b (places b start len s t))
  shorter zero start len h taken = absurd (not-suc-le-zero h)
  shorter (suc n) start len h taken =
      step start len taken (λ p l less. shorter n p l (omega arith)) (places b start len s t) refl

  -- The places of the stretch come of asking on and on, until 6.
  pub law : (start len : ℕ) → inside b start len ≡ true → Comes (Specified b s t) start len (with_telegrams b (places b start len s t))
  law start len = shorter (suc len) start len (omega arith)

-- Nothing else comes of it.
pub only : (b : List ℕ) (s t : ℕ) {start len : ℕ} {v w : List Single}
    → Comes (Specified b s t) start len v → Comes (Specified b s t) start len w → v ≡ w
only b s t {start} {len} (further {p = p} {m = m} {rest = v} e c) (further {p = q} {m = m'} {rest = w} e' d) =
    let same : p ≡ q = cc in
    let says : m ≡ m' = cc in
    let rests : v ≡ w = only b s t c (subst (λ (k : ℕ). Comes (Specified b s t) (k + 1) (start + len - (k + 1)) w) (sym same) d) in
    cc
only b s t (further e c) (ends e') = cc
only b s t (ends e) (further e' d) = cc
only b s t (ends e) (ends e') = refl
