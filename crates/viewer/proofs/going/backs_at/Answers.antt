-- `backs_at` reads the ring once, at the place of the last record that it goes back over.
use mathlib.Core.Path.{◌≡◌, refl, ap, sym, ◌∙◌}
use Prim.Native.Nat.{ℕ, zero, suc, ◌-◌, ◌%◌, ◌<◌, ◌≤◌, min}
use native.Mathlib.Omega.{arith}
use mathlib.Core.Bool.{Bool, true, false}
use mathlib.Core.List.{List, [], ◌∷◌}
use borrow.Author.Tests.{leb-true, leb-false}
use lib.Dec.{leb}
use lib.ListN.{length, get_or}
use Rattle.words.specs.Answer.{pick}
use Rattle.ride.specs.declared.Ride.{Ride}
use Rattle.ride.specs.State.{fresh_ride}
use Rattle.viewer.specs.declared.Standing.{Standing}
use Rattle.viewer.specs.Going.{Ending, all, refused, Moved, stopped}
use Rattle.viewer.specs.Says.{says_ending}
use Rattle.viewer.proofs.Many.{backs_stay, backs_move}
use Rattle.viewer.proofs.going.backs_at.Goals as goal

-- what would stand past the places of a list is never read; the ring has its 256
within_ring : (l : List Ride) (i : ℕ) (x y : Ride) → i < length l → get_or l i x ≡ get_or l i y
within_ring [] i x y h = absurd (omega arith)
within_ring (r ∷ l) zero x y h = refl
within_ring (r ∷ l) (suc i) x y h =
    let less : i < length l = omega arith in
    within_ring l i x y less

-- the smaller of two, as a choice
smaller_by : (b : Bool) (times kept : ℕ) → leb times kept ≡ b → min times kept ≡ pick b times kept
smaller_by true times kept e = omega (arith, leb-true times kept e)
smaller_by false times kept e = omega (arith, leb-false times kept e)

smaller_is : (times kept : ℕ) → min times kept ≡ pick (leb times kept) times kept
smaller_is times kept = smaller_by (leb times kept) times kept refl

pub returns-then-far-eq0 : goal.returns-then-far-eq0
returns-then-far-eq0 c =
    let a = c.args in
    ap (λ (e : Ending). stopped e a.stand) c.kept_for-ending.ensures
    ∙ backs_stay a.times a.stand (sym (c.min-far.ensures ∙ smaller_is a.times a.stand.kept) ∙ c.if-far-eq0.true)

pub returns : goal.returns
returns c =
    let a = c.args in
    let s = a.stand in
    let far : ℕ = pick (leb a.times s.kept) a.times s.kept in
    let same : c.min-far.result ≡ far = c.min-far.ensures ∙ smaller_is a.times s.kept in
    let number : c.saturating_sub-number.result ≡ s.number - far = c.saturating_sub-number.ensures ∙ ap (λ (n : ℕ). s.number - n) same in
    let why : Ending = pick (leb a.times s.kept) all (refused 22) in
    let there : ℕ → ℕ → Standing = λ n f. record { number = n; kept = s.kept - f; ride = get_or s.last (n % 256) fresh_ride; last = s.last; settings = s.settings } in
    let at : c.saturating_sub-number.result % 256 < length s.last = omega arith in
    ap {B = Moved}
    (λ (r : Ride). record {
      steps = c.min-far.result;
      ending = says_ending c.kept_for-ending.result;
      stand = record { number = c.saturating_sub-number.result; kept = s.kept - c.min-far.result; ride = r; last = s.last; settings = s.settings };
    })
    (within_ring s.last (c.saturating_sub-number.result % 256) _ fresh_ride at)
    ∙ ap {B = Moved} (λ (e : Ending). record { steps = c.min-far.result; ending = e; stand = there c.saturating_sub-number.result c.min-far.result }) c.kept_for-ending.ensures
    ∙ ap {B = Moved} (λ (n : ℕ). record { steps = c.min-far.result; ending = why; stand = there n c.min-far.result }) number
    ∙ ap {B = Moved} (λ (f : ℕ). record { steps = f; ending = why; stand = there (s.number - far) f }) same
    ∙ backs_move a.times s (λ z. c.if-far-eq0.false (same ∙ z))
