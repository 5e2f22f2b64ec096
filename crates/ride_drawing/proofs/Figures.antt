-- The figures of a strip as the code puts them: one after the other, up to the last tick.
-- Assumes nothing.
use Prim.Native.Nat.{ℕ, suc, ◌+◌, ◌-◌, ◌≤◌, ◌<◌}
use native.Mathlib.Omega.{arith}
use native.Mathlib.Numerals.{add-one}
use mathlib.Core.Path.{◌≡◌, ap, sym, ◌∙◌}
use mathlib.Core.List.{List, ◌++◌}
use Rattle.text.specs.Put.{Put, came}
use Rattle.text.specs.Pieces.{puts}
use Rattle.text.proofs.Putting.{puts_append}
use Rattle.ride_drawing.specs.Strip.{figure, figures}

-- The figures from a tick on, put at a place.
unfoldable pub from_tick : ℕ → ℕ → List ℕ → ℕ → Put
from_tick km i b at = puts (figures km i (11 - i)) b at

next_figure : (km i : ℕ) → i < 11 → figures km i (11 - i) ≡ figure km i ++ figures km (i + 1) (11 - (i + 1))
unfolding figures
next_figure km i h =
    let more : 11 - i ≡ suc (11 - (i + 1)) = omega arith in
    ap (figures km i) more ∙ ap (λ (k : ℕ). figure km i ++ figures km k (11 - (i + 1))) (sym (add-one i))

pub one_put : {x : List ℕ} {m : ℕ} (km i : ℕ) (b : List ℕ) (at : ℕ) → i < 11 → came m x ≡ puts (figure km i) b at → from_tick km (i + 1) x m ≡ from_tick km i b at
unfolding from_tick
one_put km i b at h e =
    let rest : List (List ℕ) = figures km (i + 1) (11 - (i + 1)) in
    ap (λ (p : Put). puts rest p.buffer p.next) e ∙ sym (puts_append (figure km i) rest b at) ∙ ap (λ (ps : List (List ℕ)). puts ps b at) (sym (next_figure km i h))

pub all_put : (km i : ℕ) (b : List ℕ) (at : ℕ) → 11 ≤ i → came at b ≡ from_tick km i b at
unfolding from_tick figures puts
all_put km i b at h =
    let none : 11 - i ≡ 0 = omega arith in
    sym (ap (λ (n : ℕ). puts (figures km i n) b at) none)
