-- The eighteen figures are spread over the bytes, from which each reads back.
-- Assumes nothing.
use mathlib.Core.Path.{◌≡◌, sym, ap, ap₂, subst, ◌∙◌}
use Prim.Native.Nat.{ℕ, ◌/◌, ◌<◌}
use mathlib.Core.List.{List, ◌++◌}
use lib.ListN.{length, get_or, replicate, length-replicate}
use Rattle.state_bytes.specs.Figures.{spread, figure_at_meant}
use Rattle.ride_bytes.specs.Rides.{known_figures, ride_bytes}
use Rattle.ride_bytes.proofs.Back.{alike, eighteen, joined, ride_back}
use borrow.Author.Rules.{rules}
use Rattle.ride_bytes.proofs.ride_bytes.Goals as goal

pub returns : goal.returns
unfolding ride_bytes known_figures
returns c =
    let ride = c.args.ride in
    let long : length {A = ℕ} (replicate 144 0) ≡ 144 = length-replicate {A = ℕ} 144 0 in
    let six : length c.known_figures-k.result ≡ 6 = ap length c.known_figures-k.ensures.value in
    let twelve : length c.figures-g.result ≡ 12 = search rules in record {
      value = c.spread.ensures.bytes_after ∙ ap₂ spread long (joined c.known_figures-k.result c.figures-g.result six twelve ∙ ap₂ ◌++◌ c.known_figures-k.ensures.value c.figures-g.ensures.value);
      result_value = alike (figure_at_meant c.spread.new.bytes) (λ (i : ℕ). get_or (eighteen c.known_figures-k.result c.figures-g.result) i 0) (λ i h. c.spread.ensures.by_index i (subst (λ (m : ℕ). i < m / 8) (sym long) h))
          ∙ ride_back ride c.known_figures-k.result c.figures-g.result (ap (λ (l : List ℕ). get_or l 0 0) c.known_figures-k.ensures.value) c.known_figures-k.ensures.odometer_value.0 c.known_figures-k.ensures.odometer_value.1 c.figures-g.ensures.i_value;
    }
