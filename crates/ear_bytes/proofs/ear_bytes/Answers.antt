-- The figures of the hearing are spread over the bytes, from which each reads back.
-- Assumes nothing.
use mathlib.Core.Path.{◌≡◌, sym, ap, ap₂, subst, ◌∙◌}
use Prim.Native.Nat.{ℕ, ◌/◌, ◌<◌}
use mathlib.Core.List.{List}
use lib.ListN.{length, get_or, replicate, length-replicate}
use Rattle.state_bytes.specs.Figures.{spread}
use Rattle.ear_bytes.specs.Ears.{ear_bytes}
use Rattle.ear_bytes.proofs.EarBack.{ear_back}
use Rattle.ear_bytes.proofs.ear_bytes.Goals as goal

pub returns : goal.returns
unfolding ear_bytes
returns c =
    let hearing = c.args.hearing in
    let long : length {A = ℕ} (replicate 184 0) ≡ 184 = length-replicate {A = ℕ} 184 0 in record {
      value = c.spread.ensures.bytes_after ∙ ap₂ spread long c.of_hearing-figures.ensures.value;
      result_value = ear_back c.spread.new.bytes hearing c.of_hearing-figures.ensures.hearing_fits
          (λ i h. c.spread.ensures.by_index i (subst (λ (m : ℕ). i < m / 8) (sym long) h) ∙ ap (λ (l : List ℕ). get_or l i 0) c.of_hearing-figures.ensures.value);
    }
