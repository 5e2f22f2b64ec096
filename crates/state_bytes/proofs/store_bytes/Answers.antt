-- The figures of the store are spread over the bytes, from which each reads back.
-- Assumes nothing.
use mathlib.Core.Path.{◌≡◌, sym, ap, ap₂, subst, ◌∙◌}
use Prim.Native.Nat.{ℕ, ◌/◌, ◌<◌}
use mathlib.Core.List.{List}
use lib.ListN.{length, get_or, replicate, length-replicate}
use Rattle.state_bytes.specs.Figures.{spread}
use Rattle.state_bytes.specs.Stores.{store_bytes}
use Rattle.state_bytes.proofs.StoreBack.{store_back}
use Rattle.state_bytes.proofs.store_bytes.Goals as goal

pub returns : goal.returns
unfolding store_bytes
returns c =
    let f = c.figures-figures in
    let store = c.args.store in
    let vs = store.versions in
    let n = store.count in
    let long : length {A = ℕ} (replicate 1032 0) ≡ 1032 = length-replicate {A = ℕ} 1032 0 in record {
      value = c.spread.ensures.bytes_after ∙ ap₂ spread long f.ensures.value;
      result_value = store_back vs n c.spread.new.bytes f.ensures.versions_len f.ensures.by_index
          (λ i h. c.spread.ensures.by_index i (subst (λ (m : ℕ). i < m / 8) (sym long) h) ∙ ap (λ (l : List ℕ). get_or l i 0) f.ensures.value);
    }
