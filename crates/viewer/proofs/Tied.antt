-- What the generated contracts of `start`, `forward` and `back` ensure of an answer is what
-- specs/Laws.antt says of it. Of a function that takes or hands out a struct with a slice the kit
-- states the contract as a formula over what is lent (`ensured`), not as a relation of plain
-- values: so the tie is an entailment.
-- Assumes nothing.
use Prim.Native.Nat.{ℕ}
use mathlib.Core.List.{List}
use seplogic.Ra.Ura.{Ura}
use base.Logic.{SProp, ent, snd∗, ex_e}
use base.Fml.{Lft}
use prog.Memory.{Memory}
use prog.Routine.{Routine}
use types.Logic.{Logic, sem}
use contract.Monad.{Fun, fact}
use denote.Ref.{Bor}
use denote.Triple.Clauses.{ensured, lasts}
use Rattle.settings.specs.declared.Store.{Store}
use Rattle.viewer.specs.declared.Viewer.{Viewer}
use Rattle.viewer.specs.declared.Started.{Started}
use Rattle.viewer.specs.declared.Forwarded.{Forwarded}
use Rattle.viewer.specs.declared.Backed.{Backed}
use Rattle.viewer.specs.Laws.{Starts, Forwards, Backs}
use Rattle.viewer.specs.contracts.start as start
use Rattle.viewer.specs.contracts.forward as forward
use Rattle.viewer.specs.contracts.back as back

module _ {M : Type 1} {𝓤 : Ura M} (𝓛 : Logic 𝓤) (mem : Memory → SProp 𝓤) (run : Routine → Fun 𝓤) (κ : Lft) where
  pub start_ensures : (store : Store) (trace : Bor (List ℕ)) (r : Started)
      → ent 𝓤 (ensured 𝓛 start.ended (start.clauses 𝓛 mem run) (κ, tt) (store, (trace, tt)) tt r) (fact 𝓤 (Starts store trace r))
  start_ensures store trace r = ex_e 𝓤 _ (λ ws. snd∗ 𝓤 (sem 𝓛 (lasts start.ended (κ, tt) (store, (trace, tt)) ws)) (fact 𝓤 (Starts store trace r)))

  pub forward_ensures : (v : Viewer) (r : Forwarded)
      → ent 𝓤 (ensured 𝓛 forward.ended (forward.clauses 𝓛 mem run) (κ, tt) (v, tt) tt r) (fact 𝓤 (Forwards v r))
  forward_ensures v r = ex_e 𝓤 _ (λ ws. snd∗ 𝓤 (sem 𝓛 (lasts forward.ended (κ, tt) (v, tt) ws)) (fact 𝓤 (Forwards v r)))

  pub back_ensures : (v : Viewer) (r : Backed)
      → ent 𝓤 (ensured 𝓛 back.ended (back.clauses 𝓛 mem run) (κ, tt) (v, tt) tt r) (fact 𝓤 (Backs v r))
  back_ensures v r = ex_e 𝓤 _ (λ ws. snd∗ 𝓤 (sem 𝓛 (lasts back.ended (κ, tt) (v, tt) ws)) (fact 𝓤 (Backs v r)))
