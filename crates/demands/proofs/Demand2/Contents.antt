-- An accepted group says what its direction and kind say, and no other.
-- Assumes nothing.
use Prim.Native.Nat.{ℕ, ◌-◌}
use mathlib.Core.Path.{◌≡◌, sym, ap, ◌∙◌}
use mathlib.Core.List.{List}
use native.Mathlib.Omega.{arith}
use Rattle.group.specs.declared.Content.{Content}
use Rattle.group.specs.declared.Message.{Message}
use Rattle.group_rows.specs.declared.Placed.{Placed}
use Rattle.demands.specs.Said.{Content-of, of_signal, of_warning, of_route, of_other}
use Rattle.demands.proofs.Demand2.Messages.{View, signal, warning, route, plain}

-- the four things that a message can say, told apart by a number
abbrev which : Content → ℕ
which (Content.Signal d preset main target) = 0
which (Content.Warning d) = 1
which (Content.Route v) = 2
which Content.Nothing = 3

apart : {a b : Content} → a ≡ b → (which a ≡ which b → ⊥) → ⊥
apart e no_way = no_way (ap which e)

-- every message, by what it says
pub content_so : (bs : List Placed) (m : Message) (c : Content) → m.content ≡ c → View bs m → Content-of m
content_so bs m (Content.Signal d preset main target) e (signal p k _ far is) = of_signal (p, k) d preset main target e
content_so bs m (Content.Warning d) e (signal p k _ far is) = absurd (apart (sym e ∙ is) (λ z. omega arith))
content_so bs m (Content.Route v) e (signal p k _ far is) = absurd (apart (sym e ∙ is) (λ z. omega arith))
content_so bs m Content.Nothing e (signal p k _ far is) = absurd (apart (sym e ∙ is) (λ z. omega arith))
content_so bs m (Content.Warning d) e (warning p k _ far is) = of_warning p k d e
content_so bs m (Content.Signal d preset main target) e (warning p k _ far is) = absurd (apart (sym e ∙ is) (λ z. omega arith))
content_so bs m (Content.Route v) e (warning p k _ far is) = absurd (apart (sym e ∙ is) (λ z. omega arith))
content_so bs m Content.Nothing e (warning p k _ far is) = absurd (apart (sym e ∙ is) (λ z. omega arith))
content_so bs m (Content.Route v) e (route p k is) = of_route p k v e
content_so bs m (Content.Signal d preset main target) e (route p k is) = absurd (apart (sym e ∙ is) (λ z. omega arith))
content_so bs m (Content.Warning d) e (route p k is) = absurd (apart (sym e ∙ is) (λ z. omega arith))
content_so bs m Content.Nothing e (route p k is) = absurd (apart (sym e ∙ is) (λ z. omega arith))
content_so bs m Content.Nothing e (plain other is) = of_other other e
content_so bs m (Content.Signal d preset main target) e (plain other is) = absurd (apart (sym e ∙ is) (λ z. omega arith))
content_so bs m (Content.Warning d) e (plain other is) = absurd (apart (sym e ∙ is) (λ z. omega arith))
content_so bs m (Content.Route v) e (plain other is) = absurd (apart (sym e ∙ is) (λ z. omega arith))
