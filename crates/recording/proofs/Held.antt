-- Settings that are held are those in force at every place between theirs, so that the store need
-- not be asked again there.
-- Assumes nothing.
use Prim.Native.Nat.{ℕ, ◌≤◌, ◌<◌}
use mathlib.Core.Path.{◌≡◌, refl, sym, ◌∙◌, subst⁻¹}
use mathlib.Core.Bool.{Bool, true, false}
use native.Mathlib.Omega.{arith}
use lib.Dec.{leb, ltb}
use Rattle.words.specs.Answer.{Outcome, gives, refuses, pick}
use Rattle.settings.specs.declared.Store.{Store}
use Rattle.settings.specs.declared.Held.{Held}
use Rattle.settings.specs.At.{asked, leaves, held_or, hold}
use Rattle.settings.proofs.Laws.{settings}
use Rattle.settings.proofs.Holding.{within}
use Rattle.recording.specs.Recording.{none_held, held_at}

pub record InForce (store : Store) (held : Held) : Type 0 where
  pub there : (place : ℕ) → held.from ≤ place → place < held.until → held_at store place ≡ held

pub none_held_law : (store : Store) → InForce store none_held
none_held_law store = record { there = λ place low high. absurd (omega arith) }

by_asking : (store : Store) (place : ℕ) (o : Outcome Held) → asked store place ≡ o → InForce store (held_or none_held o)
unfolding held_at hold
by_asking store place (gives held) e =
    record { there = λ other low high. let same = settings.until_there store place other held e low high in rw same }
by_asking store place (refuses n) e = record { there = λ other low high. absurd (omega arith) }

asked_holds : (store : Store) (place : ℕ) → InForce store (held_at store place)
unfolding held_at hold
asked_holds store place = by_asking store place (asked store place) refl

by_leaving : (store : Store) (held : Held) (place : ℕ) (b : Bool) → leaves held place ≡ b → InForce store held
    → (pick b (held_at store place) held ≡ held_at store place) × InForce store (pick b (held_at store place) held)
unfolding leaves
by_leaving store held place true e h = (refl, asked_holds store place)
by_leaving store held place false e h =
    let w = within (ltb place held.from) (leb held.until place) held place refl refl e in
    (sym (h.there place w.0 w.1), h)

-- The settings held after asking, where they had to be asked for, are those in force, and are held
-- on.
pub held_on : (store : Store) (held next : Held) (place : ℕ) → InForce store held → next ≡ pick (leaves held place) (held_at store place) held
    → (next ≡ held_at store place) × InForce store next
held_on store held next place h e =
    let r = by_leaving store held place (leaves held place) refl h in
    (e ∙ r.0, subst⁻¹ (λ (x : Held). InForce store x) e r.1)
