-- Whoever goes over a trace under a store judges the store first and then the trace's length;
-- refused, everything stays as it was.
-- Assumes nothing.
use Prim.Native.Nat.{ℕ, ◌%◌}
use mathlib.Core.Path.{◌≡◌, refl, sym, ap, subst, ◌∙◌}
use mathlib.Core.Bool.{Bool, true, false}
use mathlib.Core.List.{List}
use lib.Dec.{eqb}
use lib.ListN.{length}
use Rattle.words.specs.Answer.{Outcome, gives, refuses, then, pick}
use Rattle.settings.specs.declared.Store.{Store}
use Rattle.settings.specs.Versions.{Kept, kept}
use Rattle.settings.specs.Store.{judged}
use Rattle.demands.specs.Rules.{Decided, Given}
use Rattle.demands.specs.Stores.{trace_rules}
use Rattle.demands.proofs.Common.Rules.{never}
use Rattle.demands.proofs.Demand1.StoreRules.{records_so}

-- What a function comes to of a trace: with a store that is refused, or a length that is, to what
-- stays with that number; else to what is made of the trace.
pub record JudgedFirst {A W : Type 0} (answer : W → Outcome A) (stays : ℕ → W) (store : Store) (trace : List ℕ) (made w : W) : Type 0 where
  pub bare : (n : ℕ) → answer (stays n) ≡ refuses n
  pub refused : (n : ℕ) → judged store ≡ refuses n → stays n ≡ w
  pub short : judged store ≡ gives kept → eqb (length trace % 8) 0 ≡ false → stays 16 ≡ w
  pub whole : judged store ≡ gives kept → eqb (length trace % 8) 0 ≡ true → made ≡ w

number_is : {A : Type 0} {m n : ℕ} → ◌≡◌ {A = Outcome A} (refuses m) (refuses n) → m ≡ n
number_is e = cc

module _ {A W : Type 0} {answer : W → Outcome A} {stays : ℕ → W} {store : Store} {trace : List ℕ} {made w : W} (j : JudgedFirst answer stays store trace made w) where
  says : (o : Outcome Kept) (b : Bool) → judged store ≡ o → eqb (length trace % 8) 0 ≡ b → then o (λ k. pick b (answer made) (refuses 16)) ≡ answer w
  says (gives kept) true e h = ap answer (j.whole e h)
  says (gives kept) false e h = sym (j.bare 16) ∙ ap answer (j.short e h)
  says (refuses n) b e h = sym (j.bare n) ∙ ap answer (j.refused n e)

  -- The settings' own refusals, then 16.
  pub decided : (Reading : Outcome A → Type 0) → Reading (answer made) → Decided Reading (trace_rules store trace) (answer w)
  decided Reading reads =
      subst (λ (o : Outcome A). Decided Reading (trace_rules store trace) o) (says (judged store) (eqb (length trace % 8) 0) refl refl)
      (records_so Reading store trace (answer made) reads)

  stays_by : (n : ℕ) → Given (answer made) → answer w ≡ refuses n → (o : Outcome Kept) (b : Bool) → judged store ≡ o → eqb (length trace % 8) 0 ≡ b → w ≡ stays n
  stays_by n given e (gives kept) true p h = absurd (never n (sym e ∙ sym (ap answer (j.whole p h)) ∙ given.1))
  stays_by n given e (gives kept) false p h = sym (j.short p h) ∙ ap stays (number_is (sym (j.bare 16) ∙ ap answer (j.short p h) ∙ e))
  stays_by n given e (refuses m) b p h = sym (j.refused m p) ∙ ap stays (number_is (sym (j.bare m) ∙ ap answer (j.refused m p) ∙ e))

  -- A refusal leaves what was there.
  pub untouched : Given (answer made) → (n : ℕ) → answer w ≡ refuses n → w ≡ stays n
  untouched given n e = stays_by n given e (judged store) (eqb (length trace % 8) 0) refl refl
