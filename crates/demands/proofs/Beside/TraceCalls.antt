-- Calls over a trace come to going over all of its records: each goes over the front of what is
-- left, and going over some records and then over others is going over all of them.
-- Assumes nothing.
use Prim.Native.Nat.{ℕ, ◌*◌, ◌/◌, ◌≤◌}
use native.Mathlib.Omega.{arith}
use mathlib.Core.Path.{◌≡◌, refl, sym, ap, ◌∙◌}
use mathlib.Core.List.{List, [], ◌∷◌, ◌++◌}
use lib.ListN.{length, take, drop, length-append}
use Rattle.ride.specs.Over.{first_records, records}
use Rattle.ride.proofs.Cutting.{take_records, front_records, cut_records}
use Rattle.demands.specs.Output.{records_in}
use Rattle.demands.specs.TraceCalls.{Whole, Call, Lent, ByCalls, texts_of, last_of}

-- What going over some records comes to: the text that is written, and the state then.
pub record Gone (State : Type 0) : Type 0 where
  pub text : List ℕ
  pub state : State

abbrev pub gone : {State : Type 0} → List ℕ → State → Gone State
gone text state = record { text = text; state = state }

-- Over some, and then on from their state.
abbrev pub on_from : {State : Type 0} → Gone State → (State → Gone State) → Gone State
on_from first on = gone (first.text ++ (on first.state).text) (on first.state).state

-- A part of the last state.
pub part_of : {State Part Answer : Type 0} (part : State → Part) (next : Answer → State) (state : State) (calls : List (Call Answer))
    → part (last_of next state calls) ≡ last_of (λ (a : Answer). part (next a)) (part state) calls
part_of part next state [] = refl
part_of part next state (c ∷ cs) = part_of part next (next c.answer) cs

-- What a call that a contract allows comes to: some records of its block are gone over.
pub record TakesFront {State Answer : Type 0} (over : State → List (List ℕ) → Gone State) (took wrote : Call Answer → ℕ) (next : Answer → State) (state : State) (c : Call Answer) : Type 0 where
  pub of_these : took c ≤ records_in c.block
  pub goes : gone (take (wrote c) c.after) (next c.answer) ≡ over state (take (took c) (records c.block))

module _ {State Answer : Type 0} (took wrote : Call Answer → ℕ) (next : Answer → State) (over : State → List (List ℕ) → Gone State)
    (on : (s : State) (xs ys : List (List ℕ)) → over s (xs ++ ys) ≡ on_from (over s xs) (λ (t : State). over t ys)) where
  -- One call, and then going over what is left.
  pub one_more : (s : State) (left : List ℕ) (c : Call Answer) → Lent left c.block → TakesFront over took wrote next s c
      → on_from (gone (take (wrote c) c.after) (next c.answer)) (λ (t : State). over t (records (drop (took c * 8) left))) ≡ over s (records left)
  one_more s left c lent t =
      let n : ℕ = took c in
      let few : n ≤ length left / 8 = omega (arith, t.of_these, ap length lent.front, length-append c.block lent.rest) in
      let fits : n * 8 ≤ length c.block = omega (arith, t.of_these) in
      let those : take n (records c.block) ≡ first_records n left =
      take_records n (records_in c.block) c.block t.of_these
      ∙ sym (front_records n c.block lent.rest fits)
      ∙ ap (first_records n) (sym lent.front) in
      let rest : List (List ℕ) = records (drop (n * 8) left) in
      ap (λ (g : Gone State). on_from g (λ (u : State). over u rest)) (t.goes ∙ ap (over s) those)
      ∙ sym (on s (first_records n left) rest)
      ∙ ap (over s) (sym (cut_records n left few))

  module _ (Allows : State → Call Answer → Type 0) (none : (s : State) → gone [] s ≡ over s [])
      (takes : (s : State) (c : Call Answer) → Whole c.block → Allows s c → TakesFront over took wrote next s c) where
    -- All of them.
    pub comes : (s : State) (trace : List ℕ) (calls : List (Call Answer)) → ByCalls Allows took next s trace calls
        → gone (texts_of wrote calls) (last_of next s calls) ≡ over s (records trace)
    unfolding first_records
    comes s trace [] nothing = none s ∙ ap (λ (l : List ℕ). over s (records l)) (sym nothing)
    comes s trace (c ∷ cs) (lent, call, more) =
        let first : Gone State = gone (take (wrote c) c.after) (next c.answer) in
        ap (λ (g : Gone State). on_from first (λ (u : State). g)) (comes (next c.answer) (drop (took c * 8) trace) cs more)
        ∙ one_more s trace c lent (takes s c lent.whole call)
