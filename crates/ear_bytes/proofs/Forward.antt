-- A call that has room for a record goes forward: what comes first of the frames is a record, which
-- has eight bytes, or their end.
-- Assumes nothing.
use Prim.Native.Nat.{ℕ, suc, ◌-◌, ◌/◌, ◌≤◌}
use native.Mathlib.Omega.{arith}
use mathlib.Core.Path.{◌≡◌, subst}
use mathlib.Core.Logic.{◌⊎◌, inl, inr}
use mathlib.Core.List.{List}
use lib.ListN.{length, length-append}
use Rattle.settings.specs.declared.Store.{Store}
use Rattle.recording.specs.declared.Tape.{Tape}
use Rattle.recording.specs.Recording.{frames_of}
use Rattle.recording.specs.Asking.{Going, gave, used_up, go_on}
use Rattle.ear_bytes.specs.Hearing.{joined, Stood, after_going, some_of, hear}
use Rattle.ear_bytes.specs.Laws.{GoesForward}
use Rattle.ear_bytes.proofs.Within.{Within, goes_to}

module _ (store : Store) (lead : List ℕ) where
  abbrev Goes : Stood → Type 0
  Goes s = (8 ≤ length (joined s.records)) ⊎ (s.frame ≡ frames_of lead)

  by_going : (n : ℕ) (g : Going) → Within (frames_of lead) g → Goes (after_going g (some_of (go_on store lead) n))
  by_going n (gave tape k i bytes) e = inl (omega (arith, e.1, length-append bytes (joined (some_of (go_on store lead) n tape k i).records)))
  by_going n (used_up tape k i) e = inr e

  some_go : (n : ℕ) (tape : Tape) (i : ℕ) → Goes (some_of (go_on store lead) (suc n) tape 0 i)
  unfolding some_of
  some_go n tape i = by_going n (go_on store lead tape 0 i) (goes_to store lead tape 0 i (omega arith))

pub goes_forward : GoesForward
unfolding hear
goes_forward hearing store lead buffer room =
    let one : suc (length buffer / 8 - 1) ≡ length buffer / 8 = omega arith in
    subst (λ (n : ℕ). Goes store lead (some_of (go_on store lead) n hearing.tape 0 hearing.bit)) one (some_go store lead (length buffer / 8 - 1) hearing.tape hearing.bit)
