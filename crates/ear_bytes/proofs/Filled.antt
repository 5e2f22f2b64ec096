-- Records put one after the other into a buffer: from each of them on it comes to the same.
-- Assumes nothing.
use Prim.Native.Nat.{ℕ, suc, ◌+◌, ◌-◌, ◌/◌, ◌≤◌, ◌<◌}
use mathlib.Core.Path.{◌≡◌, sym, ap, ap₂, ◌∙◌}
use mathlib.Core.Bool.{Bool, true, false}
use mathlib.Core.List.{List, ◌++◌}
use native.Mathlib.Omega.{arith}
use native.Mathlib.Nat.{add-zero, zero-add, sub-zero}
use lib.ListN.{length, length-append}
use Rattle.text.specs.Put.{placed, put, came}
use Rattle.text.proofs.Placing.{placed_none, placed_join}
use Rattle.text.proofs.Standing.{Stands, stands as stands_there, keeps}
use Rattle.settings.specs.declared.Store.{Store}
use Rattle.recording.specs.declared.Tape.{Tape}
use Rattle.std.specs.Prelude.{Option, Some, None}
use Rattle.recording.specs.declared.Taken.{Taken}
use Rattle.recording.specs.Asking.{Going, gave, used_up, go_on}
use Rattle.recording.specs.Says.{says_came, says_taken}
use Rattle.ear_bytes.specs.declared.Hearing.{Hearing}
use Rattle.ear_bytes.specs.Hearing.{joined, Stood, stands, first, at_end, after_going, some_of, Written, written, room_for, hear, end}
use Rattle.ear_bytes.specs.Inside.{coming, either}

-- What is written of what came, after `at` bytes.
abbrev parts : Tape → ℕ → ℕ → ℕ → List ℕ → Written
parts tape k i bytes buffer = record { wrote = record { hearing = record { tape = tape; bit = i }; frames = k; bytes = bytes }; buffer = buffer }

abbrev pub onward : Stood → ℕ → List ℕ → Written
onward s at buffer = parts s.tape s.frame s.bit (at + length (joined s.records)) (placed (joined s.records) buffer at)

-- From the first it is the whole,
pub from_first : (s : Stood) (buffer : List ℕ) → onward s 0 buffer ≡ written s buffer
from_first s buffer = ap (λ (n : ℕ). parts s.tape s.frame s.bit n (placed (joined s.records) buffer 0)) (zero-add (length (joined s.records)))

-- and where none is left, nothing more.
pub from_last : (tape : Tape) (k i at : ℕ) (buffer : List ℕ) → parts tape k i at buffer ≡ onward (stands tape k i) at buffer
from_last tape k i at buffer = ap₂ (λ (n : ℕ) (l : List ℕ). parts tape k i n l) (sym (add-zero at)) (sym (placed_none buffer at))

-- How many records have room.
abbrev pub places : List ℕ → ℕ → ℕ
places buffer at = (length buffer - at) / 8

-- ---- a record that is put

module _ (bytes buffer buffer' : List ℕ) (at at' : ℕ) (long : length bytes ≡ 8) (room : 8 ≤ length buffer - at) (says_so : came at' buffer' ≡ put bytes buffer at) where
  there : Stands buffer buffer' at at' bytes
  there = stands_there (omega arith) says_so

  pub next_place : at' ≤ length buffer'
  next_place = omega (arith, keeps there, there.put.0)

  pub keeps_length : length buffer' ≡ length buffer
  keeps_length = keeps there

  pub one_less : places buffer at ≡ suc (places buffer' at')
  one_less = omega (arith, keeps there, there.put.0)

  pub room_less : length buffer' - at' < length buffer - at
  room_less = omega (arith, keeps there, there.put.0)

  pub from_next : (s : Stood) → onward s at' buffer' ≡ onward (first bytes s) at buffer
  from_next s =
      let u : List ℕ = joined s.records in
      let sum : at' + length u ≡ at + length (bytes ++ u) = omega (arith, length-append bytes u, there.put.0) in
      let text : placed u buffer' at' ≡ placed (bytes ++ u) buffer at =
      ap₂ (placed u) there.put.1 there.put.0 ∙ placed_join bytes buffer at there.fits u in
      ap₂ (λ (n : ℕ) (l : List ℕ). parts s.tape s.frame s.bit n l) sum text

-- ---- one after the other

module _ (next : Tape → ℕ → ℕ → Going) where
  -- What is written from here on, after `at` bytes.
  abbrev pub from : Tape → ℕ → ℕ → ℕ → List ℕ → Written
  from tape k i at buffer = onward (some_of next (places buffer at) tape k i) at buffer

  all_of : (hearing : Hearing) (buffer : List ℕ) → from hearing.tape 0 hearing.bit 0 buffer ≡ written (some_of next (room_for buffer) hearing.tape 0 hearing.bit) buffer
  all_of hearing buffer =
      ap (λ (n : ℕ). onward (some_of next (n / 8) hearing.tape 0 hearing.bit) 0 buffer) (sub-zero (length buffer))
      ∙ from_first (some_of next (room_for buffer) hearing.tape 0 hearing.bit) buffer

  no_room : (tape : Tape) (k i n : ℕ) → n ≡ 0 → stands tape k i ≡ some_of next n tape k i
  unfolding some_of
  no_room tape k i n e = sym (ap (λ (m : ℕ). some_of next m tape k i) e)

  by_one : (tape : Tape) (k i n : ℕ) (g : Going) → next tape k i ≡ g → some_of next (suc n) tape k i ≡ after_going g (some_of next n)
  unfolding some_of
  by_one tape k i n g e = ap (λ (x : Going). after_going x (some_of next n)) e

  -- Without room for one more.
  pub full : (tape : Tape) (k i at : ℕ) (buffer : List ℕ) → length buffer - at < 8 → parts tape k i at buffer ≡ from tape k i at buffer
  full tape k i at buffer few =
      from_last tape k i at buffer ∙ ap (λ (s : Stood). onward s at buffer) (no_room tape k i (places buffer at) (omega arith))

  module _ (tape : Tape) (k i at : ℕ) (buffer : List ℕ) (w : Taken) (told : says_taken w ≡ next tape k i) (room : 8 ≤ length buffer - at) where
    is : (c : Option (List ℕ)) → w.came ≡ c → next tape k i ≡ says_came c w.tape w.frame w.bit
    is c e = sym told ∙ ap (λ (x : Option (List ℕ)). says_came x w.tape w.frame w.bit) e

    -- Nothing came.
    pub over : w.came ≡ None → parts w.tape w.frame w.bit at buffer ≡ from tape k i at buffer
    over e =
        let more : places buffer at ≡ suc (places buffer at - 1) = omega arith in
        from_last w.tape w.frame w.bit at buffer
        ∙ ap (λ (s : Stood). onward s at buffer)
        (sym (by_one tape k i (places buffer at - 1) (used_up w.tape w.frame w.bit) (is None e)) ∙ ap (λ (n : ℕ). some_of next n tape k i) (sym more))

    -- A record came, and is put.
    pub on : (bytes : List ℕ) → w.came ≡ Some bytes → length bytes ≡ 8 → (at' : ℕ) (buffer' : List ℕ) → came at' buffer' ≡ put bytes buffer at
        → from w.tape w.frame w.bit at' buffer' ≡ from tape k i at buffer
    on bytes e long at' buffer' puts =
        let n : ℕ = places buffer' at' in
        from_next bytes buffer buffer' at at' long room puts (some_of next n w.tape w.frame w.bit)
        ∙ ap (λ (s : Stood). onward s at buffer)
        (sym (by_one tape k i n (gave w.tape w.frame w.bit bytes) (is (Some bytes) e))
        ∙ ap (λ (m : ℕ). some_of next m tape k i) (sym (one_less bytes buffer buffer' at at' long room puts)))

-- All that is written, at the lead's end or of a piece.
pub whole : (ends : Bool) (hearing : Hearing) (store : Store) (lead buffer : List ℕ)
    → from (coming ends store lead) hearing.tape 0 hearing.bit 0 buffer ≡ either ends hearing store lead buffer
unfolding hear end
whole true hearing store lead buffer = all_of at_end hearing buffer
whole false hearing store lead buffer = all_of (go_on store lead) hearing buffer
