-- The line of a lead bit by bit is the line in one buffer.
-- Assumes nothing.
use Prim.Native.Nat.{ℕ, zero, suc, ◌+◌, ◌-◌, ◌*◌, ◌/◌, ◌%◌, ◌^◌, ◌≤◌, ◌<◌}
use mathlib.Core.Path.{◌≡◌, refl, sym, ap, ◌∙◌}
use mathlib.Core.Bool.{Bool, true, false}
use mathlib.Core.List.{List, ◌++◌}
use native.Mathlib.Omega.{arith}
use lib.Dec.{ltb}
use borrow.Author.Tests.{ltb-true, ltb-false}
use lib.ListN.{length, get_or, length-append, get_or-append}
use lib.Seq.{get_or-append-add}
use Rattle.words.specs.Answer.{pick}
use Rattle.telegram.specs.Stretch.{bit_at}
use Rattle.antenna.specs.declared.Ear.{Ear}
use Rattle.antenna.specs.Hearing as hearing
use Rattle.antenna.specs.Line.{is_inside}
use Rattle.antenna.proofs.Law.{hears_all, only_the_bits}
use Rattle.recorder.proofs.Received.{as_received}
use Rattle.recording.specs.Frame.{line_of, odometer_of, accepted_after}
use Rattle.recording.specs.Kept.{or_unreadable, record_at}
use Rattle.recording.specs.Recording.{frames_of}
use Rattle.recording.specs.Contacts.{line_in, before, in_force, s_in, t_in, bits_of}
use Rattle.recording.specs.Document.{lines_of, whole_line, TheContacts, AsReceived}
use Rattle.recording.proofs.Frames.{line_length}

module _ (lead : List ℕ) where
  pub all_length : (n : ℕ) → 16 * n ≤ length lead → length (lines_of lead n) ≡ 12 * n
  unfolding lines_of
  all_length zero fits = refl
  all_length (suc n) fits =
      let a = all_length n (omega arith) in
      let b = line_length lead n (omega arith) in
      length-append (lines_of lead n) (line_of lead n) ∙ omega arith

  -- Byte j of frame k's line, among those of n frames.
  byte_by : (n k j : ℕ) → 16 * suc n ≤ length lead → j < 12 → k < suc n → (b : Bool) → ltb k n ≡ b
      → (k < n → get_or (lines_of lead n) (12 * k + j) 0 ≡ get_or (line_of lead k) j 0)
      → get_or (lines_of lead n ++ line_of lead n) (12 * k + j) 0 ≡ get_or (line_of lead k) j 0
  byte_by n k j fits low within true e on =
      let below : k < n = ltb-true k n e in
      let long = all_length n (omega arith) in
      get_or-append (lines_of lead n) (line_of lead n) 0 (12 * k + j) (omega arith) ∙ on below
  byte_by n k j fits low within false e on =
      let above : n ≤ k = ltb-false k n e in
      let is : n ≡ k = omega arith in
      let long = all_length n (omega arith) in
      let at : 12 * k + j ≡ length (lines_of lead n) + j = omega arith in
      ap (λ (z : ℕ). get_or (lines_of lead n ++ line_of lead n) z 0) at ∙ get_or-append-add (lines_of lead n) (line_of lead n) j 0 ∙ ap (λ (z : ℕ). get_or (line_of lead z) j 0) is

  byte_of : (n k j : ℕ) → 16 * n ≤ length lead → j < 12 → k < n → get_or (lines_of lead n) (12 * k + j) 0 ≡ get_or (line_of lead k) j 0
  unfolding lines_of
  byte_of zero k j fits low within = absurd (omega arith)
  byte_of (suc n) k j fits low within = byte_by n k j fits low within (ltb k n) refl (λ below. byte_of n k j (omega arith) low below)

  pub bit_of : (n i : ℕ) → 16 * n ≤ length lead → i < 96 * n → line_in lead i ≡ bit_at (lines_of lead n) i
  bit_of n i fits low =
      let b : i % 96 / 8 < 12 = omega arith in
      let k : i / 96 < n = omega arith in
      let at : 12 * (i / 96) + i % 96 / 8 ≡ i / 8 = omega arith in
      let within : i % 96 % 8 ≡ i % 8 = omega arith in
      let same : get_or (line_of lead (i / 96)) (i % 96 / 8) 0 ≡ get_or (lines_of lead n) (i / 8) 0 = sym (byte_of n (i / 96) (i % 96 / 8) fits b k) ∙ ap (λ (z : ℕ). get_or (lines_of lead n) z 0) at in
      ap (λ (z : ℕ). get_or (line_of lead (i / 96)) (i % 96 / 8) 0 / 2 ^ (7 - z) % 2) within ∙ ap (λ (z : ℕ). z / 2 ^ (7 - i % 8) % 2) same

pub the_contacts : TheContacts
the_contacts store lead fits =
    let n = bits_of lead in
    let b = whole_line lead in
    let whole : 16 * frames_of lead ≤ length lead = omega arith in
    let long = all_length lead (frames_of lead) whole in
    let same = only_the_bits (line_in lead) (bit_at b) (s_in store lead) (s_in store lead) (t_in store lead) (t_in store lead) hearing.fresh 0 (bits_of lead)
    (λ k low. (bit_of lead (frames_of lead) (0 + k) whole (omega arith), refl, refl)) in
    let enough : bits_of lead ≤ 8 * length (whole_line lead) = omega arith in
    let all = hears_all b (s_in store lead) (t_in store lead) (bits_of lead) enough fits in
    (same.0 ∙ all.0, ap (λ (e : Ear). is_inside e.stand) same.1 ∙ all.1)

-- ---- words

accepted_low : (b c : Bool) (last given : ℕ) → ltb 4000000000 given ≡ b → last ≤ 4000000000 → pick b last (pick c last given) ≤ 4000000000
accepted_low true c last given e h = h
accepted_low false true last given e h = h
accepted_low false false last given e h = ltb-false 4000000000 given e

pub never_high : (lead : List ℕ) (k : ℕ) → before lead k ≤ 4000000000
unfolding before accepted_after
never_high lead zero = omega arith
never_high lead (suc k) = accepted_low (ltb 4000000000 (odometer_of lead k)) (ltb (odometer_of lead k) (before lead k)) (before lead k) (odometer_of lead k) refl (never_high lead k)

pub received : AsReceived
received lead b start len s t m first count e =
    let o = in_force lead (start / 96) in
    ap (record_at o) e ∙ ap (or_unreadable o) (as_received b start len s t m first count o e (never_high lead (suc (start / 96))))
