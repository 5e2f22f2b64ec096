-- What is written of a piece, and then what comes of the rest, is what comes of the whole: the
-- first record in a piece is the first in the lead.
-- Assumes nothing.
use Prim.Native.Nat.{ℕ, zero, suc, ◌+◌, ◌-◌, ◌*◌, ◌≤◌}
use mathlib.Core.Path.{◌≡◌, refl, sym, ap, subst, ◌∙◌}
use mathlib.Core.Bool.{Bool, true, false}
use mathlib.Core.List.{List, [], ◌∷◌, ◌++◌, append_assoc}
use native.Mathlib.Omega.{arith}
use native.Mathlib.Nat.{sub-zero, zero-add}
use lib.ListN.{length, take, drop, length-append, length-drop}
use Rattle.words.specs.Answer.{pick}
use Rattle.text.specs.Put.{placed}
use Rattle.text.proofs.Placing.{placed_start}
use Rattle.settings.specs.declared.Store.{Store}
use Rattle.recorder.specs.Record.{bytes_of, blank}
use Rattle.recording.specs.declared.Tape.{Tape}
use Rattle.recording.specs.Frame.{line_of, odometer_of, accepted_after}
use Rattle.recording.specs.Recording.{Taped, with_odometer, positioned, is_due, held_at, over_frames, frames_of}
use Rattle.recording.specs.Asking.{InBits, recorded_at, heard_out, first_in, Going, gave, used_up, or_next, first_of, go_on}
use Rattle.recording.specs.Laws.{then_taped}
use Rattle.recording.proofs.Asking.{asked_on}
use Rattle.recording.proofs.Pieces.{Same, in_first, in_rest, same_frames}
use Rattle.ear_bytes.specs.Hearing.{joined, Stood, after_going, some_of, room_for, hear}
use Rattle.ear_bytes.specs.Laws.{to_come, AnyRoom}
use Rattle.ear_bytes.proofs.Within.{Within, goes_to, stands_at}

-- Some records, and then what comes.
abbrev behind : List (List ℕ) → Taped → Taped
behind rs x = record { tape = x.tape; records = rs ++ x.records }

-- ---- what comes first, in a piece and in the lead

module _ (store : Store) (piece rest : List ℕ) where
  abbrev lead : List ℕ
  lead = piece ++ rest

  abbrev n : ℕ
  n = frames_of piece

  abbrev all : ℕ
  all = frames_of lead

  -- After the frames of the piece, r more.
  abbrev on_from : ℕ → Going → Going
  on_from r (gave tape k i bytes) = gave tape k i bytes
  on_from r (used_up tape k i) = first_of store lead tape k i r

  due_or_on : (r m k : ℕ) (tape : Tape) (b : Bool) → first_of store lead tape (k + 1) 0 (m + r) ≡ on_from r (first_of store piece tape (k + 1) 0 m)
      → pick b (gave (positioned tape) (k + 1) 0 (bytes_of tape.odometer (blank 3))) (first_of store lead tape (k + 1) 0 (m + r))
      ≡ on_from r (pick b (gave (positioned tape) (k + 1) 0 (bytes_of tape.odometer (blank 3))) (first_of store piece tape (k + 1) 0 m))
  due_or_on r m k tape true on = refl
  due_or_on r m k tape false on = on

  by_bits : (r m k : ℕ) (w : InBits) → ((t : Tape) → first_of store lead t (k + 1) 0 (m + r) ≡ on_from r (first_of store piece t (k + 1) 0 m))
      → or_next k w (λ next. first_of store lead next (k + 1) 0 (m + r)) ≡ on_from r (or_next k w (λ next. first_of store piece next (k + 1) 0 m))
  by_bits r m k (recorded_at t j bytes) on = refl
  by_bits r m k (heard_out t) on = due_or_on r m k t (is_due t) (on t)

  bits_in : (tape : Tape) (i own : ℕ) (line : List ℕ) → InBits
  bits_in tape i own line =
      let here = with_odometer tape (accepted_after tape.odometer own) in
      let held = held_at store here.odometer in
      first_in line held.s held.t here i (96 - i)

  first_in_law : (m r : ℕ) (tape : Tape) (k i : ℕ) → k + m ≤ n → first_of store lead tape k i (m + r) ≡ on_from r (first_of store piece tape k i m)
  unfolding first_of bits_in
  first_in_law zero r tape k i low = ap (λ (z : ℕ). first_of store lead tape k i z) (zero-add r)
  first_in_law (suc m) r tape k i low =
      let same = in_first piece rest k (omega arith) in
      let e : suc m + r ≡ suc (m + r) = omega arith in
      ap (λ (z : ℕ). first_of store lead tape k i z) e
      ∙ ap (λ (w : InBits). or_next k w (λ next. first_of store lead next (k + 1) 0 (m + r)))
      (ap (λ (o : ℕ). bits_in tape i o (line_of lead k)) same.odometer ∙ ap (λ (l : List ℕ). bits_in tape i (odometer_of piece k) l) same.line)
      ∙ by_bits r m k (bits_in tape i (odometer_of piece k) (line_of piece k)) (λ t. first_in_law m r t (k + 1) 0 (omega arith))

  pub first_of_lead : (tape : Tape) (k i : ℕ) → k ≤ n → go_on store lead tape k i ≡ on_from (all - n) (go_on store piece tape k i)
  unfolding go_on
  first_of_lead tape k i low =
      let sum : all - k ≡ n - k + (all - n) = omega (arith, length-append piece rest) in
      ap (λ (z : ℕ). first_of store lead tape k i z) sum ∙ first_in_law (n - k) (all - n) tape k i (omega arith)

  -- ---- the records that have room, and what comes after them

  abbrev coming : Tape → ℕ → ℕ → Taped
  coming tape k i = over_frames store lead tape k i (all - k)

  goes : (tape : Tape) (k i : ℕ) → go_on store lead tape k i ≡ first_of store lead tape k i (all - k)
  unfolding go_on
  goes tape k i = refl

  by_first : (m : ℕ) (tape : Tape) (k i : ℕ) (g : Going) → Within n g → go_on store lead tape k i ≡ on_from (all - n) g
      → ((t : Tape) (k i : ℕ) → k ≤ n → coming t k i ≡ behind (some_of (go_on store piece) m t k i).records (coming (some_of (go_on store piece) m t k i).tape (some_of (go_on store piece) m t k i).frame (some_of (go_on store piece) m t k i).bit))
      → coming tape k i ≡ behind (after_going g (some_of (go_on store piece) m)).records (coming (after_going g (some_of (go_on store piece) m)).tape (after_going g (some_of (go_on store piece) m)).frame (after_going g (some_of (go_on store piece) m)).bit)
  by_first m tape k i (gave t j p bytes) low e on =
      asked_on store lead tape k i ∙ ap (then_taped store lead) e
      ∙ ap (λ (x : Taped). record { tape = x.tape; records = bytes ∷ x.records }) (on t j p low.0)
  by_first m tape k i (used_up t j p) last e on =
      let same : all - n ≡ all - j = omega arith in
      asked_on store lead tape k i ∙ ap (then_taped store lead) (e ∙ ap (λ (z : ℕ). first_of store lead t j p z) same ∙ sym (goes t j p)) ∙ sym (asked_on store lead t j p)

  pub some_then : (m : ℕ) (tape : Tape) (k i : ℕ) → k ≤ n
      → coming tape k i ≡ behind (some_of (go_on store piece) m tape k i).records (coming (some_of (go_on store piece) m tape k i).tape (some_of (go_on store piece) m tape k i).frame (some_of (go_on store piece) m tape k i).bit)
  unfolding some_of
  some_then zero tape k i low = refl
  some_then (suc m) tape k i low =
      by_first m tape k i (go_on store piece tape k i) (goes_to store piece tape k i low) (first_of_lead tape k i low) (λ t k' i' q. some_then m t k' i' q)

  -- From a frame on it is the lead from there.
  pub from_there : (tape : Tape) (k i : ℕ) → k ≤ all → coming tape k i ≡ over_frames store (drop (16 * k) lead) tape 0 i (frames_of (drop (16 * k) lead))
  from_there tape k i low =
      let frames : frames_of (drop (16 * k) lead) ≡ all - k = omega (arith, length-drop (16 * k) lead) in
      same_frames store lead (drop (16 * k) lead) (all - k) k 0 i tape
      (λ j h. let none : 0 + j ≡ j = omega arith in subst (λ (z : ℕ). Same lead (drop (16 * k) lead) (k + j) z) (sym none) (in_rest lead k j))
      ∙ ap (λ (z : ℕ). over_frames store (drop (16 * k) lead) tape 0 i z) (sym frames)

-- ---- as bytes

pub joined_two : (a b : List (List ℕ)) → joined (a ++ b) ≡ joined a ++ joined b
joined_two [] b = refl
joined_two (r ∷ a) b = ap (λ (l : List ℕ). r ++ l) (joined_two a b) ∙ sym (append_assoc r (joined a) (joined b))

pub wrote_so : (t buffer : List ℕ) → take (length t) (placed t buffer 0) ≡ t
wrote_so t buffer = ap (λ (z : ℕ). take z (placed t buffer 0)) (sym (zero-add (length t))) ∙ placed_start t buffer

pub any_room : AnyRoom
unfolding hear
any_room hearing store piece rest buffer =
    let s : Stood = some_of (go_on store piece) (room_for buffer) hearing.tape 0 hearing.bit in
    let low : s.frame ≤ frames_of piece = stands_at store piece (room_for buffer) hearing.tape 0 hearing.bit (omega arith) in
    let within : s.frame ≤ frames_of (piece ++ rest) = omega (arith, length-append piece rest) in
    let whole : to_come hearing store (piece ++ rest) ≡ behind s.records (to_come (record { tape = s.tape; bit = s.bit }) store (drop (16 * s.frame) (piece ++ rest))) =
    sym (ap (λ (z : ℕ). over_frames store (piece ++ rest) hearing.tape 0 hearing.bit z) (sub-zero (frames_of (piece ++ rest))))
    ∙ some_then store piece rest (room_for buffer) hearing.tape 0 hearing.bit (omega arith)
    ∙ ap (behind s.records) (from_there store piece rest s.tape s.frame s.bit within) in
    let on : Taped = to_come (record { tape = s.tape; bit = s.bit }) store (drop (16 * s.frame) (piece ++ rest)) in (
      ap (λ (x : Taped). joined x.records) whole ∙ joined_two s.records on.records
          ∙ ap (λ (l : List ℕ). l ++ joined on.records) (sym (wrote_so (joined s.records) buffer)),
      ap (λ (x : Taped). x.tape) whole,
    )
