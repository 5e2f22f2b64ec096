-- What is to come after some records is what is left of them; and what comes of pieces, one after
-- the other, is what comes of the lead.
-- Assumes nothing.
use Prim.Native.Nat.{ℕ, zero, suc, ◌-◌, ◌*◌, ◌/◌, ◌≤◌, ◌<◌}
use native.Mathlib.Omega.{arith}
use mathlib.Core.Path.{◌≡◌, refl, sym, ap, ◌∙◌}
use mathlib.Core.List.{List, [], ◌∷◌, ◌++◌, append_assoc}
use lib.ListN.{length, drop}
use Rattle.settings.specs.declared.Store.{Store}
use Rattle.recording.specs.declared.Tape.{Tape}
use Rattle.recording.specs.Recording.{Taped, silent, and_then, over_frames, frames_of, over_lead, the_end_meant}
use Rattle.recording.specs.Asking.{Going, gave, used_up, go_on, Ending, one, none, finish}
use Rattle.recording.specs.Laws.{then_taped, then_ended}
use Rattle.recording.proofs.Asking.{asked_on, end_asked}
use Rattle.recording.proofs.Pieces.{any_pieces}
use Rattle.lead_text.specs.Places.{Place, next_place, to_come, after, next_tape, after_ends}
use Rattle.lead_text_laws.specs.Live.{joined, Whole}

-- What is left of something after n records.
abbrev pub left_of : ℕ → Taped → Taped
left_of n x = record { tape = x.tape; records = drop n x.records }

-- ---- a piece

module _ (store : Store) (frames : List ℕ) where
  come_by : (n : ℕ) (x : Taped) (g : Going) → x ≡ then_taped store frames g → suc n ≤ length x.records
      → ((p : Place) → n ≤ length (to_come store frames p).records → to_come store frames (after store frames p n) ≡ left_of n (to_come store frames p))
      → to_come store frames (after store frames (next_place g) n) ≡ left_of (suc n) x
  come_by n x (gave tape k i bytes) e few on =
      let p : Place = record { tape = tape; frame = k; bit = i } in
      on p (omega (arith, ap (λ (y : Taped). length y.records) e)) ∙ sym (ap (left_of (suc n)) e)
  come_by n x (used_up tape k i) e few on = absurd (omega (arith, ap (λ (y : Taped). length y.records) e))

  pub come_after : (n : ℕ) (p : Place) → n ≤ length (to_come store frames p).records → to_come store frames (after store frames p n) ≡ left_of n (to_come store frames p)
  unfolding after
  come_after zero p few = refl
  come_after (suc n) p few =
      come_by n (to_come store frames p) (go_on store frames p.tape p.frame p.bit) (asked_on store frames p.tape p.frame p.bit) few (λ q. come_after n q)

-- ---- the end

end_by : (n : ℕ) (x : Taped) (g : Ending) → x ≡ then_ended g → suc n ≤ length x.records
    → ((tape : Tape) → n ≤ length (the_end_meant tape).records → the_end_meant (after_ends tape n) ≡ left_of n (the_end_meant tape))
    → the_end_meant (after_ends (next_tape g) n) ≡ left_of (suc n) x
end_by n x (one tape bytes) e few on = on tape (omega (arith, ap (λ (y : Taped). length y.records) e)) ∙ sym (ap (left_of (suc n)) e)
end_by n x (none tape) e few on = absurd (omega (arith, ap (λ (y : Taped). length y.records) e))

pub end_after : (n : ℕ) (tape : Tape) → n ≤ length (the_end_meant tape).records → the_end_meant (after_ends tape n) ≡ left_of n (the_end_meant tape)
unfolding after_ends
end_after zero tape few = refl
end_after (suc n) tape few = end_by n (the_end_meant tape) (finish tape) (end_asked tape) few (λ t. end_after n t)

-- ---- pieces

-- At the first frame of a piece.
abbrev pub start : Tape → Place
start tape = record { tape = tape; frame = 0; bit = 0 }

module _ (store : Store) where
  -- What comes of the piece at hand, from there on, and then of those after it.
  unfoldable pub comes_all : Place → List (List ℕ) → Taped
  comes_all p [] = silent p.tape
  comes_all p (piece ∷ pieces) = and_then (to_come store piece p) λ tape. comes_all (start tape) pieces

  from_start : (piece : List ℕ) (tape : Tape) → to_come store piece (start tape) ≡ over_lead store piece tape
  from_start piece tape = let n : frames_of piece - 0 ≡ frames_of piece = omega arith in ap (λ (k : ℕ). over_frames store piece tape 0 0 k) n

  none_whole : (rest : List ℕ) (tape : Tape) → length rest < 16 → over_lead store rest tape ≡ silent tape
  unfolding over_frames
  none_whole rest tape few = let n : frames_of rest ≡ 0 = omega arith in rw n

  -- The whole lead.
  pub all_pieces : (pieces : List (List ℕ)) (rest : List ℕ) (tape : Tape) → Whole pieces → length rest < 16
      → comes_all (start tape) pieces ≡ over_lead store (joined pieces ++ rest) tape
  unfolding comes_all
  all_pieces [] rest tape whole few = sym (none_whole rest tape few)
  all_pieces (piece ∷ pieces) rest tape (w, ws) few =
      let m : ℕ = length piece / 16 in
      let long : length piece ≡ 16 * m = omega arith in
      let x = over_lead store piece tape in
      ap (λ (y : Taped). and_then y λ t. comes_all (start t) pieces) (from_start piece tape)
      ∙ ap (λ (y : Taped). record { tape = y.tape; records = x.records ++ y.records }) (all_pieces pieces rest x.tape ws few)
      ∙ sym (any_pieces store piece (joined pieces ++ rest) m tape long)
      ∙ ap (λ (l : List ℕ). over_lead store l tape) (sym (append_assoc piece (joined pieces) rest))
