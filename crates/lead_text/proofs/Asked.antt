-- What comes next, of a piece or at the lead's end, and one turn over it, from what the calls of
-- `next_record` and `list_one` say.
-- Assumes nothing.
use Prim.Native.Nat.{ℕ, suc, ◌+◌, ◌≤◌, ◌<◌}
use native.Mathlib.Omega.{arith}
use mathlib.Core.Path.{◌≡◌, refl, ap, sym, subst, ◌∙◌}
use mathlib.Core.Bool.{Bool, true, false}
use mathlib.Core.List.{List, [], ◌∷◌}
use lib.ListN.{length}
use Rattle.words.specs.Answer.{pick}
use Rattle.text.specs.Put.{placed}
use Rattle.settings.specs.declared.Store.{Store}
use Rattle.settings.specs.At.{gap_at}
use Rattle.ride.specs.declared.Ride.{Ride}
use Rattle.ride.specs.Record.{odometer_of}
use Rattle.ride.specs.Step.{Step, treat}
use Rattle.recording.specs.declared.Tape.{Tape}
use Rattle.std.specs.Prelude.{Option, Some, None}
use Rattle.recording.specs.declared.Taken.{Taken}
use Rattle.recording.specs.Recording.{Taped, the_end_meant}
use Rattle.recording.specs.Asking.{Going, gave, used_up, go_on, Ending, one, none, finish, of_ending}
use Rattle.recording.specs.Says.{says_came, says_taken}
use Rattle.recording.specs.Laws.{then_taped, then_ended}
use Rattle.recording.proofs.Asking.{asked_on, end_asked}
use Rattle.ride_text.specs.Style.{with_reasons}
use Rattle.ride_text.specs.Told.{step_text}
use Rattle.lead_text.specs.declared.Underway.{Underway}
use Rattle.lead_text.specs.declared.record_lines.One.{One}
use Rattle.lead_text.specs.Places.{Place, next_place, next_tape, to_come, after, after_ends}
use Rattle.lead_text.specs.List.{place_of, standing, Telling, list_of}
use Rattle.lead_text.specs.Inside.{of_piece, coming, taken_to, of_either, says_one, list_one}
use Rattle.lead_text.proofs.OneMore.{has_room}
use Rattle.lead_text.proofs.Adding.{added, left}
use Rattle.lead_text.proofs.Turns.{listing, from_here, from_last, from_full, from_next}

-- ---- what is to come

abbrev place : ℕ → ℕ → Tape → Place
place frame bit tape = record { tape = tape; frame = frame; bit = bit }

-- The records, where the reading stands after all of them, and after n of them.
abbrev pub rest : Bool → Store → List ℕ → Place → List (List ℕ)
rest ends store frames p = pick ends (the_end_meant p.tape).records (to_come store frames p).records

abbrev pub last : Bool → Store → List ℕ → Place → Place
last ends store frames p = pick ends (place p.frame p.bit (the_end_meant p.tape).tape) (place 0 0 (to_come store frames p).tape)

abbrev pub up_to : Bool → Store → List ℕ → Place → ℕ → Place
up_to ends store frames p n = pick ends (place p.frame p.bit (after_ends p.tape n)) (after store frames p n)

-- By what comes next: a record and what is to come after it, or nothing.
abbrev Follows : Bool → Store → List ℕ → Place → Going → Type 0
Follows ends store frames p (gave tape frame bit bytes) =
    (rest ends store frames p ≡ bytes ∷ rest ends store frames (place frame bit tape))
    × (last ends store frames p ≡ last ends store frames (place frame bit tape))
    × ((n : ℕ) → up_to ends store frames p (suc n) ≡ up_to ends store frames (place frame bit tape) n)
Follows ends store frames p (used_up tape frame bit) = (rest ends store frames p ≡ []) × (last ends store frames p ≡ place frame bit tape)

end_follows : (store : Store) (frames : List ℕ) (p : Place) (e : Ending) → finish p.tape ≡ e → Follows true store frames p (of_ending p.frame p.bit e)
unfolding after_ends
end_follows store frames p (one tape bytes) e =
    let is : the_end_meant p.tape ≡ then_ended (one tape bytes) = end_asked p.tape ∙ ap then_ended e in (
      ap (λ (x : Taped). x.records) is,
      ap (λ (x : Taped). place p.frame p.bit x.tape) is,
      λ n. ap (λ (x : Ending). place p.frame p.bit (after_ends (next_tape x) n)) e,
    )
end_follows store frames p (none tape) e =
    let is : the_end_meant p.tape ≡ then_ended (none tape) = end_asked p.tape ∙ ap then_ended e in
    (ap (λ (x : Taped). x.records) is, ap (λ (x : Taped). place p.frame p.bit x.tape) is)

piece_follows : (store : Store) (frames : List ℕ) (p : Place) (g : Going) → go_on store frames p.tape p.frame p.bit ≡ g → Follows false store frames p (of_piece g)
unfolding after
piece_follows store frames p (gave tape frame bit bytes) e =
    let is : to_come store frames p ≡ then_taped store frames (gave tape frame bit bytes) = asked_on store frames p.tape p.frame p.bit ∙ ap (then_taped store frames) e in (
      ap (λ (x : Taped). x.records) is,
      ap (λ (x : Taped). place 0 0 x.tape) is,
      λ n. ap (λ (x : Going). after store frames (next_place x) n) e,
    )
piece_follows store frames p (used_up tape frame bit) e =
    let is : to_come store frames p ≡ then_taped store frames (used_up tape frame bit) = asked_on store frames p.tape p.frame p.bit ∙ ap (then_taped store frames) e in
    (ap (λ (x : Taped). x.records) is, ap (λ (x : Taped). place 0 0 x.tape) is)

follows : (ends : Bool) (store : Store) (frames : List ℕ) (p : Place) → Follows ends store frames p (coming ends store frames p)
unfolding coming
follows true store frames p = end_follows store frames p (finish p.tape) refl
follows false store frames p = piece_follows store frames p (go_on store frames p.tape p.frame p.bit) refl

up_to_none : (ends : Bool) (store : Store) (frames : List ℕ) (u : Underway) → up_to ends store frames (place_of u) 0 ≡ place_of u
unfolding after after_ends
up_to_none true store frames u = refl
up_to_none false store frames u = refl

-- The listing of all that is to come.
pub either_is : (ends : Bool) (store : Store) (frames : List ℕ) (u : Underway) (out : List ℕ)
    → list_of (gap_at store) u (rest ends store frames (place_of u)) (last ends store frames (place_of u)) (up_to ends store frames (place_of u)) out ≡ of_either ends store u frames out
either_is true store frames u out = refl
either_is false store frames u out = refl

-- ---- one turn

module _ (ends : Bool) (store : Store) (frames : List ℕ) where
  -- The listing of what is to come, after `at` bytes.
  abbrev pub from_either : Underway → ℕ → List ℕ → Telling
  from_either u at out =
      from_here (gap_at store) u.ride u.number at (rest ends store frames (place_of u)) (last ends store frames (place_of u)) (up_to ends store frames (place_of u)) out

  module _ (u : Underway) (at : ℕ) (out : List ℕ) (w : Taken) (says : says_taken w ≡ coming ends store frames (place_of u)) where
    came_is : (c : Option (List ℕ)) → w.came ≡ c → Follows ends store frames (place_of u) (says_came c w.tape w.frame w.bit)
    came_is c e =
        subst (Follows ends store frames (place_of u))
        (sym says ∙ ap (λ (k : Option (List ℕ)). says_came k w.tape w.frame w.bit) e)
        (follows ends store frames (place_of u))

    -- the same listing by other records, and by another last place
    abbrev by : List (List ℕ) → Place → Telling
    by rs p = from_here (gap_at store) u.ride u.number at rs p (up_to ends store frames (place_of u)) out

    -- No record came: all is used.
    pub all_used : w.came ≡ None → listing at true (taken_to w) u.ride u.number out ≡ from_either u at out
    all_used e =
        let f = came_is None e in
        sym (ap (λ (rs : List (List ℕ)). by rs (last ends store frames (place_of u))) f.0
        ∙ ap (by []) f.1
        ∙ from_last (gap_at store) u.ride u.number at (taken_to w) (up_to ends store frames (place_of u)) out)

    -- What is left falls.
    pub fewer : (bytes : List ℕ) → w.came ≡ Some bytes → length (rest ends store frames (taken_to w)) < length (rest ends store frames (place_of u))
    fewer bytes e = omega (arith, ap length (came_is (Some bytes) e).0)

    module _ (o : One) (out' bytes : List ℕ) (lists : says_one o out' ≡ list_one (gap_at store) u.ride u.number bytes out at) (came : w.came ≡ Some bytes) where
      -- A record that is not taken: the room is used.
      pub room_used : o.taken ≡ false → listing at false (place_of u) u.ride u.number out' ≡ from_either u at out
      room_used not_so =
          let l = left (gap_at store) u.ride u.number bytes out at o out' lists not_so in
          let p = last ends store frames (place_of u) in
          ap (listing at false (place_of u) u.ride u.number) l.out_is
          ∙ ap (λ (q : Place). listing at false q u.ride u.number out) (sym (up_to_none ends store frames u))
          ∙ sym (ap (λ (rs : List (List ℕ)). by rs p) (came_is (Some bytes) came).0
          ∙ from_full (gap_at store) u.ride u.number at bytes (rest ends store frames (taken_to w)) p (up_to ends store frames (place_of u)) out l.full)

      -- One that is taken: from there on.
      pub one_taken : o.taken ≡ true → at ≤ length out → length out' ≡ length out
          → (o.at ≤ length out') × (from_either (standing (taken_to w) o.ride o.number) o.at out' ≡ from_either u at out)
      one_taken so low kept =
          let a = added (gap_at store) u.ride u.number bytes out at o out' lists so in
          let s : Step = treat u.ride (gap_at store (odometer_of bytes)) bytes in
          let t : List ℕ = step_text with_reasons u.number s in
          let fits : at + length t ≤ length out = has_room t out at low (sym (ap length a.out_is) ∙ kept) in
          let next = a.next_is in
          let f = came_is (Some bytes) came in
          let here : from_either (standing (taken_to w) o.ride o.number) o.at out' ≡ from_either (standing (taken_to w) s.ride (suc u.number)) (at + length t) (placed t out at) =
          ap (λ (x : Ride). from_either (standing (taken_to w) x o.number) o.at out') a.ride_is
          ∙ ap (λ (x : ℕ). from_either (standing (taken_to w) s.ride x) o.at out') a.number_is
          ∙ ap (λ (x : ℕ). from_either (standing (taken_to w) s.ride (suc u.number)) x out') a.next_is
          ∙ ap (from_either (standing (taken_to w) s.ride (suc u.number)) (at + length t)) a.out_is in (
            omega arith,
            here
                ∙ sym (ap (λ (rs : List (List ℕ)). by rs (last ends store frames (place_of u))) f.0
                ∙ ap (by (bytes ∷ rest ends store frames (taken_to w))) f.1
                ∙ from_next (gap_at store) u.ride u.number at bytes (rest ends store frames (taken_to w)) (last ends store frames (taken_to w))
                (up_to ends store frames (place_of u)) out (up_to ends store frames (taken_to w)) f.2 a.room fits),
          )
