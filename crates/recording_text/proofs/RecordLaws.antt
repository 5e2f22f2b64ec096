-- Why the law of the records holds: each record of a lead has a kind up to 3, since none of them is
-- refused, and adds one where its kind says so.
-- Assumes nothing.
use Prim.Native.Nat.{ℕ, zero, suc, ◌+◌, ◌≤◌, ◌<◌}
use mathlib.Core.Path.{◌≡◌, refl}
use mathlib.Core.Bool.{Bool, true, false, not, ◌&&◌, ◌||◌}
use mathlib.Core.List.{List, [], ◌∷◌}
use native.Mathlib.Omega.{arith}
use lib.Dec.{eqb, leb, ltb}
use lib.ListN.{length}
use borrow.Author.Tests.{leb-true, le-ltb, ltb-true, ltb-false, eqb-true, eqb-false, ne_eqb}
use Rattle.words.specs.Answer.{Outcome, gives, refuses, pick}
use Rattle.words.specs.Limits.{largest64}
use Rattle.words.proofs.Never.{cannot_be}
use Rattle.antenna.proofs.Ends.{one_more}
use Rattle.ride.specs.Record.{odometer_of, kind_of, passed_of, blank, in_order_meant, Entry, check_record}
use Rattle.recording.specs.Recording.{recorded}
use Rattle.recording.specs.Rising.{AllAccepted}
use Rattle.recording.specs.Contacts.{without_positions}
use Rattle.recording.proofs.Rising.{none_refused}
use Rattle.recording_text.specs.declared.Records.{Records}
use Rattle.recording_text.specs.Counts.{more, no_records, count_record, count_records}
use Rattle.recording_text.specs.Laws.{AllRecords}

-- Every kind is one of document 01's.
abbrev AllKinds : List (List ℕ) → Type 0
AllKinds [] = Unit
AllKinds (r ∷ rs) = (kind_of r ≤ 3) × AllKinds rs

kind_of_law : (last : ℕ) (r : List ℕ) (e : Entry) → check_record last r ≡ gives e → kind_of r ≤ 3
unfolding check_record in_order_meant
kind_of_law last r e h = go (leb (kind_of r) 3) refl (eqb (kind_of r) 0 || blank r) h
  where
    go : (x : Bool) → leb (kind_of r) 3 ≡ x → (y : Bool)
        → pick {A = Outcome Entry} (not (x && y)) (refuses 16) (pick {A = Outcome Entry} (ltb 4000000000 (odometer_of r)) (refuses 18) (pick {A = Outcome Entry} (ltb (odometer_of r) last) (refuses 17) (gives (record { odometer = odometer_of r; passed = passed_of r })))) ≡ gives e
        → kind_of r ≤ 3
    go true is y h = leb-true _ _ is
    go false is y h = cannot_be cc

kinds : (last : ℕ) (rs : List (List ℕ)) → AllAccepted last rs → AllKinds rs
kinds last [] h = tt
kinds last (r ∷ rs) h = (kind_of_law last r _ h.0.accepted, kinds (odometer_of r) rs h.1)

-- ---- one record, and all of them

-- Where it holds, one more; else as many.
adds : (b : Bool) (n : ℕ) → n < largest64 → pick b (more n) n ≡ n + pick b 1 0
adds true n few = one_more n few
adds false n few = omega arith

-- What one record adds to the contacts is what it adds to what they were.
one_of_law : (kind : ℕ) → pick (ltb kind 3) 1 0 ≡ pick (eqb kind 0) 1 0 + pick (eqb kind 1) 1 0 + pick (eqb kind 2) 1 0
one_of_law zero = refl
one_of_law (suc zero) = refl
one_of_law (suc (suc zero)) = refl
one_of_law (suc (suc (suc k))) =
    let high : 3 ≤ suc (suc (suc k)) = omega arith in
    let no0 : suc (suc (suc k)) ≡ 0 → ⊥ = λ e. omega arith in
    let no1 : suc (suc (suc k)) ≡ 1 → ⊥ = λ e. omega arith in
    let no2 : suc (suc (suc k)) ≡ 2 → ⊥ = λ e. omega arith in
    simp (le-ltb _ _ high, ne_eqb _ _ no0, ne_eqb _ _ no1, ne_eqb _ _ no2)

-- What counting comes to, after so many records.
record Counted (c d : Records) (rs : List (List ℕ)) : Type 0 where
  records : d.records ≡ c.records + length rs
  contacts : d.contacts ≡ c.contacts + length (without_positions rs)
  parts : d.contacts + (c.read + c.markers + c.unreadable) ≡ c.contacts + (d.read + d.markers + d.unreadable)

-- No count is near its end.
record Few (c : Records) (n : ℕ) : Type 0 where
  contacts : c.contacts + n ≤ largest64
  read : c.read + n ≤ largest64
  markers : c.markers + n ≤ largest64
  unreadable : c.unreadable + n ≤ largest64
  records : c.records + n ≤ largest64

module _ (c : Records) (r : List ℕ) where
  abbrev kind : ℕ
  kind = kind_of r

  abbrev next : Records
  next = count_record c r

  adds_contacts : c.contacts < largest64 → next.contacts ≡ c.contacts + pick (ltb kind 3) 1 0
  unfolding count_record
  adds_contacts few = adds (ltb kind 3) c.contacts few

  adds_read : c.read < largest64 → next.read ≡ c.read + pick (eqb kind 0) 1 0
  unfolding count_record
  adds_read few = adds (eqb kind 0) c.read few

  adds_markers : c.markers < largest64 → next.markers ≡ c.markers + pick (eqb kind 1) 1 0
  unfolding count_record
  adds_markers few = adds (eqb kind 1) c.markers few

  adds_unreadable : c.unreadable < largest64 → next.unreadable ≡ c.unreadable + pick (eqb kind 2) 1 0
  unfolding count_record
  adds_unreadable few = adds (eqb kind 2) c.unreadable few

  adds_records : c.records < largest64 → next.records ≡ c.records + 1
  unfolding count_record
  adds_records few = one_more c.records few

at_most_one : (b : Bool) → pick b 1 0 ≤ 1
at_most_one true = omega arith
at_most_one false = omega arith

-- A record that is no position is one contact more.
longer : (r : List ℕ) (rs : List (List ℕ)) → kind_of r ≤ 3 → length (without_positions (r ∷ rs)) ≡ pick (ltb (kind_of r) 3) 1 0 + length (without_positions rs)
unfolding without_positions
longer r rs low = go (eqb (kind_of r) 3) refl (ltb (kind_of r) 3) refl
  where
    go : (x : Bool) → eqb (kind_of r) 3 ≡ x → (y : Bool) → ltb (kind_of r) 3 ≡ y
        → length (pick x (without_positions rs) (r ∷ without_positions rs)) ≡ pick y 1 0 + length (without_positions rs)
    go true is true less = absurd (omega (arith, eqb-true (kind_of r) 3 is, ltb-true (kind_of r) 3 less))
    go true is false less = omega arith
    go false is true less = omega arith
    go false is false less =
        let same : kind_of r ≡ 3 = omega (arith, ltb-false (kind_of r) 3 less) in
        absurd (eqb-false (kind_of r) 3 is same)

all_counted : (rs : List (List ℕ)) (c : Records) → AllKinds rs → Few c (length rs) → Counted c (count_records c rs) rs
unfolding count_records without_positions
all_counted [] c kinds few = record { records = omega arith; contacts = omega arith; parts = refl }
all_counted (r ∷ rs) c (low, kinds) few =
    let k = kind_of r in
    let a = adds_contacts c r (omega (arith, few.contacts)) in
    let b = adds_read c r (omega (arith, few.read)) in
    let d = adds_markers c r (omega (arith, few.markers)) in
    let e = adds_unreadable c r (omega (arith, few.unreadable)) in
    let f = adds_records c r (omega (arith, few.records)) in
    let one = one_of_law k in
    let l = longer r rs low in
    let n = count_record c r in
    let on = all_counted rs n kinds (record {
      contacts = omega (arith, few.contacts, a, at_most_one (ltb k 3));
      read = omega (arith, few.read, b, at_most_one (eqb k 0));
      markers = omega (arith, few.markers, d, at_most_one (eqb k 1));
      unreadable = omega (arith, few.unreadable, e, at_most_one (eqb k 2));
      records = omega (arith, few.records, f);
    }) in
    record {
      records = omega (arith, on.records, f);
      contacts = omega (arith, on.contacts, a, l);
      parts = omega (arith, on.parts, a, b, d, e, one);
    }

pub all_records : AllRecords
unfolding no_records
all_records store lead few =
    let rs = recorded store lead in
    let low : 0 + length rs ≤ largest64 = omega arith in
    let all = all_counted rs no_records (kinds 0 rs (none_refused store lead)) (record { contacts = low; read = low; markers = low; unreadable = low; records = low }) in
    (omega (arith, all.records), omega (arith, all.contacts), omega (arith, all.parts))
