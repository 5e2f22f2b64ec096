-- What is heard of each of them is read, or judged a marker, and its record has the words that it
-- sends.
-- Assumes nothing.
use Prim.Native.Nat.{ℕ, ◌+◌, ◌-◌, ◌/◌, ◌≤◌, ◌<◌}
use mathlib.Core.Path.{◌≡◌, sym, ap, subst, ◌∙◌}
use mathlib.Core.Bool.{true, false}
use mathlib.Core.List.{List, [], ◌∷◌, ◌++◌}
use native.Mathlib.Omega.{arith}
use borrow.Author.Tests.{le-ltb}
use Rattle.telegram.specs.Sync.{is_good}
use Rattle.balise_line.specs.Line.{OneBalise, Proper}
use Rattle.settings.specs.declared.Store.{Store}
use Rattle.contact.specs.Contacts.{Contacts, contact, quiet}
use Rattle.contact.specs.Judge.{judge}
use Rattle.contact.specs.Says.{says_judged}
use Rattle.contact.specs.declared.Judged.{Judged}
use Rattle.contact_laws.specs.Calls.{JudgeContact}
use Rattle.contact_laws.specs.Pass.{between, cut_bits}
use Rattle.contact_laws.specs.Heard.{OverIt, IsRead}
use Rattle.contact_laws.specs.Row.{Thing, balise, marker, Long, Row, MarkersOwn, AsPassed}
use Rattle.contact_laws.proofs.Row.{row_heard}
use Rattle.antenna.specs.declared.Stand.{Stand}
use Rattle.antenna.specs.Line.{Told, told, judged_all, cut, is_inside}
use Rattle.recorder.specs.Record.{content_of, bytes_of, at_odometer, record_of_meant}
use Rattle.recorder.proofs.Received.{spelt_back}
use Rattle.recording.specs.Kept.{record_at}
use Rattle.recording.specs.Contacts.{in_force, s_in, t_in, record_for, records_for, cut_at, bits_of}
use Rattle.recording.specs.Document.{whole_line}
use Rattle.recording.proofs.Document.{never_high}
use Rattle.recording_laws.specs.Hearing.{Judges, each}
use Rattle.recording_laws.specs.Row.{PairsInForce, TheirRecords, RowRecorded}
use Rattle.recording_laws.proofs.Hearing.{is_taken}
use Rattle.recording_laws.proofs.Says.{nothing_cut, by_contacts}

-- The record of a telegram that was read has the words that were sent.
words_kept : (o : OneBalise) → Proper o → (odometer first count : ℕ) → odometer ≤ 4000000000
    → record_at odometer (says_judged (Judged.Read o.telegram first count)) ≡ bytes_of odometer (record { kind = 0; x = o.x; y = o.y; z = o.z })
unfolding record_of_meant content_of at_odometer
words_kept o proper odometer first count high =
    let low = proper.bytes in
    simp (spelt_back o.x o.y o.z low.2 low.3 low.4 o.telegram proper.valid, le-ltb 4000000000 odometer high)

cut_low : (o : OneBalise) → cut_bits o ≤ 31
unfolding cut_bits
cut_low o = omega arith

module _ (store : Store) (lead b : List ℕ) (n : ℕ) where
  abbrev Done : List Thing → Contacts → Stand → Type 0
  Done xs w stand = TheirRecords lead xs (records_for lead (judged_all b (s_in store lead) (t_in store lead) w) ++ cut_at lead n stand)

  -- The first record is that of the first contact, by what was judged of it.
  judged_so : (start len : ℕ) (j : Judged) → JudgeContact b start len (s_in store lead start) (t_in store lead start) j
      → record_for lead (told start len (judge b start len (s_in store lead start) (t_in store lead start))) ≡ record_at (in_force lead (start / 96)) (says_judged j)
  judged_so start len j call =
      ap (record_at (in_force lead (start / 96))) (sym (call.4 ∙ ap (λ (v : List ℕ). judge v start len (s_in store lead start) (t_in store lead start)) call.3))

  a_balise : (o : OneBalise) → Long b o → ((i : ℕ) → o.start ≤ i → i < o.start + o.len → (s_in store lead i ≡ o.s) × (t_in store lead i ≡ o.t))
      → (w : Contacts) (c : OverIt o w) → IsRead o w c → (j : Judged)
      → let start = o.start + c.skipped in JudgeContact b start (o.len + c.ones_in - c.skipped) (s_in store lead start) (t_in store lead start) j
      → record_for lead (told start (o.len + c.ones_in - c.skipped) (judge b start (o.len + c.ones_in - c.skipped) (s_in store lead start) (t_in store lead start)))
      ≡ bytes_of (in_force lead (start / 96)) (record { kind = 0; x = o.x; y = o.y; z = o.z })
  a_balise o long pair w c read j call =
      let start = o.start + c.skipped in
      let len = o.len + c.ones_in - c.skipped in
      let low = c.skipped_low in
      let few = cut_low o in
      let much = long.long in
      let here = pair start (omega arith) (omega arith) in
      let asked : JudgeContact o.buffer start len o.s o.t j =
      subst (λ (v : List ℕ). JudgeContact v start len o.s o.t j) (sym long.buffer_is)
      (subst (λ (t : ℕ). JudgeContact b start len o.s t j) here.1 (subst (λ (s : ℕ). JudgeContact b start len s (t_in store lead start) j) here.0 call)) in
      let r = read j asked in
      judged_so start len j call
      ∙ ap (λ (a : Judged). record_at (in_force lead (start / 96)) (says_judged a)) r.2
      ∙ words_kept o long.proper (in_force lead (start / 96)) r.0 r.1 (never_high lead _)

  -- A balise's contact, and those after it.
  then_balise : (o : OneBalise) → Long b o → ((i : ℕ) → o.start ≤ i → i < o.start + o.len → (s_in store lead i ≡ o.s) × (t_in store lead i ≡ o.t))
      → (w : Contacts) (c : OverIt o w) → IsRead o w c → (xs : List Thing) (stand : Stand) (l : List Told)
      → Judges b (s_in store lead) (t_in store lead) (contact (o.start + c.skipped) (o.len + c.ones_in - c.skipped) c.then c.rest) l
      → ((m : List Told) → Judges b (s_in store lead) (t_in store lead) c.rest m → Done xs c.rest stand)
      → Done (balise o ∷ xs) (contact (o.start + c.skipped) (o.len + c.ones_in - c.skipped) c.then c.rest) stand
  unfolding records_for judged_all
  then_balise o long pair w c read xs stand l (each {l = m} j call more) on = ((c.skipped, c.skipped_low, a_balise o long pair w c read j call), on m more)

  -- A marker's contact, and those after it.
  then_marker : (start len : ℕ) → is_good (s_in store lead (start + 7)) (t_in store lead (start + 7)) ≡ true → (w : Contacts) (c : MarkersOwn b start len w) (xs : List Thing) (stand : Stand) (l : List Told)
      → Judges b (s_in store lead) (t_in store lead) (contact (start + 7) (len + 4) c.then c.rest) l
      → ((m : List Told) → Judges b (s_in store lead) (t_in store lead) c.rest m → Done xs c.rest stand)
      → Done (marker start len ∷ xs) (contact (start + 7) (len + 4) c.then c.rest) stand
  unfolding records_for judged_all
  then_marker start len good w c xs stand l (each {l = m} j call more) on =
      let is = c.judged_so (s_in store lead (start + 7)) (t_in store lead (start + 7)) good j call in
      (judged_so (start + 7) (len + 4) j call ∙ ap (λ (a : Judged). record_at (in_force lead ((start + 7) / 96)) (says_judged a)) is, on m more)

  nothing_more : (stand : Stand) → is_inside stand ≡ false → Done [] quiet stand
  unfolding records_for judged_all
  nothing_more stand e = nothing_cut lead n stand e

  passed : (i to : ℕ) (xs : List Thing) → Row between b i to xs → PairsInForce store lead xs → (w : Contacts) → AsPassed b xs w → (l : List Told)
      → Judges b (s_in store lead) (t_in store lead) w l → (stand : Stand) → is_inside stand ≡ cut w → Done xs w stand
  passed i to [] row pairs w is l calls stand e = subst (λ (v : Contacts). Done [] v stand) (sym is) (nothing_more stand (e ∙ ap cut is))
  passed i to (balise o ∷ xs) row pairs w (c, read, rest) l calls stand e =
      subst (λ (v : Contacts). Done (balise o ∷ xs) v stand) (sym c.is)
      (then_balise o row.0 pairs.0 w c read xs stand l (subst (λ (v : Contacts). Judges b (s_in store lead) (t_in store lead) v l) c.is calls)
      (λ m more. passed (o.start + o.len + between) to xs row.5 pairs.1 c.rest rest m more stand (e ∙ ap cut c.is)))
  passed i to (marker start len ∷ xs) row pairs w (c, rest) l calls stand e =
      subst (λ (v : Contacts). Done (marker start len ∷ xs) v stand) (sym c.is)
      (then_marker start len pairs.0 w c xs stand l (subst (λ (v : Contacts). Judges b (s_in store lead) (t_in store lead) v l) c.is calls)
      (λ m more. passed (start + len + between) to xs row.5 pairs.1 c.rest rest m more stand (e ∙ ap cut c.is)))

pub row_recorded : RowRecorded
row_recorded store lead xs row pairs w judged calls judges =
    let b = whole_line lead in
    let n = bits_of lead in
    let q = by_contacts store lead w calls in
    let is = row_heard b 0 n xs (is_taken b 0 n w calls) row w calls in
    subst (TheirRecords lead xs) (sym q.2) (passed store lead b n 0 n xs row pairs w is judged judges q.0 q.1)
