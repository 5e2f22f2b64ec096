-- Each contact's record is the one that `record_of` makes of what was judged, or an unreadable one,
-- and so it says the same balise.
-- Assumes nothing.
use Rattle.std.specs.Prelude.{Result, Ok}
use Prim.Native.Nat.{ℕ, ◌-◌, ◌/◌, ◌≤◌, ◌<◌, ◌^◌}
use mathlib.Core.Path.{◌≡◌, refl, sym, ap, subst, ◌∙◌}
use mathlib.Core.Bool.{true, false}
use mathlib.Core.List.{List, [], ◌∷◌, ◌++◌}
use native.Mathlib.Omega.{arith}
use borrow.Author.Tests.{le-ltb}
use Rattle.words.specs.Answer.{Outcome, gives, then}
use Rattle.words.proofs.Never.{cannot_be}
use Rattle.telegram.specs.declared.Telegram.{Telegram}
use Rattle.telegram.proofs.Taken.{taken}
use Rattle.settings.specs.Versions.{Kept}
use Rattle.settings.specs.Store.{judged}
use Rattle.settings.specs.At as at
use Rattle.settings.specs.declared.Store.{Store}
use Rattle.settings.specs.declared.Held.{Held}
use Rattle.contact.specs.Contacts.{Contacts, contact, quiet, refused}
use Rattle.contact.specs.Judge.{judge}
use Rattle.contact.specs.Under.{judge_under}
use Rattle.contact.specs.Says.{says_judged, says_judged_under}
use Rattle.contact.specs.declared.Judged.{Judged}
use Rattle.contact.specs.declared.JudgedUnder.{JudgedUnder}
use Rattle.contact_laws.specs.Calls.{Listened, JudgeContact}
use Rattle.antenna.specs.declared.Stand.{Stand}
use Rattle.antenna.specs.Hearing as hearing
use Rattle.antenna.specs.Line.{Told, told, after, judged_all, cut, is_inside}
use Rattle.recorder.specs.Record.{content_of, bytes_of, blank, at_odometer, record_of_meant}
use Rattle.std.specs.Prelude.{Result, Ok}
use Rattle.recorder.specs.declared.RecordRefused.{RecordRefused}
use Rattle.recorder.proofs.Received.{as_received}
use Rattle.group.specs.declared.Heard.{Heard}
use Rattle.ride.specs.Record.{odometer_of, passed_of, check_record}
use Rattle.ride.specs.declared.Ride.{Ride}
use Rattle.ride.specs.declared.Passed.{Passed}
use Rattle.ride.specs.declared.Checked.{Checked}
use Rattle.ride.specs.declared.Wrong.{Wrong}
use Rattle.ride.proofs.Determined.{checked_of, checked_back}
use Rattle.chain_laws.specs.Same.{RecordOf, CheckRecord, Same}
use Rattle.chain_laws.proofs.Same.{says_the_same}
use Rattle.recording.specs.Recording.{held_at, recorded}
use Rattle.recording.specs.Kept.{or_unreadable, record_at}
use Rattle.recording.specs.Rising as rising
use Rattle.recording.specs.Contacts.{line_in, in_force, s_in, t_in, record_for, records_for, cut_at, without_positions, bits_of}
use Rattle.recording.specs.Document.{whole_line}
use Rattle.recording.proofs.Accepting.{blank_made, accepts}
use Rattle.recording.proofs.Contacts.{one_each}
use Rattle.recording.proofs.Document.{the_contacts, never_high}
use Rattle.recording.proofs.Rising.{none_refused}
use Rattle.recording_laws.specs.Calls.{JudgeUnder}
use Rattle.recording_laws.specs.Says.{AllAccepted, SaysIt, SaysAt, OneForEach, SaysAll}
use Rattle.recording_laws.proofs.Hearing.{is_taken, contacts_are}

-- ---- accepted

-- What a call of `check_record` answers for a record that is accepted.
taken_up : (last : ℕ) (r : List ℕ) (ride : Ride) (k : Result Checked Wrong) → rising.Accepted last r → ride.odometer ≡ last → CheckRecord ride r k → k ≡ Ok (record { odometer = odometer_of r; passed = passed_of r })
taken_up last r ride k good is call =
    sym (checked_back k) ∙ ap checked_of (call.1 ∙ ap (λ (n : ℕ). check_record n r) is ∙ good.accepted)

all_accepted : (last : ℕ) (rs : List (List ℕ)) → rising.AllAccepted last rs → AllAccepted last rs
all_accepted last [] good = tt
all_accepted last (r ∷ rs) (one, rest) = (λ ride k is call. taken_up last r ride k one is call, one.not_below, all_accepted (odometer_of r) rs rest)

-- ---- one contact

unreadable : (odometer : ℕ) → odometer ≤ 4000000000 → SaysAt odometer (bytes_of odometer (blank 2)) (λ h. h ≡ Heard.Unreadable)
unfolding passed_of
unreadable odometer high ride k low call =
    let m = (blank_made odometer).1 in
    let is = taken_up ride.odometer (bytes_of odometer (blank 2)) ride k (accepts ride.odometer odometer (bytes_of odometer (blank 2)) m low high) refl call in
    (Heard.Unreadable, is ∙ ap (λ (n : ℕ). Ok (record { odometer = n; passed = Passed.Balise Heard.Unreadable })) m.at, refl)

module _ (b : List ℕ) (start len s t odometer : ℕ) (high : odometer ≤ 4000000000) where
  -- Where `record_of` makes a record, it is the one recorded, and it says the balise judged.
  made : (j : Judged) (r bytes : List ℕ) → JudgeContact b start len s t j → (j ≡ Judged.NotSeven → ⊥) → (j ≡ Judged.Beyond → ⊥)
      → record_of_meant odometer j ≡ gives bytes → r ≡ bytes → SaysAt odometer r (Same b j)
  made j r bytes call good short is same ride k low asked =
      let q : Result (List ℕ) RecordRefused = Ok bytes in
      let made_so : RecordOf odometer j q = ((odometer, (j, tt)), sym is) in
      says_the_same.accepted b start len s t odometer j q bytes ride k call made_so refl low (subst (λ (v : List ℕ). CheckRecord ride v k) same asked)

  reads : (m : Telegram) (first count : ℕ) (r : List ℕ) → JudgeContact b start len s t (Judged.Read m first count)
      → r ≡ record_at odometer (says_judged (Judged.Read m first count)) → SaysAt odometer r (SaysIt b (Judged.Read m first count))
  reads m first count r call same =
      let is = as_received b start len s t m first count odometer (sym (call.4 ∙ ap (λ (v : List ℕ). judge v start len s t) call.3)) high in
      made (Judged.Read m first count) r _ call (λ e. cannot_be cc) (λ e. cannot_be cc) is (same ∙ ap (or_unreadable odometer) is)

  blank_of : (j : Judged) (kind : ℕ) → content_of j ≡ gives (blank kind) → record_of_meant odometer j ≡ gives (bytes_of odometer (blank kind))
  unfolding record_of_meant at_odometer
  blank_of j kind is = simp (is, le-ltb 4000000000 odometer high)

  says_it : (j : Judged) (r : List ℕ) → JudgeContact b start len s t j → r ≡ record_at odometer (says_judged j) → SaysAt odometer r (SaysIt b j)
  unfolding content_of
  says_it (Judged.Read m first count) r call same = reads m first count r call same
  says_it Judged.Marker r call same = made Judged.Marker r _ call (λ e. cannot_be cc) (λ e. cannot_be cc) (blank_of Judged.Marker 1 refl) same
  says_it Judged.Differ r call same = made Judged.Differ r _ call (λ e. cannot_be cc) (λ e. cannot_be cc) (blank_of Judged.Differ 2 refl) same
  says_it Judged.Neither r call same = made Judged.Neither r _ call (λ e. cannot_be cc) (λ e. cannot_be cc) (blank_of Judged.Neither 2 refl) same
  says_it Judged.NotSeven r call same = subst (λ (v : List ℕ). SaysAt odometer v (λ h. h ≡ Heard.Unreadable)) (sym same) (unreadable odometer high)
  says_it Judged.Beyond r call same = subst (λ (v : List ℕ). SaysAt odometer v (λ h. h ≡ Heard.Unreadable)) (sym same) (unreadable odometer high)

-- ---- all of them

-- Outside a contact nothing is cut.
pub nothing_cut : (lead : List ℕ) (n : ℕ) (stand : Stand) → is_inside stand ≡ false → cut_at lead n stand ≡ []
nothing_cut lead n Stand.Outside e = refl
nothing_cut lead n (Stand.Inside sound) e = cannot_be cc

module _ (store : Store) (lead b : List ℕ) (n : ℕ) where
  at_the_end : (stand : Stand) → is_inside stand ≡ true → OneForEach store lead b (refused 9) (cut_at lead n stand)
  at_the_end Stand.Outside e = cannot_be cc
  at_the_end (Stand.Inside sound) e =
      let odometer = in_force lead ((n - sound.length) / 96) in
      (odometer, bytes_of odometer (blank 2), refl, unreadable odometer (never_high lead _))

  each_says : (w : Contacts) (stand : Stand) → is_inside stand ≡ cut w → OneForEach store lead b w (records_for lead (judged_all b (s_in store lead) (t_in store lead) w) ++ cut_at lead n stand)
  unfolding records_for judged_all
  each_says (contact start len then rest) stand e = (
    λ j call.
        let s = s_in store lead start in
        let t = t_in store lead start in
        let is : judge b start len s t ≡ says_judged j = sym (call.4 ∙ ap (λ (v : List ℕ). judge v start len s t) call.3) in
        says_it b start len s t (in_force lead (start / 96)) (never_high lead _) j (record_for lead (told start len (judge b start len s t))) call (ap (record_at (in_force lead (start / 96))) is),
    each_says rest stand e,
  )
  each_says quiet stand e = nothing_cut lead n stand e
  each_says (refused m) stand e = at_the_end stand e

-- The records that are no positions, by the contacts that the calls hand out.
pub by_contacts : (store : Store) (lead : List ℕ) (w : Contacts) → Listened (whole_line lead) 0 (bits_of lead) w
    → (stand : Stand) × (is_inside stand ≡ cut w)
    × (without_positions (recorded store lead) ≡ records_for lead (judged_all (whole_line lead) (s_in store lead) (t_in store lead) w) ++ cut_at lead (bits_of lead) stand)
by_contacts store lead w calls =
    let b = whole_line lead in
    let n = bits_of lead in
    let fits : n < 2 ^ 64 = omega (arith, taken b 0 (n - 0) (is_taken b 0 n w calls)) in
    let is = contacts_are b n w calls in
    let law = the_contacts store lead fits in
    let stand = (after (line_in lead) (s_in store lead) (t_in store lead) hearing.fresh 0 n).stand in (
      stand,
      law.1 ∙ ap cut (sym is),
      one_each store lead fits
          ∙ ap (λ (l : List Told). records_for lead l ++ cut_at lead n stand) (law.0 ∙ ap (judged_all b (s_in store lead) (t_in store lead)) (sym is)),
    )

one_for_each : (store : Store) (lead : List ℕ) (w : Contacts) → Listened (whole_line lead) 0 (bits_of lead) w
    → OneForEach store lead (whole_line lead) w (without_positions (recorded store lead))
one_for_each store lead w calls =
    let q = by_contacts store lead w calls in
    subst (OneForEach store lead (whole_line lead) w) (sym q.2) (each_says store lead (whole_line lead) (bits_of lead) w q.0 q.1)

-- ---- the pair in force

held_is : (store : Store) (k : Kept) (odometer : ℕ) → judged store ≡ gives k → odometer ≤ 4000000000 → at.asked store odometer ≡ gives (held_at store odometer)
unfolding at.asked at.hold held_at
held_is store k odometer good high = simp (good, le-ltb 4000000000 odometer high)

in_force_law : (store : Store) (k : Kept) → judged store ≡ gives k → (lead b : List ℕ) (start len : ℕ) (j : Judged) (u : JudgedUnder)
    → JudgeContact b start len (s_in store lead start) (t_in store lead start) j → JudgeUnder store (in_force lead (start / 96)) b start len u
    → says_judged_under u ≡ says_judged j
unfolding judge_under
in_force_law store k good lead b start len j u call under =
    let o = in_force lead (start / 96) in
    let is : says_judged j ≡ judge b start len (s_in store lead start) (t_in store lead start) = call.4 ∙ ap (λ (v : List ℕ). judge v start len (s_in store lead start) (t_in store lead start)) call.3 in
    under.4
    ∙ ap (λ (v : List ℕ). then (at.asked store o) (λ held. judge v start len held.s held.t)) under.3
    ∙ ap (λ (x : Outcome Held). then x (λ held. judge b start len held.s held.t)) (held_is store k o good (never_high lead _))
    ∙ sym is

pub says_all : SaysAll
says_all = record { accepted = λ store lead. all_accepted 0 (recorded store lead) (none_refused store lead); one_for_each = one_for_each; in_force_law = in_force_law }
