-- What a record says is what was judged.
-- Assumes nothing.
use Rattle.std.specs.Prelude.{Result, Ok}
use Prim.Native.Nat.{ℕ, ◌+◌, ◌*◌, ◌/◌, ◌%◌, ◌≤◌}
use mathlib.Core.Path.{◌≡◌, refl, sym, ap, ◌∙◌}
use mathlib.Core.Bool.{Bool, true, false}
use mathlib.Core.List.{List}
use native.Mathlib.Omega.{arith}
use lib.Dec.{ltb}
use borrow.Author.Tests.{le-ltb, ltb-false}
use Rattle.words.specs.Answer.{Outcome, gives, refuses, then, pick}
use Rattle.telegram.specs.Stretch.{bits_at}
use Rattle.telegram.specs.Place.{words_at}
use Rattle.telegram.specs.declared.Telegram.{Telegram}
use Rattle.contact.specs.Judge.{read, judge}
use Rattle.contact.specs.declared.Judged.{Judged}
use Rattle.contact_laws.specs.Calls.{JudgeContact}
use Rattle.recorder.specs.Record.{Content, content_of, bytes_of, blank, at_odometer, record_of_meant}
use Rattle.recorder.specs.Says.{says_recorded}
use Rattle.recorder.specs.declared.RecordRefused.{RecordRefused}
use Rattle.recorder.proofs.Determined.{recorded_of, recorded_back}
use Rattle.recorder.proofs.Received.{place_words, as_received}
use Rattle.group.specs.Balise.{part_of, part_said, part_heard}
use Rattle.group.specs.declared.Heard.{Heard}
use Rattle.ride.specs.Record.{odometer_of, passed_of, in_order_meant, check_record}
use Rattle.ride.specs.declared.Ride.{Ride}
use Rattle.ride.specs.declared.Passed.{Passed}
use Rattle.ride.specs.declared.Checked.{Checked}
use Rattle.ride.specs.declared.Wrong.{Wrong}
use Rattle.ride.proofs.Determined.{checked_of, checked_back}
use Rattle.chain_laws.specs.Same.{RecordOf, CheckRecord, Same, SaysTheSame}
use Rattle.words.proofs.Never.{cannot_be}

-- The eight bytes have the odometer.
odometer_kept : (odometer : ℕ) (c : Content) → odometer_of (bytes_of odometer c) ≡ odometer
unfolding odometer_of
odometer_kept odometer c = four odometer
  where
    four : (n : ℕ) → ((n / 16777216 * 256 + n / 65536 % 256) * 256 + n / 256 % 256) * 256 + n % 256 ≡ n
    four n =
        let a : n / 16777216 * 256 + n / 65536 % 256 ≡ n / 65536 = omega arith in
        let b : n / 65536 * 256 + n / 256 % 256 ≡ n / 256 = omega arith in
        let c : n / 256 * 256 + n % 256 ≡ n = omega arith in
        ap (λ (x : ℕ). (x * 256 + n / 256 % 256) * 256 + n % 256) a ∙ ap (λ (x : ℕ). x * 256 + n % 256) b ∙ c

-- In order, not too high and not too low: accepted.
checks : (last odometer : ℕ) (c : Content) → in_order_meant (bytes_of odometer c) ≡ true → odometer ≤ 4000000000 → last ≤ odometer
    → check_record last (bytes_of odometer c) ≡ gives (record { odometer = odometer; passed = passed_of (bytes_of odometer c) })
unfolding check_record
checks last odometer c order high low =
    simp (order, odometer_kept odometer c, le-ltb 4000000000 odometer high, le-ltb odometer last low)

-- What a call of `check_record` answers for them.
takes : (ride : Ride) (odometer : ℕ) (c : Content) (h : Heard) (bytes : List ℕ) (k : Result Checked Wrong) → bytes ≡ bytes_of odometer c → in_order_meant (bytes_of odometer c) ≡ true
    → passed_of (bytes_of odometer c) ≡ Passed.Balise h → odometer ≤ 4000000000 → ride.odometer ≤ odometer → CheckRecord ride bytes k → k ≡ Ok (record { odometer = odometer; passed = Passed.Balise h })
takes ride odometer c h bytes k is order said high low call =
    sym (checked_back k)
    ∙ ap checked_of (call.1 ∙ ap (check_record ride.odometer) is ∙ checks ride.odometer odometer c order high low)
    ∙ ap (λ (p : Passed). Ok (record { odometer = odometer; passed = p })) said

-- Words are in order, and so is what has none.
words_order : (odometer x y z : ℕ) → in_order_meant (bytes_of odometer (record { kind = 0; x = x; y = y; z = z })) ≡ true
unfolding in_order_meant
words_order odometer x y z = refl

blank_order : (odometer : ℕ) → (in_order_meant (bytes_of odometer (blank 1)) ≡ true) × (in_order_meant (bytes_of odometer (blank 2)) ≡ true)
unfolding in_order_meant
blank_order odometer = (refl, refl)

words_said : (odometer x y z : ℕ) → passed_of (bytes_of odometer (record { kind = 0; x = x; y = y; z = z })) ≡ Passed.Balise (Heard.Words x y z)
unfolding passed_of
words_said odometer x y z = refl

blank_said : (odometer : ℕ) → (passed_of (bytes_of odometer (blank 1)) ≡ Passed.Balise Heard.Marker) × (passed_of (bytes_of odometer (blank 2)) ≡ Passed.Balise Heard.Unreadable)
unfolding passed_of
blank_said odometer = (refl, refl)

-- A record that is made is not too high, and its bytes are those of what is kept.
pub record Kept (odometer : ℕ) (j : Judged) (bytes : List ℕ) : Type 0 where
  pub high : odometer ≤ 4000000000
  pub content : Content
  pub content_is : content_of j ≡ gives content
  pub bytes_are : bytes ≡ bytes_of odometer content

kept : (odometer : ℕ) (j : Judged) (r : Result (List ℕ) RecordRefused) (bytes : List ℕ) → RecordOf odometer j r → r ≡ Ok bytes → Kept odometer j bytes
unfolding record_of_meant at_odometer
kept odometer j r bytes call so = go (content_of j) refl (sym (ap says_recorded so) ∙ call.1)
  where
    at : (c : Content) → content_of j ≡ gives c → (t : Bool) → ltb 4000000000 odometer ≡ t
        → ◌≡◌ {A = Outcome (List ℕ)} (gives bytes) (pick t (refuses 18) (gives (bytes_of odometer c))) → Kept odometer j bytes
    at c is true high e = absurd (cannot_be cc)
    at c is false high e = record { high = ltb-false 4000000000 odometer high; content = c; content_is = is; bytes_are = cc }

    go : (o : Outcome Content) → content_of j ≡ o → ◌≡◌ {A = Outcome (List ℕ)} (gives bytes) (then (content_of j) (λ c. pick (ltb 4000000000 odometer) (refuses 18) (gives (bytes_of odometer c)))) → Kept odometer j bytes
    go (gives c) is e = at c is (ltb 4000000000 odometer) refl (e ∙ ap (λ (o : Outcome Content). then o (λ c. pick (ltb 4000000000 odometer) (refuses 18) (gives (bytes_of odometer c)))) is)
    go (refuses n) is e =
        absurd (let f : ◌≡◌ {A = Outcome (List ℕ)} (gives bytes) (refuses n) = e ∙ ap (λ (o : Outcome Content). then o (λ c. pick (ltb 4000000000 odometer) (refuses 18) (gives (bytes_of odometer c)))) is in
        cannot_be cc)

of_gives : {x y : List ℕ} → ◌≡◌ {A = Outcome (List ℕ)} (gives x) (gives y) → x ≡ y
of_gives e = cc

-- What was judged of a contact in the buffer b.
module _ (b : List ℕ) (start len s t : ℕ) where
  reading : (m : Telegram) (first count : ℕ) → JudgeContact b start len s t (Judged.Read m first count) → judge b start len s t ≡ gives (read (gives m) first count)
  reading m first count call = sym (call.4 ∙ ap (λ (v : List ℕ). judge v start len s t) call.3)

  -- the record of a reading has the words received
  words_kept : (m : Telegram) (first count odometer : ℕ) (r : Result (List ℕ) RecordRefused) → JudgeContact b start len s t (Judged.Read m first count) → RecordOf odometer (Judged.Read m first count) r
      → odometer ≤ 4000000000
      → says_recorded r ≡ gives (bytes_of odometer (record { kind = 0; x = bits_at b (first + 8) 8; y = bits_at b (first + 16) 8; z = bits_at b (first + 24) 8 }))
  words_kept m first count odometer r call recorded high =
      recorded.1 ∙ as_received b start len s t m first count odometer (reading m first count call) high

  same_words_law : (m : Telegram) (first count : ℕ) → JudgeContact b start len s t (Judged.Read m first count)
      → part_heard (Heard.Words (bits_at b (first + 8) 8) (bits_at b (first + 16) 8) (bits_at b (first + 24) 8)) ≡ gives (part_said m)
  unfolding words_at
  same_words_law m first count call = ap part_of (place_words b start len s t m first count (reading m first count call))

  blank_accepted : (kind odometer : ℕ) (h : Heard) (j : Judged) (r : Result (List ℕ) RecordRefused) (bytes : List ℕ) (ride : Ride) (k : Result Checked Wrong) → content_of j ≡ gives (blank kind) → in_order_meant (bytes_of odometer (blank kind)) ≡ true
      → passed_of (bytes_of odometer (blank kind)) ≡ Passed.Balise h → RecordOf odometer j r → r ≡ Ok bytes → ride.odometer ≤ odometer → CheckRecord ride bytes k
      → k ≡ Ok (record { odometer = odometer; passed = Passed.Balise h })
  blank_accepted kind odometer h j r bytes ride k is order said recorded so low call =
      let q = kept odometer j r bytes recorded so in
      let same : q.content ≡ blank kind = content_same (sym q.content_is ∙ is) in
      takes ride odometer (blank kind) h bytes k (q.bytes_are ∙ ap (bytes_of odometer) same) order said q.high low call
    where
      content_same : {c d : Content} → ◌≡◌ {A = Outcome Content} (gives c) (gives d) → c ≡ d
      content_same e = cc

  accepted : (odometer : ℕ) (j : Judged) (r : Result (List ℕ) RecordRefused) (bytes : List ℕ) (ride : Ride) (k : Result Checked Wrong)
      → JudgeContact b start len s t j → RecordOf odometer j r → r ≡ Ok bytes → ride.odometer ≤ odometer → CheckRecord ride bytes k
      → (h : Heard) × (k ≡ Ok (record { odometer = odometer; passed = Passed.Balise h })) × Same b j h
  unfolding content_of
  accepted odometer (Judged.Read m first count) r bytes ride k call recorded so low asked =
      let q = kept odometer (Judged.Read m first count) r bytes recorded so in
      let x = bits_at b (first + 8) 8 in
      let y = bits_at b (first + 16) 8 in
      let z = bits_at b (first + 24) 8 in
      let same : bytes ≡ bytes_of odometer (record { kind = 0; x = x; y = y; z = z }) =
      of_gives (sym (ap says_recorded so) ∙ words_kept m first count odometer r call recorded q.high) in (
        Heard.Words x y z,
        takes ride odometer (record { kind = 0; x = x; y = y; z = z }) (Heard.Words x y z) bytes k same (words_order odometer x y z) (words_said odometer x y z) q.high low asked,
        (refl, same_words_law m first count call),
      )
  accepted odometer Judged.Marker r bytes ride k call recorded so low asked =
      (Heard.Marker, blank_accepted 1 odometer Heard.Marker Judged.Marker r bytes ride k refl (blank_order odometer).0 (blank_said odometer).0 recorded so low asked, refl)
  accepted odometer Judged.Differ r bytes ride k call recorded so low asked =
      (Heard.Unreadable, blank_accepted 2 odometer Heard.Unreadable Judged.Differ r bytes ride k refl (blank_order odometer).1 (blank_said odometer).1 recorded so low asked, refl)
  accepted odometer Judged.Neither r bytes ride k call recorded so low asked =
      (Heard.Unreadable, blank_accepted 2 odometer Heard.Unreadable Judged.Neither r bytes ride k refl (blank_order odometer).1 (blank_said odometer).1 recorded so low asked, refl)
  accepted odometer Judged.NotSeven r bytes ride k call recorded so low asked = absurd (none (kept odometer Judged.NotSeven r bytes recorded so).content_is)
    where
      none : {c : Content} → ◌≡◌ {A = Outcome Content} (refuses 4) (gives c) → ⊥
      none e = cannot_be cc
  accepted odometer Judged.Beyond r bytes ride k call recorded so low asked = absurd (none (kept odometer Judged.Beyond r bytes recorded so).content_is)
    where
      none : {c : Content} → ◌≡◌ {A = Outcome Content} (refuses 5) (gives c) → ⊥
      none e = cannot_be cc

  -- An answer that says so is made.
  made_so : (r : Result (List ℕ) RecordRefused) (bytes : List ℕ) → says_recorded r ≡ gives bytes → (made : List ℕ) × (r ≡ Ok made)
  made_so r bytes e = (bytes, sym (recorded_back r) ∙ ap recorded_of e)

  blank_made : (kind odometer : ℕ) (j : Judged) (r : Result (List ℕ) RecordRefused) → content_of j ≡ gives (blank kind) → RecordOf odometer j r → odometer ≤ 4000000000 → (bytes : List ℕ) × (r ≡ Ok bytes)
  unfolding record_of_meant at_odometer
  blank_made kind odometer j r is recorded high =
      made_so r (bytes_of odometer (blank kind)) (recorded.1 ∙ simp (is, le-ltb 4000000000 odometer high))

  is_made : (odometer : ℕ) (j : Judged) (r : Result (List ℕ) RecordRefused) → JudgeContact b start len s t j → RecordOf odometer j r → (j ≡ Judged.NotSeven → ⊥) → (j ≡ Judged.Beyond → ⊥) → odometer ≤ 4000000000
      → (bytes : List ℕ) × (r ≡ Ok bytes)
  unfolding content_of
  is_made odometer (Judged.Read m first count) r call recorded f g high =
      made_so r (bytes_of odometer (record { kind = 0; x = bits_at b (first + 8) 8; y = bits_at b (first + 16) 8; z = bits_at b (first + 24) 8 })) (words_kept m first count odometer r call recorded high)
  is_made odometer Judged.Marker r call recorded f g high = blank_made 1 odometer Judged.Marker r refl recorded high
  is_made odometer Judged.Differ r call recorded f g high = blank_made 2 odometer Judged.Differ r refl recorded high
  is_made odometer Judged.Neither r call recorded f g high = blank_made 2 odometer Judged.Neither r refl recorded high
  is_made odometer Judged.NotSeven r call recorded f g high = absurd (f refl)
  is_made odometer Judged.Beyond r call recorded f g high = absurd (g refl)

pub says_the_same : SaysTheSame
says_the_same = record { accepted = accepted; is_made = is_made }
