-- One thing of the track, alone in its frames: exactly one contact comes of it, in its first frame,
-- and its record is the thing's.
-- Assumes nothing.
use Prim.Native.Nat.{ℕ, ◌+◌, ◌-◌, ◌*◌, ◌%◌, ◌^◌, ◌≤◌, ◌<◌}
use mathlib.Core.Path.{◌≡◌, refl, sym, ap, ◌∙◌, subst}
use mathlib.Core.Bool.{true}
use mathlib.Core.List.{List, ◌∷◌}
use native.Mathlib.Omega.{arith}
use lib.ListN.{length}
use borrow.Author.Tests.{le-leb, lt-ltb, le-ltb}
use Rattle.words.specs.Answer.{gives}
use Rattle.words.proofs.Never.{cannot_be}
use Rattle.telegram.specs.Stretch.{bit_at, inside}
use Rattle.balise_line.specs.Line.{Proper, Clean, sent_bit}
use Rattle.balise_line.proofs.Computed.{unflipped_at}
use Rattle.balise_line.proofs.Places.{and_true}
use Rattle.contact.specs.Contacts.{outside, contact, contacts}
use Rattle.contact.specs.Judge.{read, judge}
use Rattle.contact.specs.declared.Search.{Search}
use Rattle.contact_laws.specs.Zeroes.{zeroes_sent, Audible}
use Rattle.contact_laws.specs.Pass.{Ones, between, cut_bits}
use Rattle.contact_laws.specs.Heard.{NoFalse}
use Rattle.contact_laws.proofs.Walk.{Still}
use Rattle.contact_laws.proofs.Over.{ones_on, over_it}
use Rattle.contact_laws.proofs.Within.{judged_read}
use Rattle.contact_laws.proofs.Fair.{no_false}
use Rattle.contact_laws.proofs.Marker.{marker_contact}
use Rattle.contact_laws.proofs.Sixty.{judged_sixty}
use Rattle.recorder.specs.Record.{content_of, bytes_of, blank, at_odometer, record_of_meant}
use Rattle.recorder.proofs.Received.{spelt_back}
use Rattle.recording.specs.Kept.{record_at}
use Rattle.track_lead.specs.declared.Thing.{Thing}
use Rattle.track_lead.specs.Way.{highest, is_sent}
use Rattle.track_lead.specs.Sent.{sends}
use Rattle.balise_writer.specs.Write.{telegrams}
use Rattle.track_laws.specs.Sure.{Pair, passed_at, Heard, SureThing, with_item}
use Rattle.track_laws.proofs.Stream.{bit_or, ones_after, zeroes_in_it, turns_in_it, telegram_bits}
use Rattle.track_laws.proofs.Alternating as alternating

-- A stretch of a buffer of fewer than 2^60 bits is taken.
pub taken : (b : List ℕ) (start len : ℕ) → start + len ≤ 8 * length b → start + len < 2 ^ 64 → len ≤ 16777216 → inside b start len ≡ true
unfolding inside
taken b start len fits small short = and_true (and_true (le-leb (start + len) (8 * length b) fits) (lt-ltb (start + len) (2 ^ 64) small)) (le-leb len 16777216 short)

-- The record of a telegram that was read has the words that were sent.
words_kept : (s t x y z : ℕ) (heard : Heard s t x y z) (odometer first count : ℕ) → odometer ≤ highest
    → record_at odometer (gives (read (gives heard.says) first count)) ≡ bytes_of odometer (record { kind = 0; x = x; y = y; z = z })
unfolding record_of_meant content_of at_odometer
words_kept s t x y z heard odometer first count high =
    simp (spelt_back x y z heard.x_byte heard.y_byte heard.z_byte heard.says heard.valid, le-ltb 4000000000 odometer high)

-- What a thing leaves: one contact that begins in its first frame, whose record is this; and a
-- detector that stands as before.
pub record Step (b : List ℕ) (s t h i start long end place : ℕ) (bytes : List ℕ) : Type 0 where
  pub skipped : ℕ
  pub in_first : skipped < 96
  pub len : ℕ
  pub then : Search
  pub later : ℕ
  pub next : ℕ
  pub near : next ≤ start + 300
  pub past : start + long ≤ next
  pub still : Still later
  pub is : contacts b outside h i (end - i) ≡ contact (start + skipped) len then (contacts b outside later next (end - next))
  pub kept : record_at place (judge b (start + skipped) len s t) ≡ bytes

-- What is left of a thing that is sent: its contact, and its record before the others.
pub record Left (b : List ℕ) (s t h i start end place : ℕ) (x : Thing) : Type 0 where
  pub bytes : List ℕ
  pub step : Step b s t h i start (8 * length (sends s t x)) end place bytes
  pub recorded : (rest : List (List ℕ)) → with_item place x rest ≡ bytes ∷ rest

module _ (b : List ℕ) (s t : ℕ) (pair : Pair s t) (h i start end place : ℕ) (still : Still h) (low : i ≤ start) (before : Ones b i start) (room : start + 384 ≤ end)
    (fits : end ≤ 8 * length b) (small : end < 2 ^ 64) (high : place ≤ highest) where
  -- A balise.
  module _ (x y z : ℕ) (heard : Heard s t x y z) (bits : (j : ℕ) → j < 384 → bit_at b (start + j) ≡ bit_or (sends s t (Thing.Balise x y z)) j) where
    sent : (j : ℕ) → j < 288 → bit_at b (start + j) ≡ sent_bit (passed_at b start 288 s t x y z heard.says) j
    sent j less = bits j (omega arith) ∙ telegram_bits (passed_at b start 288 s t x y z heard.says) j less

    clean : Clean (passed_at b start 288 s t x y z heard.says)
    clean j = unflipped_at (passed_at b start 288 s t x y z heard.says) j (λ low high. let here : start + (j - 0) ≡ start + j = omega arith in ap (bit_at b) here ∙ sent j (omega arith))

    proper : Proper (passed_at b start 288 s t x y z heard.says)
    proper =
        record {
          bytes = (pair.s_byte, pair.t_byte, heard.x_byte, heard.y_byte, heard.z_byte);
          pair = pair.good;
          valid = heard.valid;
          taken = taken b start 288 (omega arith) (omega arith) (omega arith);
        }

    audible : Audible (passed_at b start 288 s t x y z heard.says)
    unfolding zeroes_sent sent_bit
    audible = heard.audible

    ones : (k : ℕ) → start + 288 ≤ k → k < start + 384 → bit_at b k ≡ 1
    unfolding telegrams
    ones k late soon =
        let e : k ≡ start + (k - start) = omega arith in
        ap (bit_at b) e ∙ bits (k - start) (omega arith) ∙ ones_after (sends s t (Thing.Balise x y z)) (k - start) (omega arith)

    fair : NoFalse (passed_at b start 288 s t x y z heard.says)
    fair =
        no_false (passed_at b start 288 s t x y z heard.says) proper start (start + 300)
        record {
          clean = clean;
          from_low = omega arith;
          to_high = omega arith;
          ones_before = λ k l m. absurd (omega arith);
          ones_after = λ k l m. ones k l (omega arith);
          taken = (let e : start + 300 - start ≡ 300 = omega arith in subst (λ (x : ℕ). inside b start x ≡ true) (sym e) (taken b start 300 (omega arith) (omega arith) (omega arith)));
        }
        pair.s_ends pair.t_ends

    uncut : cut_bits (passed_at b start 288 s t x y z heard.says) ≡ 0
    unfolding cut_bits
    uncut = refl

    balise_step : Step b s t h i start 288 end place (bytes_of place (record { kind = 0; x = x; y = y; z = z }))
    balise_step =
        let p = passed_at b start 288 s t x y z heard.says in
        let g = over_it p proper audible clean (omega (arith, uncut)) i end h still low before (omega arith) (λ k l m. ones k l (omega arith)) in
        let c = g.0 in
        let at_first = c.skipped_low in
        let few = c.ones_low in
        let r = judged_read p proper clean c.skipped c.ones_in (omega (arith, uncut)) (taken b (start + c.skipped) (288 + c.ones_in - c.skipped) (omega (arith, uncut)) (omega (arith, uncut)) (omega (arith, uncut)))
        few fair at_first (omega (arith, uncut)) in
        record {
          skipped = c.skipped;
          in_first = omega (arith, uncut);
          len = 288 + c.ones_in - c.skipped;
          then = c.then;
          later = g.1;
          next = start + 288 + between;
          near = omega arith;
          past = omega arith;
          still = g.2;
          is = c.is ∙ ap (contact (start + c.skipped) (288 + c.ones_in - c.skipped) c.then) g.3;
          kept = ap (record_at place) r.2 ∙ words_kept s t x y z heard place r.0 r.1 high;
        }

  -- A marker.
  marker_step : ((j : ℕ) → j < 384 → bit_at b (start + j) ≡ bit_or (sends s t Thing.Marker) j) → Step b s t h i start 96 end place (bytes_of place (blank 1))
  marker_step bits =
      let zeroes : (j : ℕ) → j < 96 → bit_at b (start + j) ≡ 0 = λ j l. bits j (omega arith) ∙ zeroes_in_it j l in
      let ones : (k : ℕ) → k < 12 → bit_at b (start + 96 + k) ≡ 1 =
      λ k l. let e : start + 96 + k ≡ start + (96 + k) = omega arith in ap (bit_at b) e ∙ bits (96 + k) (omega arith) ∙ ones_after (sends s t Thing.Marker) (96 + k) (omega arith) in
      let q = ones_on b h i end start still low (omega arith) before in
      let r = marker_contact b q.0 start 96 end q.1 zeroes (omega arith) ones (omega arith) in
      let after_it : Ones b (start + 96) (start + 96 + between) = λ k l m. let e : k ≡ start + 96 + (k - (start + 96)) = omega arith in ap (bit_at b) e ∙ ones (k - (start + 96)) (omega arith) in
      record {
        skipped = 7;
        in_first = omega arith;
        len = 96 + 4;
        then = r.0;
        later = r.1;
        next = start + 96 + 12;
        near = omega arith;
        past = omega arith;
        still = r.2;
        is = q.2 ∙ r.3;
        kept = ap (record_at place)
            (judged_sixty b start 96 zeroes (omega arith) after_it (taken b (start + 7) (96 + 4) (omega arith) (omega arith) (omega arith)) s t pair.good);
      }

  -- What is unreadable.
  unreadable_step : ((j : ℕ) → j < 384 → bit_at b (start + j) ≡ bit_or (sends s t Thing.Unreadable) j) → Step b s t h i start 96 end place (bytes_of place (blank 2))
  unreadable_step bits =
      let turns : (j : ℕ) → j < 96 → bit_at b (start + j) ≡ j % 2 = λ j l. bits j (omega arith) ∙ turns_in_it j l in
      let ones : (k : ℕ) → k < 12 → bit_at b (start + 96 + k) ≡ 1 =
      λ k l. let e : start + 96 + k ≡ start + (96 + k) = omega arith in ap (bit_at b) e ∙ bits (96 + k) (omega arith) ∙ ones_after (sends s t Thing.Unreadable) (96 + k) (omega arith) in
      let q = ones_on b h i end start still low (omega arith) before in
      let p = alternating.over_it b start turns ones q.0 end q.1 (omega arith) in
      let early = p.opening.low in
      let few = p.closing.low in
      record {
        skipped = p.opening.at;
        in_first = omega arith;
        len = 96 + p.closing.at - p.opening.at;
        then = p.then;
        later = p.later;
        next = start + 96 + 12;
        near = omega arith;
        past = omega arith;
        still = p.later_still;
        is = q.2 ∙ p.is;
        kept = ap (record_at place)
            (alternating.refused_8 b start turns ones p.opening.at p.closing.at (omega arith) few s t pair.good
            (taken b (start + p.opening.at) (96 + p.closing.at - p.opening.at) (omega arith) (omega arith) (omega arith)));
      }

  -- Any thing that is sent.
  pub thing_step : (x : Thing) → is_sent x ≡ true → SureThing s t place x → ((j : ℕ) → j < 384 → bit_at b (start + j) ≡ bit_or (sends s t x) j) → Left b s t h i start end place x
  unfolding telegrams
  thing_step (Thing.Balise x y z) is sure bits = record { bytes = bytes_of place (record { kind = 0; x = x; y = y; z = z }); step = balise_step x y z sure.0 bits; recorded = λ rest. refl }
  thing_step Thing.Marker is sure bits = record { bytes = bytes_of place (blank 1); step = marker_step bits; recorded = λ rest. refl }
  thing_step Thing.Unreadable is sure bits = record { bytes = bytes_of place (blank 2); step = unreadable_step bits; recorded = λ rest. refl }
  thing_step Thing.Nothing is sure bits = cannot_be cc
