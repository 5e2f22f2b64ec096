-- No false reading. A reading needs two places alike. The first of them lies inside the balise's
-- bits, and reads what was sent; or both end in the quiet line, and then there are too few flips
-- for them, unless they read what was sent.
-- Assumes nothing.
use Prim.Native.Nat.{ℕ, ◌+◌, ◌-◌, ◌≤◌, ◌<◌}
use mathlib.Core.Path.{◌≡◌, refl, sym, ap, ◌∙◌, subst}
use mathlib.Core.Bool.{Bool, true, false}
use mathlib.Core.List.{List}
use native.Mathlib.Omega.{arith}
use lib.Dec.{eqb, leb}
use lib.ListN.{get_or}
use borrow.Author.Tests.{eq-eqb, leb-true, leb-false}
use Rattle.words.specs.Answer.{gives}
use Rattle.words.specs.Bits.{bit}
use Rattle.words.specs.Plain.{among}
use Rattle.telegram.specs.Telegram.{Received}
use Rattle.telegram.specs.Place.{words_at, accepted, is_place, places}
use Rattle.telegram.specs.declared.Telegram.{Telegram}
use Rattle.telegram.proofs.Taken.{part_taken}
use Rattle.balise_line.specs.Line.{OneBalise, Proper}
use Rattle.balise_line.specs.Forty.{equal_bits, EqualBit}
use Rattle.balise_line.proofs.Sums.{unequal_none, unequal_same, not_at}
use Rattle.balise_line.proofs.Places.{listed, or_left, place_parts}
use Rattle.balise_line.proofs.Wrong.{outer_bits}
use Rattle.balise_line.proofs.EqualBit.{at_equal}
use Rattle.contact.specs.Contacts.{Contacts, contact, quiet, refused, contacts_from, from_start}
use Rattle.contact_laws.proofs.Over.{listened}
use Rattle.noise_laws.specs.Pass.{line_at, NoisyPass}
use Rattle.noise_laws.specs.Reading.{ReadsTheSent, allowed, NoFalseReading}
use Rattle.noise_laws.proofs.Where.{AllWithin, within_record}
use Rattle.noise_laws.proofs.Between.{between}
use Rattle.noise_laws.proofs.Two.{Two, of_places, two_alike}
use Rattle.noise_laws.proofs.Tests.{zs}
use Rattle.noise_laws.proofs.Inside.{one_before, one_after, in_stretch}
use Rattle.noise_laws.proofs.Inner.{at_most_three, inside_reads}
use Rattle.noise_laws.proofs.Overlap.{Comes, many, seventh, eighth, nothing}
use Rattle.noise_laws.proofs.Zero.{zero_reads}
use Rattle.noise_laws.proofs.Straddle.{d, r, words_again, syncs_p, missing, differ, short_x, comes, tail_few}
use Rattle.noise_laws.proofs.Late.{late_reads}

module _ (o : OneBalise) (proper : Proper o) (most from to : ℕ) (pass : NoisyPass most o from to) (k : ℕ) (equal : EqualBit o k) (most-is : most ≡ get_or allowed (k - 1) 0)
    (inner : (c l p : ℕ) → o.start ≤ p → p + 40 ≤ o.start + o.len → is_place o.buffer c l o.s o.t p ≡ true → words_at o.buffer p ≡ gives o.telegram) where
  abbrev b : List ℕ
  b = o.buffer

  module _ (c l : ℕ) (m : Telegram) (two : Two b c l o.s o.t m) where
    -- What is allowed, by the bit in which the sync words are equal, counted from 0.
    by_missing : most ≡ get_or allowed (missing o proper c l m two).at 0
    by_missing =
        let one = missing o proper c l m two in
        let is = at_equal o k one.at one.within one.is equal in
        let e : k - 1 ≡ one.at = omega arith in
        most-is ∙ ap (λ (j : ℕ). get_or allowed j 0) e

    three : most ≤ 3
    three = omega (arith, by_missing, at_most_three (missing o proper c l m two).at (missing o proper c l m two).within)

    -- Sync words whose seventh bits are equal allow one flip.
    not_seventh : r o proper c l m two 6 ≡ r o proper c l m two 38 → most ≡ 1
    unfolding not_at
    not_seventh same =
        let one = missing o proper c l m two in
        let at : 6 ≡ one.at = unequal_none 6 one.at (sym (differ o proper c l m two 6 (omega arith)) ∙ unequal_same (r o proper c l m two 6) (r o proper c l m two 38) same) in
        by_missing ∙ ap (λ (j : ℕ). get_or allowed j 0) (sym at)

  -- Two places alike that end in the quiet line.
  both_late : from + 40 ≤ to → (c l : ℕ) → o.start ≤ c → c + l ≤ o.start + o.len + 15 → c + l ≤ to → (m : Telegram) (two : Two b c l o.s o.t m)
      → o.start + o.len < two.p + 40 → words_at b two.p ≡ gives o.telegram
  both_late long c l low high room m two past = go (comes o proper c l m two near)
    where
      lies : two.q + 40 ≤ c + l
      lies = (place_parts b c l o.s o.t two.q two.q_place).0

      near : d o proper c l m two ≤ 14
      near = omega (arith, lies, past, high)

      tail : zs (r o proper c l m two) 39 (d o proper c l m two + 1) ≤ most
      tail = tail_few o proper c l m two most from to pass long (omega (arith, two.low)) past (omega (arith, lies)) near

      begins : o.start ≤ two.p
      begins = omega (arith, two.low)

      order : two.p < two.q
      order = two.order

      few : most ≤ 3
      few = three c l m two

      go : Comes (r o proper c l m two) (d o proper c l m two) → words_at b two.p ≡ gives o.telegram
      go (many h) = absurd (omega (arith, h, tail, few))
      go (seventh h same) = absurd (omega (arith, h, tail, not_seventh c l m two same))
      go (eighth h eight last) =
          let one = missing o proper c l m two in
          let rr = r o proper c l m two in
          let q_there : two.p + 8 ≡ two.q = omega arith in
          late_reads o proper most from to pass few two.p (two.p + 40 - (o.start + o.len)) begins (omega arith) (omega arith) (omega (arith, lies)) (omega (arith, lies))
          (short_x o proper c l m two) one.at one.within (omega (arith, h, tail, by_missing c l m two)) (differ o proper c l m two)
          (subst (λ (e : ℕ). (i : ℕ) → i < 24 → rr (8 + (i + e)) ≡ rr (8 + i)) eight (words_again o proper c l m two))
          (subst (λ (e : ℕ). (i : ℕ) → i < 8 → rr (32 + e + i) ≡ rr i) eight last)
          (subst (λ (e : ℕ). 3 ≤ zs rr 39 (e + 1)) eight h)
          (subst (λ (e : ℕ). zs rr 39 (e + 1) ≤ most) eight tail)
          (outer_bits o proper two.p (syncs_p o proper c l m two)) (ap accepted two.reads)
      go (nothing up none one) =
          zero_reads o proper most from to pass few two.p (d o proper c l m two) (two.p + 40 - (o.start + o.len)) begins (omega arith) (omega (arith, lies)) (omega (arith, lies)) up none one (ap accepted two.reads)

  same_message : (m n : Telegram) → ◌≡◌ {A = Received} (gives m) (gives n) → m ≡ n
  same_message m n e = cc

  -- Two places alike of one contact.
  two_read : (c l : ℕ) → from ≤ c → c + l ≤ to → (from + 40 ≤ to → (o.start ≤ c) × (c + l ≤ o.start + o.len + 15)) → (m : Telegram) → Two b c l o.s o.t m → m ≡ o.telegram
  two_read c l low high lies m two =
      let fits = (place_parts b c l o.s o.t two.p two.p_place).0 in
      let long : from + 40 ≤ to = omega (arith, fits, two.low) in
      let over = lies long in
      same_message m o.telegram (sym two.reads ∙ go long over.0 over.1 (leb (two.p + 40) (o.start + o.len)) refl)
    where
      go : from + 40 ≤ to → o.start ≤ c → c + l ≤ o.start + o.len + 15 → (t : Bool) → leb (two.p + 40) (o.start + o.len) ≡ t → words_at b two.p ≡ gives o.telegram
      go long at_start at_end true q = inner c l two.p (omega (arith, at_start, two.low)) (leb-true (two.p + 40) (o.start + o.len) q) two.p_place
      go long at_start at_end false q = both_late long c l at_start at_end high m two (leb-false (two.p + 40) (o.start + o.len) q)

  every : (w : Contacts) → AllWithin from to w → (from + 40 ≤ to → AllWithin o.start (o.start + o.len + 15) w) → ReadsTheSent o w
  every (contact c l then rest) record-wide over =
      let so = two_read c l record-wide.0 record-wide.1 (λ long. let h = over long in (h.0, h.1)) in (
        λ m few alike reads. so m (of_places b c l o.s o.t m (places b c l o.s o.t) refl few alike reads),
        λ a called m first count is. so m (two_alike b c l o.s o.t m first count proper.pair
            (part_taken b from (to - from) c l pass.taken (omega (arith, record-wide.0, record-wide.1)) (omega (arith, record-wide.0, record-wide.1))) a called is),
        every rest record-wide.2 (λ long. (over long).2),
      )
  every quiet record-wide over = tt
  every (refused n) record-wide over = tt

  reads_the_sent : most ≤ 3 → ReadsTheSent o (contacts_from b (from_start from (to - from)))
  reads_the_sent small =
      let low = pass.from_low in
      let high = pass.to_high in
      every (contacts_from b (from_start from (to - from))) (within_record b from to (omega arith))
      (λ long. between (line_at o) b most from to o.start (o.start + o.len) pass.few small long (omega arith) (one_before o) (one_after o))

-- The equal bit is one of eight.
one_of_eight : (o : OneBalise) (k : ℕ) → EqualBit o k → k - 1 < 8
unfolding equal_bits
one_of_eight o k equal =
    let h = listed (λ k. eqb (bit o.s (8 - k)) (bit o.t (8 - k))) k 1 8 (ap (among k) equal ∙ or_left false (eq-eqb k k refl)) in
    omega (arith, h.1)

-- Of the contacts of document 01, whichever calls hand them out.
pub reads_the_contacts : (o : OneBalise) → Proper o → (k : ℕ) → EqualBit o k → (from to : ℕ) → NoisyPass (get_or allowed (k - 1) 0) o from to
    → ReadsTheSent o (contacts_from o.buffer (from_start from (to - from)))
reads_the_contacts o proper k equal from to pass =
    reads_the_sent o proper (get_or allowed (k - 1) 0) from to pass k equal refl
    (inside_reads o proper k equal (in_stretch o (get_or allowed (k - 1) 0) from to pass)) (at_most_three (k - 1) (one_of_eight o k equal))

pub no_false_reading : NoFalseReading
no_false_reading o proper k equal from to pass w l =
    subst (ReadsTheSent o) (sym (listened o.buffer from to w l)) (reads_the_contacts o proper k equal from to pass)
