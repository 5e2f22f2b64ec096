-- The contact over a balise, with two whole telegrams in it, is read as it was sent.
-- Assumes nothing.
use Prim.Native.Nat.{ℕ, zero, suc, ◌+◌, ◌-◌, ◌%◌, ◌≤◌, ◌<◌}
use mathlib.Core.Path.{◌≡◌, refl, ap, ◌∙◌}
use mathlib.Core.Bool.{Bool, true, false}
use native.Mathlib.Omega.{arith}
use lib.Dec.{leb, ltb}
use lib.ListN.{length}
use borrow.Author.Tests.{leb-true, leb-false, ltb-true, ltb-false}
use Rattle.words.specs.Answer.{gives, pick}
use Rattle.words.specs.Plain.{among}
use Rattle.telegram.specs.Stretch.{bit_at, inside}
use Rattle.telegram.specs.Place.{is_place, places}
use Rattle.telegram.proofs.Taken.{part_taken}
use Rattle.balise_line.specs.Line.{OneBalise, Proper, Clean, sent_bit, received_bit, in_stretch, flip, flips, sum, unequal, line_bit, flips_at, places_of}
use Rattle.balise_line.proofs.Computed.{unflipped_at}
use Rattle.balise_line.proofs.Sums.{none_sum, unequal_lt}
use Rattle.balise_line.proofs.Places.{place_parts, parts_place, listed, lists}
use Rattle.balise_line.proofs.Sent.{Sent, AllSent, sent_parts, parts_sent}
use Rattle.balise_line.proofs.TooFew.{few_flips_few}
use Rattle.balise_line.proofs.Stretch.{all_sent_law, as_sent}
use Rattle.balise_line.proofs.Unflipped.{unflipped_among}
use Rattle.balise_line.proofs.Clean.{clean_few}
use Rattle.contact.specs.Judge.{read, judge}
use Rattle.contact.specs.declared.Judged.{Judged}
use Rattle.contact_laws.specs.Calls.{JudgeContact}
use Rattle.contact_laws.specs.Pass.{cut_bits}
use Rattle.contact_laws.specs.Heard.{NoFalse}
use Rattle.contact_laws.proofs.Sound.{received}
use Rattle.contact_laws.proofs.Over.{cut_straight}
use Rattle.contact_laws.proofs.Alike.{judged_so, answers_so, two_listed}

-- The contact that skips k of the balise's bits and has e of the ones after them (0: its part).
abbrev pub contact_of : OneBalise → ℕ → ℕ → OneBalise
contact_of o k e =
    record {
      buffer = o.buffer;
      start = o.start + k;
      len = o.len + e - k;
      s = o.s;
      t = o.t;
      x = o.x;
      y = o.y;
      z = o.z;
      telegram = o.telegram;
      phase = o.phase + k;
    }

-- A sum of zeroes and ones whose first a are zeroes.
late_sum : (f : ℕ → ℕ) (a n : ℕ) → ((i : ℕ) → i < a → f i ≡ 0) → ((i : ℕ) → f i < 2) → sum f n ≤ n - a
unfolding sum
late_sum f a zero none low = omega arith
late_sum f a (suc n) none low = go (ltb n a) refl (late_sum f a n none low)
  where
    go : (t : Bool) → ltb n a ≡ t → sum f n ≤ n - a → sum f n + f n ≤ suc n - a
    go true q ih =
        let less = ltb-true n a q in
        omega (arith, ih, none n less)
    go false q ih =
        let more = ltb-false n a q in
        omega (arith, ih, low n)

flip_lt : (o : OneBalise) (j : ℕ) → flip o j < 2
unfolding flip
flip_lt o j = go (in_stretch o j)
  where
    go : (t : Bool) → pick t (unequal (received_bit o j) (sent_bit o j)) 0 < 2
    go true = unequal_lt (received_bit o j) (sent_bit o j)
    go false = omega arith

module _ (o : OneBalise) (proper : Proper o) (clean : Clean o) (k e : ℕ) (k-low : k ≤ o.len)
    (taken : inside o.buffer (o.start + k) (o.len + e - k) ≡ true) where
  -- the contact, and the balise's part of it
  abbrev all : OneBalise
  all = contact_of o k e

  abbrev part : OneBalise
  part = contact_of o k 0

  all_proper : Proper all
  all_proper = record { bytes = proper.bytes; pair = proper.pair; valid = proper.valid; taken = taken }

  part_proper : Proper part
  part_proper =
      record {
        bytes = proper.bytes;
        pair = proper.pair;
        valid = proper.valid;
        taken = part_taken o.buffer (o.start + k) (o.len + e - k) (o.start + k) (o.len + 0 - k) taken (omega arith) (omega arith);
      }

  -- The balise's bits of the contact are received as sent.
  as_received : (j : ℕ) → o.phase + k ≤ j → j < o.phase + o.len → bit_at o.buffer (o.start + k + (j - (o.phase + k))) ≡ sent_bit o j
  as_received j low high =
      let m = j - o.phase in
      let at : o.start + k + (j - (o.phase + k)) ≡ o.start + m = omega arith in
      let line : o.phase + m ≡ j = omega arith in
      ap (bit_at o.buffer) at ∙ received o clean m (omega arith) ∙ ap (sent_bit o) line

  all_quiet : (j : ℕ) → j < o.phase + o.len → flip all j ≡ 0
  unfolding sent_bit
  all_quiet j less = unflipped_at all j (λ low high. as_received j low less)

  part_clean : Clean part
  unfolding sent_bit
  part_clean j = unflipped_at part j (λ low high. as_received j low (omega arith))

  -- A place of the contact that ends in the balise's part is one of that part, and back.
  there : (p : ℕ) → p + 40 ≤ o.start + o.len → among p (places_of all) ≡ true → among p (places_of part) ≡ true
  unfolding places
  there p high e' =
      let h = listed (is_place o.buffer (o.start + k) (o.len + e - k) o.s o.t) p (o.start + k) (o.len + e - k) e' in
      let g = place_parts o.buffer (o.start + k) (o.len + e - k) o.s o.t p h.2 in
      lists (is_place o.buffer (o.start + k) (o.len + 0 - k) o.s o.t) p (o.start + k) (o.len + 0 - k) h.0 (omega (arith, h.0))
      (parts_place o.buffer (o.start + k) (o.len + 0 - k) o.s o.t p (omega (arith, h.0)) g.1 g.2)

  back : (p : ℕ) → among p (places_of part) ≡ true → among p (places_of all) ≡ true
  unfolding places
  back p e' =
      let h = listed (is_place o.buffer (o.start + k) (o.len + 0 - k) o.s o.t) p (o.start + k) (o.len + 0 - k) e' in
      let g = place_parts o.buffer (o.start + k) (o.len + 0 - k) o.s o.t p h.2 in
      lists (is_place o.buffer (o.start + k) (o.len + e - k) o.s o.t) p (o.start + k) (o.len + e - k) h.0 (omega (arith, h.1))
      (parts_place o.buffer (o.start + k) (o.len + e - k) o.s o.t p (omega (arith, g.0)) g.1 g.2)

  -- So what is read at it is what was sent.
  part_sent : (p : ℕ) → p + 40 ≤ o.start + o.len → among p (places_of all) ≡ true → Sent all p
  unfolding line_bit
  part_sent p high e' =
      let q = all_sent_law part part_proper (few_flips_few part (clean_few part part_clean)) p (there p high e') in
      let g = sent_parts part p q.at_true in
      record {
        at_true = parts_sent all p g.0 (omega (arith, g.1)) g.2;
        x_is = q.x_is;
        y_is = q.y_is;
        z_is = q.z_is;
      }

  -- A whole telegram of the balise in the contact is a place.
  whole : (p : ℕ) → o.start + k ≤ p → p + 40 ≤ o.start + o.len → line_bit o p % 32 ≡ 0 → among p (places_of all) ≡ true
  unfolding line_bit flips_at flips
  whole p low high straight =
      let same : o.phase + k + (p - (o.start + k)) ≡ o.phase + (p - o.start) = omega arith in
      back p (unflipped_among part part_proper p
      (parts_sent part p low (omega arith) (ap (λ (x : ℕ). x % 32) same ∙ straight))
      (none_sum (λ i. flip part (line_bit part p + i)) 40 (λ i l. part_clean (line_bit part p + i))))

  -- What begins where a telegram does has the words sent: three data bits at most are not its.
  module _ (e-low : e ≤ 11) (fair : NoFalse o) where
    late_sent : (p : ℕ) → o.start + o.len < p + 40 → among p (places_of all) ≡ true → Sent all p
    unfolding places line_bit flips
    late_sent p past there =
        let h = listed (is_place o.buffer (o.start + k) (o.len + e - k) o.s o.t) p (o.start + k) (o.len + e - k) there in
        let g = place_parts o.buffer (o.start + k) (o.len + e - k) o.s o.t p h.2 in
        let low = h.0 in
        let high = g.0 in
        let straight = fair p (omega arith) past (parts_place o.buffer o.start (o.len + 11) o.s o.t p (omega arith) g.1 g.2) in
        let line : o.phase + k + (p - (o.start + k)) ≡ o.phase + (p - o.start) = omega arith in
        let q = o.phase + k + (p - (o.start + k)) in
        let few = late_sum (λ i. flip all (q + 8 + i)) 21 24 (λ i l. all_quiet (q + 8 + i) (omega arith)) (λ i. flip_lt all (q + 8 + i)) in
        as_sent all all_proper p low high (ap (λ (x : ℕ). x % 32) line ∙ straight) (omega (arith, few)) g.2

    everywhere : AllSent all
    everywhere q there' = go (leb (q + 40) (o.start + o.len)) refl
      where
        go : (t : Bool) → leb (q + 40) (o.start + o.len) ≡ t → Sent all q
        go true is = part_sent q (leb-true (q + 40) (o.start + o.len) is) there'
        go false is = late_sent q (leb-false (q + 40) (o.start + o.len) is) there'

    -- With two whole telegrams of the balise in the contact, it is read.
    pub judged_read : k ≤ cut_bits o + 47 → cut_bits o + 136 ≤ o.len
        → (first : ℕ) × (count : ℕ) × (judge o.buffer (o.start + k) (o.len + e - k) o.s o.t ≡ gives (read (gives o.telegram) first count))
    unfolding line_bit
    judged_read skipped long =
        let c = cut_bits o in
        let p = o.start + c + 64 in
        let line : o.phase + (p - o.start) ≡ o.phase + c + 64 = omega arith in
        let round : (o.phase + (p - o.start)) % 32 ≡ 0 = omega (arith, cut_straight o) in
        let next : (o.phase + (p + 32 - o.start)) % 32 ≡ 0 = omega (arith, cut_straight o) in
        let two : 2 ≤ length (places_of all) =
        two_listed p (p + 32) (omega arith) (places_of all) (whole p (omega arith) (omega arith) round) (whole (p + 32) (omega arith) (omega arith) next) in
        judged_so all all_proper everywhere two

    pub is_read : k ≤ cut_bits o + 47 → cut_bits o + 136 ≤ o.len
        → (a : Judged) → JudgeContact o.buffer (o.start + k) (o.len + e - k) o.s o.t a → (first : ℕ) × (count : ℕ) × (a ≡ Judged.Read o.telegram first count)
    is_read skipped long = answers_so o.buffer (o.start + k) (o.len + e - k) o.s o.t o.telegram (judged_read skipped long)
