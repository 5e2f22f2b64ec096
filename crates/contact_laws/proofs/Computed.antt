-- What can be computed of a pass: that a stretch is clean, that bits are ones or zeroes, and what
-- comes of it.
-- Assumes nothing.
use Prim.Native.Nat.{ℕ, ◌+◌, ◌-◌, ◌≤◌, ◌<◌}
use mathlib.Core.Path.{◌≡◌, refl, ap, ◌∙◌}
use mathlib.Core.Bool.{true}
use mathlib.Core.List.{List}
use native.Mathlib.Omega.{arith}
use lib.Dec.{T, leb, eqb, leb→le, eqb→eq}
use Rattle.words.specs.Answer.{gives}
use Rattle.words.proofs.Ranges.{upto, below}
use Rattle.telegram.specs.Stretch.{bit_at, inside}
use Rattle.telegram.specs.Sync.{is_good}
use Rattle.telegram.specs.Telegram.{telegram}
use Rattle.balise_line.specs.Line.{OneBalise, Clean, sent_bit}
use Rattle.balise_line.proofs.Computed.{unflipped_at, small, proper_computed}
use Rattle.contact.specs.Contacts.{contact, quiet, contacts_from, from_start}
use Rattle.contact.specs.Judge.{judge}
use Rattle.contact.specs.declared.Search.{Search}
use Rattle.contact.specs.declared.Judged.{Judged}
use Rattle.contact.proofs.Determined.{judged_of}
use Rattle.contact_laws.specs.Zeroes.{fewest, zeroes_sent}
use Rattle.contact_laws.specs.Pass.{between, Ones, Pass, cut_bits}
use Rattle.contact_laws.specs.Heard.{enough}
use Rattle.contact_laws.specs.Row.{Long}
use Rattle.contact_laws.specs.Limits.{Answered}
use Rattle.contact_laws.proofs.Either.{audible_computed, fair_at, no_false_computed}
use Rattle.contact_laws.proofs.Over.{listened}
use Rattle.contact_laws.proofs.Alike.{judges}

pub ones_computed : (b : List ℕ) (i j : ℕ) → T (upto (λ k. eqb (bit_at b (i + k)) 1) (j - i)) → Ones b i j
ones_computed b i j t k low high =
    let e : k ≡ i + (k - i) = omega arith in
    ap (bit_at b) e ∙ eqb→eq (bit_at b (i + (k - i))) 1 (below (λ k. eqb (bit_at b (i + k)) 1) (j - i) t (k - i) (omega arith))

pub zeroes_computed : (b : List ℕ) (i n : ℕ) → T (upto (λ k. eqb (bit_at b (i + k)) 0) n) → (k : ℕ) → k < n → bit_at b (i + k) ≡ 0
zeroes_computed b i n t k less = eqb→eq (bit_at b (i + k)) 0 (below (λ k. eqb (bit_at b (i + k)) 0) n t k less)

pub clean_computed : (o : OneBalise) → T (upto (λ k. eqb (bit_at o.buffer (o.start + k)) (sent_bit o (o.phase + k))) o.len) → Clean o
clean_computed o t j =
    unflipped_at o j
    (λ low high. let k = j - o.phase in let line : o.phase + k ≡ j = omega arith in
    eqb→eq (bit_at o.buffer (o.start + k)) (sent_bit o (o.phase + k)) (below (λ k. eqb (bit_at o.buffer (o.start + k)) (sent_bit o (o.phase + k))) o.len t k (omega arith))
    ∙ ap (sent_bit o) line)

-- A balise that is long enough over the antenna, all computed.
pub long_computed : (o : OneBalise) → T (small o) → is_good o.s o.t ≡ true → telegram o.x o.y o.z ≡ gives o.telegram → inside o.buffer o.start o.len ≡ true
    → T (upto (λ j. leb fewest (zeroes_sent o j 16)) 64) → T (upto (λ k. eqb (bit_at o.buffer (o.start + k)) (sent_bit o (o.phase + k))) o.len) → T (leb enough o.len) → T (upto (fair_at o) 11)
    → Long o.buffer o
long_computed o bytes pair valid taken audible clean long fair =
    let enough-bits = leb→le enough o.len long in
    record {
      buffer_is = refl;
      proper = proper_computed o bytes pair valid taken;
      audible = audible_computed o audible;
      clean = clean_computed o clean;
      long = enough-bits;
      fair = no_false_computed o (omega arith) fair;
    }

-- A pass of a balise: the stretch is clean, and ones stand before and after it.
pub pass_computed : (o : OneBalise) (from to : ℕ) → T (upto (λ k. eqb (bit_at o.buffer (o.start + k)) (sent_bit o (o.phase + k))) o.len) → from ≤ o.start → o.start + o.len + between ≤ to
    → T (upto (λ k. eqb (bit_at o.buffer (from + k)) 1) (o.start - from)) → T (upto (λ k. eqb (bit_at o.buffer (o.start + o.len + k)) 1) (to - (o.start + o.len)))
    → inside o.buffer from (to - from) ≡ true → Pass o from to
pass_computed o from to clean low high before after taken =
    record {
      clean = clean_computed o clean;
      from_low = low;
      to_high = high;
      ones_before = ones_computed o.buffer from o.start before;
      ones_after = ones_computed o.buffer (o.start + o.len) to after;
      taken = taken;
    }

-- The one contact of a pass from bit 0 to bit `to`, and what `judge` answers for it, all computed.
pub answered_so : {o : OneBalise} {r : Judged} (to skipped ones_in : ℕ) (then : Search)
    → T (small o) → is_good o.s o.t ≡ true → telegram o.x o.y o.z ≡ gives o.telegram → inside o.buffer o.start o.len ≡ true
    → T (upto (λ j. leb fewest (zeroes_sent o j 16)) 64) → T (upto (λ k. eqb (bit_at o.buffer (o.start + k)) (sent_bit o (o.phase + k))) o.len) → T (leb (o.start + o.len + between) to)
    → T (upto (λ k. eqb (bit_at o.buffer (0 + k)) 1) (o.start - 0)) → T (upto (λ k. eqb (bit_at o.buffer (o.start + o.len + k)) 1) (to - (o.start + o.len)))
    → inside o.buffer 0 (to - 0) ≡ true → T (leb skipped (cut_bits o + 47)) → T (leb ones_in 11)
    → contacts_from o.buffer (from_start 0 (to - 0)) ≡ contact (o.start + skipped) (o.len + ones_in - skipped) then quiet
    → judged_of (judge o.buffer (o.start + skipped) (o.len + ones_in - skipped) o.s o.t) ≡ r → Answered o r
answered_so {o} {r} to skipped ones_in then bytes pair valid within audible clean high before after taken low few is so =
    record {
      from = 0;
      to = to;
      proper = proper_computed o bytes pair valid within;
      audible = audible_computed o audible;
      pass = pass_computed o 0 to clean (omega arith) (leb→le (o.start + o.len + between) to high) before after taken;
      answered = λ w l. (
        record {
          skipped = skipped;
          skipped_low = leb→le skipped (cut_bits o + 47) low;
          ones_in = ones_in;
          ones_low = leb→le ones_in 11 few;
          then = then;
          rest = quiet;
          is = listened o.buffer 0 to w l ∙ is;
        },
        λ a called. judges o.buffer (o.start + skipped) (o.len + ones_in - skipped) o.s o.t a called ∙ so,
      );
    }
