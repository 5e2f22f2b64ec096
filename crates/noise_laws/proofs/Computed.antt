-- What can be computed of a noisy pass: that no forty bits have too many flips, and what comes of
-- it.
-- Assumes nothing.
use Prim.Native.Nat.{ℕ, ◌+◌, ◌-◌, ◌≤◌}
use mathlib.Core.Path.{◌≡◌, ◌∙◌, subst}
use mathlib.Core.Bool.{true}
use mathlib.Core.List.{List}
use native.Mathlib.Omega.{arith}
use lib.Dec.{T, leb, leb→le}
use Rattle.words.specs.Answer.{gives}
use Rattle.words.proofs.Ranges.{upto, below}
use Rattle.telegram.specs.Stretch.{inside}
use Rattle.telegram.specs.Sync.{is_good}
use Rattle.telegram.specs.Telegram.{telegram}
use Rattle.balise_line.specs.Line.{OneBalise}
use Rattle.balise_line.specs.Forty.{EqualBit}
use Rattle.balise_line.proofs.Computed.{small, proper_computed}
use Rattle.contact.specs.Contacts.{contact, quiet, contacts_from, from_start}
use Rattle.contact.specs.Judge.{judge}
use Rattle.contact.specs.declared.Search.{Search}
use Rattle.contact.specs.declared.Judged.{Judged}
use Rattle.contact.proofs.Determined.{judged_of}
use Rattle.contact_laws.proofs.Over.{listened}
use Rattle.contact_laws.proofs.Alike.{judges}
use Rattle.noise_laws.specs.Pass.{line_at, flips_in, InForty, NoisyPass}
use Rattle.noise_laws.specs.Limits.{Passed}

pub forty_computed : (most : ℕ) (line : ℕ → ℕ) (b : List ℕ) (from to : ℕ) → T (upto (λ i. leb (flips_in line b (from + i) 40) most) (to - from - 39)) → InForty most line b from to
forty_computed most line b from to ok p up down =
    let e : from + (p - from) ≡ p = omega arith in
    subst (λ (j : ℕ). flips_in line b j 40 ≤ most) e
    (leb→le (flips_in line b (from + (p - from)) 40) most (below (λ i. leb (flips_in line b (from + i) 40) most) (to - from - 39) ok (p - from) (omega arith)))

pub pass_computed : (most : ℕ) (o : OneBalise) (from to : ℕ) → from ≤ o.start → o.start + o.len ≤ to
    → T (upto (λ i. leb (flips_in (line_at o) o.buffer (from + i) 40) most) (to - from - 39)) → inside o.buffer from (to - from) ≡ true → NoisyPass most o from to
pass_computed most o from to low high ok taken =
    record { from_low = low; to_high = high; few = forty_computed most (line_at o) o.buffer from to ok; taken = taken }

-- A pass from bit 0 to bit `to`, all of it computed.
pub passed_so : {k most : ℕ} {o : OneBalise} {r : Judged} (to start length : ℕ) (then : Search)
    → T (small o) → is_good o.s o.t ≡ true → telegram o.x o.y o.z ≡ gives o.telegram → inside o.buffer o.start o.len ≡ true
    → EqualBit o k → T (leb (o.start + o.len) to) → T (upto (λ i. leb (flips_in (line_at o) o.buffer (0 + i) 40) most) (to - 0 - 39)) → inside o.buffer 0 (to - 0) ≡ true
    → contacts_from o.buffer (from_start 0 (to - 0)) ≡ contact start length then quiet → judged_of (judge o.buffer start length o.s o.t) ≡ r → Passed k most o r
passed_so {k} {most} {o} {r} to start length then bytes pair valid within equal high few taken is so =
    record {
      from = 0;
      to = to;
      proper = proper_computed o bytes pair valid within;
      equal_bit = equal;
      pass = pass_computed most o 0 to (omega arith) (leb→le (o.start + o.len) to high) few taken;
      first = λ w l. record {
        start = start;
        length = length;
        then = then;
        rest = quiet;
        is = listened o.buffer 0 to w l ∙ is;
        answered = λ a called. judges o.buffer start length o.s o.t a called ∙ so;
      };
    }
