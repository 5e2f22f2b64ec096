-- Over an audible balise a contact opens and closes, and the detector then stands as before.
-- Assumes nothing.
use Prim.Native.Nat.{ℕ, ◌+◌, ◌-◌, ◌%◌, ◌≤◌, ◌<◌}
use mathlib.Core.Path.{◌≡◌, refl, ap, ◌∙◌}
use mathlib.Core.Logic.{◌⊎◌, inl, inr}
use mathlib.Core.Bool.{Bool, true}
use mathlib.Core.List.{List}
use native.Mathlib.Omega.{arith}
use Rattle.words.specs.Answer.{pick}
use Rattle.telegram.specs.Stretch.{bit_at, inside}
use Rattle.balise_line.specs.Line.{OneBalise, Proper, Clean}
use Rattle.contact.specs.History.{sixteen_ones, zeroes_of}
use Rattle.contact.specs.Contacts.{outside, Contacts, quiet, refused, contacts, contacts_from, from_start}
use Rattle.contact.proofs.Steps.{ends_outside}
use Rattle.contact.proofs.Stays.{on}
use Rattle.contact.proofs.Calls.{called_from_begin}
use Rattle.contact_laws.specs.Calls.{Listened}
use Rattle.contact_laws.specs.Zeroes.{zeroes_in, zeroes_sent, Audible}
use Rattle.contact_laws.specs.Pass.{Ones, between, Pass, cut_bits}
use Rattle.contact_laws.specs.Heard.{OverIt}
use Rattle.contact_laws.proofs.Walk.{Still}
use Rattle.contact_laws.proofs.Passes.{Passed, passes}
use Rattle.contact_laws.proofs.Quiet.{still_on, quiet_on}
use Rattle.contact_laws.proofs.Sound.{zeroes_sent_law, eight_in_one}

-- What the calls give is what is specified.
pub listened : (b : List ℕ) (from to : ℕ) (w : Contacts) → Listened b from to w → w ≡ contacts_from b (from_start from (to - from))
listened b from to w l = called_from_begin b from (to - from) l.search w l.begins l.comes

pub from_taken : (b : List ℕ) (from to : ℕ) → inside b from (to - from) ≡ true → contacts_from b (from_start from (to - from)) ≡ contacts b outside sixteen_ones from (to - from)
unfolding contacts_from from_start
from_taken b from to taken = ap (λ (t : Bool). pick t (contacts b outside sixteen_ones from (to - from)) (refused 5)) taken

-- At first the latest twelve bits are ones.
pub ones_still : Still sixteen_ones
unfolding zeroes_of
ones_still = refl

-- Ones up to a bit: what comes is what comes from there.
pub ones_on : (b : List ℕ) (h i to m : ℕ) → Still h → i ≤ m → m ≤ to → Ones b i m
    → (h' : ℕ) × Still h' × (contacts b outside h i (to - i) ≡ contacts b outside h' m (to - m))
ones_on b h i to m still low high ones =
    let n = m - i in
    let e : i + n ≡ m = omega arith in
    let each : (k : ℕ) → k < n → bit_at b (i + k) ≡ 1 = λ k l. ones (i + k) (omega arith) (omega arith) in (
      on b h i n,
      still_on b h i to still n each,
      quiet_on b h i to still n (omega arith) each ∙ ap (λ (x : ℕ). contacts b outside (on b h i n) x (to - x)) e,
    )

-- Ones up to the end: nothing more comes.
pub ones_last : (b : List ℕ) (h i to : ℕ) → Still h → i ≤ to → Ones b i to → contacts b outside h i (to - i) ≡ quiet
ones_last b h i to still low ones =
    let q = ones_on b h i to to still low (omega arith) ones in
    q.2 ∙ ends_outside b q.0 to to (omega arith)

pub cut_straight : (o : OneBalise) → (o.phase + cut_bits o) % 32 ≡ 0
unfolding cut_bits
cut_straight o = omega arith

pub cut_low : (o : OneBalise) → cut_bits o < 32
unfolding cut_bits
cut_low o = omega arith

module _ (o : OneBalise) (proper : Proper o) (audible : Audible o) (clean : Clean o) (long : cut_bits o + 48 ≤ o.len) (i to h : ℕ) (still : Still h)
    (low : i ≤ o.start) (before : Ones o.buffer i o.start)
    (room : o.start + o.len + between ≤ to) (after_it : Ones o.buffer (o.start + o.len) (o.start + o.len + between)) where
  abbrev b : List ℕ
  b = o.buffer

  abbrev end : ℕ
  end = o.start + o.len + between

  -- Five zeroes or more in every sixteen bits of the stretch.
  many : (m : ℕ) → m + 16 ≤ o.len → 5 ≤ zeroes_in b (o.start + m) 16
  many m l = omega (arith, audible (o.phase + m), zeroes_sent_law o clean m 16 l)

  quiet_after : (k : ℕ) → k < 12 → bit_at b (o.start + o.len + k) ≡ 1
  quiet_after k l = after_it (o.start + o.len + k) (omega arith) (omega arith)

  -- Eight in some sixteen, those after the first or the second telegram's beginning.
  heard_at : (g : ℕ) → Still g → (top : ℕ) × (top ≤ cut_bits o + 47) × Passed b g o.start o.len to top
  heard_at g gs = by (eight_in_one o proper (o.phase + cut_bits o) (cut_straight o))
    where
      c : ℕ
      c = cut_bits o

      at : (m : ℕ) → m + 16 ≤ o.len → m ≤ c + 32 → 8 ≤ zeroes_sent o (o.phase + m) 16 → (top : ℕ) × (top ≤ c + 47) × Passed b g o.start o.len to top
      at m fits low loud =
          (m + 15, omega arith, passes b g o.start o.len to gs many quiet_after (omega arith) m fits (omega (arith, loud, zeroes_sent_law o clean m 16 fits)))

      by : (8 ≤ zeroes_sent o (o.phase + c) 16) ⊎ (8 ≤ zeroes_sent o (o.phase + c + 32) 16) → (top : ℕ) × (top ≤ c + 47) × Passed b g o.start o.len to top
      by (inl t) = at c (omega arith) (omega arith) t
      by (inr t) =
          let e : o.phase + c + 32 ≡ o.phase + (c + 32) = omega arith in
          at (c + 32) (omega arith) (omega arith) (omega (arith, t, ap (λ (x : ℕ). zeroes_sent o x 16) e))

  pub over_it : (c : OverIt o (contacts b outside h i (to - i))) × (h' : ℕ) × Still h' × (c.rest ≡ contacts b outside h' end (to - end))
  over_it =
      let q = ones_on b h i to o.start still low (omega arith) before in
      let got = heard_at q.0 q.1 in
      let p = got.2 in
      let c : OverIt o (contacts b outside h i (to - i)) =
      record {
        skipped = p.opening.at;
        skipped_low = omega (arith, p.opening.low, got.1);
        ones_in = p.closing.at;
        ones_low = p.closing.low;
        then = p.then;
        rest = contacts b outside p.later end (to - end);
        is = q.2 ∙ p.is;
      } in
      (c, p.later, p.later_still, refl)

-- Over one balise alone, exactly one.
pub sole : (o : OneBalise) → Proper o → Audible o → (from to : ℕ) → Pass o from to → cut_bits o + 48 ≤ o.len
    → (w : Contacts) → Listened o.buffer from to w → (c : OverIt o w) × (c.rest ≡ quiet)
sole o proper audible from to pass long w l =
    let b = o.buffer in
    let end = o.start + o.len + between in
    let low = pass.from_low in
    let high = pass.to_high in
    let g = over_it o proper audible pass.clean long from to sixteen_ones ones_still low pass.ones_before high
    (λ k l m. pass.ones_after k l (omega arith)) in
    let c = g.0 in (
      record {
        skipped = c.skipped;
        skipped_low = c.skipped_low;
        ones_in = c.ones_in;
        ones_low = c.ones_low;
        then = c.then;
        rest = c.rest;
        is = listened b from to w l ∙ from_taken b from to pass.taken ∙ c.is;
      },
      g.3 ∙ ones_last b g.1 end to g.2 high (λ k l m. pass.ones_after k (omega arith) m),
    )
