-- Words that are accepted, and differ from the words sent in at most three bits, read the telegram
-- sent: as if one had begun there.
-- Assumes nothing.
use Prim.Native.Nat.{ℕ, ◌+◌, ◌-◌, ◌%◌, ◌≤◌}
use mathlib.Core.Path.{◌≡◌, sym, ap, ◌∙◌, subst}
use mathlib.Core.Bool.{true}
use native.Mathlib.Omega.{arith}
use Rattle.words.specs.Answer.{gives}
use Rattle.telegram.specs.Stretch.{bit_at, inside}
use Rattle.telegram.specs.Place.{words_at, accepted}
use Rattle.balise_line.specs.Line.{OneBalise, Proper, repeated, sent_bit, line_bit, unequal, flip, flips, sum}
use Rattle.balise_line.proofs.Sums.{sum_ext}
use Rattle.balise_line.proofs.Window.{flip_is}
use Rattle.balise_line.proofs.Sent.{read_as_sent}
use Rattle.balise_line.proofs.Stretch.{as_sent}

module _ (o : OneBalise) (proper : Proper o) (p : ℕ) (taken : inside o.buffer p 40 ≡ true) where
  -- a balise whose telegram begins at bit p
  abbrev there : OneBalise
  there =
      record { buffer = o.buffer; start = p; len = 40; s = o.s; t = o.t; x = o.x; y = o.y; z = o.z; telegram = o.telegram; phase = 0 }

  there_proper : Proper there
  there_proper = record { bytes = proper.bytes; pair = proper.pair; valid = proper.valid; taken = taken }

  pub near_sent : sum (λ i. unequal (bit_at o.buffer (p + (8 + i))) (bit_at (repeated o) (8 + i))) 24 ≤ 3 → accepted (words_at o.buffer p) ≡ true
      → words_at o.buffer p ≡ gives o.telegram
  unfolding line_bit flips sent_bit
  near_sent few ok =
      let low : p ≤ p = omega arith in
      let high : p + 40 ≤ p + 40 = omega arith in
      let straight : (0 + (p - p)) % 32 ≡ 0 = omega arith in
      let count : sum (λ i. flip there (0 + (p - p) + 8 + i)) 24 ≡ sum (λ i. unequal (bit_at o.buffer (p + (8 + i))) (bit_at (repeated o) (8 + i))) 24 =
      sum_ext (λ i. flip there (0 + (p - p) + 8 + i)) (λ i. unequal (bit_at o.buffer (p + (8 + i))) (bit_at (repeated o) (8 + i))) 24
      (λ i l. let e : 0 + (p - p) + 8 + i ≡ 0 + (p - p) + (8 + i) = omega arith in
      let at : (0 + (p - p) + (8 + i)) % 64 ≡ 8 + i = omega arith in
      ap (flip there) e ∙ flip_is there p low high (8 + i) (omega arith) ∙ ap (λ (k : ℕ). unequal (bit_at o.buffer (p + (8 + i))) (bit_at (repeated o) k)) at) in
      read_as_sent there there_proper p (as_sent there there_proper p low high straight (subst (λ (k : ℕ). k ≤ 3) (sym count) few) ok)
