-- Contacts shorter than 64 bits over one balise are not read: two places would begin 32 bits apart,
-- or more.
-- Assumes nothing.
use Prim.Native.Nat.{ℕ, ◌+◌, ◌-◌, ◌%◌, ◌≤◌}
use mathlib.Core.Path.{◌≡◌, refl, sym, ap, ◌∙◌}
use mathlib.Core.Bool.{Bool, true, false}
use native.Mathlib.Omega.{arith}
use lib.Dec.{leb}
use lib.ListN.{length}
use borrow.Author.Tests.{leb-true, leb-false}
use Rattle.words.specs.Answer.{Outcome, gives, refuses, pick}
use Rattle.telegram.specs.Stretch.{bits_at, inside}
use Rattle.telegram.specs.Place.{are_syncs, words_at, accepted, is_place, places}
use Rattle.telegram.specs.declared.Telegram.{Telegram}
use Rattle.telegram.proofs.Taken.{part_taken}
use Rattle.balise_line.specs.Line.{OneBalise, Proper, line_bit}
use Rattle.balise_line.proofs.Places.{place_parts, parts_place}
use Rattle.balise_line.proofs.Sent.{sent_parts}
use Rattle.balise_line.proofs.TooFew.{few_flips_few}
use Rattle.balise_line.proofs.Stretch.{place_sent}
use Rattle.balise_line.proofs.Clean.{clean_few}
use Rattle.contact.specs.Contacts.{Contacts, contact, quiet, refused}
use Rattle.contact.specs.Judge.{Contact, marker, is_marker}
use Rattle.contact.specs.declared.Judged.{Judged}
use Rattle.contact.proofs.Determined.{judged_of}
use Rattle.contact_laws.specs.Calls.{JudgeContact}
use Rattle.contact_laws.specs.Pass.{Pass}
use Rattle.contact_laws.specs.Heard.{NoFalse, AllShort, NeverRead}
use Rattle.contact_laws.proofs.Alike.{judges}
use Rattle.contact_laws.proofs.Few.{one_listed, few_judged}

-- A marker, or refused with 8: no reading.
not_read : (x : Bool) (m : Telegram) (first count : ℕ) → Judged.Read m first count ≡ judged_of (pick {A = Outcome Contact} x (gives marker) (refuses 8)) → ⊥
not_read true m first count e = let z : ◌≡◌ {A = ℕ} 0 1 = cc in omega arith
not_read false m first count e = let z : ◌≡◌ {A = ℕ} 0 1 = cc in omega arith

module _ (o : OneBalise) (proper : Proper o) (from to : ℕ) (pass : Pass o from to) (fair : NoFalse o) where
  -- Every place over the balise, or that ends in at most eleven of the ones after it, begins where
  -- a telegram does.
  straight : (c l p : ℕ) → o.start ≤ c → c + l ≤ o.start + o.len + 11 → c ≤ p → is_place o.buffer c l o.s o.t p ≡ true → line_bit o p % 32 ≡ 0
  straight c l p low high here e = go (leb (p + 40) (o.start + o.len)) refl
    where
      parts : (p + 40 ≤ c + l) × (are_syncs o.s o.t (bits_at o.buffer p 8) (bits_at o.buffer (p + 32) 8) ≡ true) × (accepted (words_at o.buffer p) ≡ true)
      parts = place_parts o.buffer c l o.s o.t p e

      go : (t : Bool) → leb (p + 40) (o.start + o.len) ≡ t → line_bit o p % 32 ≡ 0
      go true q =
          let lies = leb-true (p + 40) (o.start + o.len) q in
          let sent = place_sent o proper (few_flips_few o (clean_few o pass.clean)) p (omega arith) lies
          (parts_place o.buffer o.start o.len o.s o.t p lies parts.1 parts.2) in
          (sent_parts o p sent.at_true).2
      go false q =
          let past = leb-false (p + 40) (o.start + o.len) q in
          let lies = parts.0 in
          fair p (omega arith) past (parts_place o.buffer o.start (o.len + 11) o.s o.t p (omega arith) parts.1 parts.2)

  few : (c l : ℕ) → l ≤ 63 → o.start ≤ c → c + l ≤ o.start + o.len + 11 → length (places o.buffer c l o.s o.t) ≤ 1
  unfolding places line_bit
  few c l short low high =
      one_listed (is_place o.buffer c l o.s o.t) c l
      (λ p q here more there e f.
      let a = straight c l p low high here e in
      let d = straight c l q low high (omega arith) f in
      let lies : q + 40 ≤ c + l = (place_parts o.buffer c l o.s o.t q f).0 in
      omega arith)

  one_never : (c l : ℕ) → l ≤ 63 → o.start ≤ c → c + l ≤ o.start + o.len + 11
      → (a : Judged) → JudgeContact o.buffer c l o.s o.t a → (m : Telegram) (first count : ℕ) → a ≡ Judged.Read m first count → ⊥
  one_never c l short low high a called m first count is =
      let f = pass.from_low in
      let t = pass.to_high in
      let taken : inside o.buffer c l ≡ true = part_taken o.buffer from (to - from) c l pass.taken (omega arith) (omega arith) in
      let by-few = few_judged o.buffer c l o.s o.t proper.pair taken (few c l short low high) in
      not_read (is_marker o.buffer c l) m first count (sym is ∙ judges o.buffer c l o.s o.t a called ∙ ap judged_of by-few)

  pub never_read : (w : Contacts) → AllShort o w → NeverRead o w
  never_read (contact start length then rest) s = (one_never start length s.0 s.1 s.2, never_read rest s.3)
  never_read quiet s = tt
  never_read (refused n) s = tt
