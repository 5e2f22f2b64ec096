-- A marker of sixty zeroes and the ones after it, heard in two pieces, with every call in full: the
-- hypotheses are met.
-- Assumes nothing.
use Prim.Native.Nat.{ℕ, ◌+◌, ◌-◌, ◌≤◌, ◌<◌}
use mathlib.Core.Path.{◌≡◌, refl, sym, ap, ◌∙◌}
use mathlib.Core.Bool.{Bool, true, false}
use mathlib.Core.List.{List, [], ◌∷◌}
use native.Mathlib.Omega.{arith}
use borrow.Author.Tests.{lt-ltb, ltb-false}
use lib.Dec.{ltb}
use denote.Ref.{Bor}
use Rattle.words.specs.Answer.{gives, pick}
use Rattle.telegram.specs.Stretch.{bit_at, bits_at, inside}
use Rattle.telegram.specs.Sync.{differing, is_good}
use Rattle.telegram.specs.Place.{are_syncs, words_at, is_place, from, those, places}
use Rattle.contact.specs.History as history
use Rattle.contact.specs.History.{zeroes_of, zeroes, opens, closes}
use Rattle.contact.specs.Contacts.{contact, quiet, contacts, contacts_from, next_contact, from_start, begin}
use Rattle.contact.specs.Judge as judging
use Rattle.contact.specs.Judge.{marker, ones_at_end, all_zero, is_marker, judgement}
use Rattle.contact.specs.declared.Search.{Search}
use Rattle.std.specs.Prelude.{Some, None, Ok}
use Rattle.contact.specs.declared.Judged.{Judged}
use Rattle.contact.proofs.Law.{further, ends as at_the_end}
use Rattle.contact_laws.specs.Calls.{Listened, JudgeContact}
use Rattle.antenna.specs.declared.Places.{Places}
use Rattle.antenna.specs.declared.Stand.{Stand}
use Rattle.antenna.specs.declared.Ear.{Ear}
use Rattle.antenna.specs.declared.Until.{Until}
use Rattle.antenna.specs.Places.{more, places_after}
use Rattle.antenna.specs.Sound.{begun, with_bit, marker_or, judged}
use Rattle.antenna.specs.Hearing as hearing
use Rattle.antenna.specs.Hearing.{hear}
use Rattle.antenna.specs.Line.{told}
use Rattle.antenna.specs.Piece.{first, hear_piece}
use Rattle.recording_laws.specs.Calls.{FreshEar, HearPiece}
use Rattle.recording_laws.specs.Hearing.{Piece, standing, line_s, line_t, opens as opened, closes as closed, ends, Heard, none, piece, Judges, each, no_more, InOne}

-- The line in one buffer, and its two pieces: fifty bits, and the 38 after them.
abbrev b : List ℕ
b = 0 ∷ 0 ∷ 0 ∷ 0 ∷ 0 ∷ 0 ∷ 0 ∷ 0x0f ∷ 0xff ∷ 0xff ∷ 0xff ∷ []

abbrev one : Piece
one = record { buffer = b; start = 0; len = 50; s = 0x72; t = 0x0d }

abbrev other : Piece
other = record { buffer = b; start = 50; len = 38; s = 0x72; t = 0x0d }

abbrev lent : Bor (List ℕ)
lent = record { ref_ptr = (0, 0); now = b }

-- The ear inside the contact after so many bits of it, all zeroes.
abbrev inside_it : ℕ → ℕ → Ear
inside_it latest n =
    record {
      history = latest;
      stand = Stand.Inside (record { s = 0x72; t = 0x0d; length = n; forty = 0; ones = 0; plain = true; places = Places.NoPlace });
    }

-- The ear outside a contact.
abbrev pub outside_it : ℕ → Ear
outside_it latest = record { history = latest; stand = Stand.Outside }

-- A fresh ear heard ones.
pub begins : FreshEar (outside_it 65535)
unfolding hearing.fresh
begins = (tt, refl)

opening : HearPiece (outside_it 65535) b 0 50 0x72 0x0d (Until.Opened (inside_it 65280 1) 7)
unfolding hear_piece inside first hear history.after zeroes_of zeroes opens closes begun with_bit more places_after are_syncs
opening = (([], tt), lent, (outside_it 65535, (lent, (0, (50, (0x72, (0x0d, tt)))))), refl, refl)

on : HearPiece (inside_it 65280 1) b 8 42 0x72 0x0d (Until.Over (inside_it 0 43))
unfolding hear_piece inside first hear history.after zeroes_of zeroes opens closes begun with_bit more places_after are_syncs
on = (([], tt), lent, (inside_it 65280 1, (lent, (8, (42, (0x72, (0x0d, tt)))))), refl, refl)

closing : HearPiece (inside_it 0 43) b 50 38 0x72 0x0d (Until.Closed (outside_it 4095) 71 64 Judged.Marker)
unfolding hear_piece inside first hear history.after zeroes_of zeroes opens closes begun with_bit more places_after are_syncs judged marker_or is_good differing
closing = (([], tt), lent, (inside_it 0 43, (lent, (50, (38, (0x72, (0x0d, tt)))))), refl, refl)

last : HearPiece (outside_it 4095) b 72 16 0x72 0x0d (Until.Over (outside_it 65535))
unfolding hear_piece inside first hear history.after zeroes_of zeroes opens closes
last = (([], tt), lent, (outside_it 4095, (lent, (72, (16, (0x72, (0x0d, tt)))))), refl, refl)

pub heard_met : Heard (outside_it 65535) 0 (one ∷ other ∷ []) (told 7 64 (gives marker) ∷ []) (outside_it 65535)
heard_met = piece (opened opening (ends on)) (piece (closed Judged.Marker closing (ends last)) none)

-- The buffer holds the line of the pieces.
bit_there : (k : ℕ) → k < 88 → (x : Bool) → ltb k 50 ≡ x → bit_at b k ≡ pick x (bit_at b (0 + k)) (pick (ltb (k - 50) 38) (bit_at b (50 + (k - 50))) 0)
bit_there k low true e = let same : k ≡ 0 + k = omega arith in ap (bit_at b) same
bit_there k low false e =
    let above : 50 ≤ k = ltb-false k 50 e in
    let same : k ≡ 50 + (k - 50) = omega arith in
    let within : k - 50 < 38 = omega arith in
    ap (bit_at b) same ∙ sym (ap (λ (y : Bool). pick y (bit_at b (50 + (k - 50))) 0) (there (k - 50) within))
  where
    there : (n : ℕ) → n < 38 → ltb n 38 ≡ true
    there n low = lt-ltb n 38 low

pub in_one_met : InOne b (one ∷ other ∷ [])
unfolding standing
in_one_met = record { long = omega arith; bits = λ k low. bit_there k low (ltb k 50) refl }

-- `begin`, `next_contact` and `judge` over the whole buffer.
abbrev after_it : Search
after_it = record { next = 72; left = 16; history = 4095 }

pub listened_met : Listened b 0 88 (contact 7 64 after_it quiet)
unfolding begin from_start inside next_contact contacts_from contacts history.after zeroes_of zeroes opens closes
listened_met =
    record {
      search = record { next = 0; left = 88; history = 65535 };
      begins = record { κs = ([], tt); given = (lent, (0, (88, tt))); left = (lent, (0, (88, tt))); buffer = refl; first = refl; bits = refl; kept = refl };
      comes =
          further (record { κs = ([], tt); given = (record { next = 0; left = 88; history = 65535 }, (lent, tt)); answer = Ok (Some (record { start = 7; length = 64; then = after_it })); left = (record { next = 0; left = 88; history = 65535 }, (lent, tt)); search = refl; buffer = refl; kept = refl; says = refl })
          (at_the_end (record { κs = ([], tt); given = (after_it, (lent, tt)); answer = Ok None; left = (after_it, (lent, tt)); search = refl; buffer = refl; kept = refl; says = refl }));
    }

judge_met : JudgeContact b 7 64 0x72 0x0d Judged.Marker
unfolding judging.judge judgement places those from is_place are_syncs words_at bits_at is_good differing inside is_marker ones_at_end all_zero
judge_met = (([], tt), lent, (lent, (7, (64, (0x72, (0x0d, tt))))), refl, refl)

pub judges_met : Judges b (line_s (one ∷ other ∷ [])) (line_t (one ∷ other ∷ [])) (contact 7 64 after_it quiet) (told 7 64 (gives marker) ∷ [])
unfolding standing
judges_met = each Judged.Marker judge_met no_more
