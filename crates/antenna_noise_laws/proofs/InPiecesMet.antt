-- A balise passed with two flips in forty bits, heard in two pieces and read, with every call in
-- full: the hypotheses are met.
-- Assumes nothing.
use Prim.Native.Nat.{ℕ, ◌+◌, ◌-◌, ◌≤◌, ◌<◌}
use mathlib.Core.Path.{◌≡◌, refl, sym, ap, ◌∙◌}
use mathlib.Core.Bool.{Bool, true, false}
use mathlib.Core.List.{List, [], ◌∷◌}
use native.Mathlib.Omega.{arith}
use borrow.Author.Tests.{lt-ltb, ltb-false}
use lib.Dec.{ltb}
use denote.Ref.{Bor}
use Rattle.words.specs.Answer.{gives, pick}
use Rattle.words.specs.Bits.{word}
use Rattle.words.specs.Plain.{is_check, covers, count, even, is_code, onwards, figure}
use Rattle.words.specs.Code.{other, exchanged, read_word}
use Rattle.telegram.specs.Stretch.{bit_at, inside}
use Rattle.telegram.specs.Sync.{differing, is_good}
use Rattle.telegram.specs.Telegram.{short_word, long_word, telegram}
use Rattle.telegram.specs.Place.{are_syncs, from, those}
use Rattle.telegram.specs.declared.Telegram.{Telegram}
use Rattle.balise_line.specs.Forty.{equal_bits}
use Rattle.contact.specs.History as history
use Rattle.contact.specs.History.{zeroes_of, zeroes, opens, closes}
use Rattle.contact.specs.Judge.{read}
use Rattle.contact.specs.declared.Judged.{Judged}
use Rattle.antenna.specs.declared.Places.{Places}
use Rattle.antenna.specs.declared.Stand.{Stand}
use Rattle.antenna.specs.declared.Ear.{Ear}
use Rattle.antenna.specs.declared.Until.{Until}
use Rattle.antenna.specs.Places.{more, places_after}
use Rattle.antenna.specs.Sound.{begun, with_bit, marker_or, judged}
use Rattle.antenna.specs.Hearing.{hear}
use Rattle.antenna.specs.Line.{Told, told}
use Rattle.antenna.specs.Piece.{first, hear_piece}
use Rattle.noise_laws.specs.Lines.{noisy_line}
use Rattle.noise_laws.proofs.Lines.{noisy_proper, noisy_pass}
use Rattle.recording_laws.specs.Calls.{HearPiece}
use Rattle.recording_laws.specs.Hearing.{Piece, standing, opens as opened, closes as closed, ends, Heard, none, piece, InOne}
use Rattle.recording_laws.proofs.HearingMet.{outside_it, begins}
use Rattle.antenna_noise_laws.specs.InPieces.{WithItsPair, AllTheSent}
use Rattle.antenna_noise_laws.proofs.InPieces.{no_false_reading_in_pieces}

-- The line's two halves, 120 bits each.
abbrev b : List ℕ
b = noisy_line.buffer

abbrev former : Piece
former = record { buffer = b; start = 0; len = 120; s = 0x49; t = 0x96 }

abbrev latter : Piece
latter = record { buffer = b; start = 120; len = 120; s = 0x49; t = 0x96 }

abbrev lent : Bor (List ℕ)
lent = record { ref_ptr = (0, 0); now = b }

-- What stands at bit k of the halves is what stands at bit k of the line.
stands : (what : Piece → ℕ → ℕ) (line : ℕ → ℕ) → ((j : ℕ) → what former j ≡ line j) → ((j : ℕ) → what latter j ≡ line (120 + j))
    → (k : ℕ) → k < 240 → standing what (former ∷ latter ∷ []) k ≡ line k
unfolding standing
stands what line one two k low = go (ltb k 120) refl
  where
    there : (n : ℕ) → n < 120 → ltb n 120 ≡ true
    there n less = lt-ltb n 120 less

    go : (x : Bool) → ltb k 120 ≡ x → pick x (what former k) (pick (ltb (k - 120) 120) (what latter (k - 120)) 0) ≡ line k
    go true e = one k
    go false e =
        let above : 120 ≤ k = ltb-false k 120 e in
        let back : 120 + (k - 120) ≡ k = omega arith in
        ap (λ (y : Bool). pick y (what latter (k - 120)) 0) (there (k - 120) (omega arith)) ∙ two (k - 120) ∙ ap line back

in_one_met : InOne b (former ∷ latter ∷ [])
in_one_met =
    record {
      long = omega arith;
      bits = λ k low. sym (stands (λ p j. bit_at p.buffer (p.start + j)) (bit_at b) (λ j. let here : 0 + j ≡ j = omega arith in ap (bit_at b) here) (λ j. refl) k low);
    }

pair_met : WithItsPair noisy_line (former ∷ latter ∷ [])
pair_met k low = (stands (λ p j. p.s) (λ j. 0x49) (λ j. refl) (λ j. refl) k low, stands (λ p j. p.t) (λ j. 0x96) (λ j. refl) (λ j. refl) k low)

-- The ear at the first bit of a contact, and 91 bits into it, with one place behind it.
abbrev at_first : Ear
at_first =
    record {
      history = 51388;
      stand = Stand.Inside (record { s = 0x49; t = 0x96; length = 1; forty = 0; ones = 0; plain = true; places = Places.NoPlace });
    }

abbrev between_them : Ear
between_them =
    record {
      history = 21186;
      stand = Stand.Inside (record { s = 0x49; t = 0x96; length = 91; forty = 150085522114; ones = 0; plain = false; places = Places.Alike (Telegram.Figures 1 8 5) 0x17 0x8e 0x5a 46 1 });
    }

opening : HearPiece (outside_it 65535) b 0 120 0x49 0x96 (Until.Opened at_first 29)
unfolding hear_piece inside first hear history.after zeroes_of zeroes opens closes begun with_bit more places_after are_syncs
opening = (([], tt), lent, (outside_it 65535, (lent, (0, (120, (0x49, (0x96, tt)))))), refl, refl)

on : HearPiece at_first b 30 90 0x49 0x96 (Until.Over between_them)
unfolding hear_piece inside first hear history.after zeroes_of zeroes opens closes with_bit more places_after are_syncs telegram short_word long_word read_word is_code even count covers exchanged other word figure onwards is_check
on = (([], tt), lent, (at_first, (lent, (30, (90, (0x49, (0x96, tt)))))), refl, refl)

closing : HearPiece between_them b 120 120 0x49 0x96 (Until.Closed (outside_it 12255) 227 198 (Judged.Read (Telegram.Figures 1 8 5) 46 4))
unfolding hear_piece inside first hear history.after zeroes_of zeroes opens closes with_bit more places_after are_syncs judged marker_or is_good differing telegram short_word long_word read_word is_code even count covers exchanged other word figure onwards is_check
closing = (([], tt), lent, (between_them, (lent, (120, (120, (0x49, (0x96, tt)))))), refl, refl)

last : HearPiece (outside_it 12255) b 228 12 0x49 0x96 (Until.Over (outside_it 65535))
unfolding hear_piece inside first hear history.after zeroes_of zeroes opens closes
last = (([], tt), lent, (outside_it 12255, (lent, (228, (12, (0x49, (0x96, tt)))))), refl, refl)

-- The one contact handed out: read from bit 75 on, at four places.
abbrev one_reading : List Told
one_reading = told 29 198 (gives (read (gives (Telegram.Figures 1 8 5)) 75 4)) ∷ []

heard_met : Heard (outside_it 65535) 0 (former ∷ latter ∷ []) one_reading (outside_it 65535)
heard_met = piece (opened opening (ends on)) (piece (closed (Judged.Read (Telegram.Figures 1 8 5) 46 4) closing (ends last)) none)

all_met : AllTheSent noisy_line one_reading
unfolding equal_bits those from
all_met =
    no_false_reading_in_pieces noisy_line noisy_proper 3 refl (former ∷ latter ∷ []) in_one_met pair_met noisy_pass (outside_it 65535) (outside_it 65535) one_reading begins heard_met
