-- For each of the eight sent bits a line whose sync words are equal in that bit, with so many flips
-- in its forty bits that a telegram is handed out where none was sent: why nothing is claimed for
-- other pairs, or with a flip more.
-- Assumes nothing.
use mathlib.Core.Path.{◌≡◌, refl, sym, ap, ap₂, ◌∙◌, subst}
use mathlib.Core.Bool.{Bool, true, false, not}
use mathlib.Core.List.{List, [], ◌∷◌}
use Prim.Native.Nat.{ℕ, zero, suc, ◌-◌, ◌≤◌, ◌<◌}
use native.Mathlib.Omega.{arith}
use denote.Floats.{is_true}
use lib.Dec.{leb, ltb, leb→le}
use lib.ListN.{get_or}
use borrow.Author.Tests.{ltb-true, not-true}
use Rattle.words.specs.Answer.{refuses, pick}
use Rattle.words.specs.Bits.{word}
use Rattle.words.specs.Plain.{is_check, covers, count, even, is_code, onwards, figure}
use Rattle.words.specs.Code.{other, exchanged, read_word}
use Rattle.words.proofs.Ranges.{below}
use Rattle.std.specs.Prelude.{Ok}
use Rattle.telegram.specs.Stretch.{bits_at, inside}
use Rattle.telegram.specs.Sync.{differing, is_good}
use Rattle.telegram.specs.Telegram.{short_word, long_word, telegram}
use Rattle.telegram.specs.Place.{are_syncs, words_at, is_place, from, those, places, first_of, find}
use Rattle.telegram.specs.Says.{says_found}
use Rattle.telegram.specs.declared.Telegram.{Telegram}
use Rattle.telegram.specs.declared.Found.{Found}
use Rattle.telegram.specs.declared.NotFound.{NotFound}
use Rattle.telegram.proofs.Places.{one_offset}
use Rattle.balise_line.specs.Line.{OneBalise, Proper, sent_bit, received_bit, in_stretch, unequal, flip, sum, flips, line_bit, sent_at, flips_at}
use Rattle.balise_line.specs.Forty.{equal_bits, EqualBit}
use Rattle.demands.specs.ByContract.{Find}
use Rattle.demands.specs.Calls.{first}
use Rattle.demands.specs.SyncNoise.{FalsePlace, enough}
use Rattle.demands.proofs.Witness.CallsMet.{lent}
use Rattle.balise_line.proofs.EqualBit.{is_only, only_this}

-- The balise sends zeroes between the sync words s and t. Of the stretch, forty bits that begin at
-- the line bit `phase`, the bytes s, 0, 0, 0 and t are received.
abbrev zeroes : ℕ → ℕ → ℕ → OneBalise
zeroes s t phase =
    record { buffer = s ∷ 0 ∷ 0 ∷ 0 ∷ t ∷ []; start = 0; len = 40; s = s; t = t; x = 0; y = 0; z = 0; telegram = Telegram.Figures 0 0 0; phase = phase }

-- By the equal bit, from the first sent to the eighth: the sync words, and where the stretch
-- begins, one bit or two before a telegram's beginning or after it.
abbrev line : ℕ → OneBalise
line i =
    zeroes (get_or (0x55 ∷ 0x33 ∷ 0xc0 ∷ 0xe0 ∷ 0xf0 ∷ 0xf8 ∷ 0x31 ∷ 0x54 ∷ []) i 0)
    (get_or (0x2a ∷ 0x8c ∷ 0x1f ∷ 0x0f ∷ 0x07 ∷ 0x03 ∷ 0xcc ∷ 0xaa ∷ []) i 0)
    (get_or (31 ∷ 30 ∷ 1 ∷ 1 ∷ 1 ∷ 1 ∷ 34 ∷ 33 ∷ []) i 0)

-- ---- what is computed of the eight lines

bytes : (i : ℕ) → i < 8 → ((line i).s < 256) × ((line i).t < 256)
bytes i l = (
  ltb-true (line i).s 256 (is_true (ltb (line i).s 256) (below (λ i. ltb (line i).s 256) 8 tt i l)),
  ltb-true (line i).t 256 (is_true (ltb (line i).t 256) (below (λ i. ltb (line i).t 256) 8 tt i l)),
)

pair : (i : ℕ) → i < 8 → is_good (line i).s (line i).t ≡ true
unfolding is_good differing
pair i l = is_true (is_good (line i).s (line i).t) (below (λ i. is_good (line i).s (line i).t) 8 tt i l)

equal : (i : ℕ) → i < 8 → EqualBit (line i) (suc i)
unfolding equal_bits those from
equal i l = only_this (suc i) (equal_bits (line i).s (line i).t) (below (λ i. is_only (suc i) (equal_bits (line i).s (line i).t)) 8 tt i l)

flips_are : (i : ℕ) → i < 8 → flips_at (line i) 0 ≤ get_or enough i 0
unfolding flips_at line_bit flips sum flip in_stretch unequal received_bit sent_bit
flips_are i l = leb→le (flips_at (line i) 0) (get_or enough i 0) (below (λ i. leb (flips_at (line i) 0) (get_or enough i 0)) 8 tt i l)

place_is : (i : ℕ) → i < 8 → is_place (line i).buffer 0 40 (line i).s (line i).t 0 ≡ true
unfolding is_place are_syncs words_at bits_at telegram short_word long_word read_word is_code even count covers exchanged other word figure onwards is_check
place_is i l =
    is_true (is_place (line i).buffer 0 40 (line i).s (line i).t 0) (below (λ i. is_place (line i).buffer 0 40 (line i).s (line i).t 0) 8 tt i l)

not_there : (i : ℕ) → i < 8 → sent_at (line i) 0 ≡ false
unfolding sent_at line_bit
not_there i l = not-true (sent_at (line i) 0) (is_true (not (sent_at (line i) 0)) (below (λ i. not (sent_at (line i) 0)) 8 tt i l))

-- ---- the false place

proper : (i : ℕ) → i < 8 → Proper (line i)
unfolding inside telegram short_word read_word is_code even count covers exchanged other word figure onwards is_check
proper i l = let h = bytes i l in record { bytes = (h.0, h.1, omega arith, omega arith, omega arith); pair = pair i l; valid = refl; taken = refl }

found_there : (i : ℕ) → i < 8 → find (line i).buffer 0 40 (line i).s (line i).t ≡ says_found (Ok (record { place = 0; telegram = Telegram.Figures 0 0 0 }))
unfolding find inside words_at bits_at telegram short_word read_word is_code even count covers exchanged other word figure onwards is_check
found_there i l =
    let b = (line i).buffer in
    let s = (line i).s in
    let t = (line i).t in
    ap₂ (λ (g : Bool) (ps : List ℕ). pick g (pick (inside b 0 40) (first_of b ps) (refuses 5)) (refuses 4)) (pair i l)
    (one_offset b s t 0 39 ∙ ap (λ (x : Bool). pick x (0 ∷ places b 1 39 s t) (places b 1 39 s t)) (place_is i l))

handed : (i : ℕ) → i < 8 → Find (line i).buffer 0 40 (line i).s (line i).t (Ok (record { place = 0; telegram = Telegram.Figures 0 0 0 }))
handed i l =
    let b = (line i).buffer in
    (([], tt), lent b, (lent b, (0, (40, ((line i).s, ((line i).t, tt))))), refl, sym (found_there i l))

false_place : (i : ℕ) → i < 8 → FalsePlace (suc i) (get_or enough i 0) (line i)
false_place i l =
    record {
      proper = proper i l;
      equal_bit = equal i l;
      flipped = λ p low high. let here : p ≡ 0 = omega arith in subst (λ (q : ℕ). flips_at (line i) q ≤ get_or enough i 0) (sym here) (flips_are i l);
      place = 0;
      telegram = Telegram.Figures 0 0 0;
      handed_out = first (handed i l);
      not_sent = not_there i l;
    }

pub false_places : (k : ℕ) → 1 ≤ k → k ≤ 8 → (o : OneBalise) × FalsePlace k (get_or enough (k - 1) 0) o
false_places zero low high = absurd (omega arith)
false_places (suc i) low high =
    let same : i ≡ suc i - 1 = omega arith in
    (line i, subst (λ (m : ℕ). FalsePlace (suc i) (get_or enough m 0) (line i)) same (false_place i (omega arith)))
