-- Noise on the sync words: a line that meets the hypothesis and hands out its unflipped telegrams,
-- and one that meets it only from the true places on, of which a false place comes.
-- Assumes nothing.
use mathlib.Core.Path.{◌≡◌, refl, ap, ◌∙◌, subst}
use mathlib.Core.Bool.{Bool, true, false}
use mathlib.Core.List.{List, [], ◌∷◌}
use Prim.Native.Nat.{ℕ, ◌+◌, ◌≤◌}
use native.Mathlib.Omega.{arith}
use lib.Dec.{T, leb, leb→le}
use Rattle.words.specs.Answer.{pick}
use Rattle.words.specs.Bits.{word}
use Rattle.words.specs.Plain.{is_check, covers, count, even, is_code, onwards, figure, among}
use Rattle.words.specs.Code.{other, exchanged, read_word}
use Rattle.words.proofs.Ranges.{below}
use Rattle.words.proofs.Told.{told}
use Rattle.std.specs.Prelude.{Result, Ok, Err}
use Rattle.telegram.specs.Stretch.{bits_at, inside}
use Rattle.telegram.specs.Sync.{differing, is_good}
use Rattle.telegram.specs.Telegram.{short_word, long_word, telegram}
use Rattle.telegram.specs.Place.{are_syncs, words_at, is_place, from, those, places, find}
use Rattle.telegram.specs.Says.{says_found}
use Rattle.telegram.specs.declared.Telegram.{Telegram}
use Rattle.telegram.specs.declared.Found.{Found}
use Rattle.telegram.specs.declared.NotFound.{NotFound}
use Rattle.telegram.specs.Survey.{same_words, all_as, survey}
use Rattle.contact.specs.Judge.{ones_at_end, all_zero, is_marker, judgement, judge}
use Rattle.contact.specs.Says.{says_judged}
use Rattle.contact.specs.declared.Judged.{Judged}
use Rattle.contact.proofs.Determined.{judged_of, judged_back}
use Rattle.balise_line.specs.Line.{OneBalise, Proper, FewFlips, sent_bit, received_bit, in_stretch, unequal, flip, sum, flips, sync_flips, line_bit, sent_at, flips_at}
use Rattle.balise_line.specs.Forty.{equal_bits, EqualBit, AtMostInForty}
use Rattle.balise_line.proofs.Sent.{sent_parts}
use Rattle.demands.specs.ByContract.{Find, JudgeContact}
use Rattle.demands.specs.Calls.{further, ends}
use Rattle.demands.specs.Demand3.{OnlyTheSent, ComesOf}
use Rattle.demands.specs.SyncNoise.{middle}
use Rattle.demands.proofs.Demand3.Handed.{comes_is}
use Rattle.demands.proofs.Witness.CallsMet.{lent}
use Rattle.demands.proofs.Beside.SyncNoise.{sync_noise}

-- ---- two flips in a sync word

-- Figures 1, 8 and 5 are sent between 35 and DA hex, whose fourth sent bits are equal. The stretch
-- of twenty bytes begins with Y of a telegram and ends with X of another. Of its four whole
-- telegrams the first two share a sync word that arrives as 36 for 35, two flips; and the last X
-- arrives as 14 for 17, two flips more.
abbrev noisy : OneBalise
noisy =
    record {
      buffer = 0x8e ∷ 0x5a ∷ 0xda ∷ 0x17 ∷ 0x8e ∷ 0x5a ∷ 0x36 ∷ 0x17 ∷ 0x8e ∷ 0x5a ∷ 0xda ∷ 0x17 ∷ 0x8e ∷ 0x5a ∷ 0x35 ∷ 0x17 ∷ 0x8e ∷ 0x5a ∷ 0xda ∷ 0x14 ∷ [];
      start = 0;
      len = 160;
      s = 0x35;
      t = 0xda;
      x = 0x17;
      y = 0x8e;
      z = 0x5a;
      telegram = Telegram.Figures 1 8 5;
      phase = 16;
    }

-- It meets what is asked: the line is a proper one, its equal bit is in the middle, and no forty
-- bits in a row hold more than two flips.
noisy_proper : Proper noisy
unfolding is_good differing inside telegram short_word read_word is_code even count covers exchanged other word figure onwards is_check
noisy_proper = record { bytes = (omega arith, omega arith, omega arith, omega arith, omega arith); pair = refl; valid = refl; taken = refl }

noisy_equal : EqualBit noisy 4 × (among 4 middle ≡ true)
unfolding equal_bits those from
noisy_equal = (refl, refl)

noisy_few : AtMostInForty 2 noisy
unfolding flips_at line_bit flips sum flip in_stretch unequal received_bit sent_bit
noisy_few p low high = leb→le (flips_at noisy p) 2 (below (λ p. leb (flips_at noisy p) 2) 121 tt p (omega arith))

-- So all that follows from it holds of this line.
noisy_only : OnlyTheSent noisy
noisy_only = sync_noise.stretch noisy noisy_proper 4 noisy_equal.1 noisy_equal.0 noisy_few

-- It does not meet demand 3's: the sync word of telegram 2 has two flips.
noisy_not_quiet : FewFlips noisy → ⊥
unfolding sync_flips flips sum flip in_stretch unequal received_bit sent_bit
noisy_not_quiet h = let f : ◌≡◌ {A = ℕ} 2 0 = h.syncs 2 in omega arith

-- The two unflipped telegrams are handed out,
abbrev one : ℕ → Result Found NotFound
one p = Ok (record { place = p; telegram = Telegram.Figures 1 8 5 })

noisy_comes : (w : List (Result Found NotFound)) → ComesOf noisy w → w ≡ one 80 ∷ one 112 ∷ []
unfolding places those from is_place are_syncs words_at bits_at telegram short_word long_word read_word is_code even count covers exchanged other word figure onwards is_check
noisy_comes w c = comes_is noisy noisy_proper w c

-- asked for from bit 0, from bit 81 and from bit 113;
first_call : Find noisy.buffer 0 160 0x35 0xda (one 80)
unfolding find is_good differing inside places those from is_place are_syncs words_at bits_at telegram short_word long_word read_word is_code even count covers exchanged other word figure onwards is_check
first_call = (([], tt), lent noisy.buffer, (lent noisy.buffer, (0, (160, (0x35, (0xda, tt))))), refl, refl)

second_call : Find noisy.buffer 81 79 0x35 0xda (one 112)
unfolding find is_good differing inside places those from is_place are_syncs words_at bits_at telegram short_word long_word read_word is_code even count covers exchanged other word figure onwards is_check
second_call = (([], tt), lent noisy.buffer, (lent noisy.buffer, (81, (79, (0x35, (0xda, tt))))), refl, refl)

third_call : Find noisy.buffer 113 47 0x35 0xda (Err NotFound.NoPlace)
unfolding find is_good differing inside places those from is_place are_syncs words_at bits_at telegram short_word long_word read_word is_code even count covers exchanged other word figure onwards is_check
third_call = (([], tt), lent noisy.buffer, (lent noisy.buffer, (113, (47, (0x35, (0xda, tt))))), refl, refl)

comes_met : ComesOf noisy (one 80 ∷ one 112 ∷ [])
comes_met = further first_call (further second_call (ends third_call))

-- and `judge` reads them.
noisy_judged : (r : Judged) → JudgeContact noisy.buffer 0 160 0x35 0xda r → r ≡ Judged.Read (Telegram.Figures 1 8 5) 80 2
unfolding judge judgement is_marker ones_at_end all_zero survey all_as same_words is_good differing inside places those from is_place are_syncs words_at bits_at telegram short_word long_word read_word is_code even count covers exchanged other word figure onwards is_check
noisy_judged r c =
    told says_judged judged_of judged_back r (Judged.Read (Telegram.Figures 1 8 5) 80 2) (c.4 ∙ ap (λ (v : List ℕ). judge v 0 160 0x35 0xda) c.3) refl

-- ---- windows from the true places alone

-- Zeroes are sent between C0 and 1F hex, whose third sent bits are equal. The stretch of nine bytes
-- has two whole telegrams, and a flip in each of the first two sync words and in the second X.
abbrev between : OneBalise
between =
    record {
      buffer = 0xe0 ∷ 0 ∷ 0 ∷ 0 ∷ 0x0f ∷ 0x80 ∷ 0 ∷ 0 ∷ 0xc0 ∷ [];
      start = 0;
      len = 72;
      s = 0xc0;
      t = 0x1f;
      x = 0;
      y = 0;
      z = 0;
      telegram = Telegram.Figures 0 0 0;
      phase = 0;
    }

-- whether the forty bits from bit p on hold at most two flips, if a telegram begins there
true_at : ℕ → Bool
true_at p = pick (sent_at between p) (leb (flips_at between p) 2) true

-- From a true place on no forty bits hold more than two flips,
true_windows : (p : ℕ) → sent_at between p ≡ true → flips_at between p ≤ 2
unfolding true_at sent_at flips_at line_bit flips sum flip in_stretch unequal received_bit sent_bit
true_windows p sent =
    let high : p + 40 ≤ 72 = (sent_parts between p sent).1 in
    leb→le (flips_at between p) 2 (subst (λ (t : Bool). T (pick t (leb (flips_at between p) 2) true)) sent (below true_at 33 tt p (omega arith)))

-- but the forty from bit 1 on hold three, and there, where none was sent, a telegram is found.
between_false : (flips_at between 1 ≡ 3) × (sent_at between 1 ≡ false) × (find between.buffer 0 72 0xc0 0x1f ≡ says_found (Ok (record { place = 1; telegram = Telegram.Figures 0 0 0 })))
unfolding sent_at flips_at line_bit flips sum flip in_stretch unequal received_bit sent_bit find is_good differing inside places those from is_place are_syncs words_at bits_at telegram short_word long_word read_word is_code even count covers exchanged other word figure onwards is_check
between_false = (refl, refl, refl)
