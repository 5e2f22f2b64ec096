-- Lines that meet demand 3's hypothesis, and one with a fourth flip that does not and hands out
-- what was not sent.
-- Assumes nothing.
use mathlib.Core.Path.{◌≡◌, refl, sym, ap, ◌∙◌}
use mathlib.Core.List.{List, [], ◌∷◌}
use Prim.Native.Nat.{ℕ, ◌≤◌}
use native.Mathlib.Omega.{arith}
use Rattle.words.specs.Bits.{word}
use Rattle.words.specs.Plain.{is_check, covers, count, even, is_code, onwards, figure}
use Rattle.words.specs.Code.{other, exchanged, read_word}
use Rattle.std.specs.Prelude.{Result, Ok}
use Rattle.telegram.specs.Stretch.{bits_at, inside}
use Rattle.telegram.specs.Sync.{differing, is_good}
use Rattle.telegram.specs.Telegram.{short_word, long_word, telegram}
use Rattle.telegram.specs.Place.{are_syncs, words_at, is_place, from, those, places, find}
use Rattle.telegram.specs.Says.{says_found, says_surveyed}
use Rattle.telegram.specs.declared.Telegram.{Telegram}
use Rattle.telegram.specs.declared.Found.{Found}
use Rattle.telegram.specs.declared.NotFound.{NotFound}
use Rattle.telegram.specs.declared.Surveyed.{Surveyed}
use Rattle.telegram.specs.declared.NotAlike.{NotAlike}
use Rattle.telegram.specs.Survey.{same_words, all_as, survey}
use Rattle.telegram.proofs.Determined.{found_of, found_back, surveyed_of, surveyed_back}
use Rattle.contact.specs.Judge.{ones_at_end, all_zero, is_marker, judgement, judge}
use Rattle.contact.specs.Says.{says_judged}
use Rattle.contact.specs.declared.Judged.{Judged}
use Rattle.contact.proofs.Determined.{judged_of, judged_back}
use Rattle.words.proofs.Told.{told}
use Rattle.demands.specs.ByContract.{Find, Survey, JudgeContact}
use Rattle.balise_line.specs.Line.{OneBalise, Proper, FewFlips, Clean, sent_bit, received_bit, in_stretch, unequal, flip, sum, flips, sync_flips, data_flips}
use Rattle.demands.specs.Demand3.{ComesOf}
use Rattle.balise_line.proofs.Computed.{quiet_at, few_flips, unflipped, clean}
use Rattle.demands.proofs.Demand3.Handed.{specified, comes_is}

-- Figures 1, 8 and 5 are sent between 72 and 0D hex. The stretch of sixteen bytes begins with Y of
-- a telegram and ends with X of another; of the three whole telegrams between, the first has this
-- word as its X.
abbrev pub line : ℕ → OneBalise
line x =
    record {
      buffer = 0x8e ∷ 0x5a ∷ 0x0d ∷ x ∷ 0x8e ∷ 0x5a ∷ 0x72 ∷ 0x17 ∷ 0x8e ∷ 0x5a ∷ 0x0d ∷ 0x17 ∷ 0x8e ∷ 0x5a ∷ 0x72 ∷ 0x17 ∷ [];
      start = 0;
      len = 128;
      s = 0x72;
      t = 0x0d;
      x = 0x17;
      y = 0x8e;
      z = 0x5a;
      telegram = Telegram.Figures 1 8 5;
      phase = 16;
    }

-- Whatever that word is, the line is a proper one.
line_proper : (x : ℕ) → Proper (line x)
unfolding is_good differing inside telegram short_word read_word is_code even count covers exchanged other word figure onwards is_check
line_proper x = record { bytes = (omega arith, omega arith, omega arith, omega arith, omega arith); pair = refl; valid = refl; taken = refl }

-- The telegram sent, at a place.
abbrev pub one : ℕ → Result Found NotFound
one p = Ok (record { place = p; telegram = Telegram.Figures 1 8 5 })

-- ---- nothing flips

-- The clean line meets its hypothesis,
clean_met : Clean (line 0x17)
unfolding unflipped flip in_stretch unequal received_bit sent_bit
clean_met = clean (line 0x17) 144 (omega arith) tt

-- and all three telegrams are handed out.
clean_comes : (w : List (Result Found NotFound)) → ComesOf (line 0x17) w → w ≡ one 16 ∷ one 48 ∷ one 80 ∷ []
unfolding places those from is_place are_syncs words_at bits_at telegram short_word long_word read_word is_code even count covers exchanged other word figure onwards is_check
clean_comes w c = comes_is (line 0x17) (line_proper 0x17) w c

-- ---- three flips in X, 10 for 17 hex

-- The line meets the hypothesis of demand 3,
three_flips_few : FewFlips (line 0x10)
unfolding quiet_at sync_flips data_flips flips sum flip in_stretch unequal received_bit sent_bit
three_flips_few = few_flips (line 0x10) 5 (omega arith) tt

-- the two telegrams after the flipped one are handed out,
three_flips_comes : (w : List (Result Found NotFound)) → ComesOf (line 0x10) w → w ≡ one 48 ∷ one 80 ∷ []
unfolding places those from is_place are_syncs words_at bits_at telegram short_word long_word read_word is_code even count covers exchanged other word figure onwards is_check
three_flips_comes w c = comes_is (line 0x10) (line_proper 0x10) w c

-- and `judge` and `survey` read what was sent, with the first of these two places.
three_flips_judged : (r : Judged) → JudgeContact (line 0x10).buffer 0 128 0x72 0x0d r → r ≡ Judged.Read (Telegram.Figures 1 8 5) 48 2
unfolding judge judgement is_marker ones_at_end all_zero survey all_as same_words is_good differing inside places those from is_place are_syncs words_at bits_at telegram short_word long_word read_word is_code even count covers exchanged other word figure onwards is_check
three_flips_judged r c =
    told says_judged judged_of judged_back r (Judged.Read (Telegram.Figures 1 8 5) 48 2) (c.4 ∙ ap (λ (v : List ℕ). judge v 0 128 0x72 0x0d) c.3) refl

three_flips_surveyed : (r : Result Surveyed NotAlike) → Survey (line 0x10).buffer 0 128 0x72 0x0d r → r ≡ Ok (record { telegram = Telegram.Figures 1 8 5; first = 48; count = 2 })
unfolding survey all_as same_words is_good differing inside places those from is_place are_syncs words_at bits_at telegram short_word long_word read_word is_code even count covers exchanged other word figure onwards is_check
three_flips_surveyed r c =
    told says_surveyed surveyed_of surveyed_back r (Ok (record { telegram = Telegram.Figures 1 8 5; first = 48; count = 2 })) (c.4 ∙ ap (λ (v : List ℕ). survey v 0 128 0x72 0x0d) c.3) refl

-- ---- four flips in X, 99 for 17 hex, which make a nine of the one

-- The line does not meet the hypothesis: telegram 1 has four flipped data bits.
four_flips_not_few : FewFlips (line 0x99) → ⊥
unfolding data_flips flips sum flip in_stretch unequal received_bit sent_bit
four_flips_not_few h = let f : 4 ≤ 3 = h.few 1 in omega arith

-- And what was not sent is handed out, at a true place.
four_flips_found : (r : Result Found NotFound) → Find (line 0x99).buffer 0 128 0x72 0x0d r → r ≡ Ok (record { place = 16; telegram = Telegram.Figures 9 8 5 })
unfolding find is_good differing inside places those from is_place are_syncs words_at bits_at telegram short_word long_word read_word is_code even count covers exchanged other word figure onwards is_check
four_flips_found r k = told says_found found_of found_back r (Ok (record { place = 16; telegram = Telegram.Figures 9 8 5 })) (sym (specified (line 0x99).buffer 0 128 0x72 0x0d r k)) refl
