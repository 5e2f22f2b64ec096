-- Calls of `read_short` and `find` that the contracts allow, made in full: hypotheses on calls are
-- met.
-- Assumes nothing.
use denote.MutBor.{MutBor}
use mathlib.Core.Path.{refl}
use mathlib.Core.List.{List, [], ◌∷◌}
use Prim.Native.Nat.{ℕ}
use denote.Ref.{Bor}
use Rattle.words.specs.Bits.{word}
use Rattle.words.specs.Plain.{is_check, covers, count, even, is_code, onwards, figure}
use Rattle.words.specs.Code.{other, exchanged, read_word}
use Rattle.std.specs.Prelude.{Ok, Err}
use Rattle.words.specs.declared.NotCode.{NotCode}
use Rattle.telegram.specs.Stretch.{bits_at, inside}
use Rattle.telegram.specs.Sync.{differing, is_good}
use Rattle.telegram.specs.Telegram.{short_word, long_word, telegram}
use Rattle.telegram.specs.Place.{are_syncs, words_at, is_place, from, those, places, find}
use Rattle.telegram.specs.declared.Telegram.{Telegram}
use Rattle.telegram.specs.declared.Found.{Found}
use Rattle.telegram.specs.declared.NotFound.{NotFound}
use Rattle.demands.specs.ByContract.{ReadShort, Find}
use Rattle.demands.specs.Calls.{HandedOut, first, later, further, ends}
use Rattle.demands.specs.Demand3.{ComesOf}
use Rattle.demands.proofs.Witness.Witnesses.{line, one}

-- The noise law: a one was sent, 8E hex flipped, which is the code word of eight, and a nine is
-- read: one and eight, added without carry.
one_sent : ReadShort 0x17 (Ok 1) × ReadShort 0x99 (Ok 9)
unfolding read_word is_code even count covers figure onwards is_check exchanged other word
one_sent = (((0x17, tt), refl), ((0x99, tt), refl))

-- A lent buffer with these bytes.
abbrev pub lent : List ℕ → Bor (List ℕ)
lent bytes = record { ref_ptr = (0, 0); now = bytes }

-- The same, lent to be written.
abbrev pub lent_out : List ℕ → MutBor (List ℕ)
lent_out bytes = record { ref_ptr = (0, 0); ghost_name = 0; now = bytes }

-- The line with three flips, asked until 6: from bit 0, from bit 49 and from bit 81.
first_call : Find (line 0x10).buffer 0 128 0x72 0x0d (one 48)
unfolding find is_good differing inside places those from is_place are_syncs words_at bits_at telegram short_word long_word read_word is_code even count covers exchanged other word figure onwards is_check
first_call = (([], tt), lent (line 0x10).buffer, (lent (line 0x10).buffer, (0, (128, (0x72, (0x0d, tt))))), refl, refl)

second_call : Find (line 0x10).buffer 49 79 0x72 0x0d (one 80)
unfolding find is_good differing inside places those from is_place are_syncs words_at bits_at telegram short_word long_word read_word is_code even count covers exchanged other word figure onwards is_check
second_call = (([], tt), lent (line 0x10).buffer, (lent (line 0x10).buffer, (49, (79, (0x72, (0x0d, tt))))), refl, refl)

third_call : Find (line 0x10).buffer 81 47 0x72 0x0d (Err NotFound.NoPlace)
unfolding find is_good differing inside places those from is_place are_syncs words_at bits_at telegram short_word long_word read_word is_code even count covers exchanged other word figure onwards is_check
third_call = (([], tt), lent (line 0x10).buffer, (lent (line 0x10).buffer, (81, (47, (0x72, (0x0d, tt))))), refl, refl)

-- So this comes, and the second is handed out to one who asks twice.
comes_met : ComesOf (line 0x10) (one 48 ∷ one 80 ∷ [])
comes_met = further first_call (further second_call (ends third_call))

handed_met : HandedOut (line 0x10).buffer 0x72 0x0d 0 128 80 (Telegram.Figures 1 8 5)
handed_met = later 48 (Telegram.Figures 1 8 5) first_call (first second_call)
