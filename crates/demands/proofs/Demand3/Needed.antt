-- Conditions of demand 3 that cannot be spared: for "together with the next", for the sync words
-- and for the pair a line that breaks it, of which what was not sent is handed out, or would be if
-- refusal 4 did not come first. (That a telegram of four flips can be another telegram is in
-- Witnesses.)
-- Assumes nothing.
use mathlib.Core.Path.{◌≡◌, refl, sym}
use mathlib.Core.Bool.{false}
use mathlib.Core.List.{List, [], ◌∷◌}
use Prim.Native.Nat.{ℕ}
use Rattle.words.specs.Answer.{gives}
use Rattle.words.specs.Bits.{word}
use Rattle.words.specs.Plain.{is_check, covers, count, even, is_code, onwards, figure}
use Rattle.words.specs.Code.{other, exchanged, read_word}
use Rattle.std.specs.Prelude.{Result}
use Rattle.telegram.specs.Stretch.{bits_at, inside}
use Rattle.telegram.specs.Sync.{differing, is_good}
use Rattle.telegram.specs.Telegram.{short_word, long_word, telegram}
use Rattle.telegram.specs.Place.{are_syncs, words_at, is_place, from, those, places, at, find}
use Rattle.telegram.specs.Says.{says_found}
use Rattle.telegram.specs.declared.Telegram.{Telegram}
use Rattle.telegram.specs.declared.Found.{Found}
use Rattle.telegram.specs.declared.NotFound.{NotFound}
use Rattle.demands.specs.ByContract.{Find}
use Rattle.balise_line.specs.Line.{OneBalise, sent_bit, received_bit, in_stretch, unequal, flip, sum, flips, sync_flips, data_flips, line_bit, sent_at}
use Rattle.demands.proofs.Demand3.Handed.{specified}

-- A stretch of forty bits, the whole buffer, that begins at the line bit `phase`.
abbrev forty : List ℕ → ℕ → ℕ → ℕ → ℕ → ℕ → Telegram → ℕ → OneBalise
forty buffer s t x y z sent phase =
    record { buffer = buffer; start = 0; len = 40; s = s; t = t; x = x; y = y; z = z; telegram = sent; phase = phase }

-- "Together with the next": two flips in each of two telegrams, none in a sync word. The balise
-- sends 5, 13 and 7 between 08 and E7 hex; five bits late 5, 8 and 3 are handed out.
abbrev apart : OneBalise
apart = forty (0x08 ∷ 0x5a ∷ 0x8e ∷ 0x3c ∷ 0xe7 ∷ []) 0x08 0xe7 0x5a 0xd4 0x71 (Telegram.Figures 5 13 7) 5

apart_sent : telegram apart.x apart.y apart.z ≡ gives apart.telegram
unfolding telegram short_word read_word is_code even count covers exchanged other word figure onwards is_check
apart_sent = refl

apart_flips : (sync_flips apart 0 ≡ 0) × (data_flips apart 0 ≡ 2) × (sync_flips apart 1 ≡ 0) × (data_flips apart 1 ≡ 2)
unfolding sync_flips data_flips flips sum flip in_stretch unequal received_bit sent_bit
apart_flips = (refl, refl, refl, refl)

apart_found : (r : Result Found NotFound) → Find apart.buffer 0 40 apart.s apart.t r → says_found r ≡ gives (at 0 (gives (Telegram.Figures 5 8 3)))
unfolding find is_good differing inside places those from is_place are_syncs words_at bits_at telegram short_word long_word read_word is_code even count covers exchanged other word figure onwards is_check
apart_found r k = sym (specified apart.buffer apart.start apart.len apart.s apart.t r k)

apart_false : sent_at apart 0 ≡ false
unfolding sent_at line_bit
apart_false = refl

-- "No sync bit flips": one flip in a sync word and one in X. The balise sends zeroes between 00 and
-- 7F hex; a telegram is handed out one bit late, where none was sent.
abbrev sync_flip : OneBalise
sync_flip = forty (0 ∷ 0 ∷ 0 ∷ 0 ∷ 0x7f ∷ []) 0x00 0x7f 0 0 0 (Telegram.Figures 0 0 0) 1

sync_flip_sent : telegram sync_flip.x sync_flip.y sync_flip.z ≡ gives sync_flip.telegram
unfolding telegram short_word read_word is_code even count covers exchanged other word figure onwards is_check
sync_flip_sent = refl

sync_flip_flips : (sync_flips sync_flip 0 ≡ 0) × (data_flips sync_flip 0 ≡ 0) × (sync_flips sync_flip 1 ≡ 1) × (data_flips sync_flip 1 ≡ 1)
unfolding sync_flips data_flips flips sum flip in_stretch unequal received_bit sent_bit
sync_flip_flips = (refl, refl, refl, refl)

sync_flip_found : (r : Result Found NotFound) → Find sync_flip.buffer 0 40 sync_flip.s sync_flip.t r → says_found r ≡ gives (at 0 (gives (Telegram.Figures 0 0 0)))
unfolding find is_good differing inside places those from is_place are_syncs words_at bits_at telegram short_word long_word read_word is_code even count covers exchanged other word figure onwards is_check
sync_flip_found r k = sym (specified sync_flip.buffer sync_flip.start sync_flip.len sync_flip.s sync_flip.t r k)

sync_flip_false : sent_at sync_flip 0 ≡ false
unfolding sent_at line_bit
sync_flip_false = refl

-- "Seven of their eight bits" (refusal 4): 6D and B6 hex differ in six. Two flips in one telegram,
-- none in a sync word: of 10, 7 and 13 the place three bits late would read 2, 8 and 10.
abbrev six : OneBalise
six = forty (0x6d ∷ 0x2b ∷ 0x8e ∷ 0xa5 ∷ 0xb6 ∷ []) 0x6d 0xb6 0xa5 0x71 0xd4 (Telegram.Figures 10 7 13) 3

six_sent : telegram six.x six.y six.z ≡ gives six.telegram
unfolding telegram short_word read_word is_code even count covers exchanged other word figure onwards is_check
six_sent = refl

six_flips : (sync_flips six 0 ≡ 0) × (data_flips six 0 ≡ 0) × (sync_flips six 1 ≡ 0) × (data_flips six 1 ≡ 2)
unfolding sync_flips data_flips flips sum flip in_stretch unequal received_bit sent_bit
six_flips = (refl, refl, refl, refl)

six_place : (places six.buffer 0 40 six.s six.t ≡ 0 ∷ []) × (words_at six.buffer 0 ≡ gives (Telegram.Figures 2 8 10))
unfolding places those from is_place are_syncs words_at bits_at telegram short_word long_word read_word is_code even count covers exchanged other word figure onwards is_check
six_place = (refl, refl)
