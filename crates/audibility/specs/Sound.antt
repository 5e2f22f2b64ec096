-- Whether a telegram can be heard with a sync pair: by the zeroes of its line
-- (`contact_laws/specs/Zeroes.antt`).
-- Assumes nothing.
use Rattle.std.specs.Prelude.{ℕ, zero, suc, Bool, false, ◌||◌, [], ltb}
use Rattle.words.specs.Answer.{Outcome, gives, refuses, then, pick}
use Rattle.telegram.specs.Sync.{is_good}
use Rattle.telegram.specs.declared.Telegram.{Telegram}
use Rattle.balise_line.specs.Line.{OneBalise}
use Rattle.telegram.specs.Spelling.{Words, asked, spell}
use Rattle.contact_laws.specs.Zeroes.{zeroes_sent, fewest}

-- Whether a test holds at some number below n.
unfoldable pub some : (ℕ → Bool) → ℕ → Bool
some test zero = false
some test (suc n) = test n || some test n

-- Whether some sixteen bits in a row of a balise's line have fewer than five zeroes. The line
-- repeats itself after 64 bits.
unfoldable pub is_broken : OneBalise → Bool
is_broken o = some (λ j. ltb (zeroes_sent o j 16) fewest) 64

-- The balise that sends these words with the sync words s and t, over no stretch: only its line is
-- looked at.
abbrev pub sending : ℕ → ℕ → Words → OneBalise
sending s t w =
    record { buffer = []; start = 0; len = 0; s = s; t = t; x = w.x; y = w.y; z = w.z; telegram = Telegram.Figures 0 0 0; phase = 0 }

-- What a balise can be.
pub data Heard : Type 0 where
  audible : Heard
  broken : Heard

-- The words with this pair: refusal 4, or whether they can be heard.
unfoldable pub sound_with : ℕ → ℕ → Words → Outcome Heard
sound_with s t w = pick (is_good s t) (gives (pick (is_broken (sending s t w)) broken audible)) (refuses 4)

-- What is asked for: 2, 3, 4 in this order, or whether it can be heard.
unfoldable pub sound_of : ℕ → ℕ → ℕ → ℕ → ℕ → Outcome Heard
sound_of x y z s t = then (spell (asked x y z)) (sound_with s t)
