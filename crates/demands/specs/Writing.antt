-- Document 02, M-100: "Reading these bits as one contact gives exactly n places, the first at 0,
-- and the same figures." The bits are those that `write` wrote, whatever stands in the buffer after
-- them. That it is so: proofs/Beside/Writing.antt.
-- Assumes nothing.
use Rattle.std.specs.Prelude.{ℕ, ◌+◌, ◌*◌, ◌<◌, ◌≡◌, List, map, Result, Ok}
use Rattle.telegram.specs.Place.{from}
use Rattle.telegram.specs.declared.Telegram.{Telegram}
use Rattle.telegram.specs.declared.Found.{Found}
use Rattle.telegram.specs.declared.NotFound.{NotFound}
use Rattle.contact.specs.declared.Judged.{Judged}
use Rattle.telegram.specs.Spelling.{asked}
use Rattle.balise_writer.specs.declared.Written.{Written}
use Rattle.demands.specs.ByContract.{Write, JudgeContact}
use Rattle.demands.specs.Calls.{Comes}

-- A call of `write` that its contract allows, and that was not refused: n telegrams of the figures
-- x, y, z with the sync words s and t.
pub record OneWriting : Type 0 where
  pub x : ℕ
  pub y : ℕ
  pub z : ℕ
  pub s : ℕ
  pub t : ℕ
  pub n : ℕ
  -- the lent buffer before and after, and the number of bytes answered
  pub before : List ℕ
  pub after : List ℕ
  pub bytes : ℕ
  pub sync_words : (s < 256) × (t < 256)
  pub call : Write x y z s t n before (Written.Bytes bytes) after

-- The telegram that was asked for: "the same figures".
abbrev pub telegram_of : OneWriting → Telegram
telegram_of c = asked c.x c.y c.z

-- What is read of it, with the same sync words, over the bits written.
pub record ReadsBack (c : OneWriting) : Type 0 where
  -- "so 4n + 1 bytes"
  pub bytes : c.bytes ≡ 4 * c.n + 1
  -- `contact::judge` reads "exactly n places, the first at 0, and the same figures"
  pub judge : (r : Judged) → JudgeContact c.after 0 (8 * c.bytes) c.s c.t r → r ≡ Judged.Read (telegram_of c) 0 c.n
  -- `find`, asked again and again until 6, hands it out at 0, 32, .., 32 (n - 1)
  pub find : (w : List (Result Found NotFound)) → Comes c.after c.s c.t 0 (8 * c.bytes) w → w ≡ map (λ k. Ok (record { place = 32 * k; telegram = telegram_of c })) (from 0 c.n)

-- It is so of every such call.
abbrev pub WrittenIsRead : Type 0
WrittenIsRead = (c : OneWriting) → ReadsBack c
