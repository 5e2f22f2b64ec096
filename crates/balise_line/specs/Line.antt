-- What one balise sends, and what is received of it over a stretch.
-- "Highest bit first: sync word, X, Y, Z, sync word. A balise repeats its telegram without a break,
-- each sharing a sync word with the next, so S and S* alternate every 32 bits." (document 01, "A
-- telegram") Line bits are counted from 0, where a telegram begins with the sync word s; telegram k
-- begins at line bit 32 k.
-- Assumes nothing.
use Rattle.std.specs.Prelude.{ℕ, zero, suc, ◌+◌, ◌-◌, ◌*◌, ◌%◌, ◌≤◌, ◌<◌, ◌≡◌, Bool, true, ◌&&◌, List, [], ◌∷◌, eqb, leb, ltb}
use Rattle.words.specs.Answer.{pick, gives}
use Rattle.telegram.specs.Stretch.{bit_at, inside}
use Rattle.telegram.specs.Sync.{is_good}
use Rattle.telegram.specs.Telegram.{telegram}
use Rattle.telegram.specs.Place.{places}
use Rattle.telegram.specs.declared.Telegram.{Telegram}

-- One balise, heard over one stretch of a lent buffer.
pub record OneBalise : Type 0 where
  -- the buffer's bytes, the stretch's first bit and its number of bits
  pub buffer : List ℕ
  pub start : ℕ
  pub len : ℕ
  -- the sync words, in either order
  pub s : ℕ
  pub t : ℕ
  -- the words of the telegram, and the telegram that they are
  pub x : ℕ
  pub y : ℕ
  pub z : ℕ
  pub telegram : Telegram
  -- the line bit with which the stretch begins: any, so either sync word comes first, and the first
  -- telegram may be cut
  pub phase : ℕ

-- The sync words and the telegram are good, and the stretch is taken: what is not refused with 4 or
-- 5.
pub record Proper (o : OneBalise) : Type 0 where
  pub bytes : (o.s < 256) × (o.t < 256) × (o.x < 256) × (o.y < 256) × (o.z < 256)
  pub pair : is_good o.s o.t ≡ true
  pub valid : telegram o.x o.y o.z ≡ gives o.telegram
  pub taken : inside o.buffer o.start o.len ≡ true

-- The eight bytes that the balise repeats.
abbrev pub repeated : OneBalise → List ℕ
repeated o = o.s ∷ o.x ∷ o.y ∷ o.z ∷ o.t ∷ o.x ∷ o.y ∷ o.z ∷ []

-- The bit that is sent as line bit j.
unfoldable pub sent_bit : OneBalise → ℕ → ℕ
sent_bit o j = bit_at (repeated o) (j % 64)

-- The bit that is received as line bit j, which lies in the stretch.
unfoldable pub received_bit : OneBalise → ℕ → ℕ
received_bit o j = bit_at o.buffer (o.start + (j - o.phase))

-- Whether line bit j lies in the stretch.
unfoldable pub in_stretch : OneBalise → ℕ → Bool
in_stretch o j = leb o.phase j && ltb j (o.phase + o.len)

-- 1 if two bits differ, else 0.
unfoldable pub unequal : ℕ → ℕ → ℕ
unequal a c = pick (eqb a c) 0 1

-- 1 if line bit j lies in the stretch and was flipped on its way, else 0.
unfoldable pub flip : OneBalise → ℕ → ℕ
flip o j = pick (in_stretch o j) (unequal (received_bit o j) (sent_bit o j)) 0

-- The sum of f over the numbers below n.
unfoldable pub sum : (ℕ → ℕ) → ℕ → ℕ
sum f zero = 0
sum f (suc n) = sum f n + f n

-- How many of the n line bits from j on were flipped.
unfoldable pub flips : OneBalise → ℕ → ℕ → ℕ
flips o j n = sum (λ i. flip o (j + i)) n

-- The flipped bits of the sync word with which telegram k begins.
unfoldable pub sync_flips : OneBalise → ℕ → ℕ
sync_flips o k = flips o (32 * k) 8

-- The flipped data bits of telegram k, those of its words X, Y and Z: of a telegram that the
-- stretch cuts, those in the stretch.
unfoldable pub data_flips : OneBalise → ℕ → ℕ
data_flips o k = flips o (32 * k + 8) 24

-- Demand 3's hypothesis on the flips: no sync bit in the stretch flips, and no telegram together
-- with the next has more than three flipped data bits in the stretch; so none alone has.
pub record FewFlips (o : OneBalise) : Type 0 where
  pub syncs : (k : ℕ) → sync_flips o k ≡ 0
  pub few : (k : ℕ) → data_flips o k + data_flips o (k + 1) ≤ 3

-- A clean stretch: nothing flips.
abbrev pub Clean : OneBalise → Type 0
Clean o = (j : ℕ) → flip o j ≡ 0

-- The line bit that bit p of the buffer is.
unfoldable pub line_bit : OneBalise → ℕ → ℕ
line_bit o p = o.phase + (p - o.start)

-- Whether a telegram of the balise begins at bit p of the buffer, and lies with both its sync words
-- in the stretch: a true place.
unfoldable pub sent_at : OneBalise → ℕ → Bool
sent_at o p = leb o.start p && leb (p + 40) (o.start + o.len) && eqb (line_bit o p % 32) 0

-- How many of the forty bits of the telegram that begins at bit p, both its sync words included,
-- were flipped.
unfoldable pub flips_at : OneBalise → ℕ → ℕ
flips_at o p = flips o (line_bit o p) 40

-- The places of the stretch, with the set sync words.
abbrev pub places_of : OneBalise → List ℕ
places_of o = places o.buffer o.start o.len o.s o.t
