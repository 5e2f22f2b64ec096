-- What is sent on the way (docs/LEAD.md, "A track"): "a balise is sent over three frames beginning
-- with S at its place's first frame, a marker (zeroes) and what is unreadable (55 hex) over one,
-- ones elsewhere".
-- Assumes nothing.
use Rattle.std.specs.Prelude.{ℕ, ◌*◌, List, [], ◌++◌, take, drop, replicate}
use Rattle.balise_writer.specs.Write.{telegrams}
use Rattle.track_lead.specs.declared.Thing.{Thing}

-- The twelve bytes of line of a frame that are all the same.
abbrev pub twelve : ℕ → List ℕ
twelve byte = replicate 12 byte

-- The bytes that a thing sends with the sync words s and t: a balise its telegrams, 288 bits of
-- them.
abbrev pub sends : ℕ → ℕ → Thing → List ℕ
sends s t (Thing.Balise x y z) = take 36 (telegrams s t (record { x = x; y = y; z = z }) 9)
sends s t Thing.Marker = twelve 0
sends s t Thing.Unreadable = twelve 85
sends s t Thing.Nothing = []

-- The line of frame j, counted from the thing's first: its bytes, and ones after them.
unfoldable pub line_in : ℕ → ℕ → Thing → ℕ → List ℕ
line_in s t thing j = take 12 (drop (12 * j) (sends s t thing) ++ twelve 255)
