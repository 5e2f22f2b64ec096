-- What is known between two places, drawn on a strip: the speeds as lines on a scale of 0 to 270,
-- the main one whole and the target dashed, each with its figure where it begins; and where the
-- next signal is due.
-- Assumes nothing.
use Rattle.std.specs.Prelude.{ℕ, ◌+◌, ◌-◌, ◌*◌, ◌/◌, Bool, false, ◌&&◌, List, [], ◌∷◌, ◌++◌, leb, ltb}
use Rattle.words.specs.Answer.{pick}
use Rattle.text.specs.Text.{codes, decimal}
use Rattle.group.specs.declared.Told.{Told}
use Rattle.ride.specs.declared.Linking.{Linking}
use Rattle.ride.specs.declared.Known.{Known}
use Rattle.ride_drawing.specs.Metres.{metres}
use Rattle.ride_drawing.specs.Strip.{lesser, greater, on_strip}

-- How far down a speed stands: 270 at 28 and 0 at 118.
abbrev pub height : ℕ → ℕ
height kmh = 118 - kmh / 3

-- A speed from l to r, with its figure at l.
unfoldable pub speed_line : List ℕ → ℕ → ℕ → ℕ → List (List ℕ)
speed_line words kmh l r =
    metres words l
    ++ (codes " " ++ decimal (height kmh))
    ∷ metres (codes ")'><path d='M0 0h") (r - l)
    ++ (codes "'/><text y='-3'>" ++ decimal kmh) ∷ codes "</text></g>\n" ∷ []

-- A speed that may not be known.
abbrev pub speed_of : List ℕ → Told → ℕ → ℕ → List (List ℕ)
speed_of words Told.Unknown l r = []
speed_of words (Told.Kmh kmh) l r = speed_line words kmh l r

-- It is drawn where l lies before r.
unfoldable pub level : List ℕ → Told → ℕ → ℕ → List (List ℕ)
level words told l r = pick (ltb l r) (speed_of words told l r) []

-- The band in which a signal is due, from l to r.
unfoldable pub due : ℕ → ℕ → List (List ℕ)
due l r =
    pick (ltb l r)
    (metres (codes "<rect class='d' y='124' height='64' x='") l ++ metres (codes "' width='") (r - l) ++ codes "'/>\n" ∷ [])
    []

-- The middle of the band, where it lies from one place to another, the last one too, and on the
-- strip: a signal that comes just there ends the band at its middle.
unfoldable pub middle : ℕ → ℕ → ℕ → ℕ → List (List ℕ)
middle edge from to at =
    pick (leb from at && (leb at to && (ltb from to && ltb (on_strip edge at) 11000)))
    (metres (codes "<path class='c' d='M") (on_strip edge at) ++ codes " 124v64'/>\n" ∷ [])
    []

-- Where the next signal is due: "the band from 4/5 to 6/5 of the distance, and its middle, as far
-- as the linking lasts".
unfoldable pub band : Linking → ℕ → ℕ → ℕ → List (List ℕ)
band Linking.Unset edge from to = []
band (Linking.Set distance a) edge from to =
    due (on_strip edge (greater from (a + 4 * distance / 5))) (on_strip edge (lesser to (a + 6 * distance / 5)))
    ++ middle edge from to (a + distance)

-- Whether the target lies above the main speed.
abbrev pub is_rising : Told → Told → Bool
is_rising Told.Unknown target = false
is_rising (Told.Kmh main) Told.Unknown = false
is_rising (Told.Kmh main) (Told.Kmh target) = ltb main target

-- The beginning of the main speed's line and of the target's: the figure of the greater stands over
-- its line, that of the lesser under it (class u).
abbrev pub main_words : Bool → List ℕ
main_words rising = pick rising (codes "<g class='m u' transform='translate(") (codes "<g class='m' transform='translate(")

abbrev pub target_words : Bool → List ℕ
target_words rising = pick rising (codes "<g class='t' transform='translate(") (codes "<g class='t u' transform='translate(")

-- What is known from one place to another, on the strip with this edge.
unfoldable pub span : ℕ → ℕ → ℕ → Known → List (List ℕ)
span edge from to known =
    let rising : Bool = is_rising known.main known.target in
    level (main_words rising) known.main (on_strip edge from) (on_strip edge to)
    ++ (level (target_words rising) known.target (on_strip edge from) (on_strip edge to) ++ band known.linking edge from to)
