-- Balises and groups (document 01, "Groups"). A balise is kept as received: its place, and what was
-- heard there, which is three words (`Words x y z`), a marker (`Marker`) or nothing readable
-- (`Unreadable`). A group keeps its first five balises, counts them all (255 stands for 255 or
-- more) and holds the last one's place.
-- Assumes nothing.
use Rattle.std.specs.Prelude.{List, [], ◌∷◌, take}
use Rattle.words.specs.Answer.{Outcome, gives, refuses}
pub use Rattle.words.specs.Answer.{then}
use Rattle.telegram.specs.Telegram.{Received, telegram}
use Rattle.telegram.specs.declared.Telegram.{Telegram}
use Rattle.group.specs.declared.Heard.{Heard}
use Rattle.group.specs.declared.Balise.{Balise}
use Rattle.group.specs.declared.Group.{Group}
use Rattle.group_rows.specs.declared.Part.{Part}
use Rattle.group_rows.specs.declared.Placed.{Placed}

-- The balises of a group of at most five, in the order passed.
unfoldable pub balises : Group → List Balise
balises g = take g.count g.kept

-- A telegram as a part of a group: the figures of X, Y and Z, or the number of a number balise
-- (12).
abbrev pub part_said : Telegram → Part
part_said (Telegram.Figures x y z) = Part.Figures x y z
part_said (Telegram.Number m) = Part.Number m

-- If its words are refused, so is the group, with 12.
abbrev pub part_of : Received → Outcome Part
part_of (gives t) = gives (part_said t)
part_of (refuses b) = refuses 12

-- What was heard, read: "a balise unreadable, or its words refused" is 12.
abbrev pub part_heard : Heard → Outcome Part
part_heard (Heard.Words x y z) = part_of (telegram x y z)
part_heard Heard.Marker = gives Part.Marker
part_heard Heard.Unreadable = refuses 12

-- The balises read, each with its place; one that is refused refuses them all.
unfoldable pub read_all : List Balise → Outcome (List Placed)
read_all [] = gives []
read_all (b ∷ bs) =
    then (part_heard b.heard) λ p.
    then (read_all bs) λ ps.
    gives (record { place = b.place; part = p } ∷ ps)
