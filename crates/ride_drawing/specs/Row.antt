-- The row over the strips: the entries of a plan of the test track, met or absent, and the groups
-- of the ride that are extra.
-- Assumes nothing.
use Rattle.std.specs.Prelude.{ℕ, ◌-◌, ◌/◌, Bool, false, not, ◌&&◌, ◌||◌, List, [], ◌∷◌, ◌++◌, eqb, leb, length, take, Option, Some, None}
use Rattle.text.specs.Text.{codes, decimal}
use Rattle.ride.specs.declared.Seen.{Seen}
use Rattle.acceptance.specs.declared.Entry.{Entry}
use Rattle.acceptance.specs.Taking.{planned, is_present, one_more}
use Rattle.ride_text.specs.Text.{kind_word}
use Rattle.acceptance_text.specs.Lines.{entry_line}
use Rattle.ride_drawing.specs.declared.Pen.{Pen}
use Rattle.ride_drawing.specs.declared.Plan.{Plan}
use Rattle.ride_drawing.specs.Metres.{metres}
use Rattle.ride_drawing.specs.Strip.{on_strip, is_further}

-- The entries of a plan, of which there are at most 64.
abbrev pub row : Plan → List Entry
row plan = take 64 (planned plan.run)

-- The shape of an entry's sign: filled where it was met, hollow where it is absent.
abbrev pub entry_shape : Option ℕ → ℕ
entry_shape (Some place) = 30
entry_shape None = 31

-- The line of the entry with this index as `accept` writes it, without its newline.
unfoldable pub entry_title : ℕ → Entry → List ℕ
entry_title i e = take (length (entry_line i e) - 1) (entry_line i e)

-- What stands beside a sign in the row, at x.
abbrev pub row_number : ℕ → ℕ → List (List ℕ)
row_number x n = metres (codes "'/><text dx='8' y='15' x='") x ++ (codes "'>" ++ decimal n) ∷ codes "</text></g>\n" ∷ []

-- The sign of the entry with this index, on the strip with this edge; its number, counted from 1,
-- stands beside it.
unfoldable pub entry_sign : ℕ → Entry → ℕ → List (List ℕ)
entry_sign i e edge =
    codes "<g class='e'><title>"
    ∷ entry_title i e
    ∷ (codes "</title><use href='#s" ++ decimal (entry_shape e.met))
    ∷ metres (codes "' x='") (on_strip edge e.place)
    ++ row_number (on_strip edge e.place) (one_more i)

-- Whether what met an entry is the group at this place.
abbrev pub is_by : ℕ → Option ℕ → Bool
is_by place None = false
is_by place (Some p) = eqb p place

-- Whether the group at this place met one of some entries: no two present groups have one place.
unfoldable pub has_met : ℕ → List Entry → Bool
has_met place [] = false
has_met place (e ∷ es) = is_by place e.met || has_met place es

-- Whether a group is extra: a plan is given, the group is a present one, and it met no entry.
unfoldable pub is_extra : Plan → Seen → Bool
is_extra plan s = plan.asked && (is_present s.direction && not (has_met s.place (row plan)))

-- The line of an extra group as `accept` writes it, without its newline.
abbrev pub extra_title : Seen → List ℕ
extra_title s = decimal s.place ++ kind_word s.kind ++ codes " extra"

-- The sign of an extra group, on the strip with this edge; its title is the line that `accept`
-- writes for it.
unfoldable pub extra_sign : Seen → ℕ → List (List ℕ)
extra_sign s edge =
    (codes "<g class='e'><title>" ++ decimal s.place)
    ∷ kind_word s.kind
    ∷ codes " extra</title><use href='#s32"
    ∷ metres (codes "' x='") (on_strip edge s.place)
    ++ codes "'/></g>\n" ∷ []

-- Whether the pen comes by an entry on its way to a place: it lies in a kilometre after the pen's,
-- up to the place's.
unfoldable pub is_on_the_way : Pen → ℕ → Entry → Bool
is_on_the_way pen place e = is_further pen e.place && leb (e.place / 10000) (place / 10000)

-- No entry's place lies above this one.
abbrev pub furthest : ℕ
furthest = 4294967295
