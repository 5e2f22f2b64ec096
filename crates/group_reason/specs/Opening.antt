-- How far the balises of a group go along with document 01's rows: "the length of the longest
-- opening run that also opens some permitted group of either direction, with all figure conditions
-- of the rows". The rows are gone through as in group_rows/specs/Row.antt, and stopped early;
-- specs/Truths.antt says what this comes to.
-- Assumes nothing.
use Rattle.std.specs.Prelude.{ℕ, zero, suc, Bool, true, false, ◌&&◌, ◌||◌, List, [], ◌∷◌, leb, length, take}
use Rattle.words.specs.Answer.{pick}
use Rattle.group_rows.specs.declared.Placed.{Placed}
use Rattle.group_rows.specs.Row.{Member, A, must, may, Row, row, meets}
use Rattle.group_rows.specs.Rows.{present, opposite, how_many}

-- Whether the balises open the members: each takes the next balise, an optional one is taken or
-- left out; at the end of the balises members may be left.
unfoldable pub opens_members : List Member → List Placed → Bool
opens_members ms [] = true
opens_members [] (b ∷ bs) = false
opens_members (A w ∷ ms) (b ∷ bs) = meets w b.part && opens_members ms bs
opens_members (must w ∷ ms) (b ∷ bs) = meets w b.part && opens_members ms bs
opens_members (may w ∷ ms) (b ∷ bs) = (meets w b.part && opens_members ms bs) || opens_members ms (b ∷ bs)

-- Whether they open one of the rows.
unfoldable pub opens_rows : List Row → List Placed → Bool
opens_rows [] bs = false
opens_rows (row kind ms ∷ rs) bs = opens_members ms bs || opens_rows rs bs

-- Whether they open a permitted group of either direction; 12 stands among them at most once.
unfoldable pub is_opening : List Placed → Bool
is_opening bs = leb (how_many 12 bs) 1 && (opens_rows present bs || opens_rows opposite bs)

-- The longest of the runs of at most n balises, from the first on, that opens one.
unfoldable pub longest_of : ℕ → List Placed → ℕ
longest_of zero bs = zero
longest_of (suc n) bs = pick (is_opening (take (suc n) bs)) (suc n) (longest_of n bs)

-- "the longest opening run"
abbrev pub opening_run : List Placed → ℕ
opening_run bs = longest_of (length bs) bs
