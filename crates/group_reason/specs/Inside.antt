-- What each case of the answers inside the crate says. No promise to a caller cites these; the
-- functions that the code is cut into do.
-- Assumes nothing.
use Rattle.std.specs.Prelude.{ℕ, suc, Bool, ◌||◌, List, [], ◌∷◌, take, Some, None, Result, Ok, Err}
use Rattle.words.specs.Answer.{Answer, gives, refuses, pick}
use Rattle.group_rows.specs.declared.Part.{Part}
use Rattle.group_rows.specs.declared.Placed.{Placed}
use Rattle.group_rows.specs.Row.{is_category}
use Rattle.group.specs.Judge.{y_of, z_of}
use Rattle.group.specs.Inside.{says_sought}
use Rattle.group_reason.specs.declared.BadBalise.{BadBalise}
use Rattle.group_reason.specs.declared.reading.Unread.{Unread}
use Rattle.group_reason.specs.declared.figures.Sought.{Sought}
use Rattle.group_reason.specs.Reason.{Amiss, Cause, bad, figure, Explained, no_reason, because}
use Rattle.group_reason.specs.Explain.{place_of, is_found, b_breaks, c_breaks}
use Rattle.group_reason.specs.Says.{says_bad_balise}

-- A balise read, or what is bad about it.
abbrev pub says_part_read : Result Part BadBalise → Answer Amiss Part
says_part_read (Ok p) = gives p
says_part_read (Err b) = refuses (says_bad_balise b)

-- The first n balises read, or the first bad one.
abbrev pub says_all_read : ℕ → Result (List Placed) Unread → Answer Cause (List Placed)
says_all_read n (Ok parts) = gives (take n parts)
says_all_read n (Err e) = refuses (bad e.balise e.place (says_bad_balise e.bad))

-- The first balise of category c, with its index, the first of all having the index i.
unfoldable pub sought_from : ℕ → ℕ → List Placed → Sought
sought_from c i [] = record { balise = i; found = None }
sought_from c i (b ∷ bs) =
    pick (is_category c b.part) (record { balise = i; found = Some b }) (sought_from c (suc i) bs)

-- The balise whose figure breaks the rule of distances, from the 9 and the 14 as they were found.
abbrev pub why_of : Bool → Sought → Sought → Explained
why_of barred b c =
    let at = says_sought b.found in
    let at' = says_sought c.found in
    pick (barred || b_breaks (y_of at) (z_of at) (is_found at')) (because 15 (figure b.balise (place_of at)))
    (pick (c_breaks (y_of at') (is_found at')) (because 15 (figure c.balise (place_of at'))) no_reason)
