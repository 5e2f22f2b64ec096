-- Why a closed group was refused (request M-103): "for 10 and 11 the number of balises (255 stands
-- for 255 or more); for 12 the first bad balise in passing order and which word (X, Y, Z or YZ) is
-- bad, none if it was unreadable; for 15 the balise whose figure breaks the rule, B before C (B
-- also for M-101's rule); for 13 the length of the longest opening run that also opens some
-- permitted group".
-- Assumes nothing.
use Rattle.std.specs.Prelude.{ℕ, suc, Bool, true, false, not, ◌&&◌, ◌||◌, List, [], ◌∷◌, eqb, leb, ltb, length}
use Rattle.words.specs.Answer.{Answer, Outcome, gives, refuses, then, pick}
use Rattle.telegram.specs.Telegram.{Received, telegram}
use Rattle.group_rows.specs.declared.Direction.{Direction}
use Rattle.group_rows.specs.declared.Kind.{Kind}
use Rattle.group_rows.specs.declared.Part.{Part}
use Rattle.group_rows.specs.declared.Placed.{Placed}
use Rattle.group_rows.specs.declared.Picked.{Picked}
use Rattle.group_rows.specs.Row.{Found, none, found, is_category, Z}
use Rattle.group_rows.specs.Fitting.{fitting}
use Rattle.group.specs.declared.Heard.{Heard}
use Rattle.group.specs.declared.Balise.{Balise}
use Rattle.group.specs.declared.Group.{Group}
use Rattle.group.specs.Balise as heard
use Rattle.group.specs.Distance.{is_preset, no_increase}
use Rattle.group.specs.Judge.{y_of, z_of, B, C}
use Rattle.group_reason.specs.Opening.{opening_run}
use Rattle.group_reason.specs.Reason.{Amiss, unreadable, word, Cause, balises, bad, opens, figure, Explained, no_reason, because}

-- ---- 12

-- The words of a balise as a part of a group, or its first bad word.
abbrev pub part_or_word : Received → Answer Amiss Part
part_or_word (gives t) = gives (heard.part_said t)
part_or_word (refuses w) = refuses (word w)

-- What was heard, read, or what is bad about it.
abbrev pub part_or_bad : Heard → Answer Amiss Part
part_or_bad (Heard.Words x y z) = part_or_word (telegram x y z)
part_or_bad Heard.Marker = gives Part.Marker
part_or_bad Heard.Unreadable = refuses unreadable

-- The bad balise is named by its index and its place.
abbrev pub named : ℕ → ℕ → Answer Amiss Part → Answer Cause Part
named i place (gives p) = gives p
named i place (refuses w) = refuses (bad i place w)

-- The balises read, the first of which has the index i; "the first bad balise in passing order"
-- refuses them all.
unfoldable pub read_from : ℕ → List Balise → Answer Cause (List Placed)
read_from i [] = gives []
read_from i (b ∷ bs) =
    then (named i b.place (part_or_bad b.heard)) λ p.
    then (read_from (suc i) bs) λ ps.
    gives (record { place = b.place; part = p } ∷ ps)

-- ---- 15

-- The index of the first balise of category c; where there is none, how many there are.
unfoldable pub index_of : ℕ → List Placed → ℕ
index_of c [] = 0
index_of c (b ∷ bs) = pick (is_category c b.part) 0 (suc (index_of c bs))

-- The place of a balise that was looked for; 0 if there is none.
abbrev pub place_of : Found → ℕ
place_of none = 0
place_of (found b) = b.place

-- Whether there is such a balise.
abbrev pub is_found : Found → Bool
is_found none = false
is_found (found b) = true

-- Whether a figure is 1 to 14.
abbrev pub one_to_fourteen : ℕ → Bool
one_to_fourteen f = leb 1 f && leb f 14

-- Whether B's figures break the rule: "Without a 14, BZ must be 1 to 14. With a 14 (C), BZ must be
-- 0"; table DF has no column above 14.
abbrev pub b_breaks : ℕ → ℕ → Bool → Bool
b_breaks by bz with14 = ltb 14 by || pick with14 (not (eqb bz 0)) (not (one_to_fourteen bz))

-- Whether C's figure breaks it: with a 14, "CY 1 to 14".
abbrev pub c_breaks : ℕ → Bool → Bool
c_breaks cy with14 = with14 && not (one_to_fourteen cy)

-- The balise whose figure breaks the rule of distances, "B before C"; `barred` says that B breaks
-- M-101's rule.
unfoldable pub why_distance : Bool → List Placed → Explained
why_distance barred bs =
    pick (barred || b_breaks (y_of (B bs)) (z_of (B bs)) (is_found (C bs)))
    (because 15 (figure (index_of 9 bs) (place_of (B bs))))
    (pick (c_breaks (y_of (C bs)) (is_found (C bs)))
    (because 15 (figure (index_of 14 bs) (place_of (C bs))))
    no_reason)

-- Of a present group: "Distance, judged for present signals and present warning boards only."
abbrev pub why_present : Kind → ℕ → List Placed → Explained
why_present Kind.Signal az bs = why_distance (is_preset (y_of (B bs)) && no_increase az) bs
why_present Kind.Warning az bs = why_distance false bs
why_present Kind.Annulled az bs = no_reason
why_present Kind.Line az bs = no_reason
why_present Kind.Route az bs = no_reason

abbrev pub why_row : Direction → Picked → List Placed → Explained
why_row Direction.Present row bs = why_present row.kind (Z row.a.part) bs
why_row Direction.Opposite row bs = no_reason

-- ---- 13, and the whole

-- By the row that the balises fit; where none fits, how far they open one.
abbrev pub why_fit : Outcome Picked → List Placed → Explained
why_fit (refuses n) bs = because 13 (opens (opening_run bs) (length bs))
why_fit (gives row) bs = why_row row.direction row bs

-- Of balises that were read, or of the first bad one.
abbrev pub why_read : Answer Cause (List Placed) → Explained
why_read (refuses c) = because 12 c
why_read (gives bs) = why_fit (fitting bs) bs

-- Why a closed group was refused, or no reason.
unfoldable pub explain : Group → Explained
explain g =
    pick (eqb g.count 1) (because 10 (balises g.count))
    (pick (ltb 5 g.count) (because 11 (balises g.count))
    (why_read (read_from 0 (heard.balises g))))
