-- Document 01's table of refusal numbers, row by row. Each condition stands alone, and names no
-- number. Its figures (7, 15, 16,777,216, 64 and 11, 8 and 4, 1 to 14; those of 16 to 19 in
-- RecordTable.antt) stand here a second time, so that a wrong one shows as a failing proof. What a
-- place is, when places are alike, how a row fits, a contact's ones and zeroes are the crates'.
-- Assumes nothing.
use Rattle.std.specs.Prelude.{ℕ, zero, suc, ◌+◌, ◌-◌, ◌*◌, ◌^◌, Bool, true, false, not, ◌&&◌, ◌||◌, List, [], ◌∷◌, eqb, ltb, leb, length}
use Rattle.words.specs.Answer.{Outcome, gives, refuses, pick}
use Rattle.words.specs.Plain.{is_code, figure}
use Rattle.words.specs.Code.{exchanged}
use Rattle.telegram.specs.Stretch.{bit_at}
use Rattle.telegram.specs.Sync.{differing}
use Rattle.telegram.specs.Place.{places}
use Rattle.contact.specs.History.{after, zeroes}
use Rattle.contact.specs.Judge.{all_alike, ones_at_end, all_zero}
use Rattle.contact.specs.declared.Search.{Search}
use Rattle.group.specs.Balise.{balises, read_all}
use Rattle.group_rows.specs.Row.{Found, none, found, Y, Z, Fit, misfit, fit}
use Rattle.group_rows.specs.Rows.{present, opposite, fit_in}
use Rattle.group.specs.Judge.{y_of, z_of, B, C}
use Rattle.group.specs.declared.Balise.{Balise}
use Rattle.group.specs.declared.Group.{Group}
use Rattle.group.specs.declared.Heard.{Heard}
use Rattle.group_rows.specs.declared.Kind.{Kind}
use Rattle.group_rows.specs.declared.Placed.{Placed}
pub use Rattle.demands.specs.RecordTable.{some_not_zero}
unfoldable pub use Rattle.demands.specs.RecordTable.{bad_length, bad_record, went_back, too_far, bad_gap}

-- 1: "not a code word", of n bits
unfoldable pub not_code : ℕ → ℕ → Bool
not_code n w = not (is_code n (exchanged n w))

-- 2: "figure to write above 15 or above 2,047"
unfoldable pub above : ℕ → ℕ → Bool
above largest x = ltb largest x

-- 3: "a short word of a telegram reads 15"
unfoldable pub fifteen : ℕ → Bool
fifteen w = is_code 8 (exchanged 8 w) && eqb (figure 8 (exchanged 8 w)) 15

-- 4: "sync pair doesn't differ in seven bits"
unfoldable pub not_seven : ℕ → ℕ → Bool
not_seven s t = not (eqb (differing s t 8) 7)

-- 5: "stretch beyond the buffer, or above 16,777,216 bits"; an end at bit 2^64 or past it counts as
-- beyond: no machine has such a buffer
unfoldable pub beyond : List ℕ → ℕ → ℕ → Bool
beyond b start len = ltb (8 * length b) (start + len) || leb (2 ^ 64) (start + len) || ltb 16777216 len

-- Whether a list is empty.
abbrev pub is_empty : {A : Type 0} → List A → Bool
is_empty [] = true
is_empty (x ∷ xs) = false

-- 6: "no place in the stretch"
unfoldable pub no_place : List ℕ → ℕ → ℕ → ℕ → ℕ → Bool
no_place b start len s t = is_empty (places b start len s t)

-- 7: "places differ", of those of a stretch
unfoldable pub places_differ : List ℕ → ℕ → ℕ → ℕ → ℕ → Bool
places_differ b start len s t = not (all_alike b (places b start len s t))

-- Whether a contact is a telegram's: "two or more places, all with the same X, Y and Z".
unfoldable pub is_read : List ℕ → ℕ → ℕ → ℕ → ℕ → Bool
is_read b start len s t = leb 2 (length (places b start len s t)) && all_alike b (places b start len s t)

-- Whether a contact is a marker's: "at least 64 bits long and made of zeroes followed by at most 11
-- ones".
unfoldable pub is_marked : List ℕ → ℕ → ℕ → Bool
is_marked b start len = leb 64 len && leb (ones_at_end b start len) 11 && all_zero b start (len - ones_at_end b start len)

-- 8: "contact neither telegram nor marker"
unfoldable pub neither : List ℕ → ℕ → ℕ → ℕ → ℕ → Bool
neither b start len s t = not (is_read b start len s t) && not (is_marked b start len)

-- Whether one of the numbers below n passes the test.
unfoldable pub some : (ℕ → Bool) → ℕ → Bool
some test zero = false
some test (suc n) = some test n || test n

-- The history of a search once it has gone on by n bits of the buffer.
unfoldable pub history_after : List ℕ → Search → ℕ → ℕ
history_after b search zero = search.history
history_after b search (suc n) = after (history_after b search n) (bit_at b (search.next + n))

-- The zeroes among the latest sixteen with bit k, counted from the search's next.
unfoldable pub zeroes_with : List ℕ → Search → ℕ → ℕ
zeroes_with b search k = zeroes (history_after b search (suc k))

-- Whether bit k brings the zeroes to 8 or more.
abbrev pub to_eight : List ℕ → Search → ℕ → Bool
to_eight b search k = leb 8 (zeroes_with b search k)

-- Whether bit j comes after bit k, and brings them to 4 or fewer.
abbrev pub later_to_four : List ℕ → Search → ℕ → ℕ → Bool
later_to_four b search k j = ltb k j && leb (zeroes_with b search j) 4

-- 9: "contact cut by the end of the record": of the bits left, one brings the zeroes to 8 or more,
-- none before it does, and none after it brings them to 4 or fewer
unfoldable pub cut : List ℕ → Search → Bool
cut b search =
    some (λ k. to_eight b search k && not (some (to_eight b search) k) && not (some (later_to_four b search k) search.left)) search.left

-- 10: "group of one balise"
abbrev pub one_balise : Group → Bool
one_balise g = eqb g.count 1

-- 11: "group of more than five"
abbrev pub more_than_five : Group → Bool
more_than_five g = ltb 5 g.count

-- Whether the word x, if it is a code word, reads 12, a number balise's.
abbrev pub is_number : ℕ → Bool
is_number x = eqb (figure 8 (exchanged 8 x)) 12

-- Whether a short word of a telegram is refused.
abbrev pub is_bad : ℕ → Bool
is_bad w = not_code 8 w || fifteen w

-- Whether the words of a telegram are refused: X is, or, if it reads 12, Y and Z together are, or
-- else Y or Z is.
unfoldable pub words_refused : ℕ → ℕ → ℕ → Bool
words_refused x y z = is_bad x || pick (is_number x) (not_code 16 (y * 256 + z)) (is_bad y || is_bad z)

-- Whether what was heard is unreadable, or words that are refused.
abbrev pub is_unread : Heard → Bool
is_unread (Heard.Words x y z) = words_refused x y z
is_unread Heard.Marker = false
is_unread Heard.Unreadable = true

-- Whether it is so of one of the balises.
abbrev pub some_unread : List Balise → Bool
some_unread [] = false
some_unread (b ∷ bs) = is_unread b.heard || some_unread bs

-- 12: "a balise unreadable, or its words refused"
unfoldable pub unread : Group → Bool
unread g = some_unread (balises g)

-- What was read, or nothing.
abbrev pub list_of : {A : Type 0} → Outcome (List A) → List A
list_of (gives xs) = xs
list_of (refuses n) = []

-- The balises of a group as read.
unfoldable pub parts_of : Group → List Placed
parts_of g = list_of (read_all (balises g))

-- Whether no row of a direction fits.
abbrev pub is_misfit : Fit → Bool
is_misfit misfit = true
is_misfit (fit kind a) = false

-- 13: "no row fits"
unfoldable pub no_row : List Placed → Bool
no_row bs = is_misfit (fit_in present bs) && is_misfit (fit_in opposite bs)

-- 14 is not used, and never will be again: no group fits a row of each direction (`OneWay`, of
-- group_rows/specs/OneWay.antt, which demand 2 cites).

-- Whether a distance is judged: "for present signals and present warning boards only".
abbrev pub judged_kind : Kind → Bool
judged_kind Kind.Signal = true
judged_kind Kind.Warning = true
judged_kind Kind.Annulled = false
judged_kind Kind.Line = false
judged_kind Kind.Route = false

-- The same of how a group fits the present rows.
abbrev pub is_judged : Fit → Bool
is_judged misfit = false
is_judged (fit kind a) = judged_kind kind

-- 15, for the table of distances by itself: no column above 14, no figure but 1 to 14
unfoldable pub no_distance : ℕ → ℕ → Bool
no_distance by figure = ltb 14 by || not (leb 1 figure && leb figure 14)

-- Whether BY, BZ and the 14, if there is one, give no distance. "Without a 14, BZ must be 1 to 14.
-- With a 14 (C), BZ must be 0 and CY 1 to 14, and CY is used for BZ."
abbrev pub no_link : ℕ → ℕ → Found → Bool
no_link by bz none = no_distance by bz
no_link by bz (found c) = not (eqb bz 0) || no_distance by (Y c.part)

-- Whether a group that so fits the present rows is a preset point at an aspect that cannot have it:
-- "a present signal with BY = 14 and AZ of 0, 1 or 13". AZ is the figure as read.
abbrev pub preset_barred : Fit → ℕ → Bool
preset_barred misfit by = false
preset_barred (fit Kind.Signal a) by = eqb by 14 && (eqb (Z a.part) 0 || eqb (Z a.part) 1 || eqb (Z a.part) 13)
preset_barred (fit Kind.Warning a) by = false
preset_barred (fit Kind.Annulled a) by = false
preset_barred (fit Kind.Line a) by = false
preset_barred (fit Kind.Route a) by = false

-- 15: "distance not allowed", or a preset point that cannot be
unfoldable pub not_allowed : List Placed → Bool
not_allowed bs =
    preset_barred (fit_in present bs) (y_of (B bs)) || (is_judged (fit_in present bs) && no_link (y_of (B bs)) (z_of (B bs)) (C bs))
