-- For each function its refusals in the order of judging, and, where it is short to say, what is
-- read where none of them holds.
-- Assumes nothing.
use Rattle.std.specs.Prelude.{ℕ, suc, ◌+◌, ◌-◌, ◌*◌, ◌<◌, true, false, ◌≡◌, List, [], ◌∷◌, leb, length}
use Rattle.words.specs.Answer.{Outcome, gives, pick}
use Rattle.words.specs.Why.{why, unsaid, not_code_word}
use Rattle.telegram.specs.Telegram.{Received, bad_word}
use Rattle.telegram.specs.declared.Word.{Word}
use Rattle.telegram.specs.Place.{words_at, places, Single, at}
use Rattle.telegram.specs.Survey.{Alike, alike}
use Rattle.contact.specs.declared.Search.{Search}
use Rattle.contact.specs.Contacts.{Handed, handed, no_further}
use Rattle.contact.specs.Judge.{first_place, Contact, read, marker}
use Rattle.group.specs.declared.Group.{Group}
use Rattle.ride.specs.declared.Ride.{Ride}
use Rattle.demands.specs.Table.{not_code, fifteen, not_seven, beyond, no_place, places_differ, is_read, neither, some, history_after, zeroes_with, to_eight, later_to_four, cut, one_balise, more_than_five, is_number, unread, parts_of, no_row, not_allowed, bad_length, bad_record, went_back, too_far, bad_gap}
use Rattle.demands.specs.Table02.{some_above, some_fifteen, bad_count, short_buffer, nothing_kept, at_end}
use Rattle.demands.specs.Rules.{Rule, row_of, row}

-- A word of a telegram, of n bits, is not a code word: 1, and the refusal passes on the word's
-- letter and its parity.
abbrev pub no_code : Word → ℕ → ℕ → Rule Received
no_code word n w = row_of (bad_word word (not_code_word n w)) (not_code n w)

-- A short word of a telegram reads 15: 3, with the letter; of its ones nothing is said.
abbrev pub is15 : Word → ℕ → Rule Received
is15 word w = row_of (bad_word word (why 3 unsaid)) (fifteen w)

-- After X: if it reads 12, Y and Z as one long word, 1; else Y, then Z, each 1, then 3.
abbrev pub rules_after_x : ℕ → ℕ → ℕ → List (Rule Received)
rules_after_x x y z =
    pick (is_number x)
    (no_code Word.YZ 16 (y * 256 + z) ∷ [])
    (no_code Word.Y 8 y ∷ is15 Word.Y y ∷ no_code Word.Z 8 z ∷ is15 Word.Z z ∷ [])

-- "X is judged before Y, Y before Z, and the first bad word decides whatever the numbers."
abbrev pub telegram_rules : ℕ → ℕ → ℕ → List (Rule Received)
telegram_rules x y z = no_code Word.X 8 x ∷ is15 Word.X x ∷ rules_after_x x y z

-- `find`: 4, 5, 6.
abbrev pub find_rules : {A : Type 0} → List ℕ → ℕ → ℕ → ℕ → ℕ → List (Rule (Outcome A))
find_rules b start len s t = row 4 (not_seven s t) ∷ row 5 (beyond b start len) ∷ row 6 (no_place b start len s t) ∷ []

-- `survey`: 4, 5, 6, 7.
abbrev pub survey_rules : {A : Type 0} → List ℕ → ℕ → ℕ → ℕ → ℕ → List (Rule (Outcome A))
survey_rules b start len s t =
    row 4 (not_seven s t) ∷ row 5 (beyond b start len) ∷ row 6 (no_place b start len s t) ∷ row 7 (places_differ b start len s t) ∷ []

-- `write`: 2, 3, 4, 20, 21.
abbrev pub write_rules : {A : Type 0} → ℕ → ℕ → ℕ → ℕ → ℕ → ℕ → List ℕ → List (Rule (Outcome A))
write_rules x y z s t n out =
    row 2 (some_above x y z) ∷ row 3 (some_fifteen x y z) ∷ row 4 (not_seven s t) ∷ row 20 (bad_count n) ∷ row 21 (short_buffer n out) ∷ []

-- `next_contact`: 5, 9, for the search's own stretch.
abbrev pub next_rules : {A : Type 0} → List ℕ → Search → List (Rule (Outcome A))
next_rules b search = row 5 (beyond b search.next search.left) ∷ row 9 (cut b search) ∷ []

-- `contact::judge`: 4, 5, 7, 8.
abbrev pub judge_rules : {A : Type 0} → List ℕ → ℕ → ℕ → ℕ → ℕ → List (Rule (Outcome A))
judge_rules b start len s t =
    row 4 (not_seven s t) ∷ row 5 (beyond b start len) ∷ row 7 (places_differ b start len s t) ∷ row 8 (neither b start len s t) ∷ []

-- `group::judge`: 10, 11, 12, 13, 15.
abbrev pub group_rules : {A : Type 0} → Group → List (Rule (Outcome A))
group_rules g =
    row 10 (one_balise g) ∷ row 11 (more_than_five g) ∷ row 12 (unread g)
    ∷ row 13 (no_row (parts_of g)) ∷ row 15 (not_allowed (parts_of g)) ∷ []

-- `check_record`: "16, 18, 17 in this order".
abbrev pub record_rules : {A : Type 0} → Ride → List ℕ → List (Rule (Outcome A))
record_rules ride bytes = row 16 (bad_record bytes) ∷ row 18 (too_far bytes) ∷ row 17 (went_back ride.odometer bytes) ∷ []

-- `step`: 19, then as the record is checked.
abbrev pub step_rules : {A : Type 0} → Ride → ℕ → List ℕ → List (Rule (Outcome A))
step_rules ride gap bytes = row 19 (bad_gap gap) ∷ record_rules ride bytes

-- `run`: 19, 16.
abbrev pub run_rules : {A : Type 0} → ℕ → List ℕ → List (Rule (Outcome A))
run_rules gap trace = row 19 (bad_gap gap) ∷ row 16 (bad_length trace) ∷ []

-- The viewer's `forward`: 23, and `back`: 22. (What comes after 23, for a viewer that no call made:
-- specs/Viewing.antt.)
abbrev pub forward_rules : {A : Type 0} → List ℕ → ℕ → List (Rule (Outcome A)) → List (Rule (Outcome A))
forward_rules trace number rules = row 23 (at_end trace number) ∷ rules

abbrev pub back_rules : {A : Type 0} → ℕ → List (Rule (Outcome A))
back_rules kept = row 22 (nothing_kept kept) ∷ []

-- `find` hands out the first place, with what its words read.
abbrev pub find_reads : List ℕ → ℕ → ℕ → ℕ → ℕ → Single
find_reads b start len s t = let p : ℕ = first_place (places b start len s t) in at p (words_at b p)

-- `survey` reads what the first place reads, with it and the number of places.
abbrev pub survey_reads : List ℕ → ℕ → ℕ → ℕ → ℕ → Alike
survey_reads b start len s t = let ps : List ℕ = places b start len s t in alike (words_at b (first_place ps)) (first_place ps) (length ps)

-- `contact::judge` reads the same of two or more places that are alike; what is then left is a
-- marker.
abbrev pub JudgeReads : List ℕ → ℕ → ℕ → ℕ → ℕ → Outcome Contact → Type 0
JudgeReads b start len s t o =
    let ps : List ℕ = places b start len s t in
    (is_read b start len s t ≡ true → o ≡ gives (read (words_at b (first_place ps)) (first_place ps) (length ps)))
    × (is_read b start len s t ≡ false → o ≡ gives marker)

-- Bit k of a search, counted from its next, opens the next contact: it brings the zeroes to 8 or
-- more, and none before it does. Bit j closes it: it is the first after k that brings them to 4 or
-- fewer.
pub record NextAt (b : List ℕ) (search : Search) (k j : ℕ) : Type 0 where
  pub opens : to_eight b search k ≡ true
  pub none_before : some (to_eight b search) k ≡ false
  pub later : k < j
  pub in_record : j < search.left
  pub closes : leb (zeroes_with b search j) 4 ≡ true
  pub none_between : some (later_to_four b search k) j ≡ false

-- `next_contact` answers that no further one opens exactly if no bit does. A contact begins with
-- the bit that opens it and ends before the one that closes it; the search goes on with the bit
-- after that one, and the history holds it once.
abbrev pub NextReads : List ℕ → Search → Outcome Handed → Type 0
NextReads b search o =
    (some (to_eight b search) search.left ≡ false → o ≡ gives no_further)
    × (some (to_eight b search) search.left ≡ true → (k : ℕ) × (j : ℕ) × NextAt b search k j
    × (o ≡ gives (handed (search.next + k) (j - k) (record { next = search.next + suc j; left = search.left - suc j; history = history_after b search (suc j) }))))
