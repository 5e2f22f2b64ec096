-- The number and the values of document 01 for each case of this crate's answers.
-- Assumes nothing.
use Rattle.std.specs.Prelude.{ℕ, Result, Ok, Err, ⊤}
use Rattle.words.specs.Answer.{Answer, Outcome, gives, refuses}
use Rattle.words.specs.Why.{why, are, unsaid}
use Rattle.telegram.specs.Stretch.{Taken, taken}
use Rattle.telegram.specs.Sync.{Good, good}
use Rattle.telegram.specs.Telegram.{BadWord as Bad, Received, bad_word}
use Rattle.telegram.specs.Spelling.{Words}
use Rattle.telegram.specs.Place.{Single, at}
use Rattle.telegram.specs.Survey.{Alike, alike}
use Rattle.telegram.specs.declared.NotSeven.{NotSeven}
use Rattle.telegram.specs.declared.Beyond.{Beyond}
use Rattle.telegram.specs.declared.Telegram.{Telegram}
use Rattle.telegram.specs.declared.BadWord.{BadWord}
use Rattle.telegram.specs.declared.spelling.Spelt.{Spelt}
use Rattle.telegram.specs.declared.spelling.NotSpelt.{NotSpelt}
use Rattle.telegram.specs.declared.Found.{Found}
use Rattle.telegram.specs.declared.NotFound.{NotFound}
use Rattle.telegram.specs.declared.Surveyed.{Surveyed}
use Rattle.telegram.specs.declared.NotAlike.{NotAlike}

-- A good pair; "sync pair doesn't differ in seven bits" is 4.
abbrev pub says_pair : Result ⊤ NotSeven → Outcome Good
says_pair (Ok u) = gives good
says_pair (Err e) = refuses 4

-- A stretch that is taken; "stretch beyond the buffer, or above 16,777,216 bits" is 5.
abbrev pub says_reach : Result ⊤ Beyond → Outcome Taken
says_reach (Ok u) = gives taken
says_reach (Err e) = refuses 5

-- The first bad word: "not a code word" is 1, "a short word of a telegram reads 15" is 3, each of
-- the word named; with 1 goes the parity of its ones.
abbrev pub says_bad : BadWord → Bad
says_bad (BadWord.NotCode w p) = bad_word w (why 1 (are p))
says_bad (BadWord.Fifteen w) = bad_word w (why 3 unsaid)

-- The figure of a short word of a telegram, or the first bad word.
abbrev pub says_figure_read : Result ℕ BadWord → Answer Bad ℕ
says_figure_read (Ok x) = gives x
says_figure_read (Err e) = refuses (says_bad e)

-- A telegram, or the first bad word.
abbrev pub says_telegram_read : Result Telegram BadWord → Received
says_telegram_read (Ok t) = gives t
says_telegram_read (Err e) = refuses (says_bad e)

-- The three words to send; "figure to write above 15 or above 2,047" is 2, "a short word of a
-- telegram reads 15" is 3.
abbrev pub says_spelt : Result Spelt NotSpelt → Outcome Words
says_spelt (Ok w) = gives (record { x = w.x; y = w.y; z = w.z })
says_spelt (Err NotSpelt.TooLarge) = refuses 2
says_spelt (Err NotSpelt.Fifteen) = refuses 3

-- A place with its telegram; 4 and 5 as above, "no place in the stretch" is 6.
abbrev pub says_found : Result Found NotFound → Outcome Single
says_found (Ok f) = gives (at f.place (gives f.telegram))
says_found (Err NotFound.NotSeven) = refuses 4
says_found (Err NotFound.Beyond) = refuses 5
says_found (Err NotFound.NoPlace) = refuses 6

-- Where no place is found, none are alike.
abbrev pub none_alike : NotFound → NotAlike
none_alike NotFound.NotSeven = NotAlike.NotSeven
none_alike NotFound.Beyond = NotAlike.Beyond
none_alike NotFound.NoPlace = NotAlike.NoPlace

-- Places that are alike, by their telegram, the first of them and their number; 4, 5 and 6 as
-- above, and "places differ" is 7.
abbrev pub says_surveyed : Result Surveyed NotAlike → Outcome Alike
says_surveyed (Ok s) = gives (alike (gives s.telegram) s.first s.count)
says_surveyed (Err NotAlike.NotSeven) = refuses 4
says_surveyed (Err NotAlike.Beyond) = refuses 5
says_surveyed (Err NotAlike.NoPlace) = refuses 6
says_surveyed (Err NotAlike.Differ) = refuses 7
