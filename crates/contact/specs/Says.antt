-- The number and the values of document 01 for each case of this crate's answers.
-- Assumes nothing.
use Rattle.std.specs.Prelude.{Option, Some, None, Result, Ok, Err}
use Rattle.words.specs.Answer.{Outcome, gives, refuses}
use Rattle.contact.specs.Contacts.{Handed, handed, no_further}
use Rattle.contact.specs.Judge.{Contact, read, marker}
use Rattle.settings.specs.Says.{says_bad}
use Rattle.contact.specs.declared.Search.{Search}
use Rattle.telegram.specs.declared.Beyond.{Beyond}
use Rattle.contact.specs.declared.HandedOut.{HandedOut}
use Rattle.contact.specs.declared.NextRefused.{NextRefused}
use Rattle.contact.specs.declared.Judged.{Judged}
use Rattle.contact.specs.declared.JudgedUnder.{JudgedUnder}

-- The search that begins a stretch; "stretch beyond the buffer, or above 16,777,216 bits" is 5.
abbrev pub says_search_begun : Result Search Beyond → Outcome Search
says_search_begun (Ok s) = gives s
says_search_begun (Err e) = refuses 5

-- A contact by its start, its length and the search after it, or that no further one opens;
-- "contact cut by the end of the record" is 9, "stretch beyond the buffer, or above 16,777,216
-- bits" is 5.
abbrev pub says_next : Result (Option HandedOut) NextRefused → Outcome Handed
says_next (Ok (Some contact)) = gives (handed contact.start contact.length contact.then)
says_next (Ok None) = gives no_further
says_next (Err NextRefused.Cut) = refuses 9
says_next (Err NextRefused.Beyond) = refuses 5

-- What was read, with the first place and the number of places, or a marker; "sync pair doesn't
-- differ in seven bits" is 4, "stretch beyond the buffer, or above 16,777,216 bits" is 5, "places
-- differ" is 7, "contact neither telegram nor marker" is 8.
abbrev pub says_judged : Judged → Outcome Contact
says_judged (Judged.Read t first count) = gives (read (gives t) first count)
says_judged Judged.Marker = gives marker
says_judged Judged.NotSeven = refuses 4
says_judged Judged.Beyond = refuses 5
says_judged Judged.Differ = refuses 7
says_judged Judged.Neither = refuses 8

-- The same under a store; settings or a place that are refused have their own number.
abbrev pub says_judged_under : JudgedUnder → Outcome Contact
says_judged_under (JudgedUnder.Read t first count) = gives (read (gives t) first count)
says_judged_under JudgedUnder.Marker = gives marker
says_judged_under (JudgedUnder.Settings bad) = refuses (says_bad bad)
says_judged_under JudgedUnder.Beyond = refuses 5
says_judged_under JudgedUnder.Differ = refuses 7
says_judged_under JudgedUnder.Neither = refuses 8
