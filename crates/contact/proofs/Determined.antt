-- Each contract fixes its function's whole answer: any two answers that it allows are equal.
-- Assumes nothing.
use mathlib.Core.Path.{◌≡◌, refl, sym, ap, ◌∙◌}
use lib.Dec.{eqb}
use Rattle.words.specs.Answer.{Outcome, gives, refuses, pick}
use Rattle.contact.specs.Contacts.{Handed, handed, no_further}
use Rattle.telegram.proofs.Determined.{told}
use Rattle.contact.specs.Judge.{Contact, read, marker}
use Rattle.contact.specs.Says.{says_search_begun, says_next, says_judged, says_judged_under}
use Rattle.contact.specs.declared.Search.{Search}
use Rattle.std.specs.Prelude.{Option, Some, None, Result, Ok, Err}
use Rattle.telegram.specs.declared.Beyond.{Beyond}
use Rattle.contact.specs.declared.HandedOut.{HandedOut}
use Rattle.contact.specs.declared.NextRefused.{NextRefused}
use Rattle.contact.specs.declared.Judged.{Judged}
use Rattle.contact.specs.declared.JudgedUnder.{JudgedUnder}
use Rattle.settings.specs.declared.Bad.{Bad}
use Rattle.settings.proofs.Determined.{bad_of}
use Rattle.contact.proofs.begin.Kinds as begin_kinds
use Rattle.contact.proofs.begin.Reads as begin_reads
use Rattle.contact.proofs.next_contact.Kinds as next_kinds
use Rattle.contact.proofs.next_contact.Reads as next_reads
use Rattle.contact.proofs.judge.Kinds as judge_kinds
use Rattle.contact.proofs.judge.Reads as judge_reads
use Rattle.contact.proofs.judge_under.Kinds as judge_under_kinds
use Rattle.contact.proofs.judge_under.Reads as judge_under_reads
use Rattle.words.proofs.Told.{Fixed}

-- From what an answer says, the answer.
abbrev pub begun_of : Outcome Search → Result Search Beyond
begun_of (gives s) = Ok s
begun_of (refuses n) = Err (record {})

pub begun_back : (r : Result Search Beyond) → begun_of (says_search_begun r) ≡ r
begun_back (Ok s) = refl
begun_back (Err e) = refl

abbrev pub next_of : Outcome Handed → Result (Option HandedOut) NextRefused
next_of (gives (handed start length then)) = Ok (Some (record { start = start; length = length; then = then }))
next_of (gives no_further) = Ok None
next_of (refuses n) = Err (pick (eqb n 9) NextRefused.Cut NextRefused.Beyond)

pub next_back : (r : Result (Option HandedOut) NextRefused) → next_of (says_next r) ≡ r
next_back (Ok (Some contact)) = refl
next_back (Ok None) = refl
next_back (Err NextRefused.Cut) = refl
next_back (Err NextRefused.Beyond) = refl

abbrev pub judged_of : Outcome Contact → Judged
judged_of (gives (read m first count)) = told (λ t. Judged.Read t first count) Judged.Neither m
judged_of (gives marker) = Judged.Marker
judged_of (refuses n) =
    pick (eqb n 4) Judged.NotSeven (pick (eqb n 5) Judged.Beyond (pick (eqb n 7) Judged.Differ Judged.Neither))

pub judged_back : (r : Judged) → judged_of (says_judged r) ≡ r
judged_back (Judged.Read t first count) = refl
judged_back Judged.Marker = refl
judged_back Judged.NotSeven = refl
judged_back Judged.Beyond = refl
judged_back Judged.Differ = refl
judged_back Judged.Neither = refl

pub begin_determined : Fixed 1 begin_kinds.ps begin_kinds.r begin_reads.Post
begin_determined κs a r r' x x' p q = sym (begun_back r) ∙ ap begun_of (p ∙ sym q) ∙ begun_back r'

pub next_contact_determined : Fixed 1 next_kinds.ps next_kinds.r next_reads.Post
next_contact_determined κs a r r' x x' p q = sym (next_back r) ∙ ap next_of (p ∙ sym q) ∙ next_back r'

pub judge_determined : Fixed 1 judge_kinds.ps judge_kinds.r judge_reads.Post
judge_determined κs a r r' x x' p q = sym (judged_back r) ∙ ap judged_of (p ∙ sym q) ∙ judged_back r'

abbrev pub judged_under_of : Outcome Contact → JudgedUnder
judged_under_of (gives (read m first count)) = told (λ t. JudgedUnder.Read t first count) JudgedUnder.Neither m
judged_under_of (gives marker) = JudgedUnder.Marker
judged_under_of (refuses n) =
    pick (eqb n 5) JudgedUnder.Beyond (pick (eqb n 7) JudgedUnder.Differ (pick (eqb n 8) JudgedUnder.Neither (JudgedUnder.Settings (bad_of n))))

pub judged_under_back : (r : JudgedUnder) → judged_under_of (says_judged_under r) ≡ r
judged_under_back (JudgedUnder.Read t first count) = refl
judged_under_back JudgedUnder.Marker = refl
judged_under_back (JudgedUnder.Settings Bad.Pair) = refl
judged_under_back (JudgedUnder.Settings Bad.Gap) = refl
judged_under_back (JudgedUnder.Settings Bad.TooHigh) = refl
judged_under_back (JudgedUnder.Settings Bad.NotAbove) = refl
judged_under_back (JudgedUnder.Settings Bad.Full) = refl
judged_under_back JudgedUnder.Beyond = refl
judged_under_back JudgedUnder.Differ = refl
judged_under_back JudgedUnder.Neither = refl

pub judge_under_determined : Fixed 1 judge_under_kinds.ps judge_under_kinds.r judge_under_reads.Post
judge_under_determined κs a r r' x x' p q = sym (judged_under_back r) ∙ ap judged_under_of (p ∙ sym q) ∙ judged_under_back r'
