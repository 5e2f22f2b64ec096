-- `atc2_next_contact` returns 1, leaves the contact and moves the search on, or leaves both arrays,
-- as `next_contact` answers.
-- Assumes nothing.
use mathlib.Core.Path.{◌≡◌, ap, ◌∙◌}
use mathlib.Core.List.{List}
use Prim.Native.Nat.{ℕ}
use Rattle.words.specs.Answer.{Outcome}
use Rattle.contact.specs.Contacts.{Handed}
use Rattle.contact.specs.Says.{says_next}
use Rattle.std.specs.Prelude.{Option, Result, Ok, Err}
use Rattle.contact.specs.declared.HandedOut.{HandedOut}
use Rattle.contact.specs.declared.NextRefused.{NextRefused}
use Rattle.abi.specs.Contacts.{next_number, next_put, next_moved}
use Rattle.abi.specs.Face.{returned, left}
use Rattle.abi.proofs.Carried.{faced, lent}
use Rattle.abi.proofs.contacts.atc2_next_contact.Goals as goal

-- The number and both arrays of an answer, for the case that it is.
all : (search out : List ℕ) {n n' : Result (Option HandedOut) NextRefused} {o : Outcome Handed} → n ≡ n' → says_next n ≡ o
    → (returned next_number (says_next n') ≡ returned next_number o)
    × ((left next_moved (says_next n') search ≡ left next_moved o search) × (left next_put (says_next n') out ≡ left next_put o out))
all search out is said =
    let (status, moved) = faced says_next next_number next_moved search is said in
    (status, (moved, lent says_next next_number next_put out is said))

pub returns-in-Ok-Some : goal.returns-in-Ok-Some
returns-in-Ok-Some c =
    let args = c.args in
    let both = all args.search.now args.out.now (c.in-Ok-Some.is ∙ ap Ok c.in-Ok-Some.field-0-is) c.next_contact.ensures in
    record { value = both.0; search_after = both.1.0; out_after = both.1.1 }

pub returns-in-Ok-None : goal.returns-in-Ok-None
returns-in-Ok-None c =
    let args = c.args in
    let both = all args.search.now args.out.now (c.in-Ok-None.is ∙ ap Ok c.in-Ok-None.field-0-is) c.next_contact.ensures in
    record { value = both.0; search_after = both.1.0; out_after = both.1.1 }

pub returns-in-Err-Cut : goal.returns-in-Err-Cut
returns-in-Err-Cut c =
    let args = c.args in
    let both = all args.search.now args.out.now (c.in-Err-Cut.is ∙ ap Err c.in-Err-Cut.field-0-is) c.next_contact.ensures in
    record { value = both.0; search_after = both.1.0; out_after = both.1.1 }

pub returns-in-Err-Beyond : goal.returns-in-Err-Beyond
returns-in-Err-Beyond c =
    let args = c.args in
    let both = all args.search.now args.out.now (c.in-Err-Beyond.is ∙ ap Err c.in-Err-Beyond.field-0-is) c.next_contact.ensures in
    record { value = both.0; search_after = both.1.0; out_after = both.1.1 }
