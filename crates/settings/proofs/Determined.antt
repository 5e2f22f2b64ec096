-- Each contract fixes its function's whole answer: any two answers that it allows are equal.
-- Assumes nothing.
use mathlib.Core.Path.{◌≡◌, refl, sym, ap, ◌∙◌}
use Prim.Native.Nat.{ℕ}
use lib.Dec.{eqb}
use Rattle.words.specs.Answer.{Outcome, gives, refuses, pick}
use Rattle.settings.specs.declared.Bad.{Bad}
use Rattle.settings.specs.declared.Begun.{Begun}
use Rattle.settings.specs.declared.Added.{Added}
use Rattle.settings.specs.declared.Held.{Held}
use Rattle.settings.specs.Versions.{Kept}
use Rattle.settings.specs.Store.{Change}
use Rattle.settings.specs.Says.{says_bad, says_verdict, says_begun, says_added, says_asked}
use Rattle.settings.proofs.versions.allowed.Kinds as allowed_kinds
use Rattle.settings.proofs.versions.allowed.Reads as allowed_reads
use Rattle.settings.proofs.begin.Kinds as begin_kinds
use Rattle.settings.proofs.begin.Reads as begin_reads
use Rattle.settings.proofs.add.Kinds as add_kinds
use Rattle.settings.proofs.add.Reads as add_reads
use Rattle.settings.proofs.at.Kinds as at_kinds
use Rattle.settings.proofs.at.Reads as at_reads
use Rattle.settings.proofs.places.leaves.Kinds as leaves_kinds
use Rattle.settings.proofs.places.leaves.Reads as leaves_reads
use Rattle.words.proofs.Told.{Fixed}
use Rattle.std.specs.Prelude.{Result, Ok, Err}

-- From what an answer says, the answer.
abbrev pub bad_of : ℕ → Bad
bad_of n =
    pick (eqb n 4) Bad.Pair
    (pick (eqb n 19) Bad.Gap
    (pick (eqb n 18) Bad.TooHigh
    (pick (eqb n 24) Bad.NotAbove
    Bad.Full)))

pub bad_back : (b : Bad) → bad_of (says_bad b) ≡ b
bad_back Bad.Pair = refl
bad_back Bad.Gap = refl
bad_back Bad.TooHigh = refl
bad_back Bad.NotAbove = refl
bad_back Bad.Full = refl

abbrev pub verdict_of : Outcome Kept → Result (Unit {0}) Bad
verdict_of (gives k) = Ok tt
verdict_of (refuses n) = Err (bad_of n)

pub verdict_back : (v : Result (Unit {0}) Bad) → verdict_of (says_verdict v) ≡ v
verdict_back (Ok tt) = refl
verdict_back (Err b) = ap Err (bad_back b)

abbrev pub begun_of : Change → Begun
begun_of c = record { store = c.store; verdict = verdict_of c.answer }

pub begun_back : (b : Begun) → begun_of (says_begun b) ≡ b
begun_back b = ap (λ (v : Result (Unit {0}) Bad). record { store = b.store; verdict = v }) (verdict_back b.verdict)

abbrev pub added_of : Change → Added
added_of c = record { store = c.store; verdict = verdict_of c.answer }

pub added_back : (a : Added) → added_of (says_added a) ≡ a
added_back a = ap (λ (v : Result (Unit {0}) Bad). record { store = a.store; verdict = v }) (verdict_back a.verdict)

abbrev pub asked_of : Outcome Held → Result Held Bad
asked_of (gives held) = Ok held
asked_of (refuses n) = Err (bad_of n)

pub asked_back : (a : Result Held Bad) → asked_of (says_asked a) ≡ a
asked_back (Ok held) = refl
asked_back (Err b) = ap Err (bad_back b)

pub allowed_determined : Fixed 0 allowed_kinds.ps allowed_kinds.r allowed_reads.Post
allowed_determined κs a r r' x x' p q = p ∙ sym q

pub begin_determined : Fixed 0 begin_kinds.ps begin_kinds.r begin_reads.Post
begin_determined κs a r r' x x' p q = sym (begun_back r) ∙ ap begun_of (p ∙ sym q) ∙ begun_back r'

pub add_determined : Fixed 0 add_kinds.ps add_kinds.r add_reads.Post
add_determined κs a r r' x x' p q = sym (added_back r) ∙ ap added_of (p ∙ sym q) ∙ added_back r'

pub at_determined : Fixed 0 at_kinds.ps at_kinds.r at_reads.Post
at_determined κs a r r' x x' p q = sym (asked_back r) ∙ ap asked_of (p ∙ sym q) ∙ asked_back r'

pub leaves_determined : Fixed 0 leaves_kinds.ps leaves_kinds.r leaves_reads.Post
leaves_determined κs a r r' x x' p q = p ∙ sym q
