-- The law of the detector for calls: whatever comes of `begin` and of calling `next_contact` on and
-- on, where every answer is one that the contract allows, is the contacts of the whole stretch.
-- Assumes nothing.
use Prim.Native.Nat.{ℕ}
use mathlib.Core.Path.{◌≡◌, sym, ap, ap₂, ◌∙◌}
use mathlib.Core.Bool.{Bool, true, false}
use mathlib.Core.List.{List}
use contract.Lifetimes.{Lfts}
use borrow.Fn.Kinds.{Dens, ended_of}
use denote.Triple.Clauses.{AtExit}
use Rattle.words.specs.Answer.{Outcome, gives, refuses, pick}
use Rattle.telegram.specs.Stretch.{inside}
use Rattle.contact.specs.Contacts.{Contacts, contacts_from, Handed, next_contact, from_start, begin}
use Rattle.contact.specs.Says.{says_next}
use Rattle.contact.specs.declared.Search.{Search}
use Rattle.std.specs.Prelude.{Option, Result, Ok}
use Rattle.telegram.specs.declared.Beyond.{Beyond}
use Rattle.contact.specs.declared.HandedOut.{HandedOut}
use Rattle.contact.specs.declared.NextRefused.{NextRefused}
use Rattle.contact.proofs.Law.{Comes, further, ends, refuses_with, Specified, law, only}
use Rattle.contact.proofs.begin.Kinds as begin_kinds
use Rattle.contact.proofs.begin.Reads as begin_reads
use Rattle.contact.proofs.next_contact.Kinds as next_kinds
use Rattle.contact.proofs.next_contact.Reads as next_reads

-- A call of `begin` with the buffer b and a stretch, which its contract allows to answer r.
pub record Begins (b : List ℕ) (start len : ℕ) (r : Result Search Beyond) : Type 0 where
  pub κs : Lfts 1
  pub given : Dens κs begin_kinds.ps
  pub left : AtExit (ended_of 1 begin_kinds.ps begin_kinds.r) κs
  pub buffer : given.0.now ≡ b
  pub first : given.1.0 ≡ start
  pub bits : given.1.1.0 ≡ len
  pub kept : begin_reads.Post κs given r left

-- A call of `next_contact` with the search s and the buffer b, which its contract allows to answer
-- with o.
pub record Called (b : List ℕ) (s : Search) (o : Outcome Handed) : Type 0 where
  pub κs : Lfts 1
  pub given : Dens κs next_kinds.ps
  pub answer : Result (Option HandedOut) NextRefused
  pub left : AtExit (ended_of 1 next_kinds.ps next_kinds.r) κs
  pub search : given.0 ≡ s
  pub buffer : given.1.0.now ≡ b
  pub kept : next_reads.Post κs given answer left
  pub says : says_next answer ≡ o

as_specified : {b : List ℕ} {s : Search} {o : Outcome Handed} → Called b s o → Specified b s o
as_specified k = sym (ap₂ next_contact k.buffer k.search) ∙ sym k.kept ∙ k.says

all_specified : {b : List ℕ} {s : Search} {w : Contacts} → Comes (Called b) s w → Comes (Specified b) s w
all_specified (further k p) = further (as_specified k) (all_specified p)
all_specified (ends k) = ends (as_specified k)
all_specified (refuses_with k) = refuses_with (as_specified k)

-- Whatever comes of calling `next_contact` on and on is the contacts that the search has before it.
pub called_on : (b : List ℕ) (s : Search) (w : Contacts) → Comes (Called b) s w → w ≡ contacts_from b s
called_on b s w p = only b (all_specified p) (law b s)

-- A search that begins is the one at the stretch's start.
begun_start : (b : List ℕ) (start len : ℕ) (s : Search) → begin b start len ≡ gives s → s ≡ from_start start len
unfolding begin
begun_start b start len s e = go (inside b start len) e
  where
    go : (t : Bool) → pick {A = Outcome Search} t (gives (from_start start len)) (refuses 5) ≡ gives s → s ≡ from_start start len
    go true e = cc
    go false e = cc

-- Begun by `begin`, that is the contacts of the whole stretch.
pub called_from_begin : (b : List ℕ) (start len : ℕ) (s : Search) (w : Contacts)
    → Begins b start len (Ok s) → Comes (Called b) s w → w ≡ contacts_from b (from_start start len)
called_from_begin b start len s w k p =
    let same : begin k.given.0.now k.given.1.0 k.given.1.1.0 ≡ begin b start len = simp (k.buffer, k.first, k.bits) in
    called_on b s w p ∙ ap (contacts_from b) (begun_start b start len s (sym same ∙ sym k.kept))
