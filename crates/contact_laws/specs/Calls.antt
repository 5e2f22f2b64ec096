-- What the contracts of `contact::begin`, `next_contact` and `judge` allow: the theorems take these
-- as their hypotheses.
-- Assumes nothing.
use Rattle.std.specs.Prelude.{ℕ, ◌-◌, ◌≡◌, List, Ok}
use contract.Lifetimes.{Lfts}
use Rattle.std.specs.Borrow.{Bor}
use borrow.Fn.Kinds.{ended_of}
use denote.Triple.Clauses.{AtExit}
use Rattle.contact.specs.Contacts.{Contacts}
use Rattle.contact.specs.declared.Search.{Search}
use Rattle.contact.specs.declared.Judged.{Judged}
use Rattle.contact.proofs.Law.{Comes}
use Rattle.contact.proofs.Calls.{Begins, Called}
use Rattle.contact.proofs.judge.Kinds as judge_kinds
use Rattle.contact.proofs.judge.Reads as judge_reads

-- The detector goes over the bits of the buffer b from bit `from` up to bit `to`: `begin` gives a
-- search, and of calling `next_contact` on and on the contacts w come, where every answer is one
-- that its contract allows.
pub record Listened (b : List ℕ) (from to : ℕ) (w : Contacts) : Type 0 where
  pub search : Search
  pub begins : Begins b from (to - from) (Ok search)
  pub comes : Comes (Called b) search w

-- The contract of `judge` allows the answer r for this stretch of the buffer and these sync words.
abbrev pub JudgeContact : List ℕ → ℕ → ℕ → ℕ → ℕ → Judged → Type 0
JudgeContact b start len s t r =
    (κs : Lfts 1) × (buf : Bor (List ℕ)) × (e : AtExit (ended_of 1 judge_kinds.ps judge_kinds.r) κs)
    × (buf.now ≡ b) × judge_reads.Post κs (buf, (start, (len, (s, (t, tt))))) r e
