-- The last lines of a ride, as the program `view` keeps them for a terminal: block by block, of
-- what it kept and what came the last lines again. They are the last of all. Over the contract of
-- `viewer_text::last_lines`, for any answers that it allows. That it holds: proofs/Lasting.antt.
-- Assumes nothing.
use Rattle.std.specs.Prelude.{ℕ, ◌≡◌, List, ◌++◌, drop}
use contract.Lifetimes.{Lfts}
use Rattle.std.specs.Borrow.{Bor}
use borrow.Fn.Kinds.{ended_of}
use denote.Triple.Clauses.{AtExit}
use Rattle.viewer_text.proofs.last_lines.Kinds as last_kinds
use Rattle.viewer_text.proofs.last_lines.Reads as last_reads

-- The contract of `last_lines` allows the answer r for this text and so many lines.
abbrev pub LastLines : List ℕ → ℕ → ℕ → Type 0
LastLines text lines r =
    (κs : Lfts 1) × (lent : Bor (List ℕ)) × (e : AtExit (ended_of 1 last_kinds.ps last_kinds.r) κs)
    × (lent.now ≡ text) × last_reads.Post κs (lent, (lines, tt)) r e

-- Of a text the last lines are kept; of them and more the last again: they are the last lines of
-- both texts together.
pub record Lasting : Type 0 where
  pub together : (text more : List ℕ) (lines p q r : ℕ) → LastLines text lines p → LastLines (drop p text ++ more) lines q → LastLines (text ++ more) lines r
      → drop q (drop p text ++ more) ≡ drop r (text ++ more)
