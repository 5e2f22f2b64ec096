-- What is promised of the printed list and its reader (document 02, M-105): "It must give for every
-- one of the 65,536 words what the reader by checks gives"; and each word of the list stands at its
-- own figure and nowhere else. That all of this holds: proofs/Alike.antt, of the contracts of this
-- crate's two functions.
-- Assumes nothing.
use Rattle.std.specs.Prelude.{ℕ, ◌<◌, ◌≡◌, List, length, get_or, Result, Ok}
use borrow.Fn.Kinds.{ended_of}
use denote.Triple.Clauses.{AtExit}
use Rattle.words.specs.Code.{read_long}
use Rattle.words.proofs.read_long.Kinds as checks_kinds
use Rattle.words.proofs.read_long.Reads as checks_reads
use Rattle.words.specs.declared.NotCode.{NotCode}
use Rattle.words_list.specs.Listed.{read_by}

-- The contract of the reader by checks, `words::read_long`, allows the answer r for the word w.
abbrev pub ByChecks : ℕ → Result ℕ NotCode → Type 0
ByChecks w r = (x : AtExit (ended_of 0 checks_kinds.ps checks_kinds.r) tt) × checks_reads.Post tt (w, tt) r x

-- The promise. `ByList w r` is that the contract of the second reader, `words_list::read_long`,
-- allows the answer r for the word w; `Lists l` is that the contract of `words_list::list` allows
-- it to hand out the list l.
pub record Printed (ByList : ℕ → Result ℕ NotCode → Type 0) (Lists : List ℕ → Type 0) : Type 0 where
  -- "for every one of the 65,536 words what the reader by checks gives": any two answers are equal,
  -- and both have one
  pub same : (w : ℕ) (r r' : Result ℕ NotCode) → ByChecks w r → ByList w r' → r ≡ r'
  pub answered : (w : ℕ) → (r : Result ℕ NotCode) × (ByChecks w r × ByList w r)
  -- so reads a fitter who goes down the list from figure 0 on
  pub by_hand : (l : List ℕ) → Lists l → (w : ℕ) → w < 65536 → read_by l w ≡ read_long w
  -- each of the 2,048 words stands at its own figure ..
  pub how_many : (l : List ℕ) → Lists l → length l ≡ 2048
  pub own_figure : (l : List ℕ) → Lists l → (x : ℕ) → x < 2048 → ByChecks (get_or l x 0) (Ok x)
  -- .. and nowhere else
  pub nowhere_else : (l : List ℕ) → Lists l → (x y : ℕ) → x < 2048 → y < 2048 → get_or l x 0 ≡ get_or l y 0 → x ≡ y
  -- and no code word is missing
  pub every_one : (l : List ℕ) → Lists l → (w x : ℕ) → w < 65536 → ByChecks w (Ok x) → get_or l x 0 ≡ w
  -- such a list can be handed out
  pub handed_out : (l : List ℕ) × Lists l
