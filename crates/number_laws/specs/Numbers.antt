-- Demand 1 for two functions of crates that `demands` does not rest on: the second reader of the
-- long code, by the printed list, and what tells whether a balise can be heard. Each refuses with
-- the first number of its list whose condition holds, and reads exactly if none does.
-- Assumes nothing.
use Rattle.std.specs.Prelude.{ℕ, [], ◌∷◌, Result}
use borrow.Fn.Kinds.{ended_of}
use denote.Triple.Clauses.{AtExit}
use Rattle.words.specs.Why.{not_code_word}
use Rattle.words.specs.Plain.{figure}
use Rattle.words.specs.Code.{exchanged}
use Rattle.words.specs.Says.{says_read}
use Rattle.words.specs.declared.NotCode.{NotCode}
use Rattle.words_list.proofs.read_long.Kinds as list_kinds
use Rattle.words_list.proofs.read_long.Reads as list_reads
use Rattle.audibility.specs.Says.{says_sound}
use Rattle.audibility.specs.declared.Sound.{Sound}
use Rattle.audibility.proofs.sound_of.Kinds as sound_kinds
use Rattle.audibility.proofs.sound_of.Reads as sound_reads
use Rattle.demands.specs.Rules.{row_of, row, Decided, Given, Is}
use Rattle.demands.specs.Table.{not_code, not_seven}
use Rattle.demands.specs.Table02.{some_above, some_fifteen}
use Rattle.demands.specs.Untouched.{Bare}

-- The contract of `words_list::read_long` allows the answer r for the word w.
abbrev pub ReadByList : ℕ → Result ℕ NotCode → Type 0
ReadByList w r = (x : AtExit (ended_of 0 list_kinds.ps list_kinds.r) tt) × list_reads.Post tt (w, tt) r x

-- The contract of `audibility::sound_of` allows the answer r for these figures and sync words.
abbrev pub SoundOf : ℕ → ℕ → ℕ → ℕ → ℕ → Sound → Type 0
SoundOf x y z s t r = (e : AtExit (ended_of 0 sound_kinds.ps sound_kinds.r) tt) × sound_reads.Post tt (x, (y, (z, (s, (t, tt))))) r e

pub record NumbersDecided : Type 0 where
  -- 1, as the reader by checks has it
  pub read_by_list : (w : ℕ) (r : Result ℕ NotCode) → ReadByList w r
      → Decided (Is (figure 16 (exchanged 16 w))) (row_of (not_code_word 16 w) (not_code 16 w) ∷ []) (says_read r)
  -- 2 and 3 for what is to be sent, then 4 for the pair
  pub sound_of_law : (x y z s t : ℕ) (r : Sound) → SoundOf x y z s t r
      → Decided Given (row 2 (some_above x y z) ∷ row 3 (some_fifteen x y z) ∷ row 4 (not_seven s t) ∷ []) (says_sound r)
  -- no refusal carries a figure (of a word of the long code: `Untouched` of demands)
  pub sound : Bare says_sound
