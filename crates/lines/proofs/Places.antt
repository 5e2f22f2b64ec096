-- A word that a line has, whatever would stand for one beyond its places.
-- Assumes nothing.
use mathlib.Core.Path.{◌≡◌}
use Prim.Native.Nat.{ℕ, ◌<◌}
use lib.ListN.{length, get_or}
use Rattle.std.specs.Prelude.{Ok, None}
use Rattle.std.proofs.lemmas.List.{get_or_default}
use Rattle.lines.specs.declared.Name.{Name}
use Rattle.lines.specs.declared.Word.{Word}
use Rattle.lines.specs.declared.TextLine.{TextLine}
use Rattle.lines.specs.Words.{no_word}

-- What a place beyond a list of words would give.
abbrev pub beyond : Word
beyond = record { number = Ok 0; byte = None; name = Name.Other }

pub word_there : (line : TextLine) (i : ℕ) → i < length line.words → get_or line.words i beyond ≡ get_or line.words i no_word
word_there line i h = get_or_default line.words i beyond no_word h
