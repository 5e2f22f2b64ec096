-- The commands of the program `view`, a line each without its newline: a letter, and after blanks a
-- number where one is asked for. It asks (`Command`) for so many records forward or back, to go to
-- where so many lie before, to a place, to the next line of the ride with a word, for the same
-- again, the end, or nothing that is known. Blanks around it do not count, nor how many stand
-- before its number, nor whether its letter is a capital.
-- Assumes nothing.
use Rattle.std.specs.Prelude.{ℕ, zero, suc, ◌+◌, ◌-◌, Bool, ◌||◌, List, [], ◌∷◌, eqb, leb, length, get_or, take, drop, Result, Ok, Err}
use Rattle.words.specs.Answer.{pick}
use Rattle.words.specs.Limits.{largest64}
use Rattle.figures.specs.Figures.{decimal}
use Rattle.figures.specs.declared.NotFigure.{NotFigure}
use Rattle.viewer_text.specs.Finding.{small}
use Rattle.viewer_text.specs.declared.commands.Command.{Command}

-- The largest number that is asked for: a larger one means it.
abbrev pub largest : ℕ
largest = largest64

-- A command by its letter, with the number after it. Just before record n lie n - 1; record 0 is
-- none, so `g 0` asks for nothing.
unfoldable pub by : ℕ → ℕ → Command
by letter n =
    pick (eqb letter 102) (Command.Forward n)
    (pick (eqb letter 98) (Command.Back n)
    (pick (eqb letter 103) (pick (eqb n 0) Command.Unknown (Command.Go (n - 1)))
    (pick (eqb letter 112) (Command.Place n)
    Command.Unknown)))

-- A letter alone: `f` and `b` once, `q`.
unfoldable pub alone : ℕ → Command
alone letter = pick (eqb letter 102) (Command.Forward 1) (pick (eqb letter 98) (Command.Back 1) (pick (eqb letter 113) Command.Quit Command.Unknown))

-- A number that is too large is the largest; what is no number makes no command.
abbrev pub numbered : ℕ → Result ℕ NotFigure → Command
numbered letter (Ok n) = by letter n
numbered letter (Err NotFigure.Above) = by letter largest
numbered letter (Err NotFigure.Odd) = Command.Unknown

-- A blank: a space, a tab, or the CR that stands before the newline on some machines.
abbrev pub blank : ℕ → Bool
blank c = eqb c 32 || eqb c 9 || eqb c 13

-- How many blanks a line begins with.
unfoldable pub leading : List ℕ → ℕ
leading [] = 0
leading (c ∷ cs) = pick (blank c) (leading cs + 1) 0

-- Where the last of the first n signs ends that is no blank.
unfoldable pub ends_at : ℕ → List ℕ → ℕ
ends_at zero line = 0
ends_at (suc n) line = pick (blank (get_or line n 0)) (ends_at n line) (suc n)

-- A letter and what stands after it: a blank or more, and a number.
unfoldable pub followed : ℕ → List ℕ → Command
followed letter rest =
    pick (eqb (leading rest) 0) Command.Unknown
    (numbered letter (decimal (drop (leading rest) rest) largest))

-- What stands in a line from one place up to another: nothing asks for the same again; a slash and
-- a word, where no letter means the word before; a letter alone; a letter, blanks and a number.
unfoldable pub command_in : List ℕ → ℕ → ℕ → Command
command_in line from to =
    pick (leb to from) Command.Again
    (pick (eqb (small (get_or line from 0)) 47) (Command.Find (from + 1) to)
    (pick (eqb (to - from) 1) (alone (small (get_or line from 0)))
    (followed (small (get_or line from 0)) (take (to - (from + 1)) (drop (from + 1) line)))))

-- A line, without the blanks around it.
unfoldable pub command : List ℕ → Command
command line = command_in line (leading line) (ends_at (length line) line)
