-- What stands in a line, by what its tests say.
-- Assumes nothing.
use Prim.Native.Nat.{ℕ, zero, suc, ◌+◌, ◌-◌, ◌≤◌, ◌<◌}
use mathlib.Core.Path.{◌≡◌, ap, ◌∙◌}
use mathlib.Core.Bool.{Bool, true, false}
use mathlib.Core.List.{List, [], ◌∷◌}
use native.Mathlib.Omega.{arith}
use borrow.Author.Tests.{eq-eqb, ne_eqb, le-leb, lt-leb}
use lib.ListN.{length, get_or, take, drop}
use Rattle.words.specs.Answer.{pick}
use Rattle.figures.specs.Figures.{decimal}
use Rattle.viewer_text.specs.Finding.{small}
use Rattle.viewer_text.specs.Commands.{largest, alone, numbered, blank, leading, ends_at, followed, command_in, command}
use Rattle.viewer_text.specs.declared.commands.Command.{Command}

-- a line ends within its signs
ends_by : (b : Bool) (n : ℕ) (line : List ℕ) → ends_at n line ≤ n → pick b (ends_at n line) (suc n) ≤ suc n
ends_by true n line h = omega arith
ends_by false n line h = omega arith

pub ends_within : (n : ℕ) (line : List ℕ) → ends_at n line ≤ n
unfolding ends_at
ends_within zero line = omega arith
ends_within (suc n) line = ends_by (blank (get_or line n 0)) n line (ends_within n line)

-- and begins within them
leads_by : (b : Bool) (c : ℕ) (line : List ℕ) → leading line ≤ length line → pick b (leading line + 1) 0 ≤ length (c ∷ line)
leads_by true c line h = omega arith
leads_by false c line h = omega arith

pub leads_within : (line : List ℕ) → leading line ≤ length line
unfolding leading
leads_within [] = omega arith
leads_within (c ∷ line) = leads_by (blank c) c line (leads_within line)

-- the line without the blanks around it
pub trimmed : (line : List ℕ) (from to : ℕ) → from ≡ leading line → to ≡ ends_at (length line) line → command_in line from to ≡ command line
unfolding command
trimmed line from to b e = ap (λ (f : ℕ). command_in line f to) b ∙ ap (command_in line (leading line)) e

pub again_is : (line : List ℕ) (from to : ℕ) → to ≤ from → Command.Again ≡ command_in line from to
unfolding command_in
again_is line from to h = rw (le-leb to from h)

pub find_is : (line : List ℕ) (from to : ℕ) → from < to → small (get_or line from 0) ≡ 47 → Command.Find (from + 1) to ≡ command_in line from to
unfolding command_in
find_is line from to h s = rw (lt-leb to from h, eq-eqb (small (get_or line from 0)) 47 s)

pub alone_is : (line : List ℕ) (from to : ℕ) → from < to → (small (get_or line from 0) ≡ 47 → ⊥) → to - from ≡ 1 → alone (small (get_or line from 0)) ≡ command_in line from to
unfolding command_in
alone_is line from to h s e = rw (lt-leb to from h, ne_eqb (small (get_or line from 0)) 47 s, eq-eqb (to - from) 1 e)

pub followed_is : (line : List ℕ) (from to : ℕ) → from < to → (small (get_or line from 0) ≡ 47 → ⊥) → (to - from ≡ 1 → ⊥)
    → followed (small (get_or line from 0)) (take (to - (from + 1)) (drop (from + 1) line)) ≡ command_in line from to
unfolding command_in
followed_is line from to h s e = rw (lt-leb to from h, ne_eqb (small (get_or line from 0)) 47 s, ne_eqb (to - from) 1 e)

-- What stands after a letter, by how many blanks it begins with: none,
pub unled_is : (letter : ℕ) (rest : List ℕ) → leading rest ≡ 0 → Command.Unknown ≡ followed letter rest
unfolding followed
unled_is letter rest e = rw (eq-eqb (leading rest) 0 e)

-- or some.
pub led_is : (letter : ℕ) (rest : List ℕ) → (leading rest ≡ 0 → ⊥) → numbered letter (decimal (drop (leading rest) rest) largest) ≡ followed letter rest
unfolding followed
led_is letter rest e = rw (ne_eqb (leading rest) 0 e)
