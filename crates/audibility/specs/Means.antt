-- What the answers mean: they are the `Audible` and `Broken` of `contact_laws`, of any balise that
-- sends the words of what was asked for.
-- Assumes nothing.
use Rattle.std.specs.Prelude.{ℕ, ◌≡◌}
use Rattle.words.specs.Answer.{gives}
use Rattle.balise_line.specs.Line.{OneBalise}
use Rattle.telegram.specs.Spelling.{Words, asked, spell}
use Rattle.contact_laws.specs.Zeroes.{Audible, Broken}
use Rattle.audibility.specs.Sound.{Heard, audible, broken, sound_of}

-- The balise o sends the words spelt for x, y and z, and the answer for them and its sync words is
-- a.
pub record Asked (x y z : ℕ) (o : OneBalise) (a : Heard) : Type 0 where
  pub words : Words
  pub spelt_so : spell (asked x y z) ≡ gives words
  pub x_is : o.x ≡ words.x
  pub y_is : o.y ≡ words.y
  pub z_is : o.z ≡ words.z
  pub answer : sound_of x y z o.s o.t ≡ gives a

pub record Means : Type 0 where
  pub says_broken : (x y z : ℕ) (o : OneBalise) → Asked x y z o broken → Broken o
  pub says_audible : (x y z : ℕ) (o : OneBalise) → Asked x y z o audible → Audible o
