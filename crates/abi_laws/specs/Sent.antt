-- Demand 3, and M-112 of document 02, from C: over a stretch of one balise with flips as they
-- allow, what `atc2_find` and `atc2_judge` leave in `out` is the telegram sent, at a true place.
-- What is sent, and what flips: balise_line's specs/Line.antt and Forty.antt.
-- Assumes nothing.
use Rattle.std.specs.Prelude.{ℕ, ◌≡◌, true, List, [], ◌∷◌, ℤ}
use Rattle.words.specs.Answer.{gives}
use Rattle.words.specs.Plain.{among}
use Rattle.telegram.specs.declared.Telegram.{Telegram}
use Rattle.telegram.specs.Place.{at}
use Rattle.telegram.specs.Place as place
use Rattle.contact.specs.Judge.{read}
use Rattle.contact.specs.Judge as contact
use Rattle.balise_line.specs.Line.{OneBalise, Proper, FewFlips, sent_at}
use Rattle.balise_line.specs.Forty.{EqualBit, AtMostInForty}
use Rattle.demands.specs.SyncNoise.{middle}
use Rattle.abi.specs.Face.{as_one}
use Rattle.abi_laws.specs.Calls.{Find, Judge}

-- Over the stretch of this balise only the telegram sent is handed out, at a true place: by
-- `atc2_find` where it finds one, by `atc2_judge` where it reads.
pub record SentFromC (o : OneBalise) : Type 0 where
  pub find : (before : List ℕ) (r : ℤ) (after : List ℕ) (p : ℕ) (m : Telegram) → Find o.buffer o.start o.len o.s o.t before r after
      → place.find o.buffer o.start o.len o.s o.t ≡ gives (at p (gives m))
      → (after ≡ p ∷ as_one o.telegram ∷ []) × (sent_at o p ≡ true)
  pub judge : (before : List ℕ) (r : ℤ) (after : List ℕ) (m : Telegram) (first count : ℕ) → Judge o.buffer o.start o.len o.s o.t before r after
      → contact.judge o.buffer o.start o.len o.s o.t ≡ gives (read (gives m) first count)
      → (after ≡ as_one o.telegram ∷ first ∷ count ∷ []) × (sent_at o first ≡ true)

pub record Demand3FromC : Type 0 where
  -- "if no sync bit flips and no telegram .. has more than three flipped data bits"
  pub few_flips : (o : OneBalise) → Proper o → FewFlips o → SentFromC o
  -- "if no forty bits in a row hold more than two flips, sync words included", for pairs whose
  -- equal bit is the third to the sixth sent
  pub middle_pair : (o : OneBalise) → Proper o → (k : ℕ) → among k middle ≡ true → EqualBit o k → AtMostInForty 2 o → SentFromC o
