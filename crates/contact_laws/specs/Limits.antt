-- Less does not always do: examples, one for each figure of what is sure to be heard.
-- Assumes nothing.
use Rattle.std.specs.Prelude.{ℕ, suc, ◌+◌, ◌-◌, ◌%◌, ◌≤◌, ◌≡◌, true, List, [], ◌∷◌}
use Rattle.telegram.specs.Stretch.{inside}
use Rattle.balise_line.specs.Line.{OneBalise, Proper}
use Rattle.contact.specs.Contacts.{Contacts, contact, quiet}
use Rattle.contact.specs.declared.Search.{Search}
use Rattle.contact.specs.declared.Judged.{Judged}
use Rattle.contact_laws.specs.Calls.{Listened, JudgeContact}
use Rattle.contact_laws.specs.Zeroes.{Audible}
use Rattle.contact_laws.specs.Pass.{between, Pass}
use Rattle.contact_laws.specs.Heard.{enough, OverIt, NoFalse}
use Rattle.contact_laws.specs.Row.{balise, Row}

-- An audible balise that is passed clean, whose one contact `judge` answers with r.
pub record Answered (o : OneBalise) (r : Judged) : Type 0 where
  pub from : ℕ
  pub to : ℕ
  pub proper : Proper o
  pub audible : Audible o
  pub pass : Pass o from to
  pub answered : (w : Contacts) → Listened o.buffer from to w
      → (c : OverIt o w) × ((a : Judged) → JudgeContact o.buffer (o.start + c.skipped) (o.len + c.ones_in - c.skipped) o.s o.t a → a ≡ r)

pub record LessDoesNot : Type 0 where
  -- One bit less than 167: a balise that is refused with 8, though no place is false.
  pub one_bit_less : (o : OneBalise) × (suc o.len ≡ enough) × NoFalse o × Answered o Judged.Neither
  -- One of the ones between less than twelve: two balises of which one contact comes.
  pub one_less_between : (b : List ℕ) × (apart : ℕ) × (from : ℕ) × (to : ℕ) × (o : OneBalise) × (p : OneBalise)
      × (suc apart ≡ between) × (inside b from (to - from) ≡ true) × Row apart b from to (balise o ∷ balise p ∷ [])
      × ((w : Contacts) → Listened b from to w → (start : ℕ) × (length : ℕ) × (then : Search) × (w ≡ contact start length then quiet))
  -- With the sync words 00 and 7F hex a place can be false though the balise is long enough over
  -- the antenna: the places differ, refusal 7.
  pub false_place : (o : OneBalise) × (enough ≤ o.len) × Answered o Judged.Differ
