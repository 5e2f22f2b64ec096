-- The hypotheses are met: a line and a text, taken and read, that are fine, and one of each that is
-- not.
-- Assumes nothing.
use mathlib.Core.Path.{refl}
use mathlib.Core.List.{List, []}
use Prim.Native.Nat.{ℕ}
use Rattle.settings.specs.declared.Store.{Store}
use Rattle.lines.specs.declared.TextLine.{TextLine}
use Rattle.demands.proofs.Witness.CallsMet.{lent}
use Rattle.settings_text.specs.Taking.{take_line}
use Rattle.settings_text.specs.Sheet.{sheet}
use Rattle.settings_text_laws.specs.Demand1.{Takes, Reads}

-- Every line is taken, and every text read.
pub takes : (store : Store) (line : TextLine) → Takes store line (take_line store line)
takes store line = ((store, (line, tt)), refl)

pub reads : (text : List ℕ) → Reads text (sheet text)
reads text = (([], tt), lent text, (lent text, tt), refl, refl)
