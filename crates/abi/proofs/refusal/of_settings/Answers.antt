-- Each case is minus its number.
-- Assumes nothing.
use mathlib.Core.Path.{◌≡◌, sym, ap, subst}
use Prim.Native.Nat.{◌<◌}
use lib.Dec.{T, ltb, ltb→lt}
use lib.IntN.{pos, neg_ℤ}
use Rattle.settings.specs.declared.Bad.{Bad}
use Rattle.settings.specs.Says.{says_bad}
use Rattle.abi.proofs.refusal.of_settings.Goals as goal

-- what is returned, by the case that it is
told : {bad : Bad} (bad' : Bad) → bad ≡ bad' → T (ltb (says_bad bad') 256) → (neg_ℤ (pos (says_bad bad')) ≡ neg_ℤ (pos (says_bad bad))) × (says_bad bad < 256)
told bad' e t = (ap (λ (b : Bad). neg_ℤ (pos (says_bad b))) (sym e), subst (λ (b : Bad). says_bad b < 256) (sym e) (ltb→lt (says_bad bad') 256 t))

pub returns-in-Pair : goal.returns-in-Pair
returns-in-Pair c = told _ c.in-Pair.is tt

pub returns-in-Gap : goal.returns-in-Gap
returns-in-Gap c = told _ c.in-Gap.is tt

pub returns-in-TooHigh : goal.returns-in-TooHigh
returns-in-TooHigh c = told _ c.in-TooHigh.is tt

pub returns-in-NotAbove : goal.returns-in-NotAbove
returns-in-NotAbove c = told _ c.in-NotAbove.is tt

pub returns-in-Full : goal.returns-in-Full
returns-in-Full c = told _ c.in-Full.is tt
