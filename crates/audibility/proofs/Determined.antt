-- Each contract fixes the whole answer, and every byte of the buffer: any two that it allows are
-- equal.
-- Assumes nothing.
use mathlib.Core.Path.{◌≡◌, refl, sym, ap, ◌∙◌}
use lib.Dec.{eqb}
use Rattle.words.specs.Answer.{Outcome, gives, refuses, pick}
use Rattle.audibility.specs.Sound.{Heard, audible, broken}
use Rattle.audibility.specs.Says.{says_sound}
use Rattle.audibility.specs.declared.Sound.{Sound}
use Rattle.audibility.proofs.sound_of.Kinds as sound_of_kinds
use Rattle.audibility.proofs.sound_of.Reads as sound_of_reads
use Rattle.audibility.proofs.put_telegram.Kinds as put_telegram_kinds
use Rattle.audibility.proofs.put_telegram.Reads as put_telegram_reads
use Rattle.audibility.proofs.put_count.Kinds as put_count_kinds
use Rattle.audibility.proofs.put_count.Reads as put_count_reads
use Rattle.words.proofs.Told.{Fixed, FixedWith}
use Rattle.text.proofs.Putting.{same_put}

-- From what an answer says, the answer.
abbrev pub sound_from : Outcome Heard → Sound
sound_from (gives audible) = Sound.Audible
sound_from (gives broken) = Sound.Broken
sound_from (refuses n) = pick (eqb n 2) Sound.TooLarge (pick (eqb n 3) Sound.Fifteen Sound.NotSeven)

pub sound_back : (r : Sound) → sound_from (says_sound r) ≡ r
sound_back Sound.Audible = refl
sound_back Sound.Broken = refl
sound_back Sound.TooLarge = refl
sound_back Sound.Fifteen = refl
sound_back Sound.NotSeven = refl

pub sound_of_determined : Fixed 0 sound_of_kinds.ps sound_of_kinds.r sound_of_reads.Post
sound_of_determined κs a r r' x x' p q = sym (sound_back r) ∙ ap sound_from (p ∙ sym q) ∙ sound_back r'

pub put_telegram_determined : FixedWith 1 put_telegram_kinds.ps put_telegram_kinds.r put_telegram_reads.Post (λ κs x. x.1.1.1.0.now)
put_telegram_determined κs a r r' x x' p q = same_put (p ∙ sym q)

pub put_count_determined : FixedWith 1 put_count_kinds.ps put_count_kinds.r put_count_reads.Post (λ κs x. x.1.1.0.now)
put_count_determined κs a r r' x x' p q = same_put (p ∙ sym q)
