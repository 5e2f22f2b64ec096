-- The contract fixes the whole answer and every byte of the lead: any two answers that it allows
-- are equal, and so are the leads then.
-- Assumes nothing.
use mathlib.Core.Path.{sym, ap, ◌∙◌}
use Rattle.lead_noise.specs.Noise.{Noise}
use Rattle.lead_noise.proofs.add_noise.Kinds as kinds
use Rattle.lead_noise.proofs.add_noise.Reads as reads
use Rattle.words.proofs.Told.{FixedWith}

pub add_noise_determined : FixedWith 1 kinds.ps kinds.r reads.Post (λ κs x. x.1.1.0.now)
add_noise_determined κs a r r' x x' p q =
    let same = p ∙ sym q in
    (ap (λ (n : Noise). n.x) same, ap (λ (n : Noise). n.lead) same)
