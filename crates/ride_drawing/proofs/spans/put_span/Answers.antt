-- The speeds, and where the next signal is due.
-- Assumes nothing.
use mathlib.Core.Path.{ap, ap₂, ◌∙◌}
use mathlib.Core.Bool.{Bool}
use Prim.Native.Nat.{ℕ}
use Rattle.text.proofs.Putting.{after, all_as}
use Rattle.ride_drawing.specs.Span.{level, is_rising, main_words, target_words, span}
use Rattle.ride_drawing.proofs.spans.put_span.Goals as goal

pub returns : goal.returns
unfolding span
returns c =
    let k = c.args.known in
    let rising = is_rising k.main k.target in
    let l : ℕ = c.on_strip-l.result in
    let r : ℕ = c.on_strip-r.result in
    after _ _ _ _
    (all_as _ _
    (ap (λ (b : Bool). level (main_words b) k.main l r) c.is_rising-rising.ensures ∙ ap₂ (level (main_words rising) k.main) c.on_strip-l.ensures c.on_strip-r.ensures)
    c.put_main-a.ensures)
    (after _ _ _ _
    (all_as _ _
    (ap (λ (b : Bool). level (target_words b) k.target l r) c.is_rising-rising.ensures ∙ ap₂ (level (target_words rising) k.target) c.on_strip-l.ensures c.on_strip-r.ensures)
    c.put_target-b.ensures)
    c.put_band.ensures)
