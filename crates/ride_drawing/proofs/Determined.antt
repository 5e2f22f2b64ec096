-- Each contract fixes its function's whole answer and the lent buffer then: any two answers that it
-- allows are equal, and so are the buffers.
-- Assumes nothing.
use mathlib.Core.Path.{◌≡◌, sym, ap, ◌∙◌}
use mathlib.Core.List.{List}
use Prim.Native.Nat.{ℕ}
use Rattle.ride_text.specs.declared.Took.{Took}
use Rattle.ride.specs.declared.TraceRefused.{TraceRefused}
use Rattle.std.specs.Prelude.{Result}
use Rattle.ride_text.proofs.Determined.{done_of, done_back}
use Rattle.ride_drawing.specs.declared.Drawn.{Drawn}
use Rattle.ride_drawing.specs.Draw.{Block}
use Rattle.ride_drawing.specs.Says.{says_drawn}
use Rattle.ride_drawing.proofs.fresh_pen.Kinds as fresh_pen_kinds
use Rattle.ride_drawing.proofs.fresh_pen.Reads as fresh_pen_reads
use Rattle.ride_drawing.proofs.draw.Kinds as draw_kinds
use Rattle.ride_drawing.proofs.draw.Reads as draw_reads
use Rattle.ride_drawing.proofs.draw_end.Kinds as draw_end_kinds
use Rattle.ride_drawing.proofs.draw_end.Reads as draw_end_reads
use Rattle.words.proofs.Told.{Fixed, FixedWith}
use Rattle.text.proofs.Putting.{same_put}

pub fresh_pen_determined : Fixed 0 fresh_pen_kinds.ps fresh_pen_kinds.r fresh_pen_reads.Post
fresh_pen_determined κs a r r' x x' p q = p ∙ sym q

-- The answer that a block says.
drawn_back : (r : Drawn) (out : List ℕ) → ◌≡◌ {A = Drawn} (record { drawing = r.drawing; done = done_of (says_drawn r out).answer }) r
drawn_back r out = ap (λ (d : Result Took TraceRefused). record { drawing = r.drawing; done = d }) (done_back r.done)

pub draw_determined : FixedWith 2 draw_kinds.ps draw_kinds.r draw_reads.Post (λ κs x. x.1.1.1.1.0.now)
draw_determined κs a r r' x x' p q =
    let b : List ℕ = x.1.1.1.1.0.now in
    let b' : List ℕ = x'.1.1.1.1.0.now in
    let same : says_drawn r b ≡ says_drawn r' b' = p ∙ sym q in
    (sym (drawn_back r b) ∙ ap (λ (k : Block). record { drawing = k.drawing; done = done_of k.answer }) same ∙ drawn_back r' b', ap (λ (k : Block). k.out) same)

pub draw_end_determined : FixedWith 1 draw_end_kinds.ps draw_end_kinds.r draw_end_reads.Post (λ κs x. x.1.1.1.0.now)
draw_end_determined κs a r r' x x' p q = same_put (p ∙ sym q)
