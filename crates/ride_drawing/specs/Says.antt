-- What each case of this crate's answers says.
-- Assumes nothing.
use Rattle.std.specs.Prelude.{ℕ, false, List}
use Rattle.ride_text.specs.Says.{says_done}
use Rattle.ride_drawing.specs.declared.Pen.{Pen}
use Rattle.ride_drawing.specs.declared.Drawn.{Drawn}
use Rattle.ride_drawing.specs.Draw.{Block}

-- A pen before the first strip.
abbrev pub fresh_pen : Pen
fresh_pen = record { edge = 0; from = 0; is_open = false; ticks = 0 }

-- A block drawn: what was taken, where the drawing stands, and the buffer then.
abbrev pub says_drawn : Drawn → List ℕ → Block
says_drawn d out = record { answer = says_done d.done; drawing = d.drawing; out = out }
