-- Each word is whole on a strip: a strip shows the first eight bits of the next.
-- Assumes nothing.
use native.Mathlib.Omega.{arith}
use Rattle.contact_drawing.specs.Laws.{OnAStrip}

pub on_a_strip : OnAStrip
on_a_strip = record { word = λ i n h. (omega arith, omega arith, omega arith) }
