-- What the loop keeps true.
use mathlib.Core.Path.{◌≡◌}
use Rattle.contact.specs.Judge.{all_zero}
use Rattle.contact.proofs.marker.all_zero.Given as goal

abbrev pub invariant-loop-n : goal.invariant-loop-n
invariant-loop-n l = all_zero l.buf l.start l.len ≡ all_zero l.buf l.start l.n
