-- What the loop keeps true.
use mathlib.Core.Path.{◌≡◌}
use Rattle.words.specs.Plain.{covers, count}
use Rattle.words.proofs.writing.count.Given as goal

abbrev pub invariant-loop-i : goal.invariant-loop-i
invariant-loop-i l = l.found ≡ count (covers l.c) l.h l.i
