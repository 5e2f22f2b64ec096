-- What the loop keeps true.
use mathlib.Core.Path.{◌≡◌}
use Prim.Native.Nat.{◌+◌, ◌-◌, ◌*◌}
use lib.ListN.{length, drop}
use Rattle.settings.specs.At.{gap_at}
use Rattle.ride.specs.Over.{records}
use Rattle.viewer_text.specs.Seeking.{further, seek_in}
use Rattle.viewer_text.proofs.seeking.over.Given as goal

abbrev pub invariant-loop-i : goal.invariant-loop-i
invariant-loop-i l =
    (length l.text ≡ 320)
    × (further (l.i - l.number) (seek_in l.word (gap_at l.store) l.now (l.i + 1) (records (drop (l.i * 8) l.trace)))
    ≡ seek_in l.word (gap_at l.store) l.initial.now (l.number + 1) (records (drop (l.number * 8) l.trace)))
