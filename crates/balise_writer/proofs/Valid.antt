-- What is written for a telegram that is not refused is a proper line of it.
-- Assumes nothing.
use mathlib.Core.Path.{◌≡◌}
use mathlib.Core.Bool.{true, false}
use mathlib.Core.List.{List}
use Prim.Native.Nat.{ℕ, ◌+◌, ◌*◌, ◌^◌, ◌≤◌, ◌<◌}
use native.Mathlib.Omega.{arith}
use lib.ListN.{length}
use borrow.Author.Tests.{le-leb, lt-ltb}
use Rattle.telegram.specs.Stretch.{inside}
use Rattle.telegram.specs.Sync.{is_good}
use Rattle.telegram.specs.Spelling.{asked, too_large, has_fifteen}
use Rattle.telegram.proofs.ReadsBack.{asked_read, words_small}
use Rattle.balise_line.specs.Line.{Proper}
use Rattle.balise_writer.specs.Sender.{sender}

pub is_proper : (x y z s t n : ℕ) (buffer : List ℕ) → s < 256 → t < 256 → too_large (asked x y z) ≡ false → has_fifteen (asked x y z) ≡ false → is_good s t ≡ true
    → n ≤ 1000 → 4 * n + 1 ≤ length buffer → Proper (sender (asked x y z) s t n buffer)
unfolding inside
is_proper x y z s t n buffer hs ht small none good most room =
    let w = words_small (asked x y z) in
    let ends : 0 + 8 * (4 * n + 1) ≤ 8 * length buffer = omega arith in
    let fits : 0 + 8 * (4 * n + 1) < 2 ^ 64 = omega arith in
    let few : 8 * (4 * n + 1) ≤ 16777216 = omega arith in
    record {
      bytes = (hs, ht, w.0, w.1, w.2);
      pair = good;
      valid = asked_read x y z small none;
      taken = simp (le-leb _ _ ends, lt-ltb _ _ fits, le-leb _ _ few);
    }
