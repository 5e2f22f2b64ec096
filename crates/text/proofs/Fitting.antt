-- Pieces that have room are one text put.
-- Assumes nothing.
use Prim.Native.Nat.{ℕ, ◌+◌, ◌≤◌}
use native.Mathlib.Omega.{arith}
use native.Mathlib.Nat.{add-zero}
use mathlib.Core.Path.{◌≡◌, refl, sym, ◌∙◌}
use mathlib.Core.List.{List, [], ◌∷◌}
use lib.ListN.{length}
use Rattle.text.specs.Put.{put, came}
use Rattle.text.proofs.Placing.{placed_none}
use Rattle.text.proofs.Standing.{was_put, join, room_after}
use Rattle.text.specs.Pieces.{puts, whole}

-- what putting a text gives
gives_it : (t b : List ℕ) (at : ℕ) → came (put t b at).next (put t b at).buffer ≡ put t b at
gives_it t b at = refl

pub fitting : (ps : List (List ℕ)) (b : List ℕ) (at : ℕ) → at + length (whole ps) ≤ length b → puts ps b at ≡ put (whole ps) b at
unfolding puts
fitting [] b at h = was_put (record { put = (sym (add-zero at), sym (placed_none b at)); fits = omega arith })
fitting (p ∷ ps) b at h =
    let x : List ℕ = (put p b at).buffer in
    let m : ℕ = (put p b at).next in
    let fits : m + length (whole ps) ≤ length x = room_after b at p (whole ps) h (gives_it p b at) in
    fitting ps x m fits ∙ sym (gives_it (whole ps) x m) ∙ join b at p (whole ps) h (gives_it p b at) (gives_it (whole ps) x m)
