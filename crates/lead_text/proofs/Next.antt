-- The next record, of a piece or at the lead's end, from what the calls of `go_on` and `end` say.
-- Assumes nothing.
use Prim.Native.Nat.{ℕ}
use mathlib.Core.Path.{◌≡◌, ap, sym, ◌∙◌}
use mathlib.Core.Bool.{Bool, true, false}
use mathlib.Core.List.{List}
use Rattle.settings.specs.declared.Store.{Store}
use Rattle.std.specs.Prelude.{Option, Some, None}
use Rattle.recording.specs.declared.Taken.{Taken}
use Rattle.recording.specs.Asking.{Going, go_on, finish, of_ending}
use Rattle.recording.specs.Says.{says_came, says_taken}
use Rattle.lead_text.specs.Places.{Place}
use Rattle.lead_text.specs.Inside.{of_piece, coming}

-- ---- of a piece

module _ (w : Taken) (g : Going) (says : says_taken w ≡ g) where
  came_is : (c : Option (List ℕ)) → w.came ≡ c → g ≡ says_came c w.tape w.frame w.bit
  came_is c e = sym says ∙ ap (λ (k : Option (List ℕ)). says_came k w.tape w.frame w.bit) e

  -- A record.
  pub piece_gave : (bytes : List ℕ) → w.came ≡ Some bytes → says_taken w ≡ of_piece g
  piece_gave bytes e =
      let is = came_is (Some bytes) e in
      says ∙ is ∙ sym (ap of_piece is)

  -- None: the piece is used.
  pub piece_used : w.came ≡ None → says_taken (record { tape = w.tape; frame = 0; bit = 0; came = None }) ≡ of_piece g
  piece_used e = sym (ap of_piece (came_is None e))

-- ---- either

module _ (ends : Bool) (store : Store) (frames : List ℕ) (p : Place) where
  pub at_end : ends ≡ true → of_ending p.frame p.bit (finish p.tape) ≡ coming ends store frames p
  unfolding coming
  at_end e = rw e

  pub in_piece : ends ≡ false → of_piece (go_on store frames p.tape p.frame p.bit) ≡ coming ends store frames p
  unfolding coming
  in_piece e = rw e
