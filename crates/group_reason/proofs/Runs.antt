-- The opening run is the longest: as far as it the balises open a permitted group, and one balise
-- further they do not.
-- Assumes nothing.
use Prim.Native.Nat.{ℕ, zero, suc, ◌+◌, ◌≤◌, ◌<◌}
use mathlib.Core.Path.{◌≡◌, refl, sym, ap, ◌∙◌}
use mathlib.Core.Bool.{Bool, true, false}
use mathlib.Core.List.{List}
use native.Mathlib.Omega.{arith}
use lib.Dec.{ltb}
use lib.ListN.{length, take}
use borrow.Author.Tests.{ltb-true, ltb-false}
use Rattle.words.specs.Answer.{pick}
use Rattle.group_rows.specs.declared.Placed.{Placed}
use Rattle.group_rows.specs.Rows.{how_many}
use Rattle.group_rows.specs.Opening.{Longest}
use Rattle.group_rows.proofs.Bools.{false_true}
use Rattle.group_reason.specs.Opening.{opens_members, opens_rows, is_opening, longest_of, opening_run}
use Rattle.group_reason.proofs.Openings.{seen_opening}
use Rattle.group_reason.proofs.Permitted.{real_opening}

module _ (bs : List Placed) where
  none_open : is_opening (take 0 bs) ≡ true
  unfolding is_opening opens_rows opens_members how_many
  none_open = refl

  at_most : (n : ℕ) → longest_of n bs ≤ n
  unfolding longest_of
  at_most zero = omega arith
  at_most (suc n) = go (is_opening (take (suc n) bs)) (at_most n)
    where
      go : (so : Bool) → longest_of n bs ≤ n → pick so (suc n) (longest_of n bs) ≤ suc n
      go true h = omega arith
      go false h = omega arith

  is_open : (n : ℕ) → is_opening (take (longest_of n bs) bs) ≡ true
  unfolding longest_of
  is_open zero = none_open
  is_open (suc n) = go (is_opening (take (suc n) bs)) refl (is_open n)
    where
      go : (so : Bool) → is_opening (take (suc n) bs) ≡ so → is_opening (take (longest_of n bs) bs) ≡ true → is_opening (take (pick so (suc n) (longest_of n bs)) bs) ≡ true
      go true e h = e
      go false e h = h

  not_open : (n k : ℕ) → longest_of n bs < k → k ≤ n → is_opening (take k bs) ≡ false
  unfolding longest_of
  not_open zero k h le = absurd (omega arith)
  not_open (suc n) k h le = go (is_opening (take (suc n) bs)) refl h (ltb k (suc n)) refl (not_open n k)
    where
      go : (so : Bool) → is_opening (take (suc n) bs) ≡ so → pick so (suc n) (longest_of n bs) < k → (t : Bool) → ltb k (suc n) ≡ t
          → (longest_of n bs < k → k ≤ n → is_opening (take k bs) ≡ false) → is_opening (take k bs) ≡ false
      go true e less t q on = absurd (omega arith)
      go false e less true q on = on less (omega (arith, ltb-true k (suc n) q))
      go false e less false q on =
          let last : k ≡ suc n = omega (arith, ltb-false k (suc n) q) in
          ap (λ (m : ℕ). is_opening (take m bs)) last ∙ e

  -- As far as the opening run the balises open a permitted group, and one balise further they do
  -- not.
  pub run_is_longest : Longest bs (opening_run bs)
  run_is_longest =
      record {
        within = at_most (length bs);
        opens = (real_opening (take (opening_run bs) bs) (is_open (length bs))).0;
        sendable = (real_opening (take (opening_run bs) bs) (is_open (length bs))).1;
        no_more = λ h o. false_true (sym (not_open (length bs) (opening_run bs + 1) (omega arith) (omega arith)) ∙ seen_opening (take (opening_run bs + 1) bs) o);
      }
