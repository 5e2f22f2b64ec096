-- Writing a test balise refuses as the table says, and then leaves the buffer as it was.
-- Assumes nothing.
use mathlib.Core.Path.{◌≡◌, refl, sym, ap, ◌∙◌}
use mathlib.Core.Bool.{Bool, true, false, not, ◌||◌}
use mathlib.Core.List.{List, [], ◌∷◌}
use Prim.Native.Nat.{ℕ, ◌+◌, ◌*◌}
use lib.Dec.{eqb, ltb}
use lib.ListN.{length}
use Rattle.words.specs.Answer.{Outcome, gives, refuses, then, pick}
use Rattle.telegram.specs.Sync.{is_good}
use Rattle.telegram.specs.declared.Telegram.{Telegram}
use Rattle.telegram.specs.Spelling.{asked, too_large, has_fifteen, words_of, spell}
use Rattle.balise_writer.specs.Write.{telegrams, in_range, bytes_of, onto, write}
use Rattle.balise_writer.proofs.Bytes.{telegrams_length}
use Rattle.balise_writer.proofs.Answers.{range}
use Rattle.demands.specs.Rules.{Rule, row, Decided, Is}
use Rattle.demands.specs.Table.{above, not_seven}
use Rattle.demands.specs.Table02.{some_above, some_fifteen, bad_count, short_buffer}
use Rattle.demands.specs.Lists.{write_rules}
use Rattle.demands.proofs.Common.Rules.{if_so}
use Rattle.words.proofs.Never.{cannot_be}

-- The conditions are those by which the function refuses.
pub above_is : (x y z : ℕ) → some_above x y z ≡ too_large (asked x y z)
unfolding some_above above asked too_large
above_is x y z = go (eqb x 12)
  where
    go : (t : Bool) → pick t (ltb 2047 y) (ltb 15 x || ltb 15 y || ltb 15 z) ≡ too_large (pick t (Telegram.Number y) (Telegram.Figures x y z))
    go true = refl
    go false = refl

pub fifteen_is : (x y z : ℕ) → some_fifteen x y z ≡ has_fifteen (asked x y z)
unfolding some_fifteen asked has_fifteen
fifteen_is x y z = go (eqb x 12)
  where
    go : (t : Bool) → pick t false (eqb x 15 || eqb y 15 || eqb z 15) ≡ has_fifteen (pick t (Telegram.Number y) (Telegram.Figures x y z))
    go true = refl
    go false = refl

count_is : (n : ℕ) → bad_count n ≡ not (in_range n)
unfolding bad_count
count_is n = twice (ltb n 2 || ltb 1000 n) ∙ ap not (sym (range n))
  where
    twice : (t : Bool) → t ≡ not (not t)
    twice true = refl
    twice false = refl

module _ (x y z s t n : ℕ) (out : List ℕ) where
  abbrev tests : Bool → Bool → Bool → Bool → Bool → Outcome ℕ
  tests a f g r l = pick a (refuses 2) (pick f (refuses 3) (pick (not g) (refuses 4) (pick (not r) (refuses 20) (pick l (refuses 21) (gives (4 * n + 1))))))

  -- The answer, test after test; a refusal leaves the buffer.
  answered : ((write x y z s t n out).answer ≡ tests (too_large (asked x y z)) (has_fifteen (asked x y z)) (is_good s t) (in_range n) (ltb (length out) (4 * n + 1)))
      × ((k : ℕ) → (write x y z s t n out).answer ≡ refuses k → (write x y z s t n out).buffer ≡ out)
  unfolding write spell bytes_of
  answered = go (too_large (asked x y z)) (has_fifteen (asked x y z)) (is_good s t) (in_range n) (ltb (length out) (4 * n + 1))
    where
      bytes : List ℕ
      bytes = telegrams s t (words_of (asked x y z)) n

      go : (a f g r l : Bool) →
          let w = onto out (then (pick a (refuses 2) (pick f (refuses 3) (gives (words_of (asked x y z)))))
          (λ w. pick (not g) (refuses 4) (pick (not r) (refuses 20) (pick l (refuses 21) (gives (telegrams s t w n)))))) in
          (w.answer ≡ tests a f g r l) × ((k : ℕ) → w.answer ≡ refuses k → w.buffer ≡ out)
      go true f g r l = (refl, λ k e. refl)
      go false true g r l = (refl, λ k e. refl)
      go false false false r l = (refl, λ k e. refl)
      go false false true false l = (refl, λ k e. refl)
      go false false true true true = (refl, λ k e. refl)
      go false false true true false =
          (ap gives (telegrams_length s t (words_of (asked x y z)) n), λ k e. cannot_be cc)

  -- 2, 3, 4, 20, 21, in this order.
  pub writing_test : Decided (Is (4 * n + 1)) (write_rules x y z s t n out) (write x y z s t n out).answer
  unfolding not_seven is_good short_buffer
  writing_test = rw (answered.0, above_is x y z, fifteen_is x y z, count_is n) by_rules
    where
      short : Bool
      short = ltb (length out) (4 * n + 1)

      last : List (Rule (Outcome ℕ))
      last = row 21 short ∷ []

      by_rules : Decided (Is (4 * n + 1))
          (row 2 (too_large (asked x y z)) ∷ row 3 (has_fifteen (asked x y z)) ∷ row 4 (not (is_good s t)) ∷ row 20 (not (in_range n)) ∷ last)
          (tests (too_large (asked x y z)) (has_fifteen (asked x y z)) (is_good s t) (in_range n) short)
      by_rules =
          if_so (Is (4 * n + 1)) (row 3 (has_fifteen (asked x y z)) ∷ row 4 (not (is_good s t)) ∷ row 20 (not (in_range n)) ∷ last) (refuses 2)
          (tests false (has_fifteen (asked x y z)) (is_good s t) (in_range n) short)
          (if_so (Is (4 * n + 1)) (row 4 (not (is_good s t)) ∷ row 20 (not (in_range n)) ∷ last) (refuses 3) (tests false false (is_good s t) (in_range n) short)
          (if_so (Is (4 * n + 1)) (row 20 (not (in_range n)) ∷ last) (refuses 4) (tests false false true (in_range n) short)
          (if_so (Is (4 * n + 1)) last (refuses 20) (tests false false true true short)
          (if_so (Is (4 * n + 1)) [] (refuses 21) (gives (4 * n + 1)) refl short)
          (not (in_range n))) (not (is_good s t))) (has_fifteen (asked x y z))) (too_large (asked x y z))

  pub write_untouched : (k : ℕ) → (write x y z s t n out).answer ≡ refuses k → (write x y z s t n out).buffer ≡ out
  write_untouched = answered.1
