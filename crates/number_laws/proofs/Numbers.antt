-- The second reader answers as the reader by checks; what can be heard is told after the figures
-- and the pair were judged.
-- Assumes nothing.
use Prim.Native.Nat.{ℕ}
use mathlib.Core.Path.{◌≡◌, refl, subst}
use mathlib.Core.Bool.{Bool, true, false, not}
use mathlib.Core.List.{[], ◌∷◌}
use Rattle.words.specs.Answer.{Outcome, gives, refuses, then, pick}
use Rattle.words.specs.Why.{not_code_word}
use Rattle.words.specs.Plain.{figure}
use Rattle.words.specs.Code.{exchanged}
use Rattle.words.specs.Says.{says_read}
use Rattle.words.proofs.Told.{told as once}
use Rattle.std.specs.Prelude.{Result}
use Rattle.words.specs.declared.NotCode.{NotCode}
use Rattle.telegram.specs.Sync.{is_good}
use Rattle.telegram.specs.Spelling.{asked, too_large, has_fifteen, words_of, spell}
use Rattle.words_list.proofs.Alike.{printed}
use Rattle.audibility.specs.Sound.{Heard, audible, broken, is_broken, sending, sound_with, sound_of}
use Rattle.audibility.specs.Says.{says_sound}
use Rattle.audibility.proofs.Determined.{sound_from, sound_back}
use Rattle.demands.specs.Rules.{row_of, row, Decided, Given, Is}
use Rattle.demands.specs.Table.{not_code, not_seven}
use Rattle.demands.specs.Table02.{some_above, some_fifteen}
use Rattle.demands.proofs.Common.Rules.{if_so, if_not, given}
use Rattle.demands.proofs.Demand1.{demand1}
use Rattle.demands.proofs.Demand1.Writes.{above_is, fifteen_is}
use Rattle.number_laws.specs.Numbers.{ReadByList, NumbersDecided}

by_list : (w : ℕ) (r : Result ℕ NotCode) → ReadByList w r → Decided (Is (figure 16 (exchanged 16 w))) (row_of (not_code_word 16 w) (not_code 16 w) ∷ []) (says_read r)
by_list w r c =
    let first = printed.answered w in
    subst (λ (q : Result ℕ NotCode). Decided (Is (figure 16 (exchanged 16 w))) (row_of (not_code_word 16 w) (not_code 16 w) ∷ []) (says_read q))
    (printed.same w first.0 r first.1.0 c) (demand1.read_long w first.0 first.1.0)

module _ (x y z s t : ℕ) where
  abbrev heard : Heard
  heard = pick (is_broken (sending s t (words_of (asked x y z)))) broken audible

  abbrev tests : Bool → Bool → Bool → Outcome Heard
  tests a f g = pick a (refuses 2) (pick f (refuses 3) (pick g (gives heard) (refuses 4)))

  told : sound_of x y z s t ≡ tests (too_large (asked x y z)) (has_fifteen (asked x y z)) (is_good s t)
  unfolding sound_of sound_with spell
  told = go (too_large (asked x y z)) (has_fifteen (asked x y z))
    where
      go : (a f : Bool) → then (pick a (refuses 2) (pick f (refuses 3) (gives (words_of (asked x y z))))) (sound_with s t) ≡ tests a f (is_good s t)
      go true f = refl
      go false true = refl
      go false false = refl

  sound_so : Decided Given (row 2 (some_above x y z) ∷ row 3 (some_fifteen x y z) ∷ row 4 (not_seven s t) ∷ []) (sound_of x y z s t)
  unfolding not_seven is_good
  sound_so =
      rw (told, above_is x y z, fifteen_is x y z)
      (if_so Given (row 3 (has_fifteen (asked x y z)) ∷ row 4 (not (is_good s t)) ∷ []) (refuses 2) (tests false (has_fifteen (asked x y z)) (is_good s t))
      (if_so Given (row 4 (not (is_good s t)) ∷ []) (refuses 3) (tests false false (is_good s t))
      (if_not Given [] (refuses 4) (gives heard) (given heard) (is_good s t))
      (has_fifteen (asked x y z))) (too_large (asked x y z)))

pub numbers_decided : NumbersDecided
numbers_decided = record {
  read_by_list = by_list;
  sound_of_law = λ x y z s t r c. rw c.1 (sound_so x y z s t);
  sound = λ n r r' p q. once says_sound sound_from sound_back r r' p q;
}
