-- A call of `write` that its contract allows, made in full, and what comes of judging its bits:
-- hypotheses on calls of it are met.
-- Assumes nothing.
use mathlib.Core.Path.{◌≡◌, refl}
use mathlib.Core.List.{List, [], ◌∷◌}
use Prim.Native.Nat.{ℕ}
use native.Mathlib.Omega.{arith}
use Rattle.words.specs.Bits.{word}
use Rattle.words.specs.Plain.{is_check, covers, count, carriers, carried, made_even, plain_word}
use Rattle.words.specs.Code.{other, exchanged, sent}
use Rattle.telegram.specs.Sync.{differing, is_good}
use Rattle.telegram.specs.declared.Telegram.{Telegram}
use Rattle.contact.specs.declared.Judged.{Judged}
use Rattle.telegram.specs.Spelling.{asked, too_large, has_fifteen, words_of, spell}
use Rattle.balise_writer.specs.Write.{telegrams, in_range, bytes_of, write}
use Rattle.demands.specs.ByContract.{JudgeContact}
use Rattle.demands.specs.Writing.{OneWriting}
use Rattle.demands.proofs.Beside.Writing.{written_is_read}
use Rattle.demands.proofs.Witness.CallsMet.{lent, lent_out}

-- Ten bytes, and the same with two telegrams of 1, 8 and 5 in the first nine.
abbrev ten : List ℕ
ten = 1 ∷ 2 ∷ 3 ∷ 4 ∷ 5 ∷ 6 ∷ 7 ∷ 8 ∷ 9 ∷ 10 ∷ []

abbrev filled : List ℕ
filled = 0x72 ∷ 0x17 ∷ 0x8e ∷ 0x5a ∷ 0x0d ∷ 0x17 ∷ 0x8e ∷ 0x5a ∷ 0x72 ∷ 10 ∷ []

two_written : OneWriting
unfolding write spell asked too_large has_fifteen words_of bytes_of in_range telegrams is_good differing sent exchanged other word plain_word made_even carried carriers count covers is_check
two_written =
    record {
      x = 1;
      y = 8;
      z = 5;
      s = 0x72;
      t = 0x0d;
      n = 2;
      before = ten;
      after = filled;
      bytes = 9;
      sync_words = (omega arith, omega arith);
      call = (([], tt), lent_out ten, (1, (8, (5, (0x72, (0x0d, (2, (lent_out filled, tt))))))), refl, refl, refl);
    }

-- Its bits are judged as two places, the first at 0.
two_judged : (r : Judged) → JudgeContact filled 0 72 0x72 0x0d r → r ≡ Judged.Read (Telegram.Figures 1 8 5) 0 2
unfolding two_written asked
two_judged r k = (written_is_read two_written).judge r k
