-- A test balise computed: figures 1, 8 and 5, number 1612, and each refusal beside the next.
-- Assumes nothing.
use mathlib.Core.Path.{◌≡◌, refl}
use mathlib.Core.List.{List, [], ◌∷◌}
use Prim.Native.Nat.{ℕ}
use Rattle.words.specs.Answer.{gives, refuses}
use Rattle.words.specs.Bits.{word}
use Rattle.words.specs.Plain.{is_check, covers, count, carriers, carried, made_even, plain_word}
use Rattle.words.specs.Code.{other, exchanged, sent}
use Rattle.telegram.specs.Sync.{differing, is_good}
use Rattle.telegram.specs.Spelling.{asked, too_large, has_fifteen, words_of, spell}
use Rattle.balise_writer.specs.Write.{telegrams, in_range, bytes_of, write}

-- A buffer of ten bytes.
abbrev ten : List ℕ
ten = 1 ∷ 2 ∷ 3 ∷ 4 ∷ 5 ∷ 6 ∷ 7 ∷ 8 ∷ 9 ∷ 10 ∷ []

-- Two telegrams take nine bytes, S first and last; the tenth stays.
pub figures : write 1 8 5 0x72 0x0d 2 ten
    ≡ record { answer = gives 9; buffer = 0x72 ∷ 0x17 ∷ 0x8e ∷ 0x5a ∷ 0x0d ∷ 0x17 ∷ 0x8e ∷ 0x5a ∷ 0x72 ∷ 10 ∷ [] }
unfolding write spell asked too_large has_fifteen words_of bytes_of in_range telegrams is_good differing sent exchanged other word plain_word made_even carried carriers count covers is_check
figures = refl

-- 1612 is D1/C6; the third figure is not looked at.
pub number : write 12 1612 200 0x72 0x0d 2 ten
    ≡ record { answer = gives 9; buffer = 0x72 ∷ 0xc3 ∷ 0xd1 ∷ 0xc6 ∷ 0x0d ∷ 0xc3 ∷ 0xd1 ∷ 0xc6 ∷ 0x72 ∷ 10 ∷ [] }
unfolding write spell asked too_large has_fifteen words_of bytes_of in_range telegrams is_good differing sent exchanged other word plain_word made_even carried carriers count covers is_check
number = refl

-- Everything is wrong: 2. The figures in range: 3. None of them 15: 4. The pair good: 20. The
-- number in range: 21.
pub in_order : (write 15 16 0 0x72 0x72 1 [] ≡ record { answer = refuses 2; buffer = [] })
    × (write 15 14 0 0x72 0x72 1 [] ≡ record { answer = refuses 3; buffer = [] })
    × (write 14 14 0 0x72 0x72 1 [] ≡ record { answer = refuses 4; buffer = [] })
    × (write 14 14 0 0x72 0x0d 1 [] ≡ record { answer = refuses 20; buffer = [] })
    × (write 14 14 0 0x72 0x0d 2 [] ≡ record { answer = refuses 21; buffer = [] })
unfolding write spell asked too_large has_fifteen words_of bytes_of in_range telegrams is_good differing sent exchanged other word plain_word made_even carried carriers count covers is_check
in_order = (refl, refl, refl, refl, refl)
