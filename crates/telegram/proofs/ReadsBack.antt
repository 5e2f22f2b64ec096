-- The words of a telegram that is not refused are bytes, and read as that telegram.
-- Assumes nothing.
use mathlib.Core.Path.{◌≡◌, refl, ap, ◌∙◌}
use mathlib.Core.Bool.{Bool, true, false, ◌||◌}
use Prim.Native.Nat.{ℕ, ◌+◌, ◌*◌, ◌/◌, ◌%◌, ◌≤◌, ◌<◌}
use native.Mathlib.Omega.{arith}
use lib.Dec.{eqb, ltb}
use borrow.Author.Tests.{ltb-false}
use Rattle.words.specs.Answer.{Answer, gives, refuses, then, pick}
use Rattle.words.specs.Why.{Why, why, unsaid}
use Rattle.words.specs.Plain.{is_check, carriers}
use Rattle.words.specs.Code.{read_short, read_long, sent}
use Rattle.words.proofs.Widths.{short, long}
use Rattle.words.proofs.Laws.{reads_back}
use Rattle.words.proofs.Answers.{sent_lt}
use Rattle.telegram.specs.Telegram.{not_fifteen, short_word, long_word, telegram}
use Rattle.telegram.specs.declared.Telegram.{Telegram}
use Rattle.telegram.specs.Spelling.{asked, too_large, has_fifteen, words_of}

-- Neither of two tests holds.
neither : (a b : Bool) → (a || b) ≡ false → (a ≡ false) × (b ≡ false)
neither false b e = (refl, e)
neither true b e = (e, cc)

-- A short figure reads back, and in a telegram if it is not 15; a long one too.
short_back : (x : ℕ) → x ≤ 15 → read_short (sent 8 x) ≡ gives x
unfolding carriers is_check
short_back x l = reads_back short x (omega arith)

in_telegram : (x : ℕ) → ltb 15 x ≡ false → eqb x 15 ≡ false → short_word (sent 8 x) ≡ gives x
unfolding short_word
in_telegram x small other = ap (λ (o : Answer Why ℕ). then o not_fifteen) (short_back x (ltb-false 15 x small)) ∙ ap (λ (t : Bool). pick t (refuses (why 3 unsaid)) (gives x)) other

long_back : (m : ℕ) → ltb 2047 m ≡ false → long_word (sent 16 m / 256) (sent 16 m % 256) ≡ gives m
unfolding long_word carriers is_check
long_back m small =
    let l : m ≤ 2047 = ltb-false 2047 m small in
    let joined : sent 16 m / 256 * 256 + sent 16 m % 256 ≡ sent 16 m = omega arith in
    ap read_long joined ∙ reads_back long m (omega arith)

-- What the telegram asked for asks of its words.
abbrev Reads : Telegram → Type 0
Reads m = telegram (words_of m).x (words_of m).y (words_of m).z ≡ gives m

figures_read : (x y z : ℕ) → eqb x 12 ≡ false → too_large (Telegram.Figures x y z) ≡ false → has_fifteen (Telegram.Figures x y z) ≡ false → Reads (Telegram.Figures x y z)
unfolding words_of too_large has_fifteen telegram
figures_read x y z other small none =
    let a = neither (ltb 15 x || ltb 15 y) (ltb 15 z) small in
    let b = neither (ltb 15 x) (ltb 15 y) a.0 in
    let c = neither (eqb x 15 || eqb y 15) (eqb z 15) none in
    let d = neither (eqb x 15) (eqb y 15) c.0 in
    simp (in_telegram x b.0 d.0, other, in_telegram y b.1 d.1, in_telegram z a.1 c.1)

number_read : (m : ℕ) → too_large (Telegram.Number m) ≡ false → Reads (Telegram.Number m)
unfolding words_of too_large telegram
number_read m small = simp (in_telegram 12 refl refl, long_back m small)

pub asked_read : (x y z : ℕ) → too_large (asked x y z) ≡ false → has_fifteen (asked x y z) ≡ false → Reads (asked x y z)
unfolding asked
asked_read x y z = go (eqb x 12) refl
  where
    go : (t : Bool) → eqb x 12 ≡ t → let m : Telegram = pick t (Telegram.Number y) (Telegram.Figures x y z) in too_large m ≡ false → has_fifteen m ≡ false → Reads m
    go true is small none = number_read y small
    go false is small none = figures_read x y z is small none

-- The words are bytes.
pub words_small : (m : Telegram) → ((words_of m).x < 256) × ((words_of m).y < 256) × ((words_of m).z < 256)
unfolding words_of
words_small (Telegram.Figures x y z) = (sent_lt 8 x, sent_lt 8 y, sent_lt 8 z)
words_small (Telegram.Number m) = let l : sent 16 m < 65536 = sent_lt 16 m in (sent_lt 8 12, omega arith, omega arith)
