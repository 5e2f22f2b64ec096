-- Words that differ from sent ones in at most three bits, and are accepted, are the sent ones.
-- Assumes nothing.
use mathlib.Core.Path.{◌≡◌, refl, sym, ap, ◌∙◌, subst}
use mathlib.Core.Bool.{Bool, true, false}
use Prim.Native.Nat.{ℕ, zero, suc, ◌+◌, ◌*◌, ◌^◌, ◌≤◌, ◌<◌}
use native.Mathlib.Omega.{arith}
use lib.Dec.{eqb}
use lib.Bits.{bit_xor, xor_lt, xor_comm}
use Rattle.words.specs.Answer.{Answer, gives, refuses, then, pick}
use Rattle.words.specs.Why.{Why, why, unsaid, not_code_word}
use Rattle.words.specs.Code.{read_word, read_short}
use Rattle.words.proofs.Digits.{xor_twice, xor_none}
use Rattle.words.proofs.Weight.{no_ones_zero}
use Rattle.words.proofs.Widths.{Width, short, long}
use Rattle.words.proofs.Laws.{three_flips}
use Rattle.telegram.specs.Sync.{differing}
use Rattle.telegram.specs.Telegram.{Received, named, not_fifteen, short_word, long_word, telegram}
use Rattle.telegram.specs.declared.Telegram.{Telegram}
use Rattle.telegram.specs.declared.Word.{Word}
use Rattle.telegram.specs.Place.{accepted}
use Rattle.balise_line.proofs.Bits.{ones_differing}
use Rattle.words.proofs.HowMany.{ones_of}
use Rattle.words.proofs.Never.{cannot_be}

-- Of either code: a word that is accepted and differs from a code word in at most three bits is
-- that code word.
pub still : {n : ℕ} → Width n → (c w x y : ℕ) → c < 2 ^ n → w < 2 ^ n → read_word n c ≡ gives x → read_word n w ≡ gives y → differing w c n ≤ 3 → w ≡ c
still {n} wide c w x y hc hw sent received few = go (ones_of f n) refl
  where
    f : ℕ
    f = bit_xor c w

    f_lt : f < 2 ^ n
    f_lt = xor_lt n c w hc hw

    count : ones_of f n ≤ 3
    count = subst (λ (k : ℕ). k ≤ 3) (sym (ap (λ (k : ℕ). ones_of k n) (xor_comm c w) ∙ ones_differing w c n)) few

    go : (k : ℕ) → ones_of f n ≡ k → w ≡ c
    go zero none = sym (xor_none n c w hc hw (no_ones_zero f n f_lt none))
    go (suc k) some =
        let bad : read_word n (bit_xor c f) ≡ refuses (not_code_word n f) = three_flips wide c f x sent f_lt (subst (λ (j : ℕ). 1 ≤ j) (sym some) (omega arith)) count in
        let again : bit_xor c f ≡ w = xor_twice n c w hc hw in
        let same : gives y ≡ refuses (not_code_word n f) = sym received ∙ ap (read_word n) (sym again) ∙ bad in
        cannot_be cc

-- A short word of a telegram is accepted only as a code word.
as_short : (w a : ℕ) → short_word w ≡ gives a → read_short w ≡ gives a
unfolding short_word
as_short w a e = go (read_short w) e
  where
    go : (o : Answer Why ℕ) → then o not_fifteen ≡ gives a → o ≡ gives a
    go (refuses k) e = e
    go (gives v) e = by (eqb v 15) e
      where
        by : (t : Bool) → pick t (refuses (why 3 unsaid)) (gives v) ≡ gives a → ◌≡◌ {A = Answer Why ℕ} (gives v) (gives a)
        by true e = cannot_be cc
        by false e = e

-- A word whose answer goes on to a telegram gave a figure.
pub onward : (l : Word) (o : Answer Why ℕ) (next : ℕ → Received) (m : Telegram) → then (named l o) next ≡ gives m → (a : ℕ) × (o ≡ gives a) × (next a ≡ gives m)
onward l (gives a) next m e = (a, refl, e)
onward l (refuses k) next m e = cannot_be cc

pub taken : (r : Received) → accepted r ≡ true → (m : Telegram) × (r ≡ gives m)
taken (gives m) e = (m, refl)
taken (refuses b) e = cannot_be cc

-- what follows an X that reads a
abbrev after : ℕ → ℕ → ℕ → Received
after y z a =
    pick (eqb a 12) (then (named Word.YZ (long_word y z)) (λ m. gives (Telegram.Number m)))
    (then (named Word.Y (short_word y)) (λ b. then (named Word.Z (short_word z)) (λ c. gives (Telegram.Figures a b c))))

on_x : (x y z : ℕ) → telegram x y z ≡ then (named Word.X (short_word x)) (after y z)
unfolding telegram
on_x x y z = refl

-- The words x, y, z were sent, u, v, w received, and both are telegrams.
module _ (x y z u v w : ℕ) (hx : x < 256) (hy : y < 256) (hz : z < 256) (hu : u < 256) (hv : v < 256) (hw : w < 256)
    (near_x : differing u x 8 ≤ 3) (near_y : differing v y 8 ≤ 3) (near_z : differing w z 8 ≤ 3)
    (near_yz : differing (v * 256 + w) (y * 256 + z) 16 ≤ 3) where
  short_still : (c k : ℕ) → c < 256 → k < 256 → (a d : ℕ) → short_word c ≡ gives a → short_word k ≡ gives d → differing k c 8 ≤ 3 → k ≡ c
  short_still c k hc hk a d sent received near = still short c k a d hc hk (as_short c a sent) (as_short k d received) near

  rest_still : (a : ℕ) (m n : Telegram) → after y z a ≡ gives m → after v w a ≡ gives n → (v ≡ y) × (w ≡ z)
  unfolding long_word
  rest_still a m n sent received = go (eqb a 12) sent received
    where
      go : (t : Bool)
          → pick t (then (named Word.YZ (long_word y z)) (λ m. gives (Telegram.Number m))) (then (named Word.Y (short_word y)) (λ b. then (named Word.Z (short_word z)) (λ c. gives (Telegram.Figures a b c)))) ≡ gives m
          → pick t (then (named Word.YZ (long_word v w)) (λ m. gives (Telegram.Number m))) (then (named Word.Y (short_word v)) (λ b. then (named Word.Z (short_word w)) (λ c. gives (Telegram.Figures a b c)))) ≡ gives n
          → (v ≡ y) × (w ≡ z)
      go true e f =
          let s = onward Word.YZ (long_word y z) (λ m. gives (Telegram.Number m)) m e in
          let r = onward Word.YZ (long_word v w) (λ m. gives (Telegram.Number m)) n f in
          let same : v * 256 + w ≡ y * 256 + z = still long (y * 256 + z) (v * 256 + w) s.0 r.0 (omega arith) (omega arith) s.1 r.1 near_yz in
          (omega arith, omega arith)
      go false e f =
          let s = onward Word.Y (short_word y) (λ b. then (named Word.Z (short_word z)) (λ c. gives (Telegram.Figures a b c))) m e in
          let r = onward Word.Y (short_word v) (λ b. then (named Word.Z (short_word w)) (λ c. gives (Telegram.Figures a b c))) n f in
          let s' = onward Word.Z (short_word z) (λ c. gives (Telegram.Figures a s.0 c)) m s.2 in
          let r' = onward Word.Z (short_word w) (λ c. gives (Telegram.Figures a r.0 c)) n r.2 in
          (short_still y v hy hv s.0 r.0 s.1 r.1 near_y, short_still z w hz hw s'.0 r'.0 s'.1 r'.1 near_z)

  pub telegram_still : (m n : Telegram) → telegram x y z ≡ gives m → telegram u v w ≡ gives n → (u ≡ x) × (v ≡ y) × (w ≡ z)
  telegram_still m n sent received =
      let s = onward Word.X (short_word x) (after y z) m (sym (on_x x y z) ∙ sent) in
      let r = onward Word.X (short_word u) (after v w) n (sym (on_x u v w) ∙ received) in
      let same_x : u ≡ x = short_still x u hx hu s.0 r.0 s.1 r.1 near_x in
      let figure : gives r.0 ≡ gives s.0 = sym r.1 ∙ ap short_word same_x ∙ s.1 in
      let same_a : r.0 ≡ s.0 = cc in
      let rest = rest_still s.0 m n s.2 (ap (after v w) (sym same_a) ∙ r.2) in
      (same_x, rest.0, rest.1)
