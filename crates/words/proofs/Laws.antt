-- The laws of the two codes, each once over the width: reading back, writing back, noise, and the
-- least number of flips that noise needs to pass.
-- Assumes nothing.
use mathlib.Core.Path.{◌≡◌, refl, sym, ap, ap₂, ◌∙◌, subst}
use mathlib.Core.Bool.{Bool, true, false}
use Prim.Native.Nat.{ℕ, ◌%◌, ◌^◌, ◌≤◌, ◌<◌}
use native.Mathlib.Nat.{lt_of_not-le, not-le_of_lt, lt_irrefl}
use native.Mathlib.Omega.{arith}
use lib.Bits.{bit_xor, xor_lt, xor_self}
use lib.Pow.{pow_pos}
use Rattle.words.specs.Answer.{Answer, gives, refuses, pick}
use Rattle.words.specs.Plain.{is_code, figure, carriers, plain_word}
use Rattle.words.specs.Why.{Why, why, are, not_code_word}
use Rattle.words.specs.Code.{other, exchanged, read_word, sent}
use Rattle.words.specs.declared.Parity.{Parity}
use Rattle.words.proofs.Digits.{bits_ext, xor_twice, xor_none}
use Rattle.words.proofs.Counting.{bit_exchanged}
use Rattle.words.proofs.Figures.{figure_carriers}
use Rattle.words.proofs.Answers.{sent_lt}
use Rattle.words.proofs.Linear.{is_code_xor, figure_xor, exchanged_lt, exchanged_xor}
use Rattle.words.proofs.Parities.{parity_xor}
use Rattle.words.proofs.Written.{plain_made, plain_code, plain_figure}
use Rattle.words.proofs.Zero.{zero_word, bit_zero}
use Rattle.words.proofs.Weight.{even_ones, no_ones, no_ones_zero, ones_zero}
use Rattle.words.proofs.Widths.{Width, width_le, width_pos, exchanged_twice, ones_exchanged}
use Rattle.words.proofs.HowMany.{ones_of}
use Rattle.words.proofs.Never.{cannot_be}

-- What an accepted word shows: every check is even, and the figure is the word's.
given : (t : Bool) (v x : ℕ) (b : Why) → pick t (gives v) (refuses b) ≡ gives x → (t ≡ true) × (v ≡ x)
given true v x b e = (refl, cc)
given false v x b e = cannot_be cc

pub shown : (n w x : ℕ) → read_word n w ≡ gives x → (is_code n (exchanged n w) ≡ true) × (figure n (exchanged n w) ≡ x)
unfolding read_word
shown n w x e = given (is_code n (exchanged n w)) (figure n (exchanged n w)) x (not_code_word n w) e

-- What is heard where x was sent and the flips alone read as this answer: a refusal stays one, a
-- figure is added to x bit by bit without carry.
abbrev pub heard : ℕ → Answer Why ℕ → Answer Why ℕ
heard x (gives y) = gives (bit_xor x y)
heard x (refuses b) = refuses b

-- A code word has an even number of ones.
pub even_number : {n : ℕ} → Width n → (w x : ℕ) → read_word n w ≡ gives x → ones_of w n % 2 ≡ 0
even_number {n} wide w x e =
    ap (λ (k : ℕ). k % 2) (sym (ones_exchanged wide w)) ∙ even_ones n (exchanged n w) (width_le wide) (shown n w x e).0

-- The noise law: whichever code word c was sent, what is received with the flips f reads as the
-- flips alone decide, and what is refused has the flips' parity.
pub noise : {n : ℕ} → Width n → (c f x : ℕ) → read_word n c ≡ gives x → read_word n (bit_xor c f) ≡ heard x (read_word n f)
unfolding read_word
noise {n} wide c f x e =
    let s = shown n c x e in
    let h = exchanged n c in
    let g = exchanged n f in
    ap₂ (λ (k : ℕ) (p : Parity). pick (is_code n k) (gives (figure n k)) (refuses (why 1 (are p)))) (exchanged_xor n c f) (parity_xor n c f (even_number wide c x e))
    ∙ ap₂ (λ (t : Bool) (v : ℕ). pick t (gives v) (refuses (not_code_word n f))) (is_code_xor n h g s.0)
    (figure_xor n h g ∙ ap (λ (k : ℕ). bit_xor k (figure n g)) s.1) ∙ same (is_code n g) (figure n g)
  where
    same : (t : Bool) (v : ℕ) → pick t (gives (bit_xor x v)) (refuses (not_code_word n f)) ≡ heard x (pick t (gives v) (refuses (not_code_word n f)))
    same true v = refl
    same false v = refl

-- A code word that is not 0 has at least four ones.
pub four_ones : {n : ℕ} → Width n → (w x : ℕ) → w < 2 ^ n → read_word n w ≡ gives x → (w ≡ 0 → ⊥) → 4 ≤ ones_of w n
four_ones {n} wide w x small e ne = lt_of_not-le few
  where
    few : ones_of w n ≤ 3 → ⊥
    few l =
        let h = exchanged n w in
        let none : ones_of h n ≡ 0 = no_ones n h (width_le wide) (shown n w x e).0 (subst (λ (k : ℕ). k < 4) (sym (ones_exchanged wide w)) (omega arith)) in
        ne (no_ones_zero w n small (sym (ones_exchanged wide w) ∙ none))

-- One to three flips are always refused, whichever code word was sent.
pub three_flips : {n : ℕ} → Width n → (c f x : ℕ) → read_word n c ≡ gives x → f < 2 ^ n → 1 ≤ ones_of f n → ones_of f n ≤ 3
    → read_word n (bit_xor c f) ≡ refuses (not_code_word n f)
unfolding read_word
three_flips {n} wide c f x e small some few = noise wide c f x e ∙ go (is_code n (exchanged n f)) refl
  where
    go : (t : Bool) → is_code n (exchanged n f) ≡ t → heard x (pick (is_code n (exchanged n f)) (gives (figure n (exchanged n f))) (refuses (not_code_word n f))) ≡ refuses (not_code_word n f)
    go false is = ap (λ (t : Bool). heard x (pick t (gives (figure n (exchanged n f))) (refuses (not_code_word n f)))) is
    go true is =
        let accepted : read_word n f ≡ gives (figure n (exchanged n f)) = ap (λ (t : Bool). pick t (gives (figure n (exchanged n f))) (refuses (not_code_word n f))) is in
        absurd (not-le_of_lt (four_ones wide f (figure n (exchanged n f)) small accepted (λ z. lt_irrefl 0 (subst (λ (k : ℕ). 0 < k) (ap (λ (g : ℕ). ones_of g n) z ∙ ones_zero n) some))) few)

-- What is written reads back: every figure that the width carries.
pub reads_back : {n : ℕ} → Width n → (x : ℕ) → x < 2 ^ carriers n → read_word n (sent n x) ≡ gives x
unfolding read_word sent
reads_back {n} wide x l =
    let pos : 0 < n = width_pos wide in
    let plain : exchanged n (exchanged n (plain_word n x)) ≡ plain_word n x = exchanged_twice wide (plain_word n x) (plain_made n x pos).fits in
    let b : Why = not_code_word n (exchanged n (plain_word n x)) in
    ap (λ (k : ℕ). pick (is_code n k) (gives (figure n k)) (refuses b)) plain
    ∙ ap₂ (λ (t : Bool) (v : ℕ). pick t (gives v) (refuses b)) (plain_code n x pos) (plain_figure n x pos l)

-- A word of the width that reads 0 is 0.
pub reads_zero : {n : ℕ} → Width n → (w : ℕ) → w < 2 ^ n → read_word n w ≡ gives 0 → w ≡ 0
reads_zero {n} wide w small e =
    let s = shown n w 0 e in
    let plain : exchanged n w ≡ 0 = zero_word n (exchanged n w) (width_le wide) (exchanged_lt n w) s.0 s.1 in
    sym (exchanged_twice wide w small) ∙ ap (exchanged n) plain
    ∙ bits_ext (exchanged n 0) 0 n (exchanged_lt n 0) (pow_pos n) (λ i l. bit_exchanged n 0 i l ∙ bit_zero (other i) ∙ sym (bit_zero i))

-- A figure that the width carries.
pub figure_small : (n w x : ℕ) → read_word n w ≡ gives x → x < 2 ^ carriers n
figure_small n w x e = subst (λ (k : ℕ). k < 2 ^ carriers n) (shown n w x e).1 (figure_carriers n (exchanged n w))

-- What is accepted writes back: it is the word that is sent for its figure.
pub writes_back : {n : ℕ} → Width n → (w x : ℕ) → w < 2 ^ n → read_word n w ≡ gives x → sent n x ≡ w
writes_back {n} wide w x small e =
    let l : x < 2 ^ carriers n = figure_small n w x e in
    let same : gives x ≡ heard x (read_word n (bit_xor w (sent n x))) =
    sym (reads_back wide x l) ∙ ap (read_word n) (sym (xor_twice n w (sent n x) small (sent_lt n x))) ∙ noise wide w (bit_xor w (sent n x)) x e in
    sym (xor_none n w (sent n x) small (sent_lt n x) (go (read_word n (bit_xor w (sent n x))) refl same))
  where
    go : (o : Answer Why ℕ) → read_word n (bit_xor w (sent n x)) ≡ o → gives x ≡ heard x o → bit_xor w (sent n x) ≡ 0
    go (refuses k) is same = cannot_be cc
    go (gives y) is same =
        let l : x < 2 ^ carriers n = figure_small n w x e in
        let m : y < 2 ^ carriers n = figure_small n (bit_xor w (sent n x)) y is in
        let eq : x ≡ bit_xor x y = cc in
        let zero_is : y ≡ 0 = sym (xor_twice (carriers n) x y l m) ∙ ap (bit_xor x) (sym eq) ∙ xor_self x in
        reads_zero wide (bit_xor w (sent n x)) (xor_lt n w (sent n x) small (sent_lt n x)) (is ∙ ap gives zero_is)
