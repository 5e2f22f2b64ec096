-- A written plain word is a code word that carries its figure: the checks are made even one after
-- the other, and none that is made later is looked at by one made before.
-- Assumes nothing.
use mathlib.Core.Path.{◌≡◌, refl, sym, ap, ap₂, ◌∙◌, subst}
use mathlib.Core.Bool.{Bool, true, false, ◌&&◌, ◌||◌, not}
use mathlib.Core.List.{List, [], ◌∷◌}
use Prim.Native.Nat.{ℕ, zero, suc, ◌+◌, ◌*◌, ◌%◌, ◌^◌, ◌<◌}
use native.Mathlib.Nat.{lt-suc_self, lt_trans, zero-mul, mul-one, mod-eq_of_lt, mod-one, mul_assoc, mul_comm, pow-suc, add-mul, add_assoc, add-zero}
use native.Mathlib.Numerals.{add-one}
use native.Mathlib.Omega.{arith}
use lib.Dec.{T, eqb, eqb→eq}
use lib.Pow.{mod-pow-add}
use borrow.Author.Tests.{eqb-true, eqb-false, eq-eqb}
use Rattle.words.specs.Answer.{pick}
use Rattle.words.specs.Bits.{bit}
use Rattle.words.specs.Plain.{checks, among, is_check, covers, count, even, all_even, is_code, onwards, figure, carriers, carried, made_even, all_made_even, plain_word}
use Rattle.words.proofs.Digits.{bit_lt, word_lt, bit_word}
use Rattle.words.proofs.Counting.{pick_lt}
use Rattle.words.proofs.Ranges.{both, both_left, both_right}
use Rattle.words.proofs.Made.{Evened, evened_is, count_same}

-- check c looks at none of the positions listed
blind : ℕ → List ℕ → Bool
blind c [] = true
blind c (d ∷ ds) = both (eqb (covers c d) 0) (blind c ds)

blind_at : (c : ℕ) (ds : List ℕ) → T (blind c ds) → (i : ℕ) → among i ds ≡ true → covers c i ≡ 0
unfolding blind
blind_at c [] ok i is = absurd (subst T (sym is) tt)
blind_at c (d ∷ ds) ok i is = go (eqb i d) refl (blind_at c ds (both_right (eqb (covers c d) 0) (blind c ds) ok) i)
  where
    go : (t : Bool) → eqb i d ≡ t → (among i ds ≡ true → covers c i ≡ 0) → covers c i ≡ 0
    go true e ih =
        subst (λ (k : ℕ). covers c k ≡ 0) (sym (eqb-true i d e)) (eqb→eq (covers c d) 0 (both_left (eqb (covers c d) 0) (blind c ds) ok))
    go false e ih = ih (sym (ap (λ (t : Bool). t || among i ds) e) ∙ is)

-- each check listed looks at its own position, at none of those after it, and stands there once
in_order_meant : List ℕ → Bool
unfolding blind
in_order_meant [] = true
in_order_meant (c ∷ cs) = both (both (eqb (covers c c) 1) (not (among c cs))) (both (blind c cs) (in_order_meant cs))

-- What making all the listed checks of h even gives: n bits, all of them even, every other position
-- as it was.
pub record Made (n h g : ℕ) (cs : List ℕ) : Type 0 where
  pub fits : g < 2 ^ n
  pub outside : (i : ℕ) → i < n → among i cs ≡ false → bit g i ≡ bit h i
  pub evens : all_even n g cs ≡ true

not_T : (t : Bool) → T (not t) → t ≡ false
not_T false ok = refl
not_T true ok = absurd ok

or_false : (a b : Bool) → (a || b) ≡ false → (a ≡ false) × (b ≡ false)
or_false false b e = (refl, e)
or_false true b e = absurd (subst T e tt)

made_all : (n : ℕ) → 0 < n → (cs : List ℕ) → T (in_order_meant cs) → (h : ℕ) → h < 2 ^ n
    → ((c : ℕ) → among c cs ≡ true → c < n → bit h c ≡ 0) → Made n h (all_made_even n h cs) cs
unfolding in_order_meant even
made_all n pos [] ok h small free = record { fits = small; outside = λ i l no_one. refl; evens = refl }
made_all n pos (c ∷ cs) ok h small free =
    let first = both_left (both (eqb (covers c c) 1) (not (among c cs))) (both (blind c cs) (in_order_meant cs)) ok in
    let later = both_right (both (eqb (covers c c) 1) (not (among c cs))) (both (blind c cs) (in_order_meant cs)) ok in
    let own : covers c c ≡ 1 = eqb→eq (covers c c) 1 (both_left (eqb (covers c c) 1) (not (among c cs)) first) in
    let once : among c cs ≡ false = not_T (among c cs) (both_right (eqb (covers c c) 1) (not (among c cs)) first) in
    let sees : T (blind c cs) = both_left (blind c cs) (in_order_meant cs) later in
    let g = made_even n h c in
    let e : Evened n h g c = evened_is n h c pos small own (free c (ap (λ (t : Bool). t || among c cs) (eq-eqb c c refl))) in
    let apart : (i : ℕ) → among i cs ≡ true → i ≡ c → ⊥ = λ i is same. true_not_false (sym is ∙ ap (λ (k : ℕ). among k cs) same ∙ once) in
    let rest : Made n g (all_made_even n g cs) cs =
    made_all n pos cs (both_right (blind c cs) (in_order_meant cs) later) g e.small
    (λ d is l. e.elsewhere d l (apart d is) ∙ free d (ap (λ (t : Bool). eqb d c || t) is ∙ or_true (eqb d c)) l) in
    record {
      fits = rest.fits;
      outside = λ i l no_one.
          let parts = or_false (eqb i c) (among i cs) no_one in
          rest.outside i l parts.1 ∙ e.elsewhere i l (eqb-false i c parts.0);
      evens = ap₂ ◌&&◌ (eq-eqb (count (covers c) (all_made_even n g cs) n % 2) 0 (ap (λ (k : ℕ). k % 2) (unchanged c cs sees n g (all_made_even n g cs) rest) ∙ e.evened)) rest.evens;
    }
  where
    true_not_false : true ≡ false → ⊥
    true_not_false q = subst T q tt

    or_true : (a : Bool) → (a || true) ≡ true
    or_true true = refl
    or_true false = refl

    unchanged : (c : ℕ) (cs : List ℕ) → T (blind c cs) → (n h g : ℕ) → Made n h g cs → count (covers c) g n ≡ count (covers c) h n
    unchanged c cs sees n h g m = count_same (covers c) g h n (λ i l. by i l (among i cs) refl)
      where
        by : (i : ℕ) → i < n → (t : Bool) → among i cs ≡ t → covers c i * bit g i ≡ covers c i * bit h i
        by i l false is = ap (λ (k : ℕ). covers c i * k) (m.outside i l is)
        by i l true is =
            let z : covers c i ≡ 0 = blind_at c cs sees i is in
            ap (λ (k : ℕ). k * bit g i) z ∙ zero-mul (bit g i) ∙ sym (ap (λ (k : ℕ). k * bit h i) z ∙ zero-mul (bit h i))

-- what the word with the figure x in its positions has at position i
abbrev put : ℕ → ℕ → ℕ
put x i = pick (is_check i) 0 (bit x (carriers i))

put_lt : (x i : ℕ) → put x i < 2
put_lt x i = pick_lt (is_check i) 0 (bit x (carriers i)) 2 (omega arith) (bit_lt x (carriers i))

-- The plain word is made from the figure in its positions.
pub plain_made : (n x : ℕ) → 0 < n → Made n (carried n x) (plain_word n x) checks
unfolding plain_word carried in_order_meant blind covers is_check
plain_made n x pos =
    made_all n pos checks tt (carried n x) (word_lt (put x) (put_lt x) n)
    (λ c is l. bit_word (put x) (put_lt x) n c l ∙ ap (λ (t : Bool). pick t 0 (bit x (carriers c))) is)

-- Reading positions that carry the bits of x, highest first, gives x.
onwards_carried : (h x n a : ℕ) → ((i : ℕ) → i < n → is_check i ≡ false → bit h i ≡ bit x (carriers i))
    → onwards h n a ≡ a * 2 ^ carriers n + x % 2 ^ carriers n
unfolding onwards carriers
onwards_carried h x zero a bits = sym (ap₂ ◌+◌ (mul-one a) (mod-one x) ∙ add-zero a)
onwards_carried h x (suc n) a bits = go (is_check n) refl (λ b. onwards_carried h x n b (λ i l. bits i (lt_trans l (lt-suc_self n))))
  where
    go : (t : Bool) → is_check n ≡ t → ((b : ℕ) → onwards h n b ≡ b * 2 ^ carriers n + x % 2 ^ carriers n)
        → onwards h n (pick t a (a * 2 + bit h n)) ≡ a * 2 ^ pick t (carriers n) (carriers n + 1) + x % 2 ^ pick t (carriers n) (carriers n + 1)
    go true is ih = ih a
    go false is ih =
        let k = carriers n in
        let d = bit x k in
        ih (a * 2 + bit h n) ∙ ap (λ (b : ℕ). (a * 2 + b) * 2 ^ k + x % 2 ^ k) (bits n (lt-suc_self n) is)
        ∙ ap (λ (m : ℕ). m + x % 2 ^ k) (add-mul (a * 2) d (2 ^ k)) ∙ add_assoc (a * 2 * 2 ^ k) (d * 2 ^ k) (x % 2 ^ k)
        ∙ ap₂ ◌+◌ (mul_assoc a 2 (2 ^ k) ∙ ap (λ (m : ℕ). a * m) (mul_comm 2 (2 ^ k) ∙ sym (pow-suc 2 k) ∙ ap (λ (m : ℕ). 2 ^ m) (sym (add-one k))))
        (sym (mod-pow-add x 1 k) ∙ ap (λ (m : ℕ). x % 2 ^ m) (omega arith))

-- The plain word of a figure is a code word that carries it.
pub plain_code : (n x : ℕ) → 0 < n → is_code n (plain_word n x) ≡ true
unfolding is_code
plain_code n x pos = (plain_made n x pos).evens

pub plain_figure : (n x : ℕ) → 0 < n → x < 2 ^ carriers n → figure n (plain_word n x) ≡ x
unfolding figure is_check carried
plain_figure n x pos l =
    let m = plain_made n x pos in
    onwards_carried (plain_word n x) x n 0
    (λ i k free. m.outside i k free ∙ bit_word (put x) (put_lt x) n i k ∙ ap (λ (t : Bool). pick t 0 (bit x (carriers i))) free)
    ∙ ap (λ (k : ℕ). k + x % 2 ^ carriers n) (zero-mul (2 ^ carriers n)) ∙ plus (x % 2 ^ carriers n) ∙ mod-eq_of_lt l
  where
    plus : (k : ℕ) → 0 + k ≡ k
    plus k = omega arith
