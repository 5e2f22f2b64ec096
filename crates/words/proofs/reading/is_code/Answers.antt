-- `is_code` is right because the ones under each mask are those that the mask's check looks at, in
-- a word of either code.
use mathlib.Core.Path.{◌≡◌, refl, sym, ap, ◌∙◌}
use mathlib.Core.Bool.{Bool, true, false, ◌&&◌, and_assoc, and-true}
use mathlib.Core.Logic.{⊎_elim}
use Prim.Native.Nat.{ℕ, ◌^◌, ◌<◌}
use Rattle.words.specs.Bits.{word}
use Rattle.words.specs.Plain.{covers, even, is_code}
use Rattle.words.specs.Code.{other, exchanged}
use Rattle.words.proofs.Widths.{Width, long}
use Rattle.words.proofs.Masks.{mask, even_under}
use Rattle.words.proofs.reading.is_code.Goals.{After-is_even-then-is_even-4, Else-is_even-4, Joined-is_even-3}
use Rattle.words.proofs.reading.is_code.Goals as goal

-- a second test is asked where the first holds, and decides there
asked : (t a b : Bool) → a ≡ true → t ≡ b → t ≡ a && b
asked t a b holds is = is ∙ ap (λ (x : Bool). x && b) (sym holds)

unasked : (t a b : Bool) → a ≡ false → t ≡ a → t ≡ a && b
unasked t a b fails is = is ∙ fails ∙ ap (λ (x : Bool). x && b) (sym fails)

-- the five tests, one after the other, are all of them
joined : (a b c d e : Bool) → ((((a && b) && c) && d) && e) ≡ a && (b && (c && (d && (e && true))))
joined a b c d e =
    and_assoc (a && b && c) d e ∙ and_assoc (a && b) c (d && e) ∙ and_assoc a b (c && (d && e))
    ∙ ap (λ (x : Bool). a && (b && (c && (d && x)))) (sym (and-true e))

-- in a word of n bits, what the tests so far say at each place where they meet
module _ {n : ℕ} (wide : Width n) (c : Joined-is_even-3) (small : c.args.w < 2 ^ n) where
  abbrev w : ℕ
  w = c.args.w

  abbrev e : ℕ → Bool
  e = even n (exchanged n w)

  one : c.is_even.result ≡ e 8
  unfolding mask word covers other
  one = c.is_even.ensures ∙ even_under wide w small 8 _ refl

  two : c.if-is_even.value ≡ e 8 && e 4
  unfolding mask word covers other
  two =
      ⊎_elim (λ s. asked _ (e 8) (e 4) (sym one ∙ s.if-is_even.true) (s.value-is ∙ s.is_even-then-is_even.ensures ∙ even_under wide w small 4 _ refl))
      (λ s. unasked _ (e 8) (e 4) (sym one ∙ s.if-is_even.false) (s.value-is ∙ one)) c.if-is_even.branch-raw

  three : c.if-is_even-2.value ≡ (e 8 && e 4) && e 2
  unfolding mask word covers other
  three =
      ⊎_elim (λ s. asked _ (e 8 && e 4) (e 2) (sym two ∙ s.if-is_even-2.true) (s.value-is ∙ s.is_even-then-is_even-2.ensures ∙ even_under wide w small 2 _ refl))
      (λ s. unasked _ (e 8 && e 4) (e 2) (sym two ∙ s.if-is_even-2.false) (s.value-is ∙ two)) c.if-is_even-2.branch-raw

  four : c.if-is_even-3.value ≡ ((e 8 && e 4) && e 2) && e 1
  unfolding mask word covers other
  four =
      ⊎_elim (λ s. asked _ ((e 8 && e 4) && e 2) (e 1) (sym three ∙ s.if-is_even-3.true) (s.value-is ∙ s.is_even-then-is_even-3.ensures ∙ even_under wide w small 1 _ refl))
      (λ s. unasked _ ((e 8 && e 4) && e 2) (e 1) (sym three ∙ s.if-is_even-3.false) (s.value-is ∙ three)) c.if-is_even-3.branch-raw

-- the last is asked where the four hold
all_five : {n : ℕ} (wide : Width n) (c : After-is_even-then-is_even-4) → let w = c.args.w in w < 2 ^ n
    → c.is_even-then-is_even-4.result ≡ is_code n (exchanged n w)
unfolding mask word covers other is_code
all_five {n} wide c small =
    let w = c.args.w in
    let e = even n (exchanged n w) in
    let so = four wide c.before.before small in
    asked _ (((e 8 && e 4) && e 2) && e 1) (e 0) (sym so ∙ c.if-is_even-4.true) (c.is_even-then-is_even-4.ensures ∙ even_under wide w small 0 _ refl)
    ∙ joined (e 8) (e 4) (e 2) (e 1) (e 0)

not_four : {n : ℕ} (wide : Width n) (c : Else-is_even-4) → let w = c.args.w in w < 2 ^ n
    → c.if-is_even-3.value ≡ is_code n (exchanged n w)
unfolding is_code
not_four {n} wide c small =
    let e = even n (exchanged n c.args.w) in
    let so = four wide c.before small in
    unasked _ (((e 8 && e 4) && e 2) && e 1) (e 0) (sym so ∙ c.if-is_even-4.false) so ∙ joined (e 8) (e 4) (e 2) (e 1) (e 0)

pub returns-then-is_even-4 : goal.returns-then-is_even-4
returns-then-is_even-4 c = all_five long c c.requires

pub returns-else-is_even-4 : goal.returns-else-is_even-4
returns-else-is_even-4 c = not_four long c c.requires
