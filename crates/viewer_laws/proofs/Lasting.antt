-- Going back over the newlines of what was kept and of all comes to the same line: what was kept
-- has as many as are asked for, or is all.
-- Assumes nothing.
use Prim.Native.Nat.{ℕ, zero, suc, ◌+◌, ◌-◌, ◌<◌, ◌≤◌}
use mathlib.Core.Path.{◌≡◌, refl, sym, ap, subst, ◌∙◌}
use mathlib.Core.Bool.{Bool, true, false}
use mathlib.Core.List.{List, ◌++◌, append_assoc}
use native.Mathlib.Omega.{arith}
use borrow.Author.Tests.{eqb-true, ne_eqb}
use lib.Dec.{eqb}
use lib.ListN.{length, get_or, take, drop, length-append, take-append-drop, get_or-append}
use lib.Seq.{length-take-le, drop-append-add, get_or-append-add}
use Rattle.words.specs.Answer.{pick}
use Rattle.viewer_text.specs.Screen.{lines_from}
use Rattle.viewer_laws.specs.Lasting.{LastLines, Lasting}

-- how many of the first k signs of a text are newlines
unfoldable pub newlines : ℕ → List ℕ → ℕ
newlines zero t = 0
newlines (suc k) t = pick (eqb (get_or t k 0) 10) (suc (newlines k t)) (newlines k t)

-- where going back stops: after a newline, with as many as were asked for behind it
pub record Stops (t : List ℕ) (k l p : ℕ) : Type 0 where
  pub counted : newlines k t ≡ newlines p t + l
  pub after : get_or t (p - 1) 0 ≡ 10
  pub within : p ≤ k

here : (t : List ℕ) (k : ℕ) → eqb (get_or t k 0) 10 ≡ true → Stops t (suc k) 0 (suc k)
here t k e =
    let same : suc k - 1 ≡ k = omega arith in
    record { counted = omega arith; after = ap (λ (i : ℕ). get_or t i 0) same ∙ eqb-true (get_or t k 0) 10 e; within = omega arith }

one_more : (t : List ℕ) (k l p : ℕ) → eqb (get_or t k 0) 10 ≡ true → Stops t k l p → Stops t (suc k) (suc l) p
unfolding newlines
one_more t k l p e s =
    let counted : newlines k t ≡ newlines p t + l = s.counted in
    let one : pick (eqb (get_or t k 0) 10) (suc (newlines k t)) (newlines k t) ≡ suc (newlines k t) = ap (λ (b : Bool). pick b (suc (newlines k t)) (newlines k t)) e in
    let more : suc (newlines k t) ≡ newlines p t + suc l = omega arith in
    record { counted = one ∙ more; after = s.after; within = omega (arith, s.within) }

none_more : (t : List ℕ) (k l p : ℕ) → eqb (get_or t k 0) 10 ≡ false → Stops t k l p → Stops t (suc k) l p
unfolding newlines
none_more t k l p e s =
    record { counted = ap (λ (b : Bool). pick b (suc (newlines k t)) (newlines k t)) e ∙ s.counted; after = s.after; within = omega (arith, s.within) }

-- a line back, by whether a newline stands there and whether one is still asked for
turn : (b : Bool) (t : List ℕ) (k l : ℕ) → eqb (get_or t k 0) 10 ≡ b → ((m : ℕ) → 0 < lines_from k m t → Stops t k m (lines_from k m t))
    → 0 < pick b (pick (eqb l 0) (suc k) (lines_from k (l - 1) t)) (lines_from k l t)
    → Stops t (suc k) l (pick b (pick (eqb l 0) (suc k) (lines_from k (l - 1) t)) (lines_from k l t))
turn true t k zero e rest some = here t k e
turn true t k (suc l) e rest some =
    let less : suc l - 1 ≡ l = omega arith in
    let is : pick (eqb (suc l) 0) (suc k) (lines_from k (suc l - 1) t) ≡ lines_from k l t =
    ap (λ (b : Bool). pick b (suc k) (lines_from k (suc l - 1) t)) (ne_eqb (suc l) 0 (λ z. omega arith)) ∙ ap (λ (m : ℕ). lines_from k m t) less in
    let left : 0 < lines_from k l t = subst (λ (n : ℕ). 0 < n) is some in
    subst (Stops t (suc k) (suc l)) (sym is) (one_more t k l (lines_from k l t) e (rest l left))
turn false t k l e rest some = none_more t k l (lines_from k l t) e (rest l some)

stops : (k l : ℕ) (t : List ℕ) → 0 < lines_from k l t → Stops t k l (lines_from k l t)
unfolding lines_from
stops zero l t some = absurd (omega arith)
stops (suc k) l t some = turn (eqb (get_or t k 0) 10) t k l refl (λ m. stops k m t) some

-- ---- newlines of two texts

front : (k : ℕ) (t more : List ℕ) → k ≤ length t → newlines k (t ++ more) ≡ newlines k t
unfolding newlines
front zero t more h = refl
front (suc k) t more h =
    let less : k < length t = omega arith in
    let before : k ≤ length t = omega arith in
    ap (λ (c : ℕ). pick (eqb c 10) (suc (newlines k (t ++ more))) (newlines k (t ++ more))) (get_or-append t more 0 k less)
    ∙ ap (λ (n : ℕ). pick (eqb (get_or t k 0) 10) (suc n) n) (front k t more before)

grow : (b : Bool) (m n x : ℕ) → m ≡ n + x → pick b (suc m) m ≡ n + pick b (suc x) x
grow true m n x e = omega arith
grow false m n x e = e

behind : (i : ℕ) (u w : List ℕ) → newlines (length u + i) (u ++ w) ≡ newlines (length u) (u ++ w) + newlines i w
unfolding newlines
behind zero u w =
    let none : length u + 0 ≡ length u = omega arith in
    let same : newlines (length u) (u ++ w) ≡ newlines (length u) (u ++ w) + 0 = omega arith in
    ap (λ (k : ℕ). newlines k (u ++ w)) none ∙ same
behind (suc i) u w =
    let one : length u + suc i ≡ suc (length u + i) = omega arith in
    ap (λ (k : ℕ). newlines k (u ++ w)) one
    ∙ ap (λ (c : ℕ). pick (eqb c 10) (suc (newlines (length u + i) (u ++ w))) (newlines (length u + i) (u ++ w))) (get_or-append-add u w i 0)
    ∙ grow (eqb (get_or w i 0) 10) (newlines (length u + i) (u ++ w)) (newlines (length u) (u ++ w)) (newlines i w) (behind i u w)

-- ---- going back over both

-- what stands before is nothing, or ends with a newline and is not needed
data Before (u : List ℕ) (l n : ℕ) : Type 0 where
  nothing : length u ≡ 0 → Before u l n
  enough : 0 < length u → get_or u (length u - 1) 0 ≡ 10 → l ≤ n → Before u l n

less_needed : (u : List ℕ) (l n : ℕ) → Before u (suc l) (suc n) → Before u l n
less_needed u l n (nothing e) = nothing e
less_needed u l n (enough some e few) =
    let fewer : l ≤ n = omega arith in
    enough some e fewer

at_its_end : (k : ℕ) (u w : List ℕ) → length u ≡ suc k → get_or u k 0 ≡ 10 → lines_from (suc k) 0 (u ++ w) ≡ suc k
unfolding lines_from
at_its_end k u w long e =
    let less : k < length u = omega arith in
    ap (λ (c : ℕ). pick (eqb c 10) (suc k) (lines_from k 0 (u ++ w))) (get_or-append u w 0 k less ∙ e)

start : (l : ℕ) (u w : List ℕ) → Before u l 0 → lines_from (length u + 0) l (u ++ w) ≡ length u + 0
unfolding lines_from
start l u w (nothing e) =
    let none : length u + 0 ≡ 0 = omega arith in
    ap (λ (k : ℕ). lines_from k l (u ++ w)) none ∙ sym none
start l u w (enough some e few) =
    let none : l ≡ 0 = omega arith in
    let long : length u ≡ suc (length u - 1) = omega arith in
    let same : length u + 0 ≡ suc (length u - 1) = omega arith in
    ap (λ (k : ℕ). lines_from k l (u ++ w)) same
    ∙ ap (λ (m : ℕ). lines_from (suc (length u - 1)) m (u ++ w)) none
    ∙ at_its_end (length u - 1) u w long e
    ∙ sym same

step : (b : Bool) (i l : ℕ) (u w : List ℕ) → ((m : ℕ) → Before u m (newlines i w) → lines_from (length u + i) m (u ++ w) ≡ length u + lines_from i m w)
    → Before u l (pick b (suc (newlines i w)) (newlines i w))
    → pick b (pick (eqb l 0) (suc (length u + i)) (lines_from (length u + i) (l - 1) (u ++ w))) (lines_from (length u + i) l (u ++ w))
    ≡ length u + pick b (pick (eqb l 0) (suc i) (lines_from i (l - 1) w)) (lines_from i l w)
step true i zero u w rest h =
    let e : suc (length u + i) ≡ length u + suc i = omega arith in
    e
step true i (suc l) u w rest h =
    let less : suc l - 1 ≡ l = omega arith in
    let some : eqb (suc l) 0 ≡ false = ne_eqb (suc l) 0 (λ z. omega arith) in
    ap (λ (b : Bool). pick b (suc (length u + i)) (lines_from (length u + i) (suc l - 1) (u ++ w))) some
    ∙ ap (λ (m : ℕ). lines_from (length u + i) m (u ++ w)) less
    ∙ rest l (less_needed u l (newlines i w) h)
    ∙ ap (λ (m : ℕ). length u + lines_from i m w) (sym less)
    ∙ ap (λ (b : Bool). length u + pick b (suc i) (lines_from i (suc l - 1) w)) (sym some)
step false i l u w rest h = rest l h

scan : (i l : ℕ) (u w : List ℕ) → Before u l (newlines i w) → lines_from (length u + i) l (u ++ w) ≡ length u + lines_from i l w
unfolding lines_from newlines
scan zero l u w h = start l u w h
scan (suc i) l u w h =
    let one : length u + suc i ≡ suc (length u + i) = omega arith in
    ap (λ (k : ℕ). lines_from k l (u ++ w)) one
    ∙ ap (λ (c : ℕ). pick (eqb c 10) (pick (eqb l 0) (suc (length u + i)) (lines_from (length u + i) (l - 1) (u ++ w))) (lines_from (length u + i) l (u ++ w))) (get_or-append-add u w i 0)
    ∙ step (eqb (get_or w i 0) 10) i l u w (λ m. scan i m u w) h

-- ---- what was kept

before : (p lines : ℕ) (text more : List ℕ) → p ≡ lines_from (length text) lines text
    → Before (take p text) lines (newlines (length (drop p text ++ more)) (drop p text ++ more))
before zero lines text more is = nothing refl
before (suc k) lines text more is =
    let p : ℕ = suc k in
    let u : List ℕ = take p text in
    let d : List ℕ = drop p text in
    let some : 0 < lines_from (length text) lines text = omega arith in
    let s : Stops text (length text) lines p = subst (Stops text (length text) lines) (sym is) (stops (length text) lines text some) in
    let whole : u ++ d ≡ text = take-append-drop p text in
    let long : length u ≡ p = length-take-le p text s.within in
    let both : length u + length d ≡ length text = sym (length-append u d) ∙ ap length whole in
    let last : length u - 1 < length u = omega arith in
    let at : length u - 1 ≡ p - 1 = omega arith in
    let ends : get_or u (length u - 1) 0 ≡ 10 =
    sym (get_or-append u d 0 (length u - 1) last) ∙ ap (λ (t : List ℕ). get_or t (length u - 1) 0) whole ∙ ap (λ (i : ℕ). get_or text i 0) at ∙ s.after in
    let split : newlines (length text) text ≡ newlines p text + newlines (length d) d =
    ap (λ (n : ℕ). newlines n text) (sym both) ∙ ap (newlines (length u + length d)) (sym whole) ∙ behind (length d) u d
    ∙ ap (λ (t : List ℕ). newlines (length u) t + newlines (length d) d) whole ∙ ap (λ (n : ℕ). newlines n text + newlines (length d) d) long in
    let kept : newlines (length d) d ≡ lines = omega (arith, s.counted) in
    let more_has : newlines (length (d ++ more)) (d ++ more) ≡ newlines (length d) d + newlines (length more) more =
    ap (λ (n : ℕ). newlines n (d ++ more)) (length-append d more) ∙ behind (length more) d more
    ∙ ap (λ (n : ℕ). n + newlines (length more) more) (front (length d) d more (omega arith)) in
    let first : 0 < length u = omega arith in
    enough first ends (omega arith)

joined : (text more : List ℕ) (lines p q r : ℕ) → p ≡ lines_from (length text) lines text → q ≡ lines_from (length (drop p text ++ more)) lines (drop p text ++ more)
    → r ≡ lines_from (length (text ++ more)) lines (text ++ more) → drop q (drop p text ++ more) ≡ drop r (text ++ more)
joined text more lines p q r p-is q_is r-is =
    let u : List ℕ = take p text in
    let w : List ℕ = drop p text ++ more in
    let same : text ++ more ≡ u ++ w = ap (λ (t : List ℕ). t ++ more) (sym (take-append-drop p text)) ∙ append_assoc u (drop p text) more in
    let far : r ≡ length u + q =
    r-is ∙ ap (λ (t : List ℕ). lines_from (length t) lines t) same ∙ ap (λ (n : ℕ). lines_from n lines (u ++ w)) (length-append u w)
    ∙ scan (length w) lines u w (before p lines text more p-is) ∙ ap (λ (n : ℕ). length u + n) (sym q_is) in
    sym (drop-append-add u w q) ∙ ap (λ (n : ℕ). drop n (u ++ w)) (sym far) ∙ ap (drop r) (sym same)

-- what the contract says
read_as : (text : List ℕ) (lines r : ℕ) → LastLines text lines r → r ≡ lines_from (length text) lines text
read_as text lines r c = c.4 ∙ ap (λ (t : List ℕ). lines_from (length t) lines t) c.3

pub lasting : Lasting
lasting = record { together = λ text more lines p q r a b c. joined text more lines p q r (read_as text lines p a) (read_as (drop p text ++ more) lines q b) (read_as (text ++ more) lines r c) }
