-- A turn of each loop over a text, from what its test says.
-- Assumes nothing.
use Prim.Native.Nat.{ℕ, zero, suc, ◌+◌, ◌-◌, ◌<◌, ◌≤◌}
use mathlib.Core.Path.{◌≡◌, refl, sym, ap, ◌∙◌}
use mathlib.Core.Bool.{Bool, true, false, ◌&&◌, ◌||◌}
use mathlib.Core.List.{List, [], ◌∷◌}
use native.Mathlib.Omega.{arith}
use borrow.Author.Tests.{eq-eqb, ne_eqb}
use lib.Dec.{eqb}
use lib.ListN.{length, get_or, drop}
use lib.Seq.{drop-cons}
use Rattle.words.specs.Answer.{pick}
use Rattle.viewer_text.specs.Finding.{small, stands_at, stands_before}
use Rattle.viewer_text.specs.Commands.{blank, leading, ends_at}
use Rattle.viewer_text.specs.Screen.{lines_from}

-- ---- a word

pub stands_on : (text word : List ℕ) (at k : ℕ) → 0 < k → small (get_or text (at + (k - 1)) 0) ≡ small (get_or word (k - 1) 0)
    → stands_at text at word (k - 1) ≡ stands_at text at word k
unfolding stands_at
stands_on text word at k some e =
    let more : suc (k - 1) ≡ k = omega arith in
    ap (λ (b : Bool). b && stands_at text at word (k - 1)) (sym (eq-eqb (small (get_or text (at + (k - 1)) 0)) (small (get_or word (k - 1) 0)) e)) ∙ ap (stands_at text at word) more

pub stands_not : (text word : List ℕ) (at k : ℕ) → 0 < k → (small (get_or text (at + (k - 1)) 0) ≡ small (get_or word (k - 1) 0) → ⊥) → false ≡ stands_at text at word k
unfolding stands_at
stands_not text word at k some e =
    let more : suc (k - 1) ≡ k = omega arith in
    ap (λ (b : Bool). b && stands_at text at word (k - 1)) (sym (ne_eqb (small (get_or text (at + (k - 1)) 0)) (small (get_or word (k - 1) 0)) e)) ∙ ap (stands_at text at word) more

pub stands_done : (text word : List ℕ) (at k : ℕ) → k ≤ 0 → true ≡ stands_at text at word k
unfolding stands_at
stands_done text word at k none =
    let e : 0 ≡ k = omega arith in
    ap (stands_at text at word) e

pub found : (text word : List ℕ) (n : ℕ) → 0 < n → stands_at text (n - 1) word (length word) ≡ true → true ≡ stands_before text word n
unfolding stands_before
found text word n some e =
    let more : suc (n - 1) ≡ n = omega arith in
    ap (λ (b : Bool). b || stands_before text word (n - 1)) (sym e) ∙ ap (stands_before text word) more

pub found_on : (text word : List ℕ) (n : ℕ) → 0 < n → stands_at text (n - 1) word (length word) ≡ false → stands_before text word (n - 1) ≡ stands_before text word n
unfolding stands_before
found_on text word n some e =
    let more : suc (n - 1) ≡ n = omega arith in
    ap (λ (b : Bool). b || stands_before text word (n - 1)) (sym e) ∙ ap (stands_before text word) more

pub found_none : (text word : List ℕ) (n : ℕ) → n ≤ 0 → false ≡ stands_before text word n
unfolding stands_before
found_none text word n none =
    let e : 0 ≡ n = omega arith in
    ap (stands_before text word) e

-- ---- blanks

pub leads_on : (line : List ℕ) (i : ℕ) → i < length line → blank (get_or line i 0) ≡ true → leading (drop i line) ≡ leading (drop (i + 1) line) + 1
unfolding leading
leads_on line i less e =
    let next : suc i ≡ i + 1 = omega arith in
    ap leading (drop-cons line i 0 less)
    ∙ ap (λ (b : Bool). pick b (leading (drop (suc i) line) + 1) 0) e
    ∙ ap (λ (k : ℕ). leading (drop k line) + 1) next

pub leads_not : (line : List ℕ) (i : ℕ) → i < length line → blank (get_or line i 0) ≡ false → leading (drop i line) ≡ 0
unfolding leading
leads_not line i less e = ap leading (drop-cons line i 0 less) ∙ ap (λ (b : Bool). pick b (leading (drop (suc i) line) + 1) 0) e

drop_all : (l : List ℕ) (i : ℕ) → length l ≤ i → drop i l ≡ []
drop_all [] zero h = refl
drop_all [] (suc i) h = refl
drop_all (x ∷ l) zero h = absurd (omega arith)
drop_all (x ∷ l) (suc i) h =
    let less : length l ≤ i = omega arith in
    drop_all l i less

pub leads_end : (line : List ℕ) (i : ℕ) → length line ≤ i → leading (drop i line) ≡ 0
unfolding leading
leads_end line i past = ap leading (drop_all line i past)

pub ends_on : (line : List ℕ) (n : ℕ) → 0 < n → blank (get_or line (n - 1) 0) ≡ true → ends_at (n - 1) line ≡ ends_at n line
unfolding ends_at
ends_on line n some e =
    let more : suc (n - 1) ≡ n = omega arith in
    ap (λ (b : Bool). pick b (ends_at (n - 1) line) (suc (n - 1))) (sym e) ∙ ap (λ (k : ℕ). ends_at k line) more

pub ends_here : (line : List ℕ) (n : ℕ) → 0 < n → blank (get_or line (n - 1) 0) ≡ false → n ≡ ends_at n line
unfolding ends_at
ends_here line n some e =
    let more : suc (n - 1) ≡ n = omega arith in
    sym more ∙ ap (λ (b : Bool). pick b (ends_at (n - 1) line) (suc (n - 1))) (sym e) ∙ ap (λ (k : ℕ). ends_at k line) more

pub ends_none : (line : List ℕ) (n : ℕ) → n ≤ 0 → n ≡ ends_at n line
unfolding ends_at
ends_none line n none =
    let e : 0 ≡ n = omega arith in
    sym e ∙ ap (λ (k : ℕ). ends_at k line) e

-- ---- lines

pub lines_pass : (text : List ℕ) (lines n : ℕ) → 0 < n → (get_or text (n - 1) 0 ≡ 10 → ⊥) → lines_from (n - 1) lines text ≡ lines_from n lines text
unfolding lines_from
lines_pass text lines n some e =
    let more : suc (n - 1) ≡ n = omega arith in
    ap (λ (b : Bool). pick b (pick (eqb lines 0) (suc (n - 1)) (lines_from (n - 1) (lines - 1) text)) (lines_from (n - 1) lines text)) (sym (ne_eqb (get_or text (n - 1) 0) 10 e))
    ∙ ap (λ (k : ℕ). lines_from k lines text) more

pub lines_less : (text : List ℕ) (lines n : ℕ) → 0 < n → get_or text (n - 1) 0 ≡ 10 → (lines ≡ 0 → ⊥) → lines_from (n - 1) (lines - 1) text ≡ lines_from n lines text
unfolding lines_from
lines_less text lines n some e some_left =
    let more : suc (n - 1) ≡ n = omega arith in
    ap (λ (b : Bool). pick b (suc (n - 1)) (lines_from (n - 1) (lines - 1) text)) (sym (ne_eqb lines 0 some_left))
    ∙ ap (λ (b : Bool). pick b (pick (eqb lines 0) (suc (n - 1)) (lines_from (n - 1) (lines - 1) text)) (lines_from (n - 1) lines text)) (sym (eq-eqb (get_or text (n - 1) 0) 10 e))
    ∙ ap (λ (k : ℕ). lines_from k lines text) more

pub lines_here : (text : List ℕ) (lines n : ℕ) → 0 < n → get_or text (n - 1) 0 ≡ 10 → lines ≡ 0 → n ≡ lines_from n lines text
unfolding lines_from
lines_here text lines n some e none =
    let more : suc (n - 1) ≡ n = omega arith in
    sym more
    ∙ ap (λ (b : Bool). pick b (suc (n - 1)) (lines_from (n - 1) (lines - 1) text)) (sym (eq-eqb lines 0 none))
    ∙ ap (λ (b : Bool). pick b (pick (eqb lines 0) (suc (n - 1)) (lines_from (n - 1) (lines - 1) text)) (lines_from (n - 1) lines text)) (sym (eq-eqb (get_or text (n - 1) 0) 10 e))
    ∙ ap (λ (k : ℕ). lines_from k lines text) more

pub lines_none : (text : List ℕ) (lines n : ℕ) → n ≤ 0 → n ≡ lines_from n lines text
unfolding lines_from
lines_none text lines n none =
    let e : 0 ≡ n = omega arith in
    sym e ∙ ap (λ (k : ℕ). lines_from k lines text) e
