-- The table's rule: one test that is computed over the whole table, and the law that carries it to
-- every entry.
-- Assumes nothing.
use mathlib.Core.Path.{◌≡◌, refl, sym, ap, ap₂, ◌∙◌}
use mathlib.Core.Bool.{Bool, true, false}
use mathlib.Core.List.{List, [], ◌∷◌}
use Prim.Native.Nat.{ℕ, zero, suc, ◌+◌, ◌<◌}
use native.Mathlib.Nat.{add-zero, zero-add, add-suc, suc-add, le_of_suc-le-suc, not-suc-le-zero}
use lib.Dec.{T, eqb, eqb→eq}
use lib.ListN.{length, get_or}
use Rattle.words.specs.Answer.{pick}
use Rattle.words.specs.Code.{sent}
use Rattle.words_list.specs.Listed.{words_from, list}

-- The test: each entry of the table, the first at the figure x, is the word that is sent for its
-- figure.
abbrev pub each : ℕ → List ℕ → Bool
each x [] = true
each x (e ∷ l) = pick (eqb e (sent 16 x)) (each (suc x) l) false

passes : (b t : Bool) → T (pick b t false) → T b × T t
passes true t h = (tt, h)
passes false t h = absurd h

-- A table that passes is the list, entry for entry.
pub tied : (x : ℕ) (l : List ℕ) → T (each x l) → l ≡ words_from x (length l)
unfolding words_from
tied x [] t = refl
tied x (e ∷ l) t =
    let p = passes (eqb e (sent 16 x)) (each (suc x) l) t in
    ap₂ ◌∷◌ (eqb→eq e (sent 16 x) p.0) (tied (suc x) l p.1)

pub the_list : (l : List ℕ) → T (each 0 l) → length l ≡ 2048 → l ≡ list
unfolding list
the_list l t n = tied 0 l t ∙ ap (words_from 0) n

-- At each figure stands the word that is sent for it.
from : (n x k : ℕ) → k < n → get_or (words_from x n) k 0 ≡ sent 16 (x + k)
unfolding words_from
from zero x k h = absurd (not-suc-le-zero h)
from (suc n) x zero h = ap (sent 16) (sym (add-zero x))
from (suc n) x (suc k) h = from n (suc x) k (le_of_suc-le-suc h) ∙ ap (sent 16) (suc-add x k ∙ sym (add-suc x k))

pub entry : (x : ℕ) → x < 2048 → get_or list x 0 ≡ sent 16 x
unfolding list
entry x h = from 2048 0 x h ∙ ap (sent 16) (zero-add x)

-- The list has 2,048 words.
long_from : (n x : ℕ) → length (words_from x n) ≡ n
unfolding words_from
long_from zero x = refl
long_from (suc n) x = ap suc (long_from n (suc x))

pub list_length : length list ≡ 2048
unfolding list
list_length = long_from 2048 0
