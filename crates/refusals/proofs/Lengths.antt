-- A number without words; and how long a refusal is at most.
-- Assumes nothing.
use mathlib.Core.Path.{◌≡◌, refl, sym, ap, ◌∙◌}
use mathlib.Core.Bool.{Bool, true, false, ◌&&◌}
use mathlib.Core.List.{List, [], ◌∷◌, ◌++◌, append-nil}
use Prim.Native.Nat.{ℕ, ◌≤◌, ◌<◌}
use Prim.Native.String.{String}
use native.Mathlib.Omega.{arith}
use lib.Dec.{eqb, leb}
use lib.ListN.{length, length-append}
use borrow.Author.Tests.{ne_eqb, leb-true}
use Rattle.words.specs.Answer.{pick}
use Rattle.words.proofs.Linear.{and_parts}
use Rattle.text.specs.Text.{codes}
use Rattle.text.proofs.Decimal.{decimal_length}
use Rattle.text.proofs.Standing.{numbered}
use Rattle.refusals.specs.Words.{table, worded, alone, refused}

pub alone_is : (n : ℕ) → numbered "refused " n ++ codes "\n" ≡ alone n
unfolding alone
alone_is n = refl

pub alone_length : (n : ℕ) → length (alone n) ≤ 64
unfolding alone
alone_length n = simp length-append (omega (arith, decimal_length n))

-- A number without a row stands alone.
pub bare : (n : ℕ) → worded table n ≡ [] → alone n ≡ refused n
unfolding alone refused
bare n e =
    let before : List ℕ = numbered "refused " n in
    ap (λ (l : List ℕ). l ++ codes "\n") (sym (append-nil before)) ∙ ap (λ (l : List ℕ). before ++ l ++ codes "\n") (sym e)

-- Another number has another row.
pub below : (n k : ℕ) → n < k → eqb n k ≡ false
below n k h = ne_eqb n k (λ (same : n ≡ k). omega (arith, h, same))

pub above : (n k : ℕ) → k < n → eqb n k ≡ false
above n k h = ne_eqb n k (λ (same : n ≡ k). omega (arith, h, same))

-- Whether the words of all rows are short.
short : List (ℕ × String) → Bool
short [] = true
short (row ∷ rows) = leb (length (codes row.1)) 48 && short rows

-- The longer of two texts of which one is picked.
either_length : (b : Bool) (t u : List ℕ) → length t ≤ 50 → length u ≤ 50 → length (pick b t u) ≤ 50
either_length true t u h k = h
either_length false t u h k = k

-- The words of a number by a table of short words,
worded_length : (rows : List (ℕ × String)) (n : ℕ) → short rows ≡ true → length (worded rows n) ≤ 50
unfolding worded short
worded_length [] n e = omega arith
worded_length (row ∷ rows) n e =
    let parts = and_parts (leb (length (codes row.1)) 48) (short rows) e in
    let here : length (codes row.1) ≤ 48 = leb-true _ _ parts.0 in
    either_length (eqb n row.0) (codes ": " ++ codes row.1) (worded rows n) (omega arith) (worded_length rows n parts.1)

-- as the documents' is.
table_short : short table ≡ true
unfolding table short
table_short = refl

-- No refusal is longer than this.
pub refused_length : (n : ℕ) → length (refused n) ≤ 79
unfolding refused
refused_length n = simp length-append (omega (arith, decimal_length n, worded_length table n table_short))
