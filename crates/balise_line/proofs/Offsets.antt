-- The wrong offsets. A false place r bits after a telegram's beginning, 0 < r < 32, wants two
-- bytes, 32 bits apart, that differ as the sync words do: in every bit but one, e. What is sent
-- there differs otherwise: data bits 32 apart are sent alike, and sync bits differ as the sync
-- words do. Each bit in which the two disagree costs a flip. A flip of a sync bit counts so many
-- times: where no sync bit flips, as many as one likes.
-- Assumes nothing.
use mathlib.Core.Path.{◌≡◌, subst}
use mathlib.Core.Bool.{Bool, true}
use mathlib.Core.List.{List}
use Prim.Native.Nat.{ℕ, zero, suc, ◌+◌, ◌*◌, ◌%◌, ◌≤◌, ◌<◌}
use native.Mathlib.Omega.{arith}
use lib.Dec.{T, leb, leb→le}
use Rattle.words.specs.Answer.{pick}
use Rattle.words.specs.Plain.{among}
use Rattle.words.proofs.Ranges.{upto, below}
use Rattle.balise_line.specs.Line.{sum, unequal}
use Rattle.balise_line.proofs.Sums.{not_at}

-- how often a flip of bit m of a telegram counts
unfoldable pub weigh : ℕ → ℕ → ℕ
weigh w m = pick (leb 8 m) 1 w

-- 1 if bit m of a telegram and of the next are sent different, else 0
unfoldable pub apart : ℕ → ℕ → ℕ
apart e m = pick (leb 8 m) 0 (not_at e m)

-- what bit i of the two bytes costs
unfoldable pub cost : ℕ → ℕ → ℕ → ℕ → ℕ
cost w e r i = weigh w ((r + i) % 32) * unequal (not_at e i) (apart e ((r + i) % 32))

-- Whether every wrong offset costs so much at least.
unfoldable pub dear : ℕ → ℕ → ℕ → Bool
dear w least e = upto (λ r. leb least (sum (cost w e (suc r)) 8)) 31

pub at_least : (w least e : ℕ) → T (dear w least e) → (r : ℕ) → 0 < r → r < 32 → least ≤ sum (cost w e r) 8
unfolding dear
at_least w least e t zero pos l = absurd (omega arith)
at_least w least e t (suc r) pos l =
    leb→le least (sum (cost w e (suc r)) 8) (below (λ r. leb least (sum (cost w e (suc r)) 8)) 31 t r (omega arith))

-- Where no sync bit flips, and each that would counts four, every wrong offset costs four, wherever
-- the equal bit is.
pub four : (e : ℕ) → e < 8 → T (dear 4 4 e)
unfolding dear cost weigh apart sum not_at unequal
four e l = below (dear 4 4) 8 tt e l

-- Whether, a sync bit counting as any other, every wrong offset costs so much at least, if the
-- equal bit, e, is one of those listed.
unfoldable pub dear_among : List ℕ → ℕ → ℕ → Bool
dear_among ks least e = pick (among (suc e) ks) (dear 1 least e) true

pub among_dear : (ks : List ℕ) (least : ℕ) → T (upto (dear_among ks least) 8) → (e : ℕ) → e < 8 → among (suc e) ks ≡ true → T (dear 1 least e)
unfolding dear_among
among_dear ks least t e l is = subst (λ (t : Bool). T (pick t (dear 1 least e) true)) is (below (dear_among ks least) 8 t e l)
