-- The prefix makes target figure 1 read 0 exactly as document 01 says.
-- Assumes nothing.
use Prim.Native.Nat.{ℕ, ◌-◌, ◌≤◌}
use mathlib.Core.Path.{◌≡◌, refl, sym, ap, ◌∙◌}
use mathlib.Core.Logic.{◌⊎◌, inl, inr}
use mathlib.Core.Bool.{Bool, true, false, ◌&&◌, ◌||◌, not}
use lib.Dec.{eqb, leb}
use borrow.Author.Tests.{le-leb, eq-eqb, ne_eqb, leb-true, eqb-true}
use Rattle.words.specs.Answer.{pick}
use Rattle.group.specs.Speed.{target_figure}
use Rattle.demands.specs.Said.{Prefixed}
use Rattle.demands.proofs.Common.Rules.{true_not_false}
use Rattle.balise_line.proofs.Places.{and_parts, and_true, or_parts, or_left, or_right}

-- whether the prefix rule applies, as the definition asks it
abbrev applies : ℕ → ℕ → ℕ → ℕ → Bool
applies ay az py pz = (leb 7 py && leb py 14) && not (eqb pz 0) && eqb az 1 && ((leb 1 ay && leb ay 12) || eqb ay 14)

not_zero : (n : ℕ) → (n ≡ 0 → ⊥) → not (eqb n 0) ≡ true
not_zero n e = ap not (ne_eqb n 0 e)

is_zero : (n : ℕ) → not (eqb n 0) ≡ true → n ≡ 0 → ⊥
is_zero n e z = true_not_false (sym e ∙ ap not (eq-eqb n 0 z))

prefixed_applies : (ay az py pz : ℕ) → Prefixed ay az py pz → applies ay az py pz ≡ true
prefixed_applies ay az py pz p =
    and_true (and_true (and_true (and_true (le-leb 7 py p.py_least) (le-leb py 14 p.py_most)) (not_zero pz p.pz_not_0)) (eq-eqb az 1 p.figure_1))
    (ay_of p.ay_is)
  where
    ay_of : ((1 ≤ ay) × (ay ≤ 12)) ⊎ (ay ≡ 14) → ((leb 1 ay && leb ay 12) || eqb ay 14) ≡ true
    ay_of (inl r) = or_left (eqb ay 14) (and_true (le-leb 1 ay r.0) (le-leb ay 12 r.1))
    ay_of (inr e) = or_right (leb 1 ay && leb ay 12) (eq-eqb ay 14 e)

applies_prefixed : (ay az py pz : ℕ) → applies ay az py pz ≡ true → Prefixed ay az py pz
applies_prefixed ay az py pz e =
    let a = and_parts (((leb 7 py && leb py 14) && not (eqb pz 0)) && eqb az 1) ((leb 1 ay && leb ay 12) || eqb ay 14) e in
    let b = and_parts ((leb 7 py && leb py 14) && not (eqb pz 0)) (eqb az 1) a.0 in
    let c = and_parts (leb 7 py && leb py 14) (not (eqb pz 0)) b.0 in
    let d = and_parts (leb 7 py) (leb py 14) c.0 in
    record {
      py_least = leb-true 7 py d.0;
      py_most = leb-true py 14 d.1;
      pz_not_0 = is_zero pz c.1;
      figure_1 = eqb-true az 1 b.1;
      ay_is = ay_of (or_parts (leb 1 ay && leb ay 12) (eqb ay 14) a.1);
    }
  where
    ay_of : ((leb 1 ay && leb ay 12) ≡ true) ⊎ (eqb ay 14 ≡ true) → ((1 ≤ ay) × (ay ≤ 12)) ⊎ (ay ≡ 14)
    ay_of (inl r) = let h = and_parts (leb 1 ay) (leb ay 12) r in inl (leb-true 1 ay h.0, leb-true ay 12 h.1)
    ay_of (inr q) = inr (eqb-true ay 14 q)

pub target_prefixed : (ay az py pz : ℕ) → Prefixed ay az py pz → target_figure ay az py pz ≡ 0
unfolding target_figure
target_prefixed ay az py pz p = ap (λ (t : Bool). pick t 0 az) (prefixed_applies ay az py pz p)

pub target_not : (ay az py pz : ℕ) → (Prefixed ay az py pz → ⊥) → target_figure ay az py pz ≡ az
unfolding target_figure
target_not ay az py pz other = go (applies ay az py pz) refl
  where
    go : (t : Bool) → applies ay az py pz ≡ t → pick t 0 az ≡ az
    go true e = absurd (other (applies_prefixed ay az py pz e))
    go false e = refl
