-- Of a present signal or warning board: a figure of B or C breaks the rule and is named, or the
-- distance is allowed and nothing is.
-- Assumes nothing.
use Prim.Native.Nat.{ℕ}
use mathlib.Core.Path.{◌≡◌, refl, sym, ap, ◌∙◌}
use mathlib.Core.Bool.{Bool, true, false, ◌||◌}
use mathlib.Core.List.{List}
use Rattle.words.specs.Answer.{Outcome, gives, refuses, pick}
use Rattle.group_rows.specs.declared.Kind.{Kind}
use Rattle.group_rows.specs.declared.Placed.{Placed}
use Rattle.group_rows.specs.declared.Picked.{Picked}
use Rattle.group_rows.specs.Row.{Y, Z, Found, none, found}
use Rattle.group_rows.proofs.Bools.{false_true}
use Rattle.group.specs.Distance.{no_increase}
use Rattle.group.specs.Judge.{y_of, z_of, B, C, distance_of}
use Rattle.group_reason.specs.Reason.{figure, no_reason, because}
use Rattle.group_reason.specs.Explain.{index_of, place_of, is_found, b_breaks, c_breaks, why_distance}
use Rattle.group_reason.specs.Truths.{BBreaks, preset_barred, Culprit, its_B, its_C}
use Rattle.group_reason.proofs.Distances.{refused_by_b, refused_by_c, allowed_by_both, b_breaks_law, b_keeps, c_breaks_law, at_index}

-- The distance of a present signal or warning board, if no rule bars it first.
abbrev pub unless : Bool → List Placed → Outcome ℕ
unless barred bs = pick barred (refuses 15) (distance_of bs)

-- A figure of B or C breaks the rule and is named, or the distance is allowed and nothing is.
pub data Decided (row : Picked) (b : Placed) (bs : List Placed) (barred : Bool) : Type 0 where
  breaks : (i place : ℕ) → unless barred bs ≡ refuses 15 → why_distance barred bs ≡ because 15 (figure i place) → Culprit bs row b i place → Decided row b bs barred
  allowed : (d : ℕ) → unless barred bs ≡ gives d → why_distance barred bs ≡ no_reason → Decided row b bs barred

module _ (row : Picked) (b : Placed) (bs : List Placed) (is_B : B bs ≡ found b) (barred : Bool) where
  abbrev pub Barred : Type 0
  Barred = (row.kind ≡ Kind.Signal) × (Y b.part ≡ 14) × (no_increase (Z row.a.part) ≡ true)

  -- B is named;
  by_b : barred || b_breaks (y_of (B bs)) (z_of (B bs)) (is_found (C bs)) ≡ true → unless barred bs ≡ refuses 15 → BBreaks row b (C bs) → Decided row b bs barred
  unfolding why_distance
  by_b e refused why = breaks (index_of 9 bs) (place_of (B bs)) refused (rw e) (its_B (at_index 9 bs b is_B) (sym (ap place_of is_B)) why)

  -- C is named;
  by_c : (c : Placed) → C bs ≡ found c → barred ≡ false → b_breaks (y_of (B bs)) (z_of (B bs)) (is_found (C bs)) ≡ false → c_breaks (y_of (C bs)) (is_found (C bs)) ≡ true
      → (BBreaks row b (C bs) → ⊥) → Decided row b bs barred
  unfolding why_distance distance_of
  by_c c is unbarred keeps e not-b =
      breaks (index_of 14 bs) (place_of (C bs))
      (rw unbarred (refused_by_c (y_of (B bs)) (z_of (B bs)) (C bs) keeps e))
      (rw (unbarred, keeps, e))
      (its_C c is (at_index 14 bs c is) (sym (ap place_of is)) (c_breaks_law c (ap (λ (f : Found). c_breaks (y_of f) (is_found f)) (sym is) ∙ e)) not-b)

  -- or nothing is.
  by_none : barred ≡ false → b_breaks (y_of (B bs)) (z_of (B bs)) (is_found (C bs)) ≡ false → c_breaks (y_of (C bs)) (is_found (C bs)) ≡ false → Decided row b bs barred
  unfolding why_distance distance_of
  by_none unbarred keeps e =
      let t = allowed_by_both (y_of (B bs)) (z_of (B bs)) (C bs) keeps e in
      allowed t.0 (rw unbarred t.1) (rw (unbarred, keeps, e))

  figures_of_b : b_breaks (y_of (B bs)) (z_of (B bs)) (is_found (C bs)) ≡ b_breaks (Y b.part) (Z b.part) (is_found (C bs))
  figures_of_b = ap (λ (f : Found). b_breaks (y_of f) (z_of f) (is_found (C bs))) is_B

  pub decided : (barred ≡ true → Barred) → (Barred → barred ≡ true) → Decided row b bs barred
  unfolding distance_of
  decided from to = go barred refl (b_breaks (y_of (B bs)) (z_of (B bs)) (is_found (C bs))) refl (c_breaks (y_of (C bs)) (is_found (C bs))) refl (C bs) refl
    where
      go : (s : Bool) → barred ≡ s → (t : Bool) → b_breaks (y_of (B bs)) (z_of (B bs)) (is_found (C bs)) ≡ t → (u : Bool) → c_breaks (y_of (C bs)) (is_found (C bs)) ≡ u
          → (f : Found) → C bs ≡ f → Decided row b bs barred
      go true p t q u r f is = let h = from p in by_b (rw p) (rw p) (preset_barred h.0 h.1 h.2)
      go false p true q u r f is =
          by_b (rw (p, q)) (rw p (refused_by_b (y_of (B bs)) (z_of (B bs)) (C bs) q)) (b_breaks_law row b (C bs) (sym figures_of_b ∙ q))
      go false p false q false r f is = by_none p q r
      go false p false q true r none is = false_true (ap (λ (f : Found). c_breaks (y_of f) (is_found f)) (sym is) ∙ r)
      go false p false q true r (found c) is =
          by_c c is p q r (b_keeps row b (C bs) (sym figures_of_b ∙ q) (λ k y z. false_true (sym p ∙ to (k, y, z))))
