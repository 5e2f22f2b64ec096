-- The first place of a stretch lies in it with its forty bits, and the other places are those from
-- the bit after it on.
-- Assumes nothing.
use mathlib.Core.Path.{◌≡◌, refl, sym, ap, ap₂, ◌∙◌}
use mathlib.Core.Bool.{Bool, true, false, ◌&&◌}
use mathlib.Core.List.{List, ◌∷◌}
use Prim.Native.Nat.{ℕ, zero, suc, ◌+◌, ◌-◌, ◌≤◌}
use native.Mathlib.Omega.{arith}
use lib.Dec.{leb}
use borrow.Author.Tests.{leb-true}
use Rattle.words.specs.Answer.{pick}
use Rattle.telegram.specs.Stretch.{bits_at}
use Rattle.telegram.specs.Place.{are_syncs, accepted, words_at, is_place, from, those, places}
use Rattle.telegram.proofs.Taken.{both}
use Rattle.telegram.proofs.Places.{one_offset}
use Rattle.words.proofs.Never.{cannot_be}

-- A place lies in its stretch.
lies_in : (b : List ℕ) (start len s t p : ℕ) → is_place b start len s t p ≡ true → p + 40 ≤ start + len
unfolding is_place
lies_in b start len s t p e =
    let syncs = are_syncs s t (bits_at b p 8) (bits_at b (p + 32) 8) in
    leb-true (p + 40) (start + len)
    (both (leb (p + 40) (start + len)) syncs (both (leb (p + 40) (start + len) && syncs) (accepted (words_at b p)) e).0).0

-- What it says that p is the first place of a stretch, and ps the others.
pub record First (b : List ℕ) (s t start len p : ℕ) (ps : List ℕ) : Type 0 where
  pub from_start : start ≤ p
  pub to_end : p + 40 ≤ start + len
  pub others : ps ≡ places b (p + 1) (start + len - (p + 1)) s t

module _ (b : List ℕ) (s t : ℕ) where
  pub first_and_rest : (start len p : ℕ) (ps : List ℕ) → places b start len s t ≡ p ∷ ps → First b s t start len p ps
  unfolding places those from
  first_and_rest start zero p ps e = cannot_be cc
  first_and_rest start (suc l) p ps e =
      go (is_place b start (suc l) s t start) refl (sym (one_offset b s t start l) ∙ e) (first_and_rest (start + 1) l p ps)
    where
      go : (x : Bool) → is_place b start (suc l) s t start ≡ x
          → pick x (start ∷ places b (start + 1) l s t) (places b (start + 1) l s t) ≡ p ∷ ps
          → (places b (start + 1) l s t ≡ p ∷ ps → First b s t (start + 1) l p ps) → First b s t start (suc l) p ps
      go true here e on =
          let same : start ≡ p = cc in
          let rest : places b (start + 1) l s t ≡ ps = cc in
          let length : l ≡ start + suc l - (p + 1) = omega arith in
          record {
            from_start = omega arith;
            to_end = omega (arith, lies_in b start (suc l) s t start here);
            others = sym rest ∙ ap₂ (λ (q m : ℕ). places b (q + 1) m s t) same length;
          }
      go false here e on =
          let f = on e in
          let end : start + 1 + l - (p + 1) ≡ start + suc l - (p + 1) = omega arith in
          record {
            from_start = omega (arith, f.from_start);
            to_end = omega (arith, f.to_end);
            others = f.others ∙ ap (λ (m : ℕ). places b (p + 1) m s t) end;
          }
