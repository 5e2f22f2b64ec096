-- Each contract fixes its function's whole answer: any two answers that it allows are equal.
-- Assumes nothing.
use Prim.Native.Nat.{ℕ, ◌+◌, ◌≤◌, ◌<◌}
use mathlib.Core.Path.{◌≡◌, refl, sym, ap, ◌∙◌}
use mathlib.Core.Bool.{Bool, true, false}
use mathlib.Core.List.{List, ◌++◌, append_assoc}
use native.Mathlib.Omega.{arith}
use lib.Dec.{ltb}
use borrow.Author.Tests.{ltb-true, ltb-false}
use lib.ListN.{length, take, drop, take-append-drop}
use lib.Seq.{take-take}
use Rattle.std.specs.Prelude.{Result, Ok, Err}
use Rattle.words.specs.Answer.{Outcome, gives, refuses}
use denote.RattleType.{RattleType}
use denote.Param.Laws.{Laws, IsCopy}
use mir.Syntax.{Dict}
use Rattle.std.specs.declared.clone.Clone.{Ghosts}
use Rattle.words.proofs.Told.{Fixed, told}
use Rattle.group_rows.specs.declared.Placed.{Placed}
use Rattle.group_rows.specs.declared.Picked.{Picked}
use Rattle.group_rows.specs.declared.NoRow.{NoRow}
use Rattle.group_rows.specs.Rows.{fit_in}
use Rattle.group_rows.specs.Fitting.{rows_for, no_row, says_fitted}
use Rattle.group_rows.specs.Opening.{Opens, Longest}
use Rattle.group_rows.proofs.is_category.Kinds as is_category_kinds
use Rattle.group_rows.proofs.is_category.Reads as is_category_reads
use Rattle.group_rows.proofs.y_of.Kinds as y_of_kinds
use Rattle.group_rows.proofs.y_of.Reads as y_of_reads
use Rattle.group_rows.proofs.z_of.Kinds as z_of_kinds
use Rattle.group_rows.proofs.z_of.Reads as z_of_reads
use Rattle.group_rows.proofs.after_first.Kinds as after_first_kinds
use Rattle.group_rows.proofs.after_first.Reads as after_first_reads
use Rattle.group_rows.proofs.fit.Kinds as fit_kinds
use Rattle.group_rows.proofs.fit.Reads as fit_reads
use Rattle.group_rows.proofs.opening.Kinds as opening_kinds
use Rattle.group_rows.proofs.opening.Reads as opening_reads

pub is_category_determined : Fixed 0 is_category_kinds.ps is_category_kinds.r is_category_reads.Post
is_category_determined κs a r r' x x' p q = p ∙ sym q

pub y_of_determined : Fixed 0 y_of_kinds.ps y_of_kinds.r y_of_reads.Post
y_of_determined κs a r r' x x' p q = p ∙ sym q

pub z_of_determined : Fixed 0 z_of_kinds.ps z_of_kinds.r z_of_reads.Post
z_of_determined κs a r r' x x' p q = p ∙ sym q

pub after_first_determined : (T : RattleType) (laws : Laws T) (copy : IsCopy T) (clone : Ghosts T.Denot) (dict : Dict)
    → Fixed 1 (after_first_kinds.ps T laws copy) (after_first_kinds.r T laws copy) (after_first_reads.Post T laws copy clone dict)
after_first_determined T laws copy clone dict κs a r r' x x' p q = p ∙ sym q

-- From what an answer says, the answer.
pub fitted : Outcome Picked → Result Picked NoRow
fitted (gives p) = Ok p
fitted (refuses n) = Err no_row

pub fitted_back : (r : Result Picked NoRow) → fitted (says_fitted r) ≡ r
unfolding fitted
fitted_back (Ok p) = refl
fitted_back (Err e) = refl

pub fit_determined : Fixed 0 fit_kinds.ps fit_kinds.r fit_reads.Post
fit_determined κs a r r' x x' p q = told says_fitted fitted fitted_back r r' p q

-- Balises that open a group do so without the last of them.
shorter : (bs : List Placed) (r k : ℕ) → r ≤ k → Opens (take k bs) → Opens (take r bs)
shorter bs r k h o =
    record {
      more = drop r (take k bs) ++ o.more;
      way = o.way;
      kind = o.kind;
      a = o.a;
      fits =
          ap (fit_in (rows_for o.way)) (sym (append_assoc (take r bs) (drop r (take k bs)) o.more)
          ∙ ap (λ (l : List Placed). l ++ o.more)
          (ap (λ (l : List Placed). l ++ drop r (take k bs)) (sym (take-take r k bs h)) ∙ take-append-drop r (take k bs)))
          ∙ o.fits;
    }

not_below : (bs : List Placed) (r r' : ℕ) → Longest bs r → Longest bs r' → r < r' → ⊥
not_below bs r r' l l' h =
    let le : r + 1 ≤ r' = omega arith in
    let in_list : r < length bs = omega (arith, l'.within) in
    l.no_more in_list (shorter bs (r + 1) r' le l'.opens)

-- There is one longest run.
pub longest_one : (bs : List Placed) (r r' : ℕ) → Longest bs r → Longest bs r' → r ≡ r'
longest_one bs r r' l l' = go (ltb r r') (ltb r' r) refl refl
  where
    go : (s t : Bool) → ltb r r' ≡ s → ltb r' r ≡ t → r ≡ r'
    go true t p q = absurd (not_below bs r r' l l' (ltb-true r r' p))
    go false true p q = absurd (not_below bs r' r l' l (ltb-true r' r q))
    go false false p q = omega (arith, ltb-false r r' p, ltb-false r' r q)

pub opening_determined : Fixed 0 opening_kinds.ps opening_kinds.r opening_reads.Post
opening_determined κs a r r' x x' p q = longest_one _ r r' p q
