-- What the walk's run says of the first n balises: the row that they fit, and how many of them open
-- a group.
-- Assumes nothing.
use Prim.Native.Nat.{ℕ, ◌+◌, ◌≤◌, ◌<◌}
use mathlib.Core.Path.{◌≡◌, refl, sym, ap, subst, ◌∙◌}
use mathlib.Core.Bool.{Bool, true, false}
use mathlib.Core.List.{List, [], ◌++◌, append-nil}
use native.Mathlib.Omega.{arith}
use lib.Dec.{ltb}
use borrow.Author.Tests.{ltb-true, ltb-false}
use lib.ListN.{length, take, drop, take-append-drop}
use lib.Seq.{take_all, take-take, length-take-le}
use Rattle.std.specs.Prelude.{Err}
use Rattle.words.specs.Answer.{pick}
use Rattle.group_rows.specs.declared.Kind.{Kind}
use Rattle.group_rows.specs.declared.Placed.{Placed}
use Rattle.group_rows.specs.declared.running.Run.{Run}
use Rattle.group_rows.specs.Row.{Fit, misfit, fit}
use Rattle.group_rows.specs.Rows.{fit_in}
use Rattle.group_rows.specs.Fitting.{rows_for, fitting, no_row, says_fitted}
use Rattle.group_rows.specs.Stands.{rows_of, ended}
use Rattle.group_rows.specs.Opening.{Opens, Longest, Ran}
use Rattle.group_rows.proofs.Laws.{at_end}
use Rattle.group_rows.proofs.Ends.{ended_right, nothing_fits}
use Rattle.group_rows.proofs.Finish.{finish, finishes, finish_sendable}
use Rattle.words.proofs.Never.{cannot_be}

-- The first n of five, or all five.
pub few_take : (p : List Placed) (n : ℕ) → length p ≡ 5 → take (pick (ltb n 5) n 5) p ≡ take n p
few_take p n long = go (ltb n 5) refl
  where
    go : (t : Bool) → ltb n 5 ≡ t → take (pick t n 5) p ≡ take n p
    go true e = refl
    go false e =
        let h : length p ≤ 5 = omega arith in
        let le : length p ≤ n = omega (arith, ltb-false n 5 e) in
        take_all 5 p h ∙ sym (take_all n p le)

few_most : (n : ℕ) → pick (ltb n 5) n 5 ≤ 5
few_most n = go (ltb n 5) refl
  where
    go : (t : Bool) → ltb n 5 ≡ t → pick t n 5 ≤ 5
    go true e = omega (arith, ltb-true n 5 e)
    go false e = omega arith

no_fit : {kind : Kind} {a : Placed} {f : Fit} → f ≡ misfit → f ≡ fit kind a → ⊥
no_fit p q = cannot_be cc

module _ (p : List Placed) (n few : ℕ) (long : length p ≡ 5) (is : few ≡ pick (ltb n 5) n 5) where
  pub most : few ≤ 5
  most = omega (arith, few_most n)

  these : take few p ≡ take n p
  these = ap (λ (k : ℕ). take k p) is ∙ few_take p n long

  module _ (r : Run) (ran : Ran p few r) where
    within : {k : ℕ} → k ≤ few → take k (take n p) ≡ take k p
    within {k} h = ap (take k) (sym these) ∙ take-take k few p h

    -- As many balises as the walk passed open a group, and no more do.
    pub opened : Longest (take n p) r.count
    opened =
        let f = finishes ran.left r.at in
        let le : few ≤ length p = omega (arith, most) in
        let all : length (take n p) ≡ few = ap length (sym these) ∙ length-take-le few p le in
        record {
          within = omega (arith, ran.within);
          opens =
              record {
                more = finish r.at;
                way = f.way;
                kind = f.kind;
                a = f.a;
                fits =
                    ap (λ (l : List Placed). fit_in (rows_for f.way) (l ++ finish r.at)) (within ran.within)
                    ∙ ran.leads f.way (finish r.at)
                    ∙ f.fits;
              };
          sendable = finish_sendable r.at;
          no_more = λ h o.
              let less : r.count < few = omega arith in
              let next : r.count + 1 ≤ few = omega arith in
              let o' = subst Opens (within next) o in
              no_fit (ran.stuck less o'.way o'.more) o'.fits;
        }

    -- A walk that stopped before the end found no row.
    pub stopped : r.count < few → says_fitted (Err no_row) ≡ fitting (take n p)
    stopped h =
        let next : r.count + 1 ≤ few = omega arith in
        nothing_fits (take n p) (λ way.
        ap (fit_in (rows_for way)) (sym (take-append-drop (r.count + 1) (take n p))
        ∙ ap (λ (l : List Placed). l ++ drop (r.count + 1) (take n p)) (within next))
        ∙ ran.stuck h way (drop (r.count + 1) (take n p)))

    -- A walk over all of them stands at their row.
    pub arrived : few ≤ r.count → says_fitted (ended r.at) ≡ fitting (take n p)
    arrived h =
        let e : r.count ≡ few = omega (arith, ran.within) in
        ended_right (take n p) r.at ran.speeds (λ way.
        sym (at_end way ran.left (rows_of r.at))
        ∙ sym (ran.leads way [])
        ∙ ap (fit_in (rows_for way)) (append-nil (take r.count p) ∙ ap (λ (k : ℕ). take k p) e ∙ these))
