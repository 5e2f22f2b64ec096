-- `field` takes what stands from the field's start to the next sign.
use mathlib.Core.Path.{◌≡◌, ap, subst, sym, ◌∙◌}
use mathlib.Core.List.{List}
use Prim.Native.Nat.{ℕ, ◌-◌, ◌≤◌}
use native.Mathlib.Omega.{arith}
use lib.ListN.{length, take, drop}
use Rattle.figures.specs.Fields.{start_of, first, field, part}
use Rattle.figures.proofs.Signs.{found_within, start_within, field_from}
use Rattle.figures.proofs.fields.field.Goals as goal

-- the start, within the text
inside : (text : List ℕ) (sign k r : ℕ) → r ≡ start_of text sign k → r ≤ length text
inside text sign k r e = subst (λ (n : ℕ). n ≤ length text) (sym e) (start_within sign text k)

pub slice_bounds-result-count : goal.slice_bounds-result-count
slice_bounds-result-count c = omega (arith, found_within _ _ _ _ c.place_of-end.ensures, inside _ _ _ _ c.start_of-start.ensures)

pub slice_bounds-result-start : goal.slice_bounds-result-start
slice_bounds-result-start c = omega (arith, found_within _ _ _ _ c.place_of-end.ensures, inside _ _ _ _ c.start_of-start.ensures)

pub slice_bounds-result-end : goal.slice_bounds-result-end
slice_bounds-result-end c = omega (arith, found_within _ _ _ _ c.place_of-end.ensures, inside _ _ _ _ c.start_of-start.ensures)

pub returns : goal.returns
unfolding field
returns c =
    let s = c.start_of-start in
    let a = c.args in
    let t = a.text.now in
    let bytes = ap (λ (n : ℕ). take (n - s.result) (drop s.result t)) c.place_of-end.ensures ∙ field_from a.sign t s.result in
    ap (part a.text s.result) bytes ∙ ap (λ (n : ℕ). part a.text n (first a.sign (drop n t))) s.ensures
