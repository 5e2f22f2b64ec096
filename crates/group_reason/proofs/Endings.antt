-- Balises that open a row, as the matcher stopped early says, are made a group of it by some more:
-- an actual list of them.
-- Assumes nothing.
use Prim.Native.Nat.{ℕ}
use mathlib.Core.Path.{◌≡◌, refl, sym, subst}
use mathlib.Core.Bool.{Bool, true, false, not, ◌&&◌, ◌||◌}
use mathlib.Core.List.{List, [], ◌∷◌, ◌++◌, append_assoc}
use Rattle.words.specs.Answer.{pick}
use Rattle.group_rows.specs.declared.Kind.{Kind}
use Rattle.group_rows.specs.declared.Part.{Part}
use Rattle.group_rows.specs.declared.Placed.{Placed}
use Rattle.group_rows.specs.Row.{Figures, all, ◌to◌, Asked, category, one_of, M, Member, A, must, may, row, is_category, meets, fits, Found, none, found, first, called_a, fit_with, fit_row_meant}
use Rattle.group_rows.specs.Rows.{how_many}
use Rattle.group_rows.specs.Opening.{is_sendable, are_sendable}
use Rattle.group_rows.proofs.Bools.{both, false_true}
use Rattle.group_reason.specs.Opening.{opens_members}
use Rattle.group_reason.specs.Explain.{is_found}
use Rattle.group_reason.proofs.Openings.{or_cases, or_first, or_second, and_both, is_fit}

-- The least figure allowed.
abbrev least : Figures → ℕ
least all = 1
least (l to m) = l

-- A balise that is what is asked, at the place 0.
abbrev sample : Asked → Placed
sample (category n y z) = record { place = 0; part = Part.Figures n (least y) (least z) }
sample (one_of []) = record { place = 0; part = Part.Marker }
sample (one_of (n ∷ ns)) = record { place = 0; part = Part.Figures n 1 1 }
sample M = record { place = 0; part = Part.Marker }

-- The balises that end a row of which all members are to come, without its optional ones.
abbrev filled : List Member → List Placed
filled [] = []
filled (A w ∷ ms) = sample w ∷ filled ms
filled (must w ∷ ms) = sample w ∷ filled ms
filled (may w ∷ ms) = filled ms

-- The balises that end a row after these.
unfoldable pub ending : List Member → List Placed → List Placed
ending ms [] = filled ms
ending [] (b ∷ bs) = []
ending (A w ∷ ms) (b ∷ bs) = ending ms bs
ending (must w ∷ ms) (b ∷ bs) = ending ms bs
ending (may w ∷ ms) (b ∷ bs) = pick (meets w b.part && opens_members ms bs) (ending ms bs) (ending ms (b ∷ bs))

-- A balise that is what is asked, no 12, and can be.
abbrev is_plain : Asked → Bool
is_plain w = not (is_category 12 (sample w).part) && is_sendable (sample w).part

abbrev can_fill : Asked → Bool
can_fill w = meets w (sample w).part && is_plain w

-- Every member that must be there has one.
abbrev pub fillable : List Member → Bool
fillable [] = true
fillable (A w ∷ ms) = can_fill w && fillable ms
fillable (must w ∷ ms) = can_fill w && fillable ms
fillable (may w ∷ ms) = fillable ms

filled_fits : (ms : List Member) → fillable ms ≡ true → fits ms (filled ms) ≡ true
unfolding fits
filled_fits [] t = refl
filled_fits (A w ∷ ms) t =
    let h = both (can_fill w) (fillable ms) t in
    and_both (meets w (sample w).part) (fits ms (filled ms)) (both (meets w (sample w).part) (is_plain w) h.0).0 (filled_fits ms h.1)
filled_fits (must w ∷ ms) t =
    let h = both (can_fill w) (fillable ms) t in
    and_both (meets w (sample w).part) (fits ms (filled ms)) (both (meets w (sample w).part) (is_plain w) h.0).0 (filled_fits ms h.1)
filled_fits (may w ∷ ms) t = left_out w ms (filled ms) (filled_fits ms t)
  where
    left_out : (w : Asked) (ms : List Member) (l : List Placed) → fits ms l ≡ true → fits (may w ∷ ms) l ≡ true
    left_out w ms [] e = e
    left_out w ms (b ∷ bs) e = or_second (meets w b.part && fits ms bs) (fits ms (b ∷ bs)) e

not_true : (b : Bool) → not b ≡ true → b ≡ false
not_true true e = sym e
not_true false e = refl

filled_numbers : (ms : List Member) → fillable ms ≡ true → how_many 12 (filled ms) ≡ 0
unfolding how_many
filled_numbers [] t = refl
filled_numbers (A w ∷ ms) t =
    let h = both (can_fill w) (fillable ms) t in
    let plain = both (not (is_category 12 (sample w).part)) (is_sendable (sample w).part) (both (meets w (sample w).part) (is_plain w) h.0).1 in
    rw (not_true (is_category 12 (sample w).part) plain.0) (filled_numbers ms h.1)
filled_numbers (must w ∷ ms) t =
    let h = both (can_fill w) (fillable ms) t in
    let plain = both (not (is_category 12 (sample w).part)) (is_sendable (sample w).part) (both (meets w (sample w).part) (is_plain w) h.0).1 in
    rw (not_true (is_category 12 (sample w).part) plain.0) (filled_numbers ms h.1)
filled_numbers (may w ∷ ms) t = filled_numbers ms t

filled_sendable : (ms : List Member) → fillable ms ≡ true → are_sendable (filled ms) ≡ true
filled_sendable [] t = refl
filled_sendable (A w ∷ ms) t =
    let h = both (can_fill w) (fillable ms) t in
    let plain = both (not (is_category 12 (sample w).part)) (is_sendable (sample w).part) (both (meets w (sample w).part) (is_plain w) h.0).1 in
    and_both (is_sendable (sample w).part) (are_sendable (filled ms)) plain.1 (filled_sendable ms h.1)
filled_sendable (must w ∷ ms) t =
    let h = both (can_fill w) (fillable ms) t in
    let plain = both (not (is_category 12 (sample w).part)) (is_sendable (sample w).part) (both (meets w (sample w).part) (is_plain w) h.0).1 in
    and_both (is_sendable (sample w).part) (are_sendable (filled ms)) plain.1 (filled_sendable ms h.1)
filled_sendable (may w ∷ ms) t = filled_sendable ms t

pub ending_fits : (ms : List Member) (bs : List Placed) → fillable ms ≡ true → opens_members ms bs ≡ true → fits ms (bs ++ ending ms bs) ≡ true
unfolding fits opens_members ending
ending_fits ms [] t e = filled_fits ms t
ending_fits [] (b ∷ bs) t e = e
ending_fits (A w ∷ ms) (b ∷ bs) t e =
    let h = both (meets w b.part) (opens_members ms bs) e in
    and_both (meets w b.part) (fits ms (bs ++ ending ms bs)) h.0 (ending_fits ms bs (both (can_fill w) (fillable ms) t).1 h.1)
ending_fits (must w ∷ ms) (b ∷ bs) t e =
    let h = both (meets w b.part) (opens_members ms bs) e in
    and_both (meets w b.part) (fits ms (bs ++ ending ms bs)) h.0 (ending_fits ms bs (both (can_fill w) (fillable ms) t).1 h.1)
ending_fits (may w ∷ ms) (b ∷ bs) t e = go (meets w b.part && opens_members ms bs) refl e (ending_fits ms bs t) (ending_fits ms (b ∷ bs) t)
  where
    go : (so : Bool) → meets w b.part && opens_members ms bs ≡ so → so || opens_members ms (b ∷ bs) ≡ true
        → (opens_members ms bs ≡ true → fits ms (bs ++ ending ms bs) ≡ true)
        → (opens_members ms (b ∷ bs) ≡ true → fits ms ((b ∷ bs) ++ ending ms (b ∷ bs)) ≡ true)
        → (meets w b.part && fits ms (bs ++ pick so (ending ms bs) (ending ms (b ∷ bs)))) || fits ms ((b ∷ bs) ++ pick so (ending ms bs) (ending ms (b ∷ bs))) ≡ true
    go true q r taken left =
        let h = both (meets w b.part) (opens_members ms bs) q in
        or_first (meets w b.part && fits ms (bs ++ ending ms bs)) (fits ms ((b ∷ bs) ++ ending ms bs))
        (and_both (meets w b.part) (fits ms (bs ++ ending ms bs)) h.0 (taken h.1))
    go false q r taken left =
        or_second (meets w b.part && fits ms (bs ++ ending ms (b ∷ bs))) (fits ms ((b ∷ bs) ++ ending ms (b ∷ bs))) (left r)

pub ending_numbers : (ms : List Member) (bs : List Placed) → fillable ms ≡ true → how_many 12 (ending ms bs) ≡ 0
unfolding ending how_many
ending_numbers ms [] t = filled_numbers ms t
ending_numbers [] (b ∷ bs) t = refl
ending_numbers (A w ∷ ms) (b ∷ bs) t = ending_numbers ms bs (both (can_fill w) (fillable ms) t).1
ending_numbers (must w ∷ ms) (b ∷ bs) t = ending_numbers ms bs (both (can_fill w) (fillable ms) t).1
ending_numbers (may w ∷ ms) (b ∷ bs) t = go (meets w b.part && opens_members ms bs) (ending_numbers ms bs t) (ending_numbers ms (b ∷ bs) t)
  where
    go : (so : Bool) → how_many 12 (ending ms bs) ≡ 0 → how_many 12 (ending ms (b ∷ bs)) ≡ 0 → how_many 12 (pick so (ending ms bs) (ending ms (b ∷ bs))) ≡ 0
    go true p q = p
    go false p q = q

pub ending_sendable : (ms : List Member) (bs : List Placed) → fillable ms ≡ true → are_sendable (ending ms bs) ≡ true
unfolding ending
ending_sendable ms [] t = filled_sendable ms t
ending_sendable [] (b ∷ bs) t = refl
ending_sendable (A w ∷ ms) (b ∷ bs) t = ending_sendable ms bs (both (can_fill w) (fillable ms) t).1
ending_sendable (must w ∷ ms) (b ∷ bs) t = ending_sendable ms bs (both (can_fill w) (fillable ms) t).1
ending_sendable (may w ∷ ms) (b ∷ bs) t = go (meets w b.part && opens_members ms bs) (ending_sendable ms bs t) (ending_sendable ms (b ∷ bs) t)
  where
    go : (so : Bool) → are_sendable (ending ms bs) ≡ true → are_sendable (ending ms (b ∷ bs)) ≡ true → are_sendable (pick so (ending ms bs) (ending ms (b ∷ bs))) ≡ true
    go true p q = p
    go false p q = q

-- ---- a group has its A

first_there : (w : Asked) (before : List Placed) (b : Placed) (bs : List Placed) → meets w b.part ≡ true → is_found (first w (before ++ (b ∷ bs))) ≡ true
unfolding first
first_there w [] b bs e = rw e
first_there w (x ∷ before) b bs e = go (meets w x.part) (first_there w before b bs e)
  where
    go : (so : Bool) → is_found (first w (before ++ (b ∷ bs))) ≡ true → is_found (pick so (found x) (first w (before ++ (b ∷ bs)))) ≡ true
    go true q = refl
    go false q = q

-- Whether a row calls a balise A.
abbrev pub has_a : List Member → Bool
has_a [] = false
has_a (A w ∷ ms) = true
has_a (must w ∷ ms) = has_a ms
has_a (may w ∷ ms) = has_a ms

called : (ms : List Member) (before bs : List Placed) → has_a ms ≡ true → fits ms bs ≡ true → is_found (called_a ms (before ++ bs)) ≡ true
unfolding fits
called [] before bs t e = false_true t
called (A w ∷ ms) before [] t e = false_true e
called (A w ∷ ms) before (b ∷ bs) t e = first_there w before b bs (both (meets w b.part) (fits ms bs) e).0
called (must w ∷ ms) before [] t e = false_true e
called (must w ∷ ms) before (b ∷ bs) t e =
    subst (λ (l : List Placed). is_found (called_a ms l) ≡ true) (append_assoc before (b ∷ []) bs)
    (called ms (before ++ (b ∷ [])) bs t (both (meets w b.part) (fits ms bs) e).1)
called (may w ∷ ms) before [] t e = called ms before [] t e
called (may w ∷ ms) before (b ∷ bs) t e =
    or_cases (meets w b.part && fits ms bs) (fits ms (b ∷ bs)) e
    (λ q. subst (λ (l : List Placed). is_found (called_a ms l) ≡ true) (append_assoc before (b ∷ []) bs)
    (called ms (before ++ (b ∷ [])) bs t (both (meets w b.part) (fits ms bs) q).1))
    (λ q. called ms before (b ∷ bs) t q)

pub fits_row : (kind : Kind) (ms : List Member) (bs : List Placed) → has_a ms ≡ true → fits ms bs ≡ true → is_fit (fit_row_meant (row kind ms) bs) ≡ true
unfolding fit_row_meant
fits_row kind ms bs t e = rw e (go (called_a ms bs) (called ms [] bs t e))
  where
    go : (f : Found) → is_found f ≡ true → is_fit (fit_with kind f) ≡ true
    go none q = q
    go (found a) q = refl
