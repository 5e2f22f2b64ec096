-- A group meets the first entry that waits for it: where the entries lie apart, that is every entry
-- that it is for and none met before.
-- Assumes nothing.
use Rattle.std.proofs.Common.{Option, Some, None}
use Prim.Native.Nat.{ℕ, zero, suc, ◌+◌, ◌≤◌, ◌<◌}
use native.Mathlib.Omega.{arith}
use mathlib.Core.Path.{◌≡◌, refl, sym, ap, ap₂, ◌∙◌}
use mathlib.Core.Bool.{Bool, true, false, ◌&&◌}
use mathlib.Core.List.{List, [], ◌∷◌, map}
use lib.ListN.{length, get_or, set}
use Rattle.words.specs.Answer.{pick}
use Rattle.group_rows.specs.declared.Kind.{Kind}
use Rattle.acceptance.specs.declared.Entry.{Entry}
use Rattle.acceptance.specs.Plan.{no_entry, apart}
use Rattle.acceptance.specs.Taking.{is_absent, is_for, waits, waiting, met_at}
use Rattle.acceptance.specs.Report.{met_in}
use Rattle.acceptance_laws.proofs.Near.{and_left, and_right, and_false, Follow, apart_follow, rest_apart, beyond, follow_on, not_beyond, too_far}
use Rattle.words.proofs.Never.{cannot_be}

-- An entry once a group at a place came by, which is for it or not.
abbrev pub met_once : Bool → ℕ → Option ℕ → Option ℕ
met_once b place None = pick b (Some place) None
met_once b place (Some before) = Some before

abbrev pub with : Entry → Option ℕ → Entry
with e m = record { place = e.place; kind = e.kind; met = m }

abbrev pub meet : ℕ → ℕ → Kind → Entry → Entry
meet tolerance place kind e = with e (met_once (is_for tolerance place kind e) place e.met)

-- What does not wait stays as it is, and what waits is met.
met_stays : (b : Bool) (place : ℕ) (m : Option ℕ) → (is_absent m && b) ≡ false → met_once b place m ≡ m
met_stays b place None h = ap (λ (c : Bool). pick c (Some place) None) h
met_stays b place (Some q) h = refl

met_now : (b : Bool) (place : ℕ) (m : Option ℕ) → (is_absent m && b) ≡ true → met_once b place m ≡ Some place
met_now b place None h = ap (λ (c : Bool). pick c (Some place) None) h
met_now b place (Some q) h = cannot_be cc

module _ (tolerance place : ℕ) (kind : Kind) where
  stays : (e : Entry) → waits tolerance place kind e ≡ false → meet tolerance place kind e ≡ e
  stays e h = ap (with e) (met_stays (is_for tolerance place kind e) place e.met h)

  meets : (e : Entry) → waits tolerance place kind e ≡ true → meet tolerance place kind e ≡ met_at place e
  meets e h = ap (with e) (met_now (is_for tolerance place kind e) place e.met h)

  -- The entries that follow one that the group is for stay as they are.
  rest_stays : (p : ℕ) (es : List Entry) → Follow tolerance p es → place ≤ p + tolerance → map (meet tolerance place kind) es ≡ es
  rest_stays p [] f h = refl
  rest_stays p (e ∷ es) f h =
      let far : place + tolerance < e.place = omega (arith, beyond tolerance p e es f) in
      ap₂ (λ (x : Entry) (xs : List Entry). x ∷ xs)
      (stays e (and_false (is_absent e.met) (is_for tolerance place kind e) (too_far tolerance place kind e far)))
      (rest_stays e.place es (follow_on tolerance p e es f) (omega arith))

  -- The first that waits, by the test at the first entry.
  waiting_here : (e : Entry) (es : List Entry) → waits tolerance place kind e ≡ true → waiting tolerance place kind (e ∷ es) ≡ 0
  unfolding waiting
  waiting_here e es h = ap (λ (b : Bool). pick b 0 (suc (waiting tolerance place kind es))) h

  waiting_on : (e : Entry) (es : List Entry) → waits tolerance place kind e ≡ false → waiting tolerance place kind (e ∷ es) ≡ suc (waiting tolerance place kind es)
  unfolding waiting
  waiting_on e es h = ap (λ (b : Bool). pick b 0 (suc (waiting tolerance place kind es))) h

  -- The entry met, written anew, is the plan after the group.
  abbrev OneMet : List Entry → Type 0
  OneMet es =
      (i : ℕ) → i ≡ waiting tolerance place kind es → i < length es → set es i (met_at place (get_or es i no_entry)) ≡ map (meet tolerance place kind) es

  one_met_by : (e : Entry) (es : List Entry) → apart tolerance (e ∷ es) ≡ true → OneMet es → (b : Bool) → waits tolerance place kind e ≡ b → OneMet (e ∷ es)
  one_met_by e es a ih true w zero is h =
      let for : is_for tolerance place kind e ≡ true = and_right (is_absent e.met) (is_for tolerance place kind e) w in
      ap₂ (λ (x : Entry) (xs : List Entry). x ∷ xs) (sym (meets e w))
      (sym (rest_stays e.place es (apart_follow tolerance e es a) (not_beyond tolerance place kind e for)))
  one_met_by e es a ih true w (suc i) is h = absurd (omega (arith, waiting_here e es w))
  one_met_by e es a ih false w zero is h = absurd (omega (arith, waiting_on e es w))
  one_met_by e es a ih false w (suc i) is h =
      let next : i ≡ waiting tolerance place kind es = omega (arith, waiting_on e es w) in
      ap₂ (λ (x : Entry) (xs : List Entry). x ∷ xs) (sym (stays e w)) (ih i next (omega arith))

  pub one_met : (es : List Entry) → apart tolerance es ≡ true → OneMet es
  one_met [] a i is h = absurd (omega arith)
  one_met (e ∷ es) a i is h = one_met_by e es a (one_met es (rest_apart tolerance e es a)) (waits tolerance place kind e) refl i is h

  -- Where none waits, all stay as they are.
  abbrev NoneMet : List Entry → Type 0
  NoneMet es = length es ≤ waiting tolerance place kind es → map (meet tolerance place kind) es ≡ es

  none_met_by : (e : Entry) (es : List Entry) → NoneMet es → (b : Bool) → waits tolerance place kind e ≡ b → NoneMet (e ∷ es)
  none_met_by e es ih true w h = absurd (omega (arith, waiting_here e es w))
  none_met_by e es ih false w h = ap₂ (λ (x : Entry) (xs : List Entry). x ∷ xs) (stays e w) (ih (omega (arith, waiting_on e es w)))

  pub none_met : (es : List Entry) → NoneMet es
  none_met [] h = refl
  none_met (e ∷ es) h = none_met_by e es (none_met es) (waits tolerance place kind e) refl h

  -- One more is met.
  abbrev OneMore : List Entry → Type 0
  OneMore es = (i : ℕ) → i ≡ waiting tolerance place kind es → i < length es → met_in (set es i (met_at place (get_or es i no_entry))) ≡ suc (met_in es)

  either_way : (b : Bool) (n : ℕ) → pick b (suc n) (suc (suc n)) ≡ suc (pick b n (suc n))
  either_way true n = refl
  either_way false n = refl

  one_more_by : (e : Entry) (es : List Entry) → OneMore es → (b : Bool) → waits tolerance place kind e ≡ b → OneMore (e ∷ es)
  unfolding met_in
  one_more_by e es ih true w zero is h =
      let absent : is_absent e.met ≡ true = and_left (is_absent e.met) (is_for tolerance place kind e) w in
      ap suc (sym (ap (λ (b : Bool). pick b (met_in es) (suc (met_in es))) absent))
  one_more_by e es ih true w (suc i) is h = absurd (omega (arith, waiting_here e es w))
  one_more_by e es ih false w zero is h = absurd (omega (arith, waiting_on e es w))
  one_more_by e es ih false w (suc i) is h =
      let next : i ≡ waiting tolerance place kind es = omega (arith, waiting_on e es w) in
      ap (λ (n : ℕ). pick (is_absent e.met) n (suc n)) (ih i next (omega arith)) ∙ either_way (is_absent e.met) (met_in es)

  pub one_more : (es : List Entry) → OneMore es
  one_more [] i is h = absurd (omega arith)
  one_more (e ∷ es) i is h = one_more_by e es (one_more es) (waits tolerance place kind e) refl i is h

  -- The entry at the index of the first that waits does wait,
  abbrev WaitsThere : List Entry → Type 0
  WaitsThere es = (i : ℕ) → i ≡ waiting tolerance place kind es → i < length es → waits tolerance place kind (get_or es i no_entry) ≡ true

  waits_there_by : (e : Entry) (es : List Entry) → WaitsThere es → (b : Bool) → waits tolerance place kind e ≡ b → WaitsThere (e ∷ es)
  waits_there_by e es ih true w zero is h = w
  waits_there_by e es ih true w (suc i) is h = absurd (omega (arith, waiting_here e es w))
  waits_there_by e es ih false w zero is h = absurd (omega (arith, waiting_on e es w))
  waits_there_by e es ih false w (suc i) is h = ih i (omega (arith, waiting_on e es w)) (omega arith)

  pub waits_there : (es : List Entry) → WaitsThere es
  waits_there [] i is h = absurd (omega arith)
  waits_there (e ∷ es) i is h = waits_there_by e es (waits_there es) (waits tolerance place kind e) refl i is h

  -- and no entry that waits comes before it.
  abbrev NotLater : List Entry → Type 0
  NotLater es = (i : ℕ) → i < length es → waits tolerance place kind (get_or es i no_entry) ≡ true → waiting tolerance place kind es ≤ i

  not_later_by : (e : Entry) (es : List Entry) → NotLater es → (b : Bool) → waits tolerance place kind e ≡ b → NotLater (e ∷ es)
  not_later_by e es ih true t i h w = omega (arith, waiting_here e es t)
  not_later_by e es ih false t zero h w = cannot_be cc
  not_later_by e es ih false t (suc i) h w = omega (arith, waiting_on e es t, ih i (omega arith) w)

  pub not_later : (es : List Entry) → NotLater es
  not_later [] i h w = absurd (omega arith)
  not_later (e ∷ es) i h w = not_later_by e es (not_later es) (waits tolerance place kind e) refl i h w
