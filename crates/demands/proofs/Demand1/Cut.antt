-- The next contact is cut exactly if a bit opens one and no later bit closes it.
-- Assumes nothing.
use mathlib.Core.Path.{◌≡◌, refl, sym, ap, ap₂, ◌∙◌}
use mathlib.Core.Bool.{Bool, true, false, not, ◌&&◌, ◌||◌}
use mathlib.Core.List.{List}
use Prim.Native.Nat.{ℕ, zero, suc, ◌+◌, ◌-◌}
use lib.Dec.{leb}
use Rattle.words.specs.Answer.{pick}
use Rattle.telegram.specs.Stretch.{bit_at}
use Rattle.contact.specs.History.{after, opens, closes}
use Rattle.contact.specs.Contacts.{outside, since, Contacts, contact, quiet, refused, contacts}
use Rattle.contact.specs.declared.Search.{Search}
use Rattle.demands.specs.Table.{some, to_eight, later_to_four, cut}
use Rattle.demands.proofs.Demand1.Answers.{or_false}
use Rattle.demands.proofs.Demand1.Shifted.{some_alike, none_some, some_first, here, further, zeroes_on, zeroes_first, to_four, later_on, later_first, eight_on, eights_on}

-- Whether what comes first is a refusal.
abbrev pub cut_first : Contacts → Bool
cut_first (contact start len then rest) = false
cut_first quiet = false
cut_first (refused n) = true

-- Inside a contact: cut if none of the bits closes it.
inside_cut : (n : ℕ) (b : List ℕ) (start h i : ℕ)
    → cut_first (contacts b (since start) h i n) ≡ not (some (to_four b (record { next = i; left = n; history = h })) n)
unfolding contacts some closes
inside_cut zero b start h i = refl
inside_cut (suc n) b start h i =
    go (inside_cut n b start (after h (bit_at b i)) (i + 1)) (closes (after h (bit_at b i))) (ap (λ (z : ℕ). leb z 4) (zeroes_first b h i n))
    ∙ sym (ap not (some_first (to_four b (here b h i n)) n))
  where
    rest : some (λ k. to_four b (here b h i n) (suc k)) n ≡ some (to_four b (further b h i n)) n
    rest = some_alike (λ k. to_four b (here b h i n) (suc k)) (to_four b (further b h i n)) (λ k. ap (λ (z : ℕ). leb z 4) (zeroes_on b h i n k)) n

    then : Search
    then = record { next = i + 1; left = n; history = after h (bit_at b i) }

    go : cut_first (contacts b (since start) (after h (bit_at b i)) (i + 1) n) ≡ not (some (to_four b (further b h i n)) n)
        → (t : Bool) → to_four b (here b h i n) 0 ≡ t
        → cut_first (pick t (contact start (i - start) then (contacts b outside (after h (bit_at b i)) (i + 1) n)) (contacts b (since start) (after h (bit_at b i)) (i + 1) n))
        ≡ not (to_four b (here b h i n) 0 || some (λ k. to_four b (here b h i n) (suc k)) n)
    go on true e = sym (ap (λ (t : Bool). not (t || some (λ k. to_four b (here b h i n) (suc k)) n)) e)
    go on false e =
        on ∙ sym (ap not rest)
        ∙ sym (ap (λ (t : Bool). not (t || some (λ k. to_four b (here b h i n) (suc k)) n)) e)

-- Whether bit k opens the first contact, and no later one of the n bits closes it.
abbrev opens_cut : List ℕ → Search → ℕ → ℕ → Bool
opens_cut b search n k = to_eight b search k && not (some (to_eight b search) k) && not (some (later_to_four b search k) n)

module _ (b : List ℕ) (h i n : ℕ) where
  abbrev now : Search
  now = here b h i n

  abbrev next : Search
  next = further b h i n

  not_first : (a c : Bool) → ((a && false) && c) ≡ false
  not_first true c = refl
  not_first false c = refl

  -- where the first bit opens, no other is the first
  opened : to_eight b now 0 ≡ true → (k : ℕ) → opens_cut b now (suc n) (suc k) ≡ false
  opened e k =
      ap (λ (x : Bool). (to_eight b now (suc k) && not x) && not (some (later_to_four b now (suc k)) (suc n)))
      (eights_on b h i n k ∙ ap (λ (x : Bool). x || some (to_eight b next) k) e)
      ∙ not_first (to_eight b now (suc k)) (not (some (later_to_four b now (suc k)) (suc n)))

  -- where it does not, the others are as counted from the next one
  unopened : to_eight b now 0 ≡ false → (k : ℕ) → opens_cut b now (suc n) (suc k) ≡ opens_cut b next n k
  unopened e k =
      ap₂ (λ (x y : Bool). (to_eight b now (suc k) && not x) && not y) (eights_on b h i n k ∙ ap (λ (x : Bool). x || some (to_eight b next) k) e) (later_on b h i n k n)
      ∙ ap (λ (x : Bool). (x && not (some (to_eight b next) k)) && not (some (later_to_four b next k) n)) (eight_on b h i n k)

  first_cut : opens_cut b now (suc n) 0 ≡ (to_eight b now 0 && not (some (to_four b next) n))
  unfolding some
  first_cut = ap (λ (y : Bool). (to_eight b now 0 && true) && not y) (later_first b h i n n) ∙ and_true (to_eight b now 0) (not (some (to_four b next) n))
    where
      and_true : (a c : Bool) → ((a && true) && c) ≡ (a && c)
      and_true true c = refl
      and_true false c = refl

-- Outside a contact: cut as the table's row 9 says.
outside_cut : (n : ℕ) (b : List ℕ) (h i : ℕ)
    → cut_first (contacts b outside h i n) ≡ some (opens_cut b (record { next = i; left = n; history = h }) n) n
unfolding contacts some opens
outside_cut zero b h i = refl
outside_cut (suc n) b h i =
    go (outside_cut n b (after h (bit_at b i)) (i + 1)) (opens (after h (bit_at b i))) (ap (leb 8) (zeroes_first b h i n)) ∙ sym (some_first (opens_cut b (here b h i n) (suc n)) n)
  where
    others : ℕ → Bool
    others k = opens_cut b (here b h i n) (suc n) (suc k)

    first_is : (t : Bool) → to_eight b (here b h i n) 0 ≡ t → opens_cut b (here b h i n) (suc n) 0 ≡ (t && not (some (to_four b (further b h i n)) n))
    first_is t e = first_cut b h i n ∙ ap (λ (x : Bool). x && not (some (to_four b (further b h i n)) n)) e

    go : cut_first (contacts b outside (after h (bit_at b i)) (i + 1) n) ≡ some (opens_cut b (further b h i n) n) n
        → (t : Bool) → to_eight b (here b h i n) 0 ≡ t
        → cut_first (pick t (contacts b (since i) (after h (bit_at b i)) (i + 1) n) (contacts b outside (after h (bit_at b i)) (i + 1) n))
        ≡ (opens_cut b (here b h i n) (suc n) 0 || some (λ k. opens_cut b (here b h i n) (suc n) (suc k)) n)
    go on true e =
        inside_cut n b i (after h (bit_at b i)) (i + 1)
        ∙ sym (or_false (not (some (to_four b (further b h i n)) n)))
        ∙ sym (ap₂ (λ (x y : Bool). x || y) (first_is true e) (none_some others (opened b h i n e) n))
    go on false e =
        on
        ∙ sym (ap₂ (λ (x y : Bool). x || y) (first_is false e) (some_alike others (opens_cut b (further b h i n) n) (unopened b h i n e) n))

-- The contacts that a search has before it begin with a cut one exactly under row 9's condition.
pub cut_is : (b : List ℕ) (search : Search) → cut_first (contacts b outside search.history search.next search.left) ≡ cut b search
unfolding cut
cut_is b search = outside_cut search.left b search.history search.next
