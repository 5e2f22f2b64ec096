-- The next contact begins with the first bit that opens one, and ends before the first after it
-- that closes it.
-- Assumes nothing.
use mathlib.Core.Path.{◌≡◌, refl, sym, ap, ap₂, ◌∙◌}
use mathlib.Core.Bool.{Bool, true, false, ◌||◌}
use mathlib.Core.List.{List}
use Prim.Native.Nat.{ℕ, zero, suc, ◌+◌, ◌-◌, ◌<◌}
use native.Mathlib.Omega.{arith}
use lib.Dec.{leb}
use Rattle.words.specs.Answer.{Outcome, gives, pick}
use Rattle.telegram.specs.Stretch.{bit_at}
use Rattle.contact.specs.History.{after, opens, closes}
use Rattle.contact.specs.Contacts.{outside, since, Contacts, contact, contacts, Handed, handed, first}
use Rattle.contact.specs.declared.Search.{Search}
use Rattle.demands.specs.Table.{some, history_after, to_eight}
use Rattle.demands.specs.Lists.{NextAt, NextReads}
use Rattle.demands.proofs.Common.Rules.{true_not_false}
use Rattle.demands.proofs.Demand1.Shifted.{here, further, history_on, zeroes_on, zeroes_first, to_four, later_on, later_first, eight_on, eights_on, fours_on}
use Rattle.demands.proofs.Demand1.Cut.{cut_first}

-- The search after bit j of this one.
abbrev search_after : List ℕ → Search → ℕ → Search
search_after b search j = record { next = search.next + suc j; left = search.left - suc j; history = history_after b search (suc j) }

-- the same search, counted from the bit after it
search_on : (b : List ℕ) (h i n j : ℕ) → search_after b (further b h i n) j ≡ search_after b (here b h i n) (suc j)
search_on b h i n j =
    let next : i + 1 + suc j ≡ i + suc (suc j) = omega arith in
    let left : n - suc j ≡ suc n - suc (suc j) = omega arith in
    ap₂ (λ (a c : ℕ). record { next = a; left = c; history = history_after b (further b h i n) (suc j) }) next left
    ∙ ap (λ (v : ℕ). record { next = i + suc (suc j); left = suc n - suc (suc j); history = v }) (sym (history_on b h i n (suc j)))

search_first : (b : List ℕ) (h i n : ℕ) → record { next = i + 1; left = n; history = after h (bit_at b i) } ≡ search_after b (here b h i n) 0
unfolding history_after
search_first b h i n =
    let left : n ≡ suc n - 1 = omega arith in
    ap₂ (λ (c v : ℕ). record { next = i + 1; left = c; history = v }) left (sym (history_on b h i n 0))

-- A contact that is open closes with bit j, the first that brings the zeroes to 4 or fewer.
pub record ClosesAt (b : List ℕ) (search : Search) (start : ℕ) (o : Outcome Handed) : Type 0 where
  pub j : ℕ
  pub in_record : j < search.left
  pub closes_it : to_four b search j ≡ true
  pub none_before : some (to_four b search) j ≡ false
  pub answer : o ≡ gives (handed start (search.next + j - start) (search_after b search j))

inside_closes : (n : ℕ) (b : List ℕ) (start h i : ℕ) → cut_first (contacts b (since start) h i n) ≡ false
    → ClosesAt b (record { next = i; left = n; history = h }) start (first (contacts b (since start) h i n))
unfolding contacts some closes
inside_closes zero b start h i e = absurd (true_not_false e)
inside_closes (suc n) b start h i e = go (closes (after h (bit_at b i))) (ap (λ (z : ℕ). leb z 4) (zeroes_first b h i n)) e (inside_closes n b start (after h (bit_at b i)) (i + 1))
  where
    then : Search
    then = record { next = i + 1; left = n; history = after h (bit_at b i) }

    rest : Contacts
    rest = contacts b outside (after h (bit_at b i)) (i + 1) n

    on : Contacts
    on = contacts b (since start) (after h (bit_at b i)) (i + 1) n

    go : (t : Bool) → to_four b (here b h i n) 0 ≡ t → cut_first (pick t (contact start (i - start) then rest) on) ≡ false
        → (cut_first on ≡ false → ClosesAt b (further b h i n) start (first on)) → ClosesAt b (here b h i n) start (first (pick t (contact start (i - start) then rest) on))
    go true is q later =
        let far : i - start ≡ i + 0 - start = omega arith in
        record {
          j = 0;
          in_record = omega arith;
          closes_it = is;
          none_before = refl;
          answer = ap₂ (λ (l : ℕ) (s : Search). gives (handed start l s)) far (search_first b h i n);
        }
    go false is q later =
        let r = later q in
        let less : r.j < n = r.in_record in
        let far : i + 1 + r.j - start ≡ i + suc r.j - start = omega arith in
        record {
          j = suc r.j;
          in_record = omega arith;
          closes_it = ap (λ (z : ℕ). leb z 4) (zeroes_on b h i n r.j) ∙ r.closes_it;
          none_before = fours_on b h i n r.j ∙ ap₂ (λ (x y : Bool). x || y) is r.none_before;
          answer = r.answer ∙ ap₂ (λ (l : ℕ) (s : Search). gives (handed start l s)) far (search_on b h i n r.j);
        }

-- ---- outside a contact

outside_reads : (n : ℕ) (b : List ℕ) (h i : ℕ) → cut_first (contacts b outside h i n) ≡ false
    → NextReads b (record { next = i; left = n; history = h }) (first (contacts b outside h i n))
unfolding contacts some opens
outside_reads zero b h i e = (λ q. refl, λ q. absurd (true_not_false (sym q)))
outside_reads (suc n) b h i e =
    go (opens (after h (bit_at b i))) (ap (leb 8) (zeroes_first b h i n)) e (outside_reads n b (after h (bit_at b i)) (i + 1))
  where
    opened : Contacts
    opened = contacts b (since i) (after h (bit_at b i)) (i + 1) n

    on : Contacts
    on = contacts b outside (after h (bit_at b i)) (i + 1) n

    now : Search
    now = here b h i n

    next : Search
    next = further b h i n

    go : (t : Bool) → to_eight b now 0 ≡ t → cut_first (pick t opened on) ≡ false → (cut_first on ≡ false → NextReads b next (first on)) → NextReads b now (first (pick t opened on))
    go true is q later =
        let r = inside_closes n b i (after h (bit_at b i)) (i + 1) q in
        let less : r.j < n = r.in_record in
        let at : i ≡ i + 0 = omega arith in
        let far : i + 1 + r.j - i ≡ suc r.j - 0 = omega arith in
        let answer : first opened ≡ gives (handed (i + 0) (suc r.j - 0) (search_after b now (suc r.j))) =
        r.answer ∙ ap₂ (λ (a l : ℕ). gives (handed a l (search_after b next r.j))) at far ∙ ap (λ (s : Search). gives (handed (i + 0) (suc r.j - 0) s)) (search_on b h i n r.j) in (
          λ none. absurd (true_not_false (sym (eights_on b h i n n ∙ ap (λ (x : Bool). x || some (to_eight b next) n) is) ∙ none)),
          λ p. (
            0,
            suc r.j,
            record {
              opens = is;
              none_before = refl;
              later = omega arith;
              in_record = omega arith;
              closes = ap (λ (z : ℕ). leb z 4) (zeroes_on b h i n r.j) ∙ r.closes_it;
              none_between = later_first b h i n r.j ∙ r.none_before;
            },
            answer,
          ),
        )
    go false is q later =
        let ih = later q in (
          λ none. ih.0 (sym (eights_on b h i n n ∙ ap (λ (x : Bool). x || some (to_eight b next) n) is) ∙ none),
          λ p. shifted (ih.1 (sym (eights_on b h i n n ∙ ap (λ (x : Bool). x || some (to_eight b next) n) is) ∙ p)),
        )
      where
        shifted : (k : ℕ) × (j : ℕ) × NextAt b next k j × (first on ≡ gives (handed (i + 1 + k) (j - k) (search_after b next j)))
            → (k : ℕ) × (j : ℕ) × NextAt b now k j × (first on ≡ gives (handed (i + k) (j - k) (search_after b now j)))
        shifted r =
            let k = r.0 in
            let j = r.1 in
            let w = r.2 in
            let before : k < j = w.later in
            let within : j < n = w.in_record in
            let at : i + 1 + k ≡ i + suc k = omega arith in
            let far : j - k ≡ suc j - suc k = omega arith in (
              suc k,
              suc j,
              record {
                opens = eight_on b h i n k ∙ w.opens;
                none_before = eights_on b h i n k ∙ ap₂ (λ (x y : Bool). x || y) is w.none_before;
                later = omega arith;
                in_record = omega arith;
                closes = ap (λ (z : ℕ). leb z 4) (zeroes_on b h i n j) ∙ w.closes;
                none_between = later_on b h i n k j ∙ w.none_between;
              },
              r.3 ∙ ap₂ (λ (a l : ℕ). gives (handed a l (search_after b next j))) at far ∙ ap (λ (s : Search). gives (handed (i + suc k) (suc j - suc k) s)) (search_on b h i n j),
            )

pub next_reads : (b : List ℕ) (search : Search) → cut_first (contacts b outside search.history search.next search.left) ≡ false
    → NextReads b search (first (contacts b outside search.history search.next search.left))
next_reads b search = outside_reads search.left b search.history search.next
