-- The detector and the judging of a contact refuse as document 01's table says.
-- Assumes nothing.
use mathlib.Core.Path.{◌≡◌, refl, sym, ap, subst}
use mathlib.Core.Bool.{Bool, true, false, not, ◌&&◌}
use mathlib.Core.List.{List, [], ◌∷◌}
use Prim.Native.Nat.{ℕ, zero, suc, ◌+◌, ◌-◌}
use lib.Dec.{leb}
use lib.ListN.{length}
use Rattle.words.specs.Answer.{gives, refuses, pick}
use Rattle.telegram.specs.Stretch.{bit_at, inside}
use Rattle.telegram.specs.Place.{places, words_at}
use Rattle.contact.specs.History.{opens, closes, after}
use Rattle.contact.specs.Contacts.{Mode, outside, since, Contacts, contact, quiet, refused, contacts, contacts_from, first, next_contact, from_start, begin}
use Rattle.contact.specs.Judge.{all_alike, first_place, is_marker, Contact, read, marker, judgement, judge}
use Rattle.contact.specs.declared.Search.{Search}
use Rattle.demands.specs.Rules.{row, Decided, Is}
use Rattle.demands.specs.Table.{beyond, places_differ, is_read, is_marked, neither, cut}
use Rattle.demands.specs.Lists.{next_rules, judge_rules, JudgeReads, NextReads}
use Rattle.demands.proofs.Common.Rules.{true_not_false, if_not}
use Rattle.demands.proofs.Demand1.Refusals.{beyond_is, stretch_then}
use Rattle.demands.proofs.Demand1.Cut.{cut_first, cut_is}
use Rattle.demands.proofs.Demand1.NextOne.{next_reads}

-- The beginning of a search: 5.
pub beginning : (b : List ℕ) (start len : ℕ) → Decided (Is (from_start start len)) (row 5 (beyond b start len) ∷ []) (begin b start len)
unfolding begin
beginning b start len =
    subst (λ (t : Bool). Decided (Is (from_start start len)) (row 5 t ∷ []) (begin b start len)) (sym (beyond_is b start len))
    (if_not (Is (from_start start len)) [] (refuses 5) (gives (from_start start len)) refl (inside b start len))

-- what comes first, where it is a refusal, is 9
Nine : Contacts → Type 0
Nine (contact start len then rest) = Unit {0}
Nine quiet = Unit {0}
Nine (refused n) = n ≡ 9

nine_pick : (t : Bool) (x y : Contacts) → Nine x → Nine y → Nine (pick t x y)
nine_pick true x y p q = p
nine_pick false x y p q = q

only_nine : (n : ℕ) (b : List ℕ) (mode : Mode) (history i : ℕ) → Nine (contacts b mode history i n)
unfolding contacts Nine
only_nine zero b outside history i = tt
only_nine zero b (since start) history i = refl
only_nine (suc n) b outside history i =
    let latest = after history (bit_at b i) in
    nine_pick (opens latest) (contacts b (since i) latest (i + 1) n) (contacts b outside latest (i + 1) n)
    (only_nine n b (since i) latest (i + 1)) (only_nine n b outside latest (i + 1))
only_nine (suc n) b (since start) history i =
    let latest = after history (bit_at b i) in
    let then : Search = record { next = i + 1; left = n; history = latest } in
    nine_pick (closes latest) (contact start (i - start) then (contacts b outside latest (i + 1) n)) (contacts b (since start) latest (i + 1) n)
    tt (only_nine n b (since start) latest (i + 1))

-- The next contact: 5, 9.
pub nexting : (b : List ℕ) (search : Search) → Decided (NextReads b search) (next_rules b search) (next_contact b search)
unfolding next_contact contacts_from Nine
nexting b search =
    let cs = contacts b outside search.history search.next search.left in
    subst (λ (t : Bool). Decided (NextReads b search) (row 5 t ∷ row 9 (cut b search) ∷ []) (next_contact b search)) (sym (beyond_is b search.next search.left))
    (subst (λ (u : Bool). Decided (NextReads b search) (row 5 (not (inside b search.next search.left)) ∷ row 9 u ∷ []) (next_contact b search)) (cut_is b search)
    (go (inside b search.next search.left) cs (only_nine search.left b outside search.history search.next)
    (next_reads b search)))
  where
    go : (t : Bool) (cs : Contacts) → Nine cs → (cut_first cs ≡ false → NextReads b search (first cs))
        → Decided (NextReads b search) (row 5 (not t) ∷ row 9 (cut_first cs) ∷ []) (first (pick t cs (refused 5)))
    go false cs nine reads = (λ q. refl, λ q. absurd (true_not_false q))
    go true (contact start len then rest) nine reads = (λ q. absurd (true_not_false (sym q)), λ q. (λ p. absurd (true_not_false (sym p)), reads))
    go true quiet nine reads = (λ q. absurd (true_not_false (sym q)), λ q. (λ p. absurd (true_not_false (sym p)), reads))
    go true (refused n) nine reads = (λ q. absurd (true_not_false (sym q)), λ q. (λ p. ap refuses nine, λ p. absurd (true_not_false p)))

-- (a) to (d), from whether there are two places, whether they are alike, and whether the bits are a
-- marker's
lettered : (two alike mark : Bool) (a m : Contact)
    → Decided (λ o. ((two && alike) ≡ true → o ≡ gives a) × ((two && alike) ≡ false → o ≡ gives m))
    (row 7 (not alike) ∷ row 8 (not (two && alike) && not mark) ∷ [])
    (pick (two && alike) (gives a) (pick (not alike) (refuses 7) (pick mark (gives m) (refuses 8))))
lettered true false mark a m = (λ q. refl, λ q. absurd (true_not_false q))
lettered false false mark a m = (λ q. refl, λ q. absurd (true_not_false q))
lettered true true mark a m =
    (λ q. absurd (true_not_false (sym q)), λ q. (λ p. absurd (true_not_false (sym p)), λ p. (λ e. refl, λ e. absurd (true_not_false e))))
lettered false true true a m =
    (λ q. absurd (true_not_false (sym q)), λ q. (λ p. absurd (true_not_false (sym p)), λ p. (λ e. absurd (true_not_false (sym e)), λ e. refl)))
lettered false true false a m = (λ q. absurd (true_not_false (sym q)), λ q. (λ p. refl, λ p. absurd (true_not_false p)))

-- The judging of a contact: 4, 5, 7, 8.
pub judging : (b : List ℕ) (start len s t : ℕ) → Decided (JudgeReads b start len s t) (judge_rules b start len s t) (judge b start len s t)
unfolding judge judgement places_differ neither is_read is_marker is_marked
judging b start len s t =
    let ps = places b start len s t in
    stretch_then (JudgeReads b start len s t) b start len s t (row 7 (places_differ b start len s t) ∷ row 8 (neither b start len s t) ∷ []) (judgement b start len ps)
    (lettered (leb 2 (length ps)) (all_alike b ps) (is_marker b start len) (read (words_at b (first_place ps)) (first_place ps) (length ps)) marker)
