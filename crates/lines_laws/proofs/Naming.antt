-- A word's letters as one number: every word has its own, so that a name is known by it.
-- Assumes nothing.
use mathlib.Core.Path.{◌≡◌, refl, sym, ap, ap₂, subst, ◌∙◌}
use mathlib.Core.Bool.{Bool, true, false, ◌&&◌}
use mathlib.Core.List.{List, [], ◌∷◌, ◌++◌, append_assoc, append-nil}
use Prim.Native.Nat.{ℕ, zero, suc, ◌+◌, ◌-◌, ◌*◌, ◌/◌, ◌%◌, ◌≤◌, ◌<◌}
use native.Mathlib.Omega.{arith}
use lib.Dec.{eqb, leb, ltb}
use lib.ListN.{length}
use borrow.Author.Tests.{eqb-true, leb-true, eq-eqb, ne_eqb}
use Rattle.words.specs.Answer.{pick}
use Rattle.words.proofs.Never.{cannot_be}
use Rattle.words.proofs.Linear.{and_parts}
use Rattle.text.specs.Text.{codes}
use Rattle.figures.specs.Figures.{between}
use Rattle.lines.specs.Words.{same, name}
use Rattle.lines.specs.Reading.{no_name, letters_on, spelled_on, named}

-- The letters that a number has as its digits.
unfoldable letters : ℕ → ℕ → List ℕ
letters zero n = []
letters (suc f) n = pick (eqb n 0) [] (letters f (n / 32) ++ ((96 + n % 32) ∷ []))

none : (f : ℕ) → letters f 0 ≡ []
unfolding letters
none zero = refl
none (suc f) = refl

-- What no name has stays so.
stays_by : (b : Bool) (x : ℕ) → pick (b && false) x no_name ≡ no_name
stays_by true x = refl
stays_by false x = refl

stays : (cs : List ℕ) → spelled_on no_name cs ≡ no_name
unfolding spelled_on letters_on
stays [] = refl
stays (c ∷ cs) = ap (λ (n : ℕ). spelled_on n cs) (stays_by (between 97 122 c) (no_name * 32 + (c - 96))) ∙ stays cs

-- One letter more is one digit more.
one_more : (f n c : ℕ) → 97 ≤ c → c ≤ 122 → letters (suc f) (n * 32 + (c - 96)) ≡ letters f n ++ (c ∷ [])
unfolding letters
one_more f n c l h =
    let some : n * 32 + (c - 96) ≡ 0 → ⊥ = λ e. omega arith in
    let before : (n * 32 + (c - 96)) / 32 ≡ n = omega arith in
    let last : 96 + (n * 32 + (c - 96)) % 32 ≡ c = omega arith in
    simp (ne_eqb _ _ some) (ap₂ (λ (m d : ℕ). letters f m ++ (d ∷ [])) before last)

-- Whether a character is a letter that still has a place.
abbrev placed : ℕ → ℕ → Bool
placed n c = between 97 122 c && ltb n 1125899906842624

-- The letters after one character more, if those of any number can be had back.
after_one : (b : Bool) (c : ℕ) (cs : List ℕ) (n f g : ℕ) → placed n c ≡ b → spelled_on (pick b (n * 32 + (c - 96)) no_name) cs < no_name
    → ((m : ℕ) → spelled_on m cs < no_name → letters g (spelled_on m cs) ≡ letters (suc f) m ++ cs)
    → letters g (spelled_on (pick b (n * 32 + (c - 96)) no_name) cs) ≡ letters f n ++ (c ∷ cs)
after_one true c cs n f g is h next =
    let parts = and_parts (between 97 122 c) (ltb n 1125899906842624) is in
    let ends = and_parts (leb 97 c) (leb c 122) parts.0 in
    next (n * 32 + (c - 96)) h
    ∙ ap (λ (l : List ℕ). l ++ cs) (one_more f n c (leb-true 97 c ends.0) (leb-true c 122 ends.1))
    ∙ append_assoc (letters f n) (c ∷ []) cs
after_one false c cs n f g is h next = let no : no_name < no_name = subst (λ (k : ℕ). k < no_name) (stays cs) h in absurd (omega arith)

-- So the letters can be had back.
back : (cs : List ℕ) (n f g : ℕ) → g ≡ f + length cs → spelled_on n cs < no_name → letters g (spelled_on n cs) ≡ letters f n ++ cs
unfolding spelled_on letters_on
back [] n f g e h = let same_fuel : g ≡ f = omega arith in ap (λ (k : ℕ). letters k n) same_fuel ∙ sym (append-nil (letters f n))
back (c ∷ cs) n f g e h = after_one (placed n c) c cs n f g refl h (λ m k. back cs m (suc f) g (omega arith) k)

-- Eleven more than a number.
abbrev eleven : ℕ → ℕ
eleven n = suc (suc (suc (suc (suc (suc (suc (suc (suc (suc (suc n))))))))))

-- The word that has these letters.
spells : (u : List ℕ) (k : ℕ) → spelled_on 0 u ≡ k → k < no_name → letters (eleven (length u)) k ≡ u
spells u k e h =
    let fuel : eleven (length u) ≡ 11 + length u = omega arith in
    let small : spelled_on 0 u < no_name = rw e h in
    sym (ap (letters (eleven (length u))) e) ∙ back u 0 11 (eleven (length u)) fuel small ∙ ap (λ (l : List ℕ). l ++ u) (none 11)

-- Two words that are the same.
same_self : (k : List ℕ) → same k k ≡ true
unfolding same
same_self [] = refl
same_self (c ∷ cs) = simp (eq-eqb c c refl) (same_self cs)

are_same : (u k : List ℕ) → same u k ≡ true → u ≡ k
unfolding same
are_same [] [] e = refl
are_same [] (d ∷ ds) e = cannot_be cc
are_same (c ∷ cs) [] e = cannot_be cc
are_same (c ∷ cs) (d ∷ ds) e =
    let parts = and_parts (eqb c d) (same cs ds) e in
    ap₂ (λ (x : ℕ) (l : List ℕ). x ∷ l) (eqb-true c d parts.0) (are_same cs ds parts.1)

-- A word has a name's letters exactly if it is the name.
by_tests : (b s : Bool) (u k : List ℕ) (n : ℕ) → eqb (spelled_on 0 u) n ≡ b → same u k ≡ s → spelled_on 0 k ≡ n → (spelled_on 0 u ≡ n → u ≡ k) → b ≡ s
by_tests true true u k n eb es is only = refl
by_tests false false u k n eb es is only = refl
by_tests true false u k n eb es is only =
    let alike : u ≡ k = only (eqb-true (spelled_on 0 u) n eb) in
    let yes : same u k ≡ true = rw alike (same_self k) in
    sym yes ∙ es
by_tests false true u k n eb es is only =
    let alike : spelled_on 0 u ≡ n = ap (spelled_on 0) (are_same u k es) ∙ is in
    sym eb ∙ eq-eqb (spelled_on 0 u) n alike

is_name : (u k : List ℕ) (n : ℕ) → spelled_on 0 k ≡ n → n < no_name → ((l : ℕ) → letters (eleven l) n ≡ k) → eqb (spelled_on 0 u) n ≡ same u k
is_name u k n is h digits =
    by_tests (eqb (spelled_on 0 u) n) (same u k) u k n refl refl is (λ e. sym (spells u n e h) ∙ digits (length u))

-- A word as a name is the name that its letters make.
pub as_name : (u : List ℕ) → named (spelled_on 0 u) ≡ name u
unfolding named name letters spelled_on letters_on
as_name u =
    let a : eqb (spelled_on 0 u) 437857458 ≡ same u (codes "marker") = is_name u (codes "marker") 437857458 refl (omega arith) (λ l. refl) in
    let b : eqb (spelled_on 0 u) 754888858438021 ≡ same u (codes "unreadable") = is_name u (codes "unreadable") 754888858438021 refl (omega arith) (λ l. refl) in
    let c : eqb (spelled_on 0 u) 566509577710 ≡ same u (codes "position") = is_name u (codes "position") 566509577710 refl (omega arith) (λ l. refl) in
    let d : eqb (spelled_on 0 u) 18487 ≡ same u (codes "raw") = is_name u (codes "raw") 18487 refl (omega arith) (λ l. refl) in
    let e : eqb (spelled_on 0 u) 647215148 ≡ same u (codes "signal") = is_name u (codes "signal") 647215148 refl (omega arith) (λ l. refl) in
    let f : eqb (spelled_on 0 u) 24748959175 ≡ same u (codes "warning") = is_name u (codes "warning") 24748959175 refl (omega arith) (λ l. refl) in
    let g : eqb (spelled_on 0 u) 49884311716 ≡ same u (codes "annulled") = is_name u (codes "annulled") 49884311716 refl (omega arith) (λ l. refl) in
    let h : eqb (spelled_on 0 u) 402885 ≡ same u (codes "line") = is_name u (codes "line") 402885 refl (omega arith) (λ l. refl) in
    let i : eqb (spelled_on 0 u) 19388037 ≡ same u (codes "route") = is_name u (codes "route") 19388037 refl (omega arith) (λ l. refl) in
    rw (a, b, c, d, e, f, g, h, i)
