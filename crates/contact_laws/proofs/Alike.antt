-- Where every place has the words sent, two places or more are read as the telegram sent.
-- Assumes nothing.
use Prim.Native.Nat.{ℕ, ◌≤◌, ◌<◌}
use mathlib.Core.Path.{◌≡◌, refl, sym, ap, ap₂, ◌∙◌, subst}
use mathlib.Core.Logic.{◌⊎◌, inl, inr}
use mathlib.Core.Bool.{Bool, true, false, not}
use mathlib.Core.List.{List, [], ◌∷◌}
use native.Mathlib.Omega.{arith}
use lib.Dec.{T, eqb}
use lib.ListN.{length}
use borrow.Author.Tests.{eqb-true, eq-eqb, le-leb}
use Rattle.words.specs.Answer.{gives, refuses, pick}
use Rattle.words.specs.Plain.{among}
use Rattle.telegram.specs.Stretch.{inside}
use Rattle.telegram.specs.Sync.{is_good}
use Rattle.telegram.specs.Telegram.{Received}
use Rattle.telegram.specs.Place.{words_at, places}
use Rattle.telegram.specs.Survey.{all_as}
use Rattle.telegram.specs.declared.Telegram.{Telegram}
use Rattle.balise_line.specs.Line.{OneBalise, Proper, places_of}
use Rattle.balise_line.proofs.Places.{and_true, or_parts, or_left, or_right}
use Rattle.balise_line.proofs.Sent.{Sent, AllSent, read_as_sent, all_alike}
use Rattle.contact.specs.Judge.{read, marker, is_marker, judgement, judge}
use Rattle.contact.specs.declared.Judged.{Judged}
use Rattle.contact.proofs.Determined.{judged_of, judged_back}
use Rattle.contact_laws.specs.Calls.{JudgeContact}

-- What a call of `judge` answers is what is specified.
pub judges : (b : List ℕ) (start len s t : ℕ) (a : Judged) → JudgeContact b start len s t a → a ≡ judged_of (judge b start len s t)
judges b start len s t a call = sym (judged_back a) ∙ ap judged_of (call.4 ∙ ap (λ (v : List ℕ). judge v start len s t) call.3)

-- A good pair and a stretch that is taken: the judgement is by the places.
pub judged_taken : (b : List ℕ) (start len s t : ℕ) → is_good s t ≡ true → inside b start len ≡ true
    → judge b start len s t ≡ judgement b start len (places b start len s t)
unfolding judge
judged_taken b start len s t good taken =
    ap₂ (λ (g i : Bool). pick g (pick i (judgement b start len (places b start len s t)) (refuses 5)) (refuses 4)) good taken

two_alike : (b : List ℕ) (start len p : ℕ) (ps : List ℕ) → 2 ≤ length (p ∷ ps) → all_as b p ps ≡ true
    → judgement b start len (p ∷ ps) ≡ gives (read (words_at b p) p (length (p ∷ ps)))
unfolding judgement
two_alike b start len p ps two alike =
    ap (λ (x : Bool). pick x (gives (read (words_at b p) p (length (p ∷ ps)))) (pick (not (all_as b p ps)) (refuses 7) (pick (is_marker b start len) (gives marker) (refuses 8))))
    (and_true (le-leb 2 (length (p ∷ ps)) two) alike)

-- Where every place has the words sent, two places or more are read as the telegram sent.
pub judged_so : (o : OneBalise) → Proper o → AllSent o → 2 ≤ length (places_of o)
    → (first : ℕ) × (count : ℕ) × (judge o.buffer o.start o.len o.s o.t ≡ gives (read (gives o.telegram) first count))
judged_so o proper every two = go (places_of o) refl
  where
    b : List ℕ
    b = o.buffer

    go : (ps : List ℕ) → places_of o ≡ ps → (first : ℕ) × (count : ℕ) × (judge b o.start o.len o.s o.t ≡ gives (read (gives o.telegram) first count))
    go [] list = absurd (let e = ap length list in omega arith)
    go (p ∷ ps) list =
        let sent : (q : ℕ) → among q (p ∷ ps) ≡ true → Sent o q = λ q there. every q (ap (among q) list ∙ there) in
        let here = sent p (or_left (among p ps) (eq-eqb p p refl)) in
        let alike = all_alike o p here ps (λ q there. sent q (or_right (eqb q p) there)) in
        let many : 2 ≤ length (p ∷ ps) = subst (λ (l : List ℕ). 2 ≤ length l) list two in (
          p,
          length (p ∷ ps),
          judged_taken b o.start o.len o.s o.t proper.pair proper.taken
              ∙ ap (judgement b o.start o.len) list ∙ two_alike b o.start o.len p ps many alike
              ∙ ap (λ (r : Received). gives (read r p (length (p ∷ ps)))) (read_as_sent o proper p here),
        )

-- So a call of `judge` answers.
pub answers_so : (b : List ℕ) (start len s t : ℕ) (m : Telegram) → (first : ℕ) × (count : ℕ) × (judge b start len s t ≡ gives (read (gives m) first count))
    → (a : Judged) → JudgeContact b start len s t a → (first : ℕ) × (count : ℕ) × (a ≡ Judged.Read m first count)
answers_so b start len s t m so a call = (so.0, so.1, judges b start len s t a call ∙ ap judged_of so.2)

-- A list with two different numbers has two.
pub two_listed : (p q : ℕ) → p < q → (ps : List ℕ) → among p ps ≡ true → among q ps ≡ true → 2 ≤ length ps
two_listed p q less [] a c = absurd (subst T (sym a) tt)
two_listed p q less (n ∷ []) a c = by (or_parts (eqb p n) false a) (or_parts (eqb q n) false c)
  where
    by : (eqb p n ≡ true) ⊎ (false ≡ true) → (eqb q n ≡ true) ⊎ (false ≡ true) → 2 ≤ 1
    by (inl e) (inl f) =
        let e' = eqb-true p n e in
        let f' = eqb-true q n f in
        omega arith
    by (inl e) (inr f) = absurd (subst T (sym f) tt)
    by (inr e) f = absurd (subst T (sym e) tt)
two_listed p q less (n ∷ m ∷ ps) a c = more ps
  where
    more : (l : List ℕ) → 2 ≤ length (n ∷ m ∷ l)
    more l = omega arith
