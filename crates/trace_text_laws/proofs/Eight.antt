-- The eight bytes of a record in a block: what stands there is a thing with a record, which is
-- those bytes.
-- Assumes nothing.
use mathlib.Core.Path.{◌≡◌, refl, sym, ap, ap₂, subst, ◌∙◌}
use mathlib.Core.List.{List, [], ◌∷◌, ◌++◌}
use Prim.Native.Nat.{ℕ, ◌+◌, ◌/◌, ◌%◌, ◌≤◌, ◌<◌}
use native.Mathlib.Numerals.{add-one}
use native.Mathlib.Omega.{arith}
use lib.ListN.{length, get_or, drop}
use lib.Seq.{drop-cons}
use borrow.Author.Tests.{le-leb, lt-leb}
use Rattle.words.specs.Answer.{gives}
use Rattle.words.proofs.Never.{cannot_be}
use Rattle.lines.specs.Words.{largest}
use Rattle.trace_text.specs.declared.What.{What}
use Rattle.trace_text.specs.declared.Said.{Said}
use Rattle.trace_text.specs.Record.{record_of_meant}
use Rattle.trace_text.specs.Thing.{place_of, thing_of, thing_at}
use Rattle.trace_text_laws.specs.Laws.{Bytes}
use Rattle.trace_text_laws.proofs.Recording.{records_back}

-- Eight bytes, and the bytes after them.
abbrev pub eight : List ℕ → ℕ → List ℕ
eight b i =
    get_or b i 0 ∷ get_or b (i + 1) 0 ∷ get_or b (i + 2) 0 ∷ get_or b (i + 3) 0 ∷ get_or b (i + 4) 0 ∷ get_or b (i + 5) 0 ∷ get_or b (i + 6) 0 ∷ get_or b (i + 7) 0 ∷ []

next : (b : List ℕ) (i j : ℕ) → j ≡ i + 1 → i < length b → drop i b ≡ get_or b i 0 ∷ drop j b
next b i j e h = drop-cons b i 0 h ∙ ap (λ (k : ℕ). get_or b i 0 ∷ drop k b) (sym (add-one i) ∙ sym e)

pub in_eight : (b : List ℕ) (i : ℕ) → i + 8 ≤ length b → drop i b ≡ eight b i ++ drop (i + 8) b
in_eight b i h =
    next b i (i + 1) refl (omega arith)
    ∙ ap (λ (l : List ℕ). get_or b i 0 ∷ l) (next b (i + 1) (i + 2) (omega arith) (omega arith)
    ∙ ap (λ (l : List ℕ). get_or b (i + 1) 0 ∷ l) (next b (i + 2) (i + 3) (omega arith) (omega arith)
    ∙ ap (λ (l : List ℕ). get_or b (i + 2) 0 ∷ l) (next b (i + 3) (i + 4) (omega arith) (omega arith)
    ∙ ap (λ (l : List ℕ). get_or b (i + 3) 0 ∷ l) (next b (i + 4) (i + 5) (omega arith) (omega arith)
    ∙ ap (λ (l : List ℕ). get_or b (i + 4) 0 ∷ l) (next b (i + 5) (i + 6) (omega arith) (omega arith)
    ∙ ap (λ (l : List ℕ). get_or b (i + 5) 0 ∷ l) (next b (i + 6) (i + 7) (omega arith) (omega arith)
    ∙ ap (λ (l : List ℕ). get_or b (i + 6) 0 ∷ l) (next b (i + 7) (i + 8) (omega arith) (omega arith))))))))

-- What stands there: a thing at a place, whose record is those bytes.
pub record AThing (bytes : List ℕ) (place : ℕ) (what : What) : Type 0 where
  pub low : place ≤ largest
  pub is : record_of_meant place what ≡ gives bytes

of_bytes : (a b c d kind x y z : ℕ) → Bytes (a ∷ b ∷ c ∷ d ∷ kind ∷ x ∷ y ∷ z ∷ [])
    → AThing (a ∷ b ∷ c ∷ d ∷ kind ∷ x ∷ y ∷ z ∷ []) (place_of a b c d) (thing_of kind x y z)
of_bytes a b c d kind x y z (ha, (hb, (hc, (hd, (hk, (hx, (hy, (hz, u)))))))) =
    let p : ℕ = place_of a b c d in
    let one : p / 16777216 ≡ a = omega arith in
    let two : p / 65536 % 256 ≡ b = omega arith in
    let three : p / 256 % 256 ≡ c = omega arith in
    let four : p % 256 ≡ d = omega arith in
    record {
      low = omega arith;
      is = records_back p kind x y z hx hy hz ∙ ap gives
          (ap₂ (λ (v w : ℕ). v ∷ w ∷ p / 256 % 256 ∷ p % 256 ∷ kind ∷ x ∷ y ∷ z ∷ []) one two
          ∙ ap₂ (λ (v w : ℕ). a ∷ b ∷ v ∷ w ∷ kind ∷ x ∷ y ∷ z ∷ []) three four);
    }

the_first : (t rest : List ℕ) → Bytes (t ++ rest) → Bytes t × Bytes rest
the_first [] rest all = (tt, all)
the_first (c ∷ cs) rest all = let on = the_first cs rest all.1 in ((all.0, on.0), on.1)

pub first_bytes : (t rest : List ℕ) → Bytes (t ++ rest) → Bytes t
first_bytes t rest all = (the_first t rest all).0

pub last_bytes : (t rest : List ℕ) → Bytes (t ++ rest) → Bytes rest
last_bytes t rest all = (the_first t rest all).1

-- The record at a byte of a block, if a whole one stands there.
pub thing_there : (b : List ℕ) (i place : ℕ) (what : What) → i + 8 ≤ length b → Bytes (drop i b) → Said.Thing place what ≡ thing_at b i → AThing (eight b i) place what
unfolding thing_at
thing_there b i place what h all is =
    let there : thing_at b i ≡ Said.Thing (place_of (get_or b i 0) (get_or b (i + 1) 0) (get_or b (i + 2) 0) (get_or b (i + 3) 0))
    (thing_of (get_or b (i + 4) 0) (get_or b (i + 5) 0) (get_or b (i + 6) 0) (get_or b (i + 7) 0)) = simp (le-leb (i + 8) (length b) h) in
    let same : Said.Thing place what ≡ Said.Thing (place_of (get_or b i 0) (get_or b (i + 1) 0) (get_or b (i + 2) 0) (get_or b (i + 3) 0))
    (thing_of (get_or b (i + 4) 0) (get_or b (i + 5) 0) (get_or b (i + 6) 0) (get_or b (i + 7) 0)) = is ∙ there in
    let p : place_of (get_or b i 0) (get_or b (i + 1) 0) (get_or b (i + 2) 0) (get_or b (i + 3) 0) ≡ place = cc in
    let w : thing_of (get_or b (i + 4) 0) (get_or b (i + 5) 0) (get_or b (i + 6) 0) (get_or b (i + 7) 0) ≡ what = cc in
    let bytes : Bytes (eight b i) = first_bytes (eight b i) (drop (i + 8) b) (subst Bytes (in_eight b i h) all) in
    subst (λ (v : What). AThing (eight b i) place v) w
    (subst (λ (v : ℕ). AThing (eight b i) v (thing_of (get_or b (i + 4) 0) (get_or b (i + 5) 0) (get_or b (i + 6) 0) (get_or b (i + 7) 0))) p
    (of_bytes (get_or b i 0) (get_or b (i + 1) 0) (get_or b (i + 2) 0) (get_or b (i + 3) 0) (get_or b (i + 4) 0) (get_or b (i + 5) 0) (get_or b (i + 6) 0) (get_or b (i + 7) 0) bytes))

-- Without one nothing is said.
pub none_there : (b : List ℕ) (i place : ℕ) (what : What) → length b < i + 8 → Said.Thing place what ≡ thing_at b i → ⊥
unfolding thing_at
none_there b i place what h is =
    let nothing : thing_at b i ≡ Said.Nothing = simp (lt-leb (i + 8) (length b) h) in
    cannot_be (let e : Said.Thing place what ≡ Said.Nothing = is ∙ nothing in cc)
