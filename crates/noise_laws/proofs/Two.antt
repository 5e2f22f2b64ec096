-- What it takes for a contact to be read: two places of it with the same words.
-- Assumes nothing.
use Prim.Native.Nat.{ℕ, zero, suc, ◌+◌, ◌-◌, ◌≤◌, ◌<◌}
use mathlib.Core.Path.{◌≡◌, refl, sym, ap, ap₂, ◌∙◌}
use mathlib.Core.Bool.{Bool, true, false, ◌&&◌, not}
use mathlib.Core.List.{List, [], ◌∷◌}
use native.Mathlib.Omega.{arith}
use lib.Dec.{eqb, leb}
use lib.ListN.{length}
use borrow.Author.Tests.{eqb-true, leb-true}
use Rattle.words.specs.Answer.{gives, refuses, pick}
use Rattle.words.proofs.Never.{cannot_be}
use Rattle.telegram.specs.Stretch.{bits_at, inside}
use Rattle.telegram.specs.Sync.{is_good}
use Rattle.telegram.specs.Telegram.{Received}
use Rattle.telegram.specs.Place.{words_at, is_place, from, those, places}
use Rattle.telegram.specs.Survey.{same_words, all_as}
use Rattle.telegram.specs.declared.Telegram.{Telegram}
use Rattle.balise_line.proofs.Places.{and_parts}
use Rattle.contact.specs.Judge.{all_alike, first_place, read, marker, is_marker, judgement}
use Rattle.contact.specs.declared.Judged.{Judged}
use Rattle.contact.proofs.Determined.{judged_of}
use Rattle.contact_laws.specs.Calls.{JudgeContact}
use Rattle.contact_laws.proofs.Alike.{judges, judged_taken}
use Rattle.noise_laws.specs.Reading.{fewest}

module _ (test : ℕ → Bool) where
  -- The first of those that pass a test, and what is listed after it.
  pub first_of : (a n p : ℕ) (ps : List ℕ) → those test (from a n) ≡ p ∷ ps
      → (a ≤ p) × (p < a + n) × (test p ≡ true) × (ps ≡ those test (from (p + 1) (a + n - (p + 1))))
  unfolding those from
  first_of a zero p ps e = cannot_be cc
  first_of a (suc n) p ps e = go (test a) refl e (first_of (a + 1) n p ps)
    where
      go : (t : Bool) → test a ≡ t → pick t (a ∷ those test (from (a + 1) n)) (those test (from (a + 1) n)) ≡ p ∷ ps
          → (those test (from (a + 1) n) ≡ p ∷ ps → (a + 1 ≤ p) × (p < a + 1 + n) × (test p ≡ true) × (ps ≡ those test (from (p + 1) (a + 1 + n - (p + 1)))))
          → (a ≤ p) × (p < a + suc n) × (test p ≡ true) × (ps ≡ those test (from (p + 1) (a + suc n - (p + 1))))
      go true is e ih =
          let here : a ≡ p = cc in
          let rest : those test (from (a + 1) n) ≡ ps = cc in
          let as_many : n ≡ a + suc n - (p + 1) = omega arith in
          (omega arith, omega arith, ap test (sym here) ∙ is, sym rest ∙ ap₂ (λ (x y : ℕ). those test (from (x + 1) y)) here as_many)
      go false is e ih =
          let h = ih e in
          let same : a + 1 + n - (p + 1) ≡ a + suc n - (p + 1) = omega arith in
          (omega (arith, h.0), omega (arith, h.1), h.2, h.3 ∙ ap (λ (y : ℕ). those test (from (p + 1) y)) same)

-- Two places p and q of a stretch, the one before the other, with the same words, which read m.
pub record Two (b : List ℕ) (start len s t : ℕ) (m : Telegram) : Type 0 where
  pub p : ℕ
  pub q : ℕ
  pub low : start ≤ p
  pub order : p < q
  pub p_place : is_place b start len s t p ≡ true
  pub q_place : is_place b start len s t q ≡ true
  pub same_x : bits_at b (p + 8) 8 ≡ bits_at b (q + 8) 8
  pub same_y : bits_at b (p + 16) 8 ≡ bits_at b (q + 16) 8
  pub same_z : bits_at b (p + 24) 8 ≡ bits_at b (q + 24) 8
  pub reads : words_at b p ≡ gives m

module _ (b : List ℕ) (start len s t : ℕ) (m : Telegram) where
  -- The first two of places that are alike.
  pub of_places : (ps : List ℕ) → places b start len s t ≡ ps → fewest ≤ length ps → all_alike b ps ≡ true → words_at b (first_place ps) ≡ gives m → Two b start len s t m
  unfolding all_as same_words places
  of_places [] list few alike reads = absurd (omega arith)
  of_places (p ∷ []) list few alike reads = absurd (omega arith)
  of_places (p ∷ q ∷ ps) list few alike reads =
      let test = is_place b start len s t in
      let all = and_parts (same_words b p q) (all_as b p ps) alike in
      let xyz = and_parts (eqb (bits_at b (p + 8) 8) (bits_at b (q + 8) 8) && eqb (bits_at b (p + 16) 8) (bits_at b (q + 16) 8)) (eqb (bits_at b (p + 24) 8) (bits_at b (q + 24) 8)) all.0 in
      let xy = and_parts (eqb (bits_at b (p + 8) 8) (bits_at b (q + 8) 8)) (eqb (bits_at b (p + 16) 8) (bits_at b (q + 16) 8)) xyz.0 in
      let one = first_of test start len p (q ∷ ps) list in
      let two = first_of test (p + 1) (start + len - (p + 1)) q ps (sym one.3) in
      record {
        p = p;
        q = q;
        low = one.0;
        order = omega (arith, two.0);
        p_place = one.2;
        q_place = two.2;
        same_x = eqb-true (bits_at b (p + 8) 8) (bits_at b (q + 8) 8) xy.0;
        same_y = eqb-true (bits_at b (p + 16) 8) (bits_at b (q + 16) 8) xy.1;
        same_z = eqb-true (bits_at b (p + 24) 8) (bits_at b (q + 24) 8) xyz.1;
        reads = reads;
      }

  module _ (first count : ℕ) where
    -- A marker, or refused with 7 or 8, is no reading.
    not_read : (alike x : Bool) → Judged.Read m first count ≡ judged_of (pick (not alike) (refuses 7) (pick x (gives marker) (refuses 8))) → ⊥
    not_read true true e = cannot_be cc
    not_read true false e = cannot_be cc
    not_read false x e = cannot_be cc

    reading_is : (w : Received) (p n : ℕ) → Judged.Read m first count ≡ judged_of (gives (read w p n)) → w ≡ gives m
    reading_is (gives v) p n e = let same : v ≡ m = cc in ap gives same
    reading_is (refuses x) p n e = cannot_be cc

    -- A reading has places enough, all alike.
    pub of_reading : (ps : List ℕ) → Judged.Read m first count ≡ judged_of (judgement b start len ps) → (fewest ≤ length ps) × (all_alike b ps ≡ true) × (words_at b (first_place ps) ≡ gives m)
    unfolding judgement
    of_reading ps e = go (leb 2 (length ps)) (all_alike b ps) refl refl e
      where
        go : (enough alike : Bool) → leb 2 (length ps) ≡ enough → all_alike b ps ≡ alike
            → Judged.Read m first count ≡ judged_of (pick (enough && alike) (gives (read (words_at b (first_place ps)) (first_place ps) (length ps))) (pick (not alike) (refuses 7) (pick (is_marker b start len) (gives marker) (refuses 8))))
            → (fewest ≤ length ps) × (all_alike b ps ≡ true) × (words_at b (first_place ps) ≡ gives m)
        go true true two same e = (leb-true 2 (length ps) two, same, reading_is (words_at b (first_place ps)) (first_place ps) (length ps) e)
        go true false two same e = absurd (not_read false (is_marker b start len) e)
        go false alike two same e = absurd (not_read alike (is_marker b start len) e)

    pub two_alike : is_good s t ≡ true → inside b start len ≡ true → (a : Judged) → JudgeContact b start len s t a → a ≡ Judged.Read m first count → Two b start len s t m
    two_alike good taken a called is =
        let ps = places b start len s t in
        let h = of_reading ps (sym is ∙ judges b start len s t a called ∙ ap judged_of (judged_taken b start len s t good taken)) in
        of_places ps refl h.0 h.1 h.2
