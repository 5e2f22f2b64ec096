-- The boxes drawn are those of the contact's places: at each bit the search in the buffer finds a
-- telegram exactly where the line has a place, and the places that lie in the bits drawn are those
-- of the stretch that is drawn.
-- Assumes nothing.
use Prim.Native.Nat.{ℕ, zero, suc, ◌+◌, ◌-◌, ◌*◌, ◌≤◌, ◌<◌}
use mathlib.Core.Path.{◌≡◌, refl, sym, ap, ap₂, ◌∙◌}
use mathlib.Core.Bool.{Bool, true, false}
use mathlib.Core.List.{List, [], ◌∷◌, ◌++◌}
use native.Mathlib.Omega.{arith}
use lib.Dec.{leb, ltb}
use borrow.Author.Tests.{le-leb, lt-leb, ltb-true, ltb-false}
use Rattle.words.specs.Answer.{pick}
use Rattle.text.specs.Put.{placed}
use Rattle.text.specs.Pieces.{whole}
use Rattle.telegram.specs.Stretch.{bit_at, bits_at, inside}
use Rattle.telegram.specs.Sync.{is_good}
use Rattle.telegram.specs.Place.{is_place, those, places, first_of, find}
use Rattle.telegram.proofs.Places.{fits, one_offset, is_place_law, too_short}
use Rattle.telegram.proofs.Taken.{part_taken}
use Rattle.balise_line.proofs.Bits.{spelt_alike}
use Rattle.contact_drawing.specs.Strips.{drawn, each, boxes, is_found, boxed, telegram_of, telegrams, strips_with, strips}
use Rattle.contact_drawing.specs.Laws.{Call, asked, drawn_places, boxes_at, Holds, Boxed}
use Rattle.contact_drawing.proofs.Each.{drawn_within}
use Rattle.contact_drawing.proofs.Roomy.{roomy}

-- ---- the places that lie in fewer bits

module _ (b : List ℕ) (s t : ℕ) where
  -- Those whose forty bits end by `stop`.
  abbrev by : ℕ → List ℕ → List ℕ
  by stop ps = those (λ p. leb (p + 40) stop) ps

  kept_here : (stop p : ℕ) (ps : List ℕ) → p + 40 ≤ stop → by stop (p ∷ ps) ≡ p ∷ by stop ps
  unfolding those
  kept_here stop p ps h = simp (le-leb _ _ h)

  left_here : (stop p : ℕ) (ps : List ℕ) → stop < p + 40 → by stop (p ∷ ps) ≡ by stop ps
  unfolding those
  left_here stop p ps h = simp (lt-leb _ _ h)

  late_by : (stop p : ℕ) (ps : List ℕ) (x : Bool) → stop < p + 40 → by stop ps ≡ [] → by stop (pick x (p ∷ ps) ps) ≡ []
  late_by stop p ps true h on = left_here stop p ps h ∙ on
  late_by stop p ps false h on = on

  -- None lies in a stretch that begins too late,
  late : (stop p d : ℕ) → stop < p + 40 → by stop (places b p d s t) ≡ []
  unfolding those
  late stop p zero h = ap (by stop) (too_short b s t p zero (omega arith))
  late stop p (suc d) h =
      ap (by stop) (one_offset b s t p d)
      ∙ late_by stop p (places b (p + 1) d s t) (is_place b p (suc d) s t p) h (late stop (p + 1) d (omega arith))

  here_by : (stop p : ℕ) (ps qs : List ℕ) (x : Bool) → p + 40 ≤ stop → by stop ps ≡ qs → by stop (pick x (p ∷ ps) ps) ≡ pick x (p ∷ qs) qs
  here_by stop p ps qs true h on = kept_here stop p ps h ∙ ap (λ (l : List ℕ). p ∷ l) on
  here_by stop p ps qs false h on = on

  -- One offset more: the stretch has fewer than forty bits, or its first may be a place.
  further : (stop n d p : ℕ) → stop ≡ p + suc n → by stop (places b (p + 1) (n + d) s t) ≡ places b (p + 1) n s t
      → (x : Bool) → ltb (suc n) 40 ≡ x → by stop (places b p (suc n + d) s t) ≡ places b p (suc n) s t
  further stop n d p e on true f =
      let few : suc n < 40 = ltb-true (suc n) 40 f in
      late stop p (suc n + d) (omega arith) ∙ sym (too_short b s t p (suc n) few)
  further stop n d p e on false f =
      let many : 40 ≤ suc n = ltb-false (suc n) 40 f in
      let one : suc n + d ≡ suc (n + d) = omega arith in
      let rest : List ℕ = places b (p + 1) (n + d) s t in
      let fewer : List ℕ = places b (p + 1) n s t in
      ap (λ (m : ℕ). by stop (places b p m s t)) one
      ∙ ap (by stop) (one_offset b s t p (n + d))
      ∙ ap (λ (x : Bool). by stop (pick x (p ∷ rest) rest)) (is_place_law b s t p (suc (n + d)) (omega arith))
      ∙ here_by stop p rest fewer (fits s t (bits_at b p 40)) (omega arith) on
      ∙ ap (λ (x : Bool). pick x (p ∷ fewer) fewer) (sym (is_place_law b s t p (suc n) many))
      ∙ sym (one_offset b s t p n)

  -- and those of a longer stretch that lie in a shorter one are its places.
  pub shorter : (stop n d p : ℕ) → stop ≡ p + n → by stop (places b p (n + d) s t) ≡ places b p n s t
  shorter stop zero d p e = late stop p (zero + d) (omega arith) ∙ sym (too_short b s t p zero (omega arith))
  shorter stop (suc n) d p e = further stop n d p e (shorter stop n d (p + 1) (omega arith)) (ltb (suc n) 40) refl

-- ---- at each bit

module _ (line kept : List ℕ) (first start s t : ℕ) where
  module _ (n : ℕ) (good : is_good s t ≡ true) (h : Holds kept first line start n) where
    -- The same bits spell the same words.
    word : (i m : ℕ) → i + m ≤ n → bits_at kept (first + i) m ≡ bits_at line (start + i) m
    word i m fit =
        spelt_alike kept line (first + i) (start + i) m
        (λ j less.
        let one : first + i + j ≡ first + (i + j) = omega arith in
        let two : start + (i + j) ≡ start + i + j = omega arith in
        ap (bit_at kept) one ∙ h.bits (i + j) (omega arith) ∙ ap (bit_at line) two)

    found : (i : ℕ) → i + 40 ≤ n → is_found (find kept (first + i) 40 s t) ≡ fits s t (bits_at kept (first + i) 40)
    unfolding find
    found i fit =
        let lies : inside kept (first + i) 40 ≡ true = part_taken kept first n (first + i) 40 h.taken (omega arith) (omega arith) in
        let p : ℕ = first + i in
        let one : places kept p 40 s t ≡ pick (fits s t (bits_at kept p 40)) (p ∷ []) [] =
        one_offset kept s t p 39
        ∙ ap₂ (λ (x : Bool) (ps : List ℕ). pick x (p ∷ ps) ps) (is_place_law kept s t p 40 (omega arith)) (too_short kept s t (p + 1) 39 (omega arith)) in
        simp (good, lies, one) (go p (fits s t (bits_at kept p 40)))
      where
        go : (p : ℕ) (x : Bool) → is_found (first_of kept (pick x (p ∷ []) [])) ≡ x
        go p true = refl
        go p false = refl

    -- What stands at bit i is the box of the line's place there, if it is one.
    at_bit : (i : ℕ) → i + 40 ≤ n → telegram_of kept first start s t i ≡ pick (fits s t (bits_at line (start + i) 40)) (boxed line (start + i) s (4 * i) (start + i)) []
    unfolding telegram_of boxed boxes
    at_bit i fit = simp (found i fit, word i 40 fit, word i 8 (omega arith))

    one_more : (x : Bool) (p i : ℕ) (ps : List ℕ) → p ≡ start + i → pick x (boxed line p s (4 * i) p) [] ++ boxes_at line start s ps ≡ boxes_at line start s (pick x (p ∷ ps) ps)
    unfolding boxes_at
    one_more true p i ps e =
        let at : i ≡ p - start = omega arith in
        ap (λ (k : ℕ). boxed line p s (4 * k) p ++ boxes_at line start s ps) at
    one_more false p i ps e = refl

    run : (m i : ℕ) → i + m + 39 ≤ n → each (telegram_of kept first start s t) i m ≡ boxes_at line start s (places line (start + i) (m + 39) s t)
    unfolding each boxes_at
    run zero i fit = ap (boxes_at line start s) (sym (too_short line s t (start + i) 39 (omega arith)))
    run (suc m) i fit =
        let p : ℕ = start + i in
        let rest : List ℕ = places line (p + 1) (m + 39) s t in
        let next : start + (i + 1) ≡ p + 1 = omega arith in
        let one : suc (m + 39) ≡ suc m + 39 = omega arith in
        ap₂ (λ (x y : List (List ℕ)). x ++ y) (at_bit i (omega arith)) (run m (i + 1) (omega arith) ∙ ap (λ (q : ℕ). boxes_at line start s (places line q (m + 39) s t)) next)
        ∙ one_more (fits s t (bits_at line p 40)) p i rest refl
        ∙ ap (λ (x : Bool). boxes_at line start s (pick x (p ∷ rest) rest)) (sym (is_place_law line s t p (suc (m + 39)) (omega arith)))
        ∙ ap (boxes_at line start s) (sym (one_offset line s t p (m + 39)))
        ∙ ap (λ (k : ℕ). boxes_at line start s (places line p k s t)) one

    by_length : (x : Bool) → ltb n 39 ≡ x → each (telegram_of kept first start s t) 0 (n - 39) ≡ boxes_at line start s (places line start n s t)
    unfolding each boxes_at
    by_length true e =
        let few : n < 39 = ltb-true n 39 e in
        let none : n - 39 ≡ 0 = omega arith in
        ap (each (telegram_of kept first start s t) 0) none ∙ ap (boxes_at line start s) (sym (too_short line s t start n (omega arith)))
    by_length false e =
        let many : 39 ≤ n = ltb-false n 39 e in
        let whole : n - 39 + 39 ≡ n = omega arith in
        let from : start + 0 ≡ start = omega arith in
        run (n - 39) 0 (omega arith) ∙ ap₂ (λ (p k : ℕ). boxes_at line start s (places line p k s t)) from whole

    pub all_bits : telegrams kept first start n s t ≡ boxes_at line start s (places line start n s t)
    unfolding telegrams
    all_bits = by_length (ltb n 39) refl

at_places : (line kept : List ℕ) (first start length s t : ℕ) → is_good s t ≡ true → Holds kept first line start (drawn length)
    → telegrams kept first start (drawn length) s t ≡ boxes_at line start s (drawn_places line start length s t)
unfolding drawn_places
at_places line kept first start length s t good h =
    let n : ℕ = drawn length in
    let within : length ≡ n + (length - n) = omega (arith, drawn_within length) in
    all_bits line kept first start s t n good h
    ∙ ap (boxes_at line start s)
    (sym (ap (λ (m : ℕ). those (λ p. leb (p + 40) (start + n)) (places line start m s t)) within ∙ shorter line s t (start + n) n (length - n) start refl))

-- ---- in the page

as_asked : (c : Call) (line : List ℕ) → is_good c.s c.t ≡ true → Holds c.kept c.first line (c.end - c.bits) (drawn c.bits)
    → asked c ≡ strips_with (boxes_at line (c.end - c.bits) c.s (drawn_places line (c.end - c.bits) c.bits c.s c.t)) c.end c.bits c.judged c.kept c.first
unfolding strips
as_asked c line good h =
    ap (λ (boxes : List (List ℕ)). strips_with boxes c.end c.bits c.judged c.kept c.first)
    (at_places line c.kept c.first (c.end - c.bits) c.bits c.s c.t good h)

pub boxed_at : Boxed
boxed_at =
    record {
      at_places = at_places;
      in_the_page =
          λ c line allowed lent good h.
          (roomy.all c allowed lent).1 ∙ ap (λ (ps : List (List ℕ)). placed (whole ps) c.before c.at) (as_asked c line good h);
    }
