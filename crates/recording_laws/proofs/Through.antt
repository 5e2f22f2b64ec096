-- Asked on and on, piece after piece, the calls hand out what is heard of the line bit by bit.
-- Assumes nothing.
use Prim.Native.Nat.{ℕ, ◌+◌, ◌-◌, ◌≤◌, ◌<◌}
use mathlib.Core.Path.{◌≡◌, refl, sym, ap, ap₂, subst, ◌∙◌}
use mathlib.Core.Bool.{Bool, true, false}
use mathlib.Core.List.{List, ◌∷◌, ◌++◌}
use native.Mathlib.Omega.{arith}
use borrow.Author.Tests.{lt-ltb, le-ltb}
use lib.ListN.{length}
use Rattle.words.specs.Answer.{Outcome, gives, refuses, pick}
use Rattle.telegram.specs.Stretch.{bit_at, inside}
use Rattle.contact.specs.Says.{says_judged}
use Rattle.antenna.specs.declared.Ear.{Ear}
use Rattle.antenna.specs.declared.Until.{Until}
use Rattle.antenna.specs.Line.{Told, told, placed, heard, after}
use Rattle.antenna.specs.Piece.{First, opened_at, closed_at, used_up, first, hear_piece}
use Rattle.antenna.specs.Says.{says_until}
use Rattle.antenna.proofs.Law.{any_pieces}
use Rattle.antenna.proofs.Pieces.{then_heard, then_after, asked_on}
use Rattle.antenna.proofs.Within.{Within, within}
use Rattle.recording_laws.specs.Calls.{HearPiece}
use Rattle.recording_laws.specs.Hearing.{Piece, bits_in, standing, line_bit, line_s, line_t, Through, opens, closes, ends, Heard, none, piece}

-- ---- one call

given_first : (e : Ear) (b : List ℕ) (i n s t : ℕ) (y : First) → hear_piece e b i n s t ≡ gives y → first b s t e i n ≡ y
unfolding hear_piece
given_first e b i n s t y h = go (inside b i n) h
  where
    go : (x : Bool) → pick {A = Outcome First} x (gives (first b s t e i n)) (refuses 5) ≡ gives y → first b s t e i n ≡ y
    go true h = cc
    go false h = cc

-- What an answer that is allowed says came first did.
came : (e : Ear) (b : List ℕ) (i n s t : ℕ) (r : Until) (y : First) → HearPiece e b i n s t r → says_until r ≡ gives y → first b s t e i n ≡ y
came e b i n s t r y call is =
    given_first e b i n s t y (sym (ap (λ (v : List ℕ). hear_piece e v i n s t) call.3) ∙ sym call.4 ∙ is)

-- ---- a piece

module _ (line s t : ℕ → ℕ) where
  -- The line's bits from bit o on, and the pairs there, are those of the piece.
  abbrev Lies : Piece → ℕ → Type 0
  Lies p o =
      (k : ℕ) → p.start ≤ k → k < p.start + p.len → (line (o + k - p.start) ≡ bit_at p.buffer k) × (s (o + k - p.start) ≡ p.s) × (t (o + k - p.start) ≡ p.t)

  module _ (p : Piece) (o : ℕ) (lies : Lies p o) where
    abbrev end : ℕ
    end = p.start + p.len

    abbrev Comes : Ear → ℕ → List Told → Ear → Type 0
    Comes e i l z = (heard line s t e (o + i - p.start) (end - i) ≡ l) × (after line s t e (o + i - p.start) (end - i) ≡ z)

    -- From the bit after the one that came first.
    from : (f : Ear) (i j : ℕ) → i ≤ end → {l : List Told} {z : Ear} → Comes f (j + 1) l z
        → (heard line s t f (o + (j + 1) - p.start) (i + (end - i) - (j + 1)) ≡ l) × (after line s t f (o + (j + 1) - p.start) (i + (end - i) - (j + 1)) ≡ z)
    from f i j low h =
        let left : i + (end - i) - (j + 1) ≡ end - (j + 1) = omega arith in
        (ap (heard line s t f (o + (j + 1) - p.start)) left ∙ h.0, ap (after line s t f (o + (j + 1) - p.start)) left ∙ h.1)

    through : {e z : Ear} {i : ℕ} {l : List Told} → p.start ≤ i → i ≤ end → Through p o e i l z → Comes e i l z
    through {e} {z} {i} low high (opens {next = f} {at = j} call on) =
        let is = came e p.buffer i (end - i) p.s p.t (Until.Opened f j) (opened_at f j) call refl in
        let at = subst (Within i (i + (end - i))) is (within p.buffer p.s p.t (end - i) i e) in
        let law = asked_on line s t o p.start p.buffer p.s p.t (end - i) i e low (λ k above below. lies k above (omega arith)) in
        let rest = from f i j high (through (omega arith) (omega arith) on) in
        (law.0 ∙ ap (then_heard line s t o p.start (i + (end - i))) is ∙ rest.0, law.1 ∙ ap (then_after line s t o p.start (i + (end - i))) is ∙ rest.1)
    through {e} {z} {i} low high (closes {next = f} {at = j} {length = length} judged call on) =
        let y = closed_at f j length (says_judged judged) in
        let is = came e p.buffer i (end - i) p.s p.t (Until.Closed f j length judged) y call refl in
        let at = subst (Within i (i + (end - i))) is (within p.buffer p.s p.t (end - i) i e) in
        let law = asked_on line s t o p.start p.buffer p.s p.t (end - i) i e low (λ k above below. lies k above (omega arith)) in
        let rest = from f i j high (through (omega arith) (omega arith) on) in
        let start = o + j - p.start - length in (
          law.0 ∙ ap (then_heard line s t o p.start (i + (end - i))) is ∙ ap (λ (l : List Told). told start length (placed start (says_judged judged)) ∷ l) rest.0,
          law.1 ∙ ap (then_after line s t o p.start (i + (end - i))) is ∙ rest.1,
        )
    through {e} {z} {i} low high (ends call) =
        let is = came e p.buffer i (end - i) p.s p.t (Until.Over z) (used_up z) call refl in
        let law = asked_on line s t o p.start p.buffer p.s p.t (end - i) i e low (λ k above below. lies k above (omega arith)) in
        (law.0 ∙ ap (then_heard line s t o p.start (i + (end - i))) is, law.1 ∙ ap (then_after line s t o p.start (i + (end - i))) is)

-- ---- pieces

in_first : (what : Piece → ℕ → ℕ) (p : Piece) (ps : List Piece) (k : ℕ) → k < p.len → standing what (p ∷ ps) k ≡ what p k
unfolding standing
in_first what p ps k low = rw (lt-ltb k p.len low)

in_rest : (what : Piece → ℕ → ℕ) (p : Piece) (ps : List Piece) (k : ℕ) → standing what (p ∷ ps) (p.len + k) ≡ standing what ps k
unfolding standing
in_rest what p ps k =
    let above : p.len ≤ p.len + k = omega arith in
    let back : p.len + k - p.len ≡ k = omega arith in
    rw (le-ltb (p.len + k) p.len above, back)

module _ (line s t : ℕ → ℕ) where
  -- The line's bits from bit o on, and the pairs there, are those of the pieces.
  abbrev pub Are : ℕ → List Piece → Type 0
  Are o ps = (k : ℕ) → k < bits_in ps → (line (o + k) ≡ line_bit ps k) × (s (o + k) ≡ line_s ps k) × (t (o + k) ≡ line_t ps k)

  first_lies : (o : ℕ) (p : Piece) (ps : List Piece) → Are o (p ∷ ps) → Lies line s t p o
  first_lies o p ps are k low high =
      let j = k - p.start in
      let less : j < p.len = omega arith in
      let there = are j (omega arith) in
      let at : o + k - p.start ≡ o + j = omega arith in
      let bit : p.start + j ≡ k = omega arith in (
        ap line at ∙ there.0 ∙ in_first (λ q n. bit_at q.buffer (q.start + n)) p ps j less ∙ ap (bit_at p.buffer) bit,
        ap s at ∙ there.1 ∙ in_first (λ q n. q.s) p ps j less,
        ap t at ∙ there.2 ∙ in_first (λ q n. q.t) p ps j less,
      )

  rest_are : (o : ℕ) (p : Piece) (ps : List Piece) → Are o (p ∷ ps) → Are (o + p.len) ps
  rest_are o p ps are k low =
      let there = are (p.len + k) (omega arith) in
      let at : o + p.len + k ≡ o + (p.len + k) = omega arith in (
        ap line at ∙ there.0 ∙ in_rest (λ q n. bit_at q.buffer (q.start + n)) p ps k,
        ap s at ∙ there.1 ∙ in_rest (λ q n. q.s) p ps k,
        ap t at ∙ there.2 ∙ in_rest (λ q n. q.t) p ps k,
      )

  pub all : {e z : Ear} {o : ℕ} {ps : List Piece} {l : List Told} → Heard e o ps l z → Are o ps
      → (heard line s t e o (bits_in ps) ≡ l) × (after line s t e o (bits_in ps) ≡ z)
  unfolding heard after
  all none are = (refl, refl)
  all {e} {z} {o} (piece {next = f} {p = p} {ps = ps} {l = l} {m = m} one rest) are =
      let here : o + p.start - p.start ≡ o = omega arith in
      let long : p.start + p.len - p.start ≡ p.len = omega arith in
      let h = through line s t p o (first_lies o p ps are) (omega arith) (omega arith) one in
      let first_told : heard line s t e o p.len ≡ l = ap₂ (heard line s t e) (sym here) (sym long) ∙ h.0 in
      let first_ear : after line s t e o p.len ≡ f = ap₂ (after line s t e) (sym here) (sym long) ∙ h.1 in
      let on = all rest (rest_are o p ps are) in
      let two = any_pieces line s t e o p.len (bits_in ps) in (
        two.0 ∙ ap₂ (λ (x : List Told) (g : Ear). x ++ heard line s t g (o + p.len) (bits_in ps)) first_told first_ear ∙ ap (λ (x : List Told). l ++ x) on.0,
        two.1 ∙ ap (λ (g : Ear). after line s t g (o + p.len) (bits_in ps)) first_ear ∙ on.1,
      )
