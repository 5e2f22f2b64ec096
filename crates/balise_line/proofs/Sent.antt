-- What it is for bit p to have the words sent, at their true place; that a telegram is read there
-- as it was sent, and that such places are alike.
-- Assumes nothing.
use mathlib.Core.Path.{◌≡◌, refl, sym, ap₂, ◌∙◌}
use mathlib.Core.Bool.{true, ◌&&◌}
use mathlib.Core.List.{List, [], ◌∷◌}
use Prim.Native.Nat.{ℕ, ◌+◌, ◌%◌, ◌≤◌}
use lib.Dec.{eqb, leb}
use borrow.Author.Tests.{le-leb, leb-true, eqb-true, eq-eqb}
use Rattle.words.specs.Answer.{gives}
use Rattle.words.specs.Plain.{among}
use Rattle.telegram.specs.Stretch.{bits_at}
use Rattle.telegram.specs.Telegram.{Received, telegram}
use Rattle.telegram.specs.Place.{words_at}
use Rattle.telegram.specs.Survey.{same_words, all_as}
use Rattle.balise_line.specs.Line.{OneBalise, Proper, line_bit, sent_at, places_of}
use Rattle.balise_line.proofs.Places.{and_parts, and_true, or_left, or_right}

-- What it says that a telegram was sent at bit p.
pub sent_parts : (o : OneBalise) (p : ℕ) → sent_at o p ≡ true → (o.start ≤ p) × (p + 40 ≤ o.start + o.len) × (line_bit o p % 32 ≡ 0)
unfolding sent_at
sent_parts o p e =
    let h = and_parts (leb o.start p && leb (p + 40) (o.start + o.len)) (eqb (line_bit o p % 32) 0) e in
    let g = and_parts (leb o.start p) (leb (p + 40) (o.start + o.len)) h.0 in
    (leb-true o.start p g.0, leb-true (p + 40) (o.start + o.len) g.1, eqb-true (line_bit o p % 32) 0 h.1)

pub parts_sent : (o : OneBalise) (p : ℕ) → o.start ≤ p → p + 40 ≤ o.start + o.len → line_bit o p % 32 ≡ 0 → sent_at o p ≡ true
unfolding sent_at
parts_sent o p low high straight =
    and_true (and_true (le-leb o.start p low) (le-leb (p + 40) (o.start + o.len) high)) (eq-eqb (line_bit o p % 32) 0 straight)

-- The words received at bit p are the words sent there.
pub record Sent (o : OneBalise) (p : ℕ) : Type 0 where
  pub at_true : sent_at o p ≡ true
  pub x_is : bits_at o.buffer (p + 8) 8 ≡ o.x
  pub y_is : bits_at o.buffer (p + 16) 8 ≡ o.y
  pub z_is : bits_at o.buffer (p + 24) 8 ≡ o.z

-- At every place of the stretch.
abbrev pub AllSent : OneBalise → Type 0
AllSent o = (p : ℕ) → among p (places_of o) ≡ true → Sent o p

pub same_words_law : (o : OneBalise) (p : ℕ) {x y z : ℕ} → bits_at o.buffer (p + 8) 8 ≡ x → bits_at o.buffer (p + 16) 8 ≡ y → bits_at o.buffer (p + 24) 8 ≡ z
    → words_at o.buffer p ≡ telegram x y z
unfolding words_at
same_words_law o p x_is y_is z_is = ap₂ (λ (f : ℕ → Received) (k : ℕ). f k) (ap₂ telegram x_is y_is) z_is

pub read_as_sent : (o : OneBalise) → Proper o → (p : ℕ) → Sent o p → words_at o.buffer p ≡ gives o.telegram
read_as_sent o proper p there = same_words_law o p there.x_is there.y_is there.z_is ∙ proper.valid

-- Places that have the words sent are alike.
pub all_alike : (o : OneBalise) (p : ℕ) → Sent o p → (ps : List ℕ) → ((q : ℕ) → among q ps ≡ true → Sent o q) → all_as o.buffer p ps ≡ true
unfolding all_as same_words
all_alike o p here [] all = refl
all_alike o p here (q ∷ ps) all =
    let there = all q (or_left (among q ps) (eq-eqb q q refl)) in
    let b = o.buffer in
    and_true
    (and_true
    (and_true (eq-eqb (bits_at b (p + 8) 8) (bits_at b (q + 8) 8) (here.x_is ∙ sym there.x_is))
    (eq-eqb (bits_at b (p + 16) 8) (bits_at b (q + 16) 8) (here.y_is ∙ sym there.y_is)))
    (eq-eqb (bits_at b (p + 24) 8) (bits_at b (q + 24) 8) (here.z_is ∙ sym there.z_is)))
    (all_alike o p here ps (λ r within. all r (or_right (eqb r q) within)))
