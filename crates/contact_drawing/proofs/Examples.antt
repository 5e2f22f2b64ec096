-- A contact whose drawing has two boxes, computed, and a call of `draw`: what the laws ask for is
-- there.
-- Assumes nothing.
use Prim.Native.Nat.{ℕ, suc, ◌+◌, ◌-◌, ◌/◌, ◌%◌, ◌^◌}
use mathlib.Core.Path.{◌≡◌, refl, ap, ap₂, ◌∙◌}
use mathlib.Core.Bool.{true}
use mathlib.Core.List.{List, [], ◌∷◌}
use native.Mathlib.Omega.{arith}
use lib.ListN.{length, get_or, replicate, length-replicate}
use Rattle.words.specs.Bits.{word, ones_of}
use Rattle.words.specs.Why.{parity}
use Rattle.words.specs.Plain.{is_check, covers, count, even, is_code, onwards, figure}
use Rattle.words.specs.Code.{other, exchanged, read_word}
use Rattle.text.specs.Text.{codes, digits, decimal}
use Rattle.text.specs.Pieces.{puts, whole}
use Rattle.telegram.specs.Stretch.{bit_at, bits_at, inside}
use Rattle.telegram.specs.Sync.{differing, is_good}
use Rattle.telegram.specs.Telegram.{short_word, long_word, telegram}
use Rattle.telegram.specs.Place.{are_syncs, words_at, is_place, from, those, places}
use Rattle.contact.specs.declared.Judged.{Judged}
use Rattle.antenna_text.specs.Lines.{shown}
use Rattle.contact_drawing.specs.Strips.{drawn, boxes, boxed, telegrams, strips}
use Rattle.contact_drawing.specs.Laws.{drawn_places, boxes_at, Holds, Call, Allowed, Lent}
use Rattle.contact_drawing.proofs.Boxed.{boxed_at}

-- Two telegrams that share a sync word, and a line that has them from bit 8 on.
abbrev two : List ℕ
two = 0x72 ∷ 0x17 ∷ 0x8e ∷ 0x5a ∷ 0x0d ∷ 0x99 ∷ 0x2b ∷ 0x4d ∷ 0x72 ∷ []

abbrev line : List ℕ
line = 0xff ∷ two

good : is_good 0x72 0x0d ≡ true
unfolding is_good differing
good = refl

bit_later : (i : ℕ) → bit_at two (0 + i) ≡ bit_at line (8 + i)
bit_later i =
    let same : 0 + i ≡ i = omega arith in
    let byte : suc (i / 8) ≡ (8 + i) / 8 = omega arith in
    let place : i % 8 ≡ (8 + i) % 8 = omega arith in
    ap (bit_at two) same ∙ ap₂ (λ (k m : ℕ). get_or line k 0 / 2 ^ (7 - m) % 2) byte place

pub held : Holds two 0 line 8 (drawn 72)
unfolding inside drawn
held = record { bits = λ i less. bit_later i; taken = refl }

found : drawn_places line 8 72 0x72 0x0d ≡ 8 ∷ 40 ∷ []
unfolding drawn_places drawn places those from is_place are_syncs words_at bits_at telegram short_word long_word read_word parity ones_of is_code even count covers exchanged other word figure onwards is_check
found = refl

spelt : whole (boxes_at line 8 0x72 (8 ∷ 40 ∷ [])) ≡ codes "<use href='#t1' x='0'/><text y='62' x='0'>8</text>\n<use href='#t2' x='128'/><text y='62' x='128'>40</text>\n"
unfolding boxes_at boxed boxes bits_at shown decimal digits
spelt = refl

pub two_boxes : whole (telegrams two 0 8 (drawn 72) 0x72 0x0d)
    ≡ codes "<use href='#t1' x='0'/><text y='62' x='0'>8</text>\n<use href='#t2' x='128'/><text y='62' x='128'>40</text>\n"
two_boxes = ap whole (boxed_at.at_places line two 0 8 72 0x72 0x0d good held ∙ ap (boxes_at line 8 0x72) found) ∙ spelt

-- A call with the buffer that the program lends.
module _ (before : List ℕ) where
  abbrev pub call : Call
  call =
      let pieces : List (List ℕ) = strips 80 72 Judged.Neither two 0 0x72 0x0d in
      record {
        end = 80;
        bits = 72;
        judged = Judged.Neither;
        kept = two;
        first = 0;
        s = 0x72;
        t = 0x0d;
        before = before;
        at = 0;
        next = (puts pieces before 0).next;
        after = (puts pieces before 0).buffer;
      }

  pub called : length before ≡ 262144 → Allowed call × Lent call × Holds call.kept call.first line (call.end - call.bits) (drawn call.bits)
  called room = (refl, record { room = room; used = omega arith }, held)

pub lent : length {A = ℕ} (replicate 262144 0) ≡ 262144
lent = length-replicate {A = ℕ} 262144 0
