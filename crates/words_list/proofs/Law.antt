-- What stands in the list reads as the figure at which it stands, and every code word stands in it.
-- Assumes nothing.
use mathlib.Core.Path.{◌≡◌, refl, sym, ap, ◌∙◌}
use mathlib.Core.Bool.{Bool, true, false}
use Prim.Native.Nat.{ℕ, ◌%◌, ◌^◌, ◌<◌}
use native.Mathlib.Omega.{arith}
use lib.ListN.{get_or}
use Rattle.words.specs.Answer.{gives}
use Rattle.words.specs.Plain.{is_check, is_code, figure, carriers}
use Rattle.words.specs.Code.{exchanged, read_long}
use Rattle.words.proofs.Answers.{accepted}
use Rattle.words.proofs.Laws.{reads_back, writes_back, figure_small}
use Rattle.words.proofs.Widths.{long}
use Rattle.words_list.specs.Listed.{list}
use Rattle.words_list.proofs.Entries.{entry}

-- The long code carries eleven bits, so its figures are those below 2,048.
within : (x : ℕ) → x < 2048 → x < 2 ^ carriers 16
unfolding carriers is_check
within x l = omega arith

without : (x : ℕ) → x < 2 ^ carriers 16 → x < 2048
unfolding carriers is_check
without x l = omega arith

-- A word that stands at the figure x reads x.
pub listed_reads : (x w : ℕ) → x < 2048 → get_or list x 0 ≡ w → read_long w ≡ gives x
listed_reads x w l e = ap read_long (sym e ∙ entry x l) ∙ reads_back long x (within x l)

-- A word that reads x stands at the figure x.
pub read_listed : (w x : ℕ) → w < 65536 → read_long w ≡ gives x → (x < 2048) × (get_or list x 0 ≡ w)
read_listed w x small e =
    let l : x < 2048 = without x (figure_small 16 w x e) in
    (l, entry x l ∙ writes_back long w x small e)

-- A word that stands nowhere is no code word.
pub not_listed : (w : ℕ) → w < 65536 → ((x : ℕ) → x < 2048 → get_or list x 0 ≡ w → ⊥) → is_code 16 (exchanged 16 w) ≡ false
not_listed w small none = go (is_code 16 (exchanged 16 w)) refl
  where
    go : (t : Bool) → is_code 16 (exchanged 16 w) ≡ t → is_code 16 (exchanged 16 w) ≡ false
    go false e = e
    go true e =
        let x : ℕ = figure 16 (exchanged 16 w) in
        let at = read_listed w (x % 2 ^ 16) small (sym (accepted 16 w true (sym e) x refl refl)) in
        absurd (none (x % 2 ^ 16) at.0 at.1)
