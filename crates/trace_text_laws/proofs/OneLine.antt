-- A text of one line and its newline, in one block, read with every call in full.
-- Assumes nothing.
use denote.MutBor.{MutBor}
use Prim.Native.Nat.{ℕ}
use mathlib.Core.Path.{◌≡◌, refl}
use mathlib.Core.Bool.{true, false}
use mathlib.Core.List.{List, [], ◌∷◌}
use denote.Ref.{Bor}
use Rattle.lines.specs.declared.Got.{Got}
use Rattle.lines.specs.Text.{beginning}
use Rattle.lines.specs.Reading.{fresh, next_line}
use Rattle.lines_laws.specs.Texts.{line, used, ReadOut}
use Rattle.lines_laws.specs.Texts as reading

-- Bytes that are lent.
abbrev pub lent : List ℕ → Bor (List ℕ)
lent bytes = record { ref_ptr = (0, 0); now = bytes }

-- The same, lent to be written.
abbrev pub lent_out : List ℕ → MutBor (List ℕ)
lent_out bytes = record { ref_ptr = (0, 0); ghost_name = 0; now = bytes }

module _ (text : List ℕ) where
  -- The line, what comes after it in the block, and what stands after the last newline.
  abbrev pub first : Got
  first = next_line fresh text 0

  abbrev pub second : Got
  second = next_line first.reader text first.next

  abbrev pub last : Got
  last = next_line second.reader [] 0

  pub read_out : 0 ≡ beginning text → first.ends ≡ true → second.ends ≡ false → ReadOut text [] (first.line ∷ last.line ∷ [])
  read_out begins ends over =
      record {
        fresh = fresh;
        is_fresh = (tt, refl);
        from = 0;
        begins = (([], tt), lent text, (lent text, tt), refl, begins);
        in_first = first.line ∷ [];
        next = second.reader;
        through = line first (([], tt), lent text, (fresh, (lent text, (0, tt))), refl, refl) ends
            (used second (([], tt), lent text, (first.reader, (lent text, (first.next, tt))), refl, refl) over);
        in_others = [];
        last = second.reader;
        on = reading.none;
        end = last;
        ends = (([], tt), lent [], (second.reader, (lent [], (0, tt))), refl, refl);
        all = refl;
      }
