-- What `listen` writes: whatever the pieces in which a line comes, the lines are those of document
-- 01's contacts of the whole line, each judged, and of its end.
-- Assumes nothing.
use Rattle.std.specs.Prelude.{ℕ, ◌+◌, ◌-◌, ◌^◌, ◌<◌, ◌≡◌, List, ◌++◌}
use Rattle.contact.specs.History.{sixteen_ones}
use Rattle.contact.specs.Contacts.{outside, Contacts, contacts}
use Rattle.contact.specs.Says.{says_judged}
use Rattle.contact.specs.declared.Judged.{Judged}
use Rattle.antenna.specs.declared.Ear.{Ear}
use Rattle.antenna.specs.Line.{Told, told, placed, judged_all, cut, is_inside}
use Rattle.antenna_text.specs.Lines.{told_line, closed_before, told_lines, end_line}
use Rattle.recording_laws.specs.Calls.{FreshEar}
use Rattle.recording_laws.specs.Hearing.{Piece, bits_in, line_s, line_t, Heard, InOne}

-- The contacts of the first n bits of a buffer.
abbrev pub contacts_of : List ℕ → ℕ → Contacts
contacts_of b n = contacts b outside sixteen_ones 0 n

-- Their listing, with the sync pair given at each bit: a line for each contact as it is judged, and
-- `refused 9` where one is cut by the end.
unfoldable pub listing : List ℕ → (ℕ → ℕ) → (ℕ → ℕ) → ℕ → List ℕ
listing b s t n = told_lines (judged_all b s t (contacts_of b n)) ++ end_line (cut (contacts_of b n))

pub record Listening : Type 0 where
  -- `fresh` and `hear_piece` are called as `Heard` says, every answer one that their contracts
  -- allow. The lines of the contacts handed out, and of the end, are the listing of the whole line.
  pub whole : (fresh last : Ear) (ps : List Piece) (l : List Told) (b : List ℕ) → FreshEar fresh → Heard fresh 0 ps l last → InOne b ps → bits_in ps < 2 ^ 64
      → told_lines l ++ end_line (is_inside last.stand) ≡ listing b (line_s ps) (line_t ps) (bits_in ps)
  -- What `put_closed` puts for an answer, with the bit of the line that closes, is the line of the
  -- contact handed out there.
  pub each : (o at length : ℕ) (judged : Judged) → told_line (closed_before (o + at) length judged) ≡ told_line (told (o + at - length) length (placed (o + at - length) (says_judged judged)))
