-- No false reading, of a line that comes in pieces: what the antenna reads over one balise,
-- whatever noise falls on the line, up to so many flips in forty bits.
-- Assumes nothing.
use Rattle.std.specs.Prelude.{ℕ, ◌-◌, ◌<◌, ◌≡◌, List, [], ◌∷◌, get_or}
use Rattle.words.specs.Answer.{gives}
use Rattle.telegram.specs.declared.Telegram.{Telegram}
use Rattle.balise_line.specs.Line.{OneBalise, Proper}
use Rattle.balise_line.specs.Forty.{EqualBit}
use Rattle.contact.specs.Judge.{read}
use Rattle.antenna.specs.declared.Ear.{Ear}
use Rattle.antenna.specs.Line.{Told, told}
use Rattle.noise_laws.specs.Pass.{NoisyPass}
use Rattle.noise_laws.specs.Reading.{allowed}
use Rattle.recording_laws.specs.Calls.{FreshEar}
use Rattle.recording_laws.specs.Hearing.{Piece, bits_in, line_s, line_t, Heard, InOne}

-- Every bit of the line is given with the balise's sync pair.
abbrev pub WithItsPair : OneBalise → List Piece → Type 0
WithItsPair o ps = (k : ℕ) → k < bits_in ps → (line_s ps k ≡ o.s) × (line_t ps k ≡ o.t)

-- Each of the contacts handed out, if it is read as a telegram, reads the one sent. (Of refusals
-- nothing is said.)
abbrev pub AllTheSent : OneBalise → List Told → Type 0
AllTheSent o [] = Unit
AllTheSent o (told start len judgement ∷ l) =
    ((m : Telegram) (first count : ℕ) → judgement ≡ gives (read (gives m) first count) → m ≡ o.telegram) × AllTheSent o l

-- One balise is passed, at any phase, for any length, and its line is heard piece by piece, however
-- it is cut, with the balise's sync pair. If no forty bits of the line in a row, quiet parts
-- included, hold more flips than the pair's equal bit allows, every contact that is handed out as
-- read reads the telegram sent.
abbrev pub NoFalseReadingInPieces : Type 0
NoFalseReadingInPieces =
    (o : OneBalise) → Proper o → (k : ℕ) → EqualBit o k → (ps : List Piece) → InOne o.buffer ps → WithItsPair o ps
    → NoisyPass (get_or allowed (k - 1) 0) o 0 (bits_in ps)
    → (fresh last : Ear) (l : List Told) → FreshEar fresh → Heard fresh 0 ps l last → AllTheSent o l
