-- A line heard piece by piece (document 01, "Contacts and readings"): the contacts of a line and
-- their judgements are those of the whole line in one buffer, and how it is cut into pieces makes
-- no difference.
-- Assumes nothing.
use Rattle.std.specs.Prelude.{ℕ, ◌+◌, ◌-◌, ◌*◌, ◌^◌, ◌≤◌, ◌<◌, ◌≡◌, List, [], ◌∷◌, ◌++◌, ltb, length}
use Rattle.words.specs.Answer.{pick}
use Rattle.telegram.specs.Stretch.{bit_at}
use Rattle.contact.specs.History.{sixteen_ones}
use Rattle.contact.specs.Contacts.{Contacts, contact, quiet, refused, outside, contacts}
use Rattle.contact.specs.Says.{says_judged}
use Rattle.contact.specs.declared.Search.{Search}
use Rattle.contact.specs.declared.Judged.{Judged}
use Rattle.contact_laws.specs.Calls.{Listened, JudgeContact}
use Rattle.antenna.specs.declared.Ear.{Ear}
use Rattle.antenna.specs.declared.Until.{Until}
use Rattle.antenna.specs.Line.{Told, told, placed, judged_all, cut, is_inside}
use Rattle.recording_laws.specs.Calls.{FreshEar, HearPiece}

-- ---- the pieces of a line

-- A piece of the line: a stretch of a lent buffer, with the sync pair for a contact that opens in
-- it.
pub record Piece : Type 0 where
  pub buffer : List ℕ
  pub start : ℕ
  pub len : ℕ
  pub s : ℕ
  pub t : ℕ

-- How many bits pieces have.
abbrev pub bits_in : List Piece → ℕ
bits_in [] = 0
bits_in (p ∷ ps) = p.len + bits_in ps

-- What stands at bit k of the line, by the piece in which it lies and its number there.
unfoldable pub standing : (Piece → ℕ → ℕ) → List Piece → ℕ → ℕ
standing what [] k = 0
standing what (p ∷ ps) k = pick (ltb k p.len) (what p k) (standing what ps (k - p.len))

-- Bit k itself, and the sync pair given with it.
abbrev pub line_bit : List Piece → ℕ → ℕ
line_bit = standing (λ p k. bit_at p.buffer (p.start + k))

abbrev pub line_s : List Piece → ℕ → ℕ
line_s = standing (λ p k. p.s)

abbrev pub line_t : List Piece → ℕ → ℕ
line_t = standing (λ p k. p.t)

-- ---- calls

-- `hear_piece` is asked on and on over a piece, whose first bit is bit o of the line, each time
-- with the ear and from the bit after what came before; every answer is one that its contract
-- allows. From an ear and a bit: what is handed out, and the ear at the piece's end.
pub data Through (p : Piece) (o : ℕ) : Ear → ℕ → List Told → Ear → Type 0 where
  opens : {ear next last : Ear} {i at : ℕ} {l : List Told}
      → HearPiece ear p.buffer i (p.start + p.len - i) p.s p.t (Until.Opened next at) → Through p o next (at + 1) l last → Through p o ear i l last
  closes : {ear next last : Ear} {i at length : ℕ} {l : List Told} (judged : Judged)
      → HearPiece ear p.buffer i (p.start + p.len - i) p.s p.t (Until.Closed next at length judged) → Through p o next (at + 1) l last
      → Through p o ear i (told (o + at - p.start - length) length (placed (o + at - p.start - length) (says_judged judged)) ∷ l) last
  ends : {ear last : Ear} {i : ℕ} → HearPiece ear p.buffer i (p.start + p.len - i) p.s p.t (Until.Over last) → Through p o ear i [] last

-- Piece after piece, from bit o of the line on.
pub data Heard : Ear → ℕ → List Piece → List Told → Ear → Type 0 where
  none : {ear : Ear} {o : ℕ} → Heard ear o [] [] ear
  piece : {ear next last : Ear} {o : ℕ} {p : Piece} {ps : List Piece} {l m : List Told}
      → Through p o ear p.start l next → Heard next (o + p.len) ps m last → Heard ear o (p ∷ ps) (l ++ m) last

-- Each contact judged by `judge`, with the sync pair given at its first bit; every answer is one
-- that its contract allows.
pub data Judges (b : List ℕ) (s t : ℕ → ℕ) : Contacts → List Told → Type 0 where
  each : {start len : ℕ} {then : Search} {rest : Contacts} {l : List Told} (judged : Judged)
      → JudgeContact b start len (s start) (t start) judged → Judges b s t rest l
      → Judges b s t (contact start len then rest) (told start len (says_judged judged) ∷ l)
  no_more : Judges b s t quiet []
  refused_with : {n : ℕ} → Judges b s t (refused n) []

-- The buffer b begins with the line of these pieces.
pub record InOne (b : List ℕ) (ps : List Piece) : Type 0 where
  pub long : bits_in ps ≤ 8 * length b
  pub bits : (k : ℕ) → k < bits_in ps → bit_at b k ≡ line_bit ps k

-- ---- what is promised

pub record AsInOneBuffer : Type 0 where
  -- Heard in any pieces, a line hands out the contacts that `begin` and `next_contact` hand out for
  -- the whole line in one buffer, each as `judge` judges it there; and the ear is inside a contact
  -- at the end exactly if refusal 9 cuts one.
  pub by_calls : (fresh last : Ear) (ps : List Piece) (l judged : List Told) (b : List ℕ) (w : Contacts) → FreshEar fresh → Heard fresh 0 ps l last
      → InOne b ps → Listened b 0 (bits_in ps) w → Judges b (line_s ps) (line_t ps) w judged
      → (l ≡ judged) × (is_inside last.stand ≡ cut w)
  -- Beyond 16,777,216 bits no buffer is taken (5): there it is the contacts and judgements of
  -- document 01, by their definitions.
  pub by_definition : (fresh last : Ear) (ps : List Piece) (l : List Told) (b : List ℕ) → FreshEar fresh → Heard fresh 0 ps l last
      → InOne b ps → bits_in ps < 2 ^ 64
      → (l ≡ judged_all b (line_s ps) (line_t ps) (contacts b outside sixteen_ones 0 (bits_in ps)))
      × (is_inside last.stand ≡ cut (contacts b outside sixteen_ones 0 (bits_in ps)))

pub record AnyPieces : Type 0 where
  -- Two ways to cut the same bits, with the same pairs, hand out the same and leave the same ear,
  -- whatever ear they begin with.
  pub alike : (ear last last' : Ear) (o : ℕ) (ps qs : List Piece) (l m : List Told) → Heard ear o ps l last → Heard ear o qs m last' → bits_in ps ≡ bits_in qs
      → ((k : ℕ) → k < bits_in ps → (line_bit ps k ≡ line_bit qs k) × (line_s ps k ≡ line_s qs k) × (line_t ps k ≡ line_t qs k))
      → (l ≡ m) × (last ≡ last')
  -- An empty piece hands out nothing and leaves the ear as it was.
  pub nothing : (ear last : Ear) (o : ℕ) (p : Piece) (l : List Told) → p.len ≡ 0 → Heard ear o (p ∷ []) l last → (l ≡ []) × (last ≡ ear)
