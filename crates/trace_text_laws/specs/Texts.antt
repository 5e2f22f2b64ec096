-- The text of a trace, there and back: "for every trace of whole records, reading the text of its
-- records gives it back; for every text that is read, the text of what it gives is read as the same
-- records". Shown in proofs/Texts.antt.
-- Assumes nothing.
use Rattle.std.specs.Prelude.{ℕ, ◌+◌, ◌%◌, ◌≤◌, ◌≡◌, List, [], ◌∷◌, ◌++◌, length, take}
use Rattle.words.specs.Answer.{refuses}
use Rattle.lines.specs.declared.TextLine.{TextLine}
use Rattle.lines_laws.specs.Texts.{ReadOut, Enough, joined}
use Rattle.trace_text.specs.declared.What.{What}
use Rattle.trace_text.specs.declared.Said.{Said}
use Rattle.trace_text.specs.declared.MakingWent.{MakingWent}
use Rattle.trace_text.specs.declared.Recorded.{Recorded}
use Rattle.trace_text.specs.Says.{says_making_went}
use Rattle.trace_text_laws.specs.Calls.{ReadLine, RecordOf, ThingAt, PutRecord}
use Rattle.trace_text_laws.specs.Laws.{Bytes}

-- ---- `records`

-- The records of a block, each from the byte after the one before: `thing_at` says what stands
-- there, and `put_record` puts its line, with any number, after the line before; every answer is
-- one that its contract allows. From a byte of the block, a place of the lent buffer and its bytes:
-- where the last line ends, and the buffer then.
pub data Puts (block : List ℕ) : ℕ → ℕ → List ℕ → ℕ → List ℕ → Type 0 where
  one : {from at next end : ℕ} {before between after : List ℕ} (number place : ℕ) (what : What)
      → ThingAt block from (Said.Thing place what) → PutRecord number place what before at next between → Puts block (from + 8) next between end after
      → Puts block from at before end after
  over : {from at : ℕ} {buffer : List ℕ} → length block ≤ from → Puts block from at buffer at buffer

-- Block after block of whole records, 8,192 bytes at most, each into a buffer of 65,536: what is
-- written, one after the other, is the text.
pub data Printed : List (List ℕ) → List ℕ → Type 0 where
  none : Printed [] []
  block : {b before after text : List ℕ} {bs : List (List ℕ)} {end : ℕ} → length b % 8 ≡ 0 → length b ≤ 8192 → length before ≡ 65536
      → Puts b 0 0 before end after → Printed bs text → Printed (b ∷ bs) (take end after ++ text)

-- ---- `trace`

-- What comes of a text: records, or a line that is unreadable, or refused with a number.
pub data Result : Type 0 where
  made : List (List ℕ) → Result
  unreadable : Result
  refused : ℕ → Result

-- A record before those that follow.
abbrev pub before : List ℕ → Result → Result
before r (made rest) = made (r ∷ rest)
before r unreadable = unreadable
before r (refused n) = refused n

-- These bytes are written: the records, one after the other. Of a text with a wrong line none are.
abbrev pub Writes : Result → List ℕ → Type 0
Writes (made records) bytes = joined records ≡ bytes
Writes unreadable bytes = ⊥
Writes (refused n) bytes = ⊥

-- Line after line: `read` says what it says, `record_of` makes its record; the first wrong line
-- decides. Every answer is one that its contract allows.
pub data Comes : List TextLine → Result → Type 0 where
  no_more : Comes [] (made [])
  nothing : {l : TextLine} {ls : List TextLine} {rest : Result} → ReadLine l Said.Nothing → Comes ls rest → Comes (l ∷ ls) rest
  thing : {l : TextLine} {ls : List TextLine} {rest : Result} {place : ℕ} {what : What} (r : Recorded)
      → ReadLine l (Said.Thing place what) → RecordOf place what r → r.how ≡ MakingWent.Made → Comes ls rest → Comes (l ∷ ls) (before r.bytes rest)
  wrong : {l : TextLine} {ls : List TextLine} → ReadLine l Said.Unreadable → Comes (l ∷ ls) unreadable
  bad : {l : TextLine} {ls : List TextLine} {place n : ℕ} {what : What} (r : Recorded)
      → ReadLine l (Said.Thing place what) → RecordOf place what r → says_making_went r.how ≡ refuses n → Comes (l ∷ ls) (refused n)

-- A text in blocks was read, and this came of it.
pub record Taken (text : List ℕ) (result : Result) : Type 0 where
  pub first : List ℕ
  pub others : List (List ℕ)
  pub whole : first ++ joined others ≡ text
  pub enough : Enough first others
  pub lines : List TextLine
  pub read : ReadOut first others lines
  pub comes : Comes lines result

-- ---- there and back

pub record ThereAndBack : Type 0 where
  -- For every trace of whole records, reading the text of its records gives it back, in whatever
  -- blocks it is printed and read.
  pub of_a_trace : (blocks : List (List ℕ)) (text : List ℕ) (result : Result) → Bytes (joined blocks) → Printed blocks text → Taken text result → Writes result (joined blocks)
  -- A text that is read gives whole records,
  pub whole_records : (text : List ℕ) (records : List (List ℕ)) → Taken text (made records) → length (joined records) % 8 ≡ 0
  -- and the text of what it gives is read as the same records.
  pub of_a_text : (text again : List ℕ) (records blocks : List (List ℕ)) (result : Result) → Taken text (made records)
      → joined blocks ≡ joined records → Bytes (joined records) → Printed blocks again → Taken again result → Writes result (joined records)
