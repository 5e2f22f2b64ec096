-- What the program writes for a trace (document 01, "One ride in full"), and that ride.
-- "The program writes, one line each and nothing else"; "trace refused 16 as the only line for a
-- bad trace length".
-- Assumes nothing.
use Rattle.std.specs.Prelude.{ℕ, ◌+◌, ◌*◌, ◌/◌, ◌≤◌, ◌<◌, ◌≡◌, true, false, List, [], ◌∷◌, ◌++◌, length, take, drop, Ok}
use Rattle.words.specs.Answer.{pick}
use Rattle.words.specs.Limits.{largest64}
use Rattle.group_rows.specs.declared.Direction.{Direction}
use Rattle.group_rows.specs.declared.Kind.{Kind}
use Rattle.group.specs.declared.Number.{Number}
use Rattle.group.specs.declared.Told.{Told}
use Rattle.settings.specs.declared.Begun.{Begun}
use Rattle.settings.specs.declared.Store.{Store}
use Rattle.settings.specs.At.{gap_at}
use Rattle.ride.specs.State.{fresh_ride}
use Rattle.ride.specs.Step.{end}
use Rattle.ride.specs.Over.{records, Ridden, ride_over}
use Rattle.ride.specs.Says.{says_lines}
use Rattle.ride.specs.declared.Ended.{Ended}
use Rattle.ride.specs.declared.Line.{Line}
use Rattle.ride.specs.declared.Linking.{Linking}
use Rattle.ride.specs.declared.Mark.{Mark}
use Rattle.ride.specs.declared.Ran.{Ran}
use Rattle.ride.specs.declared.Ride.{Ride}
use Rattle.text.specs.Put.{placed}
use Rattle.ride_text.specs.Text.{codes, text, text_of}
use Rattle.ride_text.specs.Style.{plain}
use Rattle.ride_text.specs.declared.Listed.{Listed}
use Rattle.demands.specs.Table.{bad_length, not_seven}
use Rattle.demands.specs.ByContract.{Fresh, EndOf, RunOver, PutLine, ListInto}
use Rattle.demands.specs.Stores.{BeginStore, Good}

-- "The program's gap is 40": a store that `begin` opened with it and any good pair.
pub record Forty (store : Store) : Type 0 where
  pub s : ℕ
  pub t : ℕ
  pub begun : Begun
  pub pair : not_seven s t ≡ false
  pub opened : BeginStore 40 s t begun
  pub is : begun.store ≡ store

-- The ride over all records of a trace, from a fresh ride: "The program's gap is 40."
abbrev pub ridden : List ℕ → Ridden
ridden trace = ride_over (λ odometer. 40) fresh_ride 1 (records trace)

-- What the program writes: the lines of the records and then those of the end, as text; or that the
-- trace is refused.
unfoldable pub output : List ℕ → List ℕ
output trace = pick (bad_length trace) (text_of (Line.Trace 16 ∷ [])) (text_of ((ridden trace).lines ++ (end (ridden trace).ride).lines))

-- How many records a trace has.
abbrev pub records_in : List ℕ → ℕ
records_in trace = length trace / 8

-- A line, and how document 01 writes it.
pub record Quoted : Type 0 where
  pub line : Line
  pub reads : List ℕ

-- "Other lines read": with either direction, each kind and each mark among them.
abbrev pub quoted : List Quoted
quoted =
    record { line = Line.Group (record { place = 1000; direction = Direction.Opposite; kind = Kind.Signal; mark = Mark.Unmarked; number = Number.None }); reads = codes "1000 opposite signal\n" }
    ∷ record { line = Line.Group (record { place = 1000; direction = Direction.Present; kind = Kind.Route; mark = Mark.Unmarked; number = Number.None }); reads = codes "1000 present route\n" }
    ∷ record { line = Line.Group (record { place = 1000; direction = Direction.Present; kind = Kind.Warning; mark = Mark.Unmarked; number = Number.None }); reads = codes "1000 present warning\n" }
    ∷ record { line = Line.Group (record { place = 1000; direction = Direction.Opposite; kind = Kind.Annulled; mark = Mark.Unmarked; number = Number.None }); reads = codes "1000 opposite annulled\n" }
    ∷ record { line = Line.Group (record { place = 1000; direction = Direction.Opposite; kind = Kind.Line; mark = Mark.Unmarked; number = Number.None }); reads = codes "1000 opposite line\n" }
    ∷ record { line = Line.Group (record { place = 1000; direction = Direction.Present; kind = Kind.Signal; mark = Mark.Early; number = Number.None }); reads = codes "1000 present signal early\n" }
    ∷ record { line = Line.Group (record { place = 1000; direction = Direction.Present; kind = Kind.Signal; mark = Mark.Good; number = Number.None }); reads = codes "1000 present signal good\n" }
    ∷ record { line = Line.Group (record { place = 1000; direction = Direction.Present; kind = Kind.Signal; mark = Mark.Late; number = Number.None }); reads = codes "1000 present signal late\n" }
    -- "a signal line of either direction with a number ends like ` n1612`"
    ∷ record { line = Line.Group (record { place = 6410; direction = Direction.Present; kind = Kind.Signal; mark = Mark.Late; number = Number.Figure 17 }); reads = codes "6410 present signal late n17\n" }
    ∷ record { line = Line.Group (record { place = 11030; direction = Direction.Opposite; kind = Kind.Signal; mark = Mark.Unmarked; number = Number.Figure 1612 }); reads = codes "11030 opposite signal n1612\n" }
    ∷ record { line = Line.Trace 16; reads = codes "trace refused 16\n" }
    ∷ record { line = Line.Fault 1000 13; reads = codes "1000 fault 13\n" }
    ∷ record { line = Line.Record 3 17; reads = codes "record 3 refused 17\n" }
    ∷ []

-- Each line of a list reads so.
abbrev pub AllQuoted : List Quoted → Type 0
AllQuoted [] = Unit {0}
AllQuoted (q ∷ qs) = (text q.line ≡ q.reads) × AllQuoted qs

-- What `list` without reasons comes to, from any ride, number and room, with the gap that a rule
-- gives for each record's odometer: so many records are taken, one at least where there is one and
-- room for 128 bytes, and all where there is room for 128 bytes each; the bytes that it says it
-- wrote are the text of their lines; the ride and the number are those after them; the buffer's
-- other bytes stay.
pub record Takes (gaps : ℕ → ℕ) (ride : Ride) (number : ℕ) (trace before : List ℕ) (l : Listed) (after : List ℕ) : Type 0 where
  pub n : ℕ
  pub bytes : ℕ
  pub took : l.done ≡ Ok (record { records = n; bytes = bytes })
  pub of_these : n ≤ records_in trace
  pub one_at_least : 1 ≤ records_in trace → 128 ≤ length before → number < largest64 → 1 ≤ n
  pub all_with_room : 128 * records_in trace ≤ length before → number + records_in trace ≤ largest64 → n ≡ records_in trace
  pub written : take bytes after ≡ text_of (ride_over gaps ride number (take n (records trace))).lines
  pub rest_stays : drop bytes after ≡ drop bytes before
  pub ridden_so : l.ride ≡ (ride_over gaps ride number (take n (records trace))).ride
  pub counted_on : l.number ≡ number + n

-- The library's functions come to what the program is to write. (The program lists card after card
-- and block after block: that these join to one listing is specs/Sections.antt. Its reads and
-- writes are not proved: docs/EXCEPTIONS.md.)
pub record Written : Type 0 where
  -- `put_line` puts a line's text where it has room, and says where it ends; else it leaves the
  -- buffer
  pub puts : (line : Line) (before : List ℕ) (at : ℕ) (r : ℕ) (after : List ℕ) → PutLine line before at r after
      → at + length (text line) ≤ length before → (r ≡ at + length (text line)) × (after ≡ placed (text line) before at)
  pub no_room : (line : Line) (before : List ℕ) (at : ℕ) (r : ℕ) (after : List ℕ) → PutLine line before at r after
      → length before < at + length (text line) → (r ≡ at) × (after ≡ before)
  -- document 01's lines, to the letter
  pub quotes : AllQuoted quoted
  -- `list` takes records and writes their lines
  pub takes : (ride : Ride) (store : Store) (number : ℕ) (trace before : List ℕ) (l : Listed) (after : List ℕ) → Good store → bad_length trace ≡ false
      → ListInto plain ride store number trace before l after → Takes (gap_at store) ride number trace before l after
  -- with room for 128 bytes a record it takes them all, and with the lines of `end` its bytes are
  -- the output, under a store of the program's gap
  pub whole : (store : Store) (f : Ride) (l : Listed) (e : Ended) (trace before after : List ℕ) → Forty store → bad_length trace ≡ false → records_in trace < largest64
      → 128 * records_in trace ≤ length before → Fresh f → ListInto plain f store 1 trace before l after → EndOf l.ride e
      → (bytes : ℕ) × (l.done ≡ Ok (record { records = records_in trace; bytes = bytes })) × (take bytes after ++ text_of (says_lines e.lines) ≡ output trace)
  -- for a bad trace length the output is the one line
  pub refused : (trace : List ℕ) → bad_length trace ≡ true → output trace ≡ text (Line.Trace 16)

-- "Records: 000003E8 00 17 8E 5A / 00000406 00 99 2B 4D / 00001770 03 00 00 00."
abbrev pub one_ride : List ℕ
one_ride =
    0x00 ∷ 0x00 ∷ 0x03 ∷ 0xE8 ∷ 0x00 ∷ 0x17 ∷ 0x8E ∷ 0x5A
    ∷ 0x00 ∷ 0x00 ∷ 0x04 ∷ 0x06 ∷ 0x00 ∷ 0x99 ∷ 0x2B ∷ 0x4D
    ∷ 0x00 ∷ 0x00 ∷ 0x17 ∷ 0x70 ∷ 0x03 ∷ 0x00 ∷ 0x00 ∷ 0x00
    ∷ []

-- "The program writes, one line each and nothing else"
abbrev pub its_lines : List ℕ
its_lines = codes "1000 present signal first\n5800 missed\n"

-- What document 01 says of its ride: the lines, "Main speed 130, target 80", and that linking has
-- ended with the missed signal. Its signal has no number balise, so the number is none.
pub record OneRide : Type 0 where
  pub writes : output one_ride ≡ its_lines
  pub known : (store : Store) (f : Ride) (r : Ran) → Forty store → Fresh f → RunOver f store one_ride r
      → (r.ride.known.main ≡ Told.Kmh 130) × (r.ride.known.target ≡ Told.Kmh 80) × (r.ride.known.linking ≡ Linking.Unset)
      × (r.ride.known.number ≡ Number.None)
  -- all its bytes come from `list`, and the end adds none
  pub listed : (store : Store) (f : Ride) (l : Listed) (before after : List ℕ) → Forty store → Fresh f → 384 ≤ length before
      → ListInto plain f store 1 one_ride before l after → after ≡ its_lines ++ drop (length its_lines) before
  pub no_more : (store : Store) (f : Ride) (r : Ran) (e : Ended) → Forty store → Fresh f → RunOver f store one_ride r → EndOf r.ride e
      → says_lines e.lines ≡ []
