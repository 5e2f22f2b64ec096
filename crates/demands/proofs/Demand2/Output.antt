-- A listing of all records, and then the end, is what the program writes.
-- Assumes nothing.
use Rattle.std.specs.Prelude.{Ok}
use Prim.Native.Nat.{ℕ, ◌+◌, ◌-◌, ◌*◌, ◌%◌, ◌≤◌, ◌<◌}
use native.Mathlib.Omega.{arith}
use mathlib.Core.Path.{◌≡◌, refl, sym, ap, ap₂, ◌∙◌}
use mathlib.Core.Bool.{Bool, true, false}
use mathlib.Core.List.{List, [], ◌∷◌, ◌++◌, map}
use lib.Dec.{eqb}
use lib.ListN.{length, take, drop}
use lib.Seq.{take_all, take_at}
use borrow.Author.Tests.{not-false}
use Rattle.words.specs.Answer.{gives, pick}
use Rattle.words.specs.Limits.{largest64}
use Rattle.words.proofs.Told.{told}
use Rattle.settings.specs.declared.Store.{Store}
use Rattle.ride.specs.State.{fresh_ride}
use Rattle.ride.specs.Step.{End, end}
use Rattle.ride.specs.Over.{records}
use Rattle.ride.specs.Says.{says_lines}
use Rattle.ride.specs.declared.Line.{Line}
use Rattle.ride.specs.declared.Ride.{Ride}
use Rattle.ride.proofs.Cutting.{records_length}
use Rattle.text.specs.Put.{placed, Put, put, came}
use Rattle.text.proofs.Standing.{stands, no_room}
use Rattle.ride_text.specs.Style.{plain}
use Rattle.ride_text.specs.Text.{text_with, text, text_of, seen, decimal, digits}
use Rattle.ride_text.specs.List.{Listing, list_of, list_taken, list}
use Rattle.ride_text.specs.Says.{says_done}
use Rattle.ride_text.specs.declared.Listed.{Listed}
use Rattle.ride_text.proofs.Judging.{list_taken_law}
use Rattle.ride_text.proofs.SameLines.{plainly, plain_listed}
use Rattle.ride_text.proofs.Taken.{all_taken}
use Rattle.ride_text.proofs.Texts.{text_one, text_join}
use Rattle.ride_text.proofs.Determined as listing_is
use Rattle.demands.specs.Table.{bad_length}
use Rattle.demands.specs.ByContract.{Fresh, PutLine, ListInto}
use Rattle.demands.specs.Output.{Forty, ridden, output, records_in, Quoted, quoted, AllQuoted, Written}
use Rattle.demands.proofs.Common.OneVersion.{forty_so}
use Rattle.demands.proofs.Demand2.Taking.{at_first, takes_so}

-- ---- the listing

-- the text of all records' lines
abbrev pub all_text : List ℕ → List ℕ
all_text trace = text_of (ridden trace).lines

abbrev listing : List ℕ → List ℕ → Listing
listing trace before =
    record {
      answer = gives (record { records = records_in trace; bytes = length (all_text trace) });
      ride = (ridden trace).ride;
      number = 1 + records_in trace;
      out = placed (all_text trace) before 0;
    }

all_listed : (trace before : List ℕ) → records_in trace < largest64 → 128 * records_in trace ≤ length before
    → list_taken plain (λ odometer. 40) fresh_ride 1 (records trace) before ≡ listing trace before
all_listed trace before small enough =
    let many : length (records trace) ≡ records_in trace = records_length (records_in trace) trace in
    let fit : length (records trace) * 128 ≤ length before = omega arith in
    let few : 1 + length (records trace) ≤ largest64 = omega arith in
    ap (λ (k : ℕ). list_of plain (λ odometer. 40) fresh_ride 1 k (records trace) before) (all_taken plain (λ odometer. 40) (records trace) fresh_ride 1 (length before) fit few ∙ many)
    ∙ plain_listed (λ odometer. 40) fresh_ride 1 (records_in trace) (records trace) before
    ∙ ap (λ (rs : List (List ℕ)). plainly (λ odometer. 40) fresh_ride 1 (records_in trace) rs before) (take_all (records_in trace) (records trace) (omega arith))

-- What `list` answers under a store of the program's gap, where all records have room.
pub listed_so : (store : Store) (f : Ride) (l : Listed) (trace before after : List ℕ) → Forty store → bad_length trace ≡ false → records_in trace < largest64
    → 128 * records_in trace ≤ length before → Fresh f → ListInto plain f store 1 trace before l after
    → (l.done ≡ Ok (record { records = records_in trace; bytes = length (all_text trace) })) × (l.ride ≡ (ridden trace).ride)
    × (after ≡ all_text trace ++ drop (length (all_text trace)) before)
unfolding bad_length
listed_so store f l trace before after forty good small enough fresh c =
    let gap = forty_so store forty in
    let is = c.7 ∙ ap₂ (λ (v w : List ℕ). list plain f store 1 v w) c.4 c.5 ∙ ap (λ (g : Ride). list plain g store 1 trace before) fresh.1
    ∙ sym (list_taken_law plain fresh_ride store 1 trace before gap.0 (not-false (eqb (length trace % 8) 0) good))
    ∙ ap (λ (gaps : ℕ → ℕ). list_taken plain gaps fresh_ride 1 (records trace) before) gap.1
    ∙ all_listed trace before small enough in (
      told says_done listing_is.done_of listing_is.done_back l.done (Ok (record { records = records_in trace; bytes = length (all_text trace) })) (ap (λ (v : Listing). v.answer) is) refl,
      ap (λ (v : Listing). v.ride) is,
      sym c.6 ∙ ap (λ (v : Listing). v.out) is ∙ at_first (all_text trace) before,
    )

-- ---- the output

pub output_whole : (trace : List ℕ) → bad_length trace ≡ false → output trace ≡ all_text trace ++ text_of (end (ridden trace).ride).lines
unfolding output
output_whole trace good =
    ap (λ (t : Bool). pick t (text_of (Line.Trace 16 ∷ [])) (text_of ((ridden trace).lines ++ (end (ridden trace).ride).lines))) good
    ∙ text_join (ridden trace).lines (end (ridden trace).ride).lines

output_refused : (trace : List ℕ) → bad_length trace ≡ true → output trace ≡ text (Line.Trace 16)
unfolding output
output_refused trace bad =
    ap (λ (t : Bool). pick t (text_of (Line.Trace 16 ∷ [])) (text_of ((ridden trace).lines ++ (end (ridden trace).ride).lines))) bad
    ∙ sym (text_one (Line.Trace 16))

-- ---- one line

put_so : (line : Line) (before : List ℕ) (at r : ℕ) (after : List ℕ) → PutLine line before at r after → came r after ≡ put (text line) before at
put_so line before at r after c = ap (came r) (sym c.4) ∙ c.5 ∙ ap (λ (v : List ℕ). put (text line) v at) c.3

puts_so : (line : Line) (before : List ℕ) (at r : ℕ) (after : List ℕ) → PutLine line before at r after → at + length (text line) ≤ length before
    → (r ≡ at + length (text line)) × (after ≡ placed (text line) before at)
puts_so line before at r after c fits = (stands fits (put_so line before at r after c)).put

no_room_so : (line : Line) (before : List ℕ) (at r : ℕ) (after : List ℕ) → PutLine line before at r after → length before < at + length (text line)
    → (r ≡ at) × (after ≡ before)
no_room_so line before at r after c full =
    let e = put_so line before at r after c ∙ sym (no_room (text line) before at full) in
    (ap (λ (p : Put). p.next) e, ap (λ (p : Put). p.buffer) e)

-- The lines that document 01 quotes, computed at once.
each : (qs : List Quoted) → map (λ q. text q.line) qs ≡ map (λ q. q.reads) qs → AllQuoted qs
each [] e = tt
each (q ∷ qs) e =
    let here : text q.line ≡ q.reads = cc in
    let rest : map (λ q. text q.line) qs ≡ map (λ q. q.reads) qs = cc in
    (here, each qs rest)

all_quoted : AllQuoted quoted
unfolding text_with seen decimal digits
all_quoted = each quoted refl

pub written : Written
written = record {
  puts = puts_so;
  no_room = no_room_so;
  quotes = all_quoted;
  takes = takes_so;
  whole = λ store f l e trace before after forty good small enough fresh c ended.
      let r = listed_so store f l trace before after forty good small enough fresh c in
      let w = all_text trace in
      let lines : says_lines e.lines ≡ (end (ridden trace).ride).lines =
      ap (λ (v : End). v.lines) ended.1 ∙ ap (λ (g : Ride). (end g).lines) r.1 in (
        length w,
        r.0,
        ap₂ (λ (u v : List ℕ). u ++ v) (ap (take (length w)) r.2 ∙ take_at w (drop (length w) before) (length w) refl) (ap text_of lines)
            ∙ sym (output_whole trace good),
      );
  refused = output_refused;
}
