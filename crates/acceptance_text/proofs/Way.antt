-- On the way through a block: what each turn of the loop leaves.
-- Assumes nothing.
use Prim.Native.Nat.{ℕ, ◌+◌, ◌-◌, ◌/◌, ◌≤◌, ◌<◌}
use native.Mathlib.Omega.{arith}
use native.Mathlib.Nat.{zero-add}
use mathlib.Core.Path.{◌≡◌, refl, ap, ap₂, sym, ◌∙◌}
use mathlib.Core.Bool.{Bool, true, false, ◌&&◌}
use mathlib.Core.List.{List, [], ◌∷◌, ◌++◌}
use lib.Dec.{leb, ltb}
use lib.ListN.{length, length-append}
use borrow.Author.Tests.{ltb-true, ltb-false, le-leb, lt-leb, leb-true, leb-false}
use Rattle.words.specs.Answer.{Outcome, gives, refuses}
use Rattle.words.proofs.Never.{cannot_be}
use Rattle.text.specs.Put.{Put, placed, came}
use Rattle.text.proofs.Placing.{placed_none, placed_length, placed_join}
use Rattle.text.proofs.Standing.{stands}
use Rattle.ride.specs.declared.Line.{Line}
use Rattle.ride.specs.declared.Ride.{Ride}
use Rattle.std.specs.Prelude.{Result}
use Rattle.ride.specs.declared.Lines.{Lines}
use Rattle.ride.specs.declared.Wrong.{Wrong}
use Rattle.ride.specs.Record.{odometer_of}
use Rattle.ride.specs.Step.{Step, treat}
use Rattle.ride.specs.At.{record_at}
use Rattle.ride.specs.Over.{records, lines_for}
use Rattle.ride.specs.Says.{says_given}
use Rattle.acceptance.specs.declared.Acceptance.{Acceptance}
use Rattle.acceptance_text.specs.declared.Going.{Going}
use Rattle.acceptance_text.specs.declared.taking.Troubles.{Troubles}
use Rattle.acceptance_text.specs.declared.taking.Written.{Written}
use Rattle.acceptance_text.specs.Taking.{Taking, started, take_all}
use Rattle.acceptance_text.specs.Accept.{has_room, taken, Advance, accept_taken}
use Rattle.acceptance_text.specs.Inside.{Writing, writes, written, is_quiet}
use Rattle.acceptance_text.proofs.Takings.{put_nothing, given_short, after_text}
use Rattle.acceptance_text.proofs.Turns.{left_of, left_next, none_left, from_here, from_first, from_next, from_last}

-- ---- the room

room_by : (b : Bool) (at most : ℕ) → at ≤ most → leb 128 (most - at) ≡ b → b ≡ leb (at + 128) most
room_by true at most h e = let enough : at + 128 ≤ most = omega (arith, leb-true 128 (most - at) e) in sym (le-leb (at + 128) most enough)
room_by false at most h e = let few : most < at + 128 = omega (arith, leb-false 128 (most - at) e) in sym (lt-leb (at + 128) most few)

room_is : (at most : ℕ) → at ≤ most → leb 128 (most - at) ≡ leb (at + 128) most
room_is at most h = room_by (leb 128 (most - at)) at most h refl

-- ---- a turn

-- On the way: a text stands at the start of the buffer, and from here the block comes to what it
-- comes to from its first record.
pub record OnTheWay (gaps : ℕ → ℕ) (start : Going) (trace out₀ : List ℕ) (now : Ride) (run : Acceptance) (troubles : Troubles) (i at : ℕ) (out : List ℕ) : Type 0 where
  pub text : List ℕ
  pub ends : at ≡ length text
  pub fits : at ≤ length out₀
  pub buffer : out ≡ placed text out₀ 0
  pub same : from_here gaps now (record { run = run; troubles = troubles; text = text }) i (left_of trace i) out₀ ≡ accept_taken gaps start (records trace) out₀

-- At first nothing is written.
pub sets_out : (gaps : ℕ → ℕ) (start : Going) (trace out : List ℕ) → OnTheWay gaps start trace out start.ride start.run start.troubles 0 0 out
sets_out gaps start trace out =
    record { text = []; ends = refl; fits = omega arith; buffer = sym (placed_none out 0); same = from_first gaps start (records trace) out }

module _ (gaps : ℕ → ℕ) (start : Going) (trace out₀ : List ℕ) (now : Ride) (run : Acceptance) (troubles : Troubles) (i at : ℕ) (out : List ℕ)
    (way : OnTheWay gaps start trace out₀ now run troubles i at out) where
  abbrev so_far : Taking
  so_far = record { run = run; troubles = troubles; text = way.text }

  within : 0 + length way.text ≤ length out₀
  within = omega (arith, way.ends, way.fits)

  pub same_length : length out ≡ length out₀
  same_length = ap length way.buffer ∙ placed_length way.text out₀ 0 within

  room_there : leb 128 (length out - at) ≡ has_room (length out₀) so_far
  room_there =
      ap (λ (k : ℕ). leb 128 (k - at)) same_length ∙ room_is at (length out₀) way.fits
      ∙ ap (λ (k : ℕ). leb (k + 128) (length out₀)) way.ends

  -- The next record is taken.
  pub goes_on : (g : Result Lines Wrong) (next : Ride) (w : Written) (out' : List ℕ) → i < length trace / 8 → leb 128 (length out - at) ≡ true
      → says_given g ≡ (treat now (gaps (odometer_of (record_at trace i))) (record_at trace i)).lines
      → next ≡ (treat now (gaps (odometer_of (record_at trace i))) (record_at trace i)).ride
      → written w out' ≡ writes (take_all (started run troubles) (lines_for 0 (says_given g))) out at
      → OnTheWay gaps start trace out₀ next w.run w.troubles (i + 1) w.next out'
  goes_on g next w out' there room lines_are next_is wrote =
      let r : List ℕ = record_at trace i in
      let s : Step = treat now (gaps (odometer_of r)) r in
      let u : Taking = take_all (started run troubles) (lines_for 0 (says_given g)) in
      let long = given_short (started run troubles) g in
      let has : at + length u.text ≤ length out = omega (arith, leb-true 128 (length out - at) room, long) in
      let put = stands {t = u.text} has (ap (λ (x : Writing). x.text) wrote) in
      let text_ends : w.next ≡ length (way.text ++ u.text) = put.put.0 ∙ ap (λ (k : ℕ). k + length u.text) way.ends ∙ sym (length-append way.text u.text) in
      let ended : at ≡ 0 + length way.text = way.ends ∙ sym (zero-add (length way.text)) in
      let stood : out' ≡ placed (way.text ++ u.text) out₀ 0 =
      put.put.1
      ∙ ap (λ (b : List ℕ). placed u.text b at) way.buffer
      ∙ ap (placed u.text (placed way.text out₀ 0)) ended
      ∙ placed_join way.text out₀ 0 within u.text in
      let then : Taking = record { run = w.run; troubles = w.troubles; text = way.text ++ u.text } in
      let then_is : then ≡ take_all so_far (lines_for 0 s.lines) =
      ap₂ (λ (a : Acceptance) (b : Troubles). record { run = a; troubles = b; text = way.text ++ u.text }) (ap (λ (x : Writing). x.run) wrote) (ap (λ (x : Writing). x.troubles) wrote)
      ∙ sym (after_text run troubles way.text (lines_for 0 (says_given g)))
      ∙ ap (λ (o : Outcome (List Line)). take_all so_far (lines_for 0 o)) lines_are in
      record {
        text = way.text ++ u.text;
        ends = text_ends;
        fits = omega (arith, put.put.0, has, same_length);
        buffer = stood;
        same =
            ap₂ (λ (v : Ride) (t : Taking). from_here gaps v t (i + 1) (left_of trace (i + 1)) out₀) next_is then_is
            ∙ sym (from_next gaps now so_far i r (left_of trace (i + 1)) out₀ (sym room_there ∙ room))
            ∙ ap (λ (rs : List (List ℕ)). from_here gaps now so_far i rs out₀) (sym (left_next trace i there))
            ∙ way.same;
      }

  -- Where no record is left, or no room, the block is whole.
  stopped : (b : Bool) → ltb i (length trace / 8) ≡ b → (b && leb 128 (length out - at)) ≡ false → taken gaps (length out₀) now so_far (left_of trace i) ≡ 0
  unfolding taken
  stopped true e h =
      ap (taken gaps (length out₀) now so_far) (left_next trace i (ltb-true i (length trace / 8) e))
      ∙ simp (sym room_there ∙ h)
  stopped false e h = ap (taken gaps (length out₀) now so_far) (none_left trace i (ltb-false i (length trace / 8) e))

  whole : taken gaps (length out₀) now so_far (left_of trace i) ≡ 0
      → ◌≡◌ {A = Advance} (record { answer = gives (record { records = i; bytes = at }); going = record { ride = now; run = run; troubles = troubles }; out = out }) (accept_taken gaps start (records trace) out₀)
  whole none =
      ap₂ (λ (k : ℕ) (b : List ℕ). record { answer = gives (record { records = i; bytes = k }); going = record { ride = now; run = run; troubles = troubles }; out = b }) way.ends way.buffer
      ∙ from_last gaps now so_far i (left_of trace i) out₀ none
      ∙ way.same

  pub comes_to : (ltb i (length trace / 8) && leb 128 (length out - at)) ≡ false
      → ◌≡◌ {A = Advance} (record { answer = gives (record { records = i; bytes = at }); going = record { ride = now; run = run; troubles = troubles }; out = out }) (accept_taken gaps start (records trace) out₀)
  comes_to h = whole (stopped (ltb i (length trace / 8)) refl h)

  pub comes_to_end : length trace / 8 ≤ i
      → ◌≡◌ {A = Advance} (record { answer = gives (record { records = i; bytes = at }); going = record { ride = now; run = run; troubles = troubles }; out = out }) (accept_taken gaps start (records trace) out₀)
  unfolding taken
  comes_to_end h = whole (ap (taken gaps (length out₀) now so_far) (none_left trace i h))

-- ---- what a record's lines leave, by whether there are any

-- An answer in pieces that are its own.
pub in_pieces : (w : Written) (x : List ℕ) (y : Writing) (run : Acceptance) (troubles : Troubles) (next : ℕ) (out : List ℕ)
    → out ≡ x → run ≡ w.run → troubles ≡ w.troubles → next ≡ w.next → written w x ≡ y
    → written (record { run = run; troubles = troubles; next = next }) out ≡ y
in_pieces w x y run troubles next out a b c d e =
    ap₂ (λ (r : Acceptance) (t : Troubles). record { run = r; troubles = t; text = came next out }) b c
    ∙ ap₂ (λ (n : ℕ) (o : List ℕ). record { run = w.run; troubles = w.troubles; text = came n o }) d a
    ∙ e

no_lines : (o : Outcome (List Line)) → is_quiet o ≡ true → lines_for 0 o ≡ []
no_lines (gives []) e = refl
no_lines (gives (l ∷ ls)) e = cannot_be cc
no_lines (refuses n) e = cannot_be cc

-- A quiet record leaves all as it was.
pub quiet : (run : Acceptance) (troubles : Troubles) (o : Outcome (List Line)) (out : List ℕ) (at : ℕ) → is_quiet o ≡ true
    → written (record { run = run; troubles = troubles; next = at }) out ≡ writes (take_all (started run troubles) (lines_for 0 o)) out at
unfolding take_all
quiet run troubles o out at e =
    ap (λ (p : Put). record { run = run; troubles = troubles; text = p }) (put_nothing out at)
    ∙ sym (ap (λ (ls : List Line). writes (take_all (started run troubles) ls) out at) (no_lines o e))
