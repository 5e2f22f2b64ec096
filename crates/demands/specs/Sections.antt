-- Rides in sections (document 02, M-109): "Long rides come as several cards. Riding the first card
-- and then the second from where the first ended must equal riding the two joined, lines included,
-- with record numbers counted on. Joining three cards either way is the same, and an empty card
-- changes nothing. This holds for whole 8-byte records and without the call that ends a ride." A
-- card is its bytes. `run` rides it and answers the state after it; `step`, record after record,
-- gives its lines as data; `list`, block after block, writes them as text. Each law is claimed of
-- all three, from any state and with one fixed store on both sides (M-111).
-- Assumes nothing.
use Rattle.std.specs.Prelude.{ℕ, suc, ◌+◌, ◌*◌, ◌≤◌, ◌<◌, ◌≡◌, Bool, false, ◌||◌, List, [], ◌∷◌, ◌++◌, length, take}
use Rattle.words.specs.Answer.{pick}
use Rattle.words.specs.Limits.{largest64}
use Rattle.settings.specs.declared.Store.{Store}
use Rattle.settings.specs.At.{gap_at}
use Rattle.ride.specs.Record.{odometer_of}
use Rattle.ride.specs.State.{fresh_ride}
use Rattle.ride.specs.Step.{end}
use Rattle.ride.specs.Over.{records, lines_for, Ridden, ride_over}
use Rattle.ride.specs.Says.{says_stepped}
use Rattle.ride.specs.declared.Line.{Line}
use Rattle.ride.specs.declared.Ran.{Ran}
use Rattle.ride.specs.declared.Ride.{Ride}
use Rattle.ride.specs.declared.Stepped.{Stepped}
use Rattle.ride_text.specs.Text.{text, text_of}
use Rattle.ride_text.specs.Style.{plain}
use Rattle.ride_text.specs.declared.Listed.{Listed}
use Rattle.demands.specs.Table.{bad_length}
use Rattle.demands.specs.ByContract.{Fresh, StepOf, RunOver, PutEnd, ListInto}
use Rattle.demands.specs.Stores.{Good}
use Rattle.demands.specs.Output.{output, records_in, Forty}
pub use Rattle.demands.specs.TraceCalls.{Whole, Call}
pub use Rattle.demands.specs.ListCalls.{taken, bytes_of, ByList, text_from, after_calls, number_after}

-- ---- by `step`

-- These are the answers of `step` to some records in turn, each in the state that the one before
-- left, with the gap that a rule gives for its odometer.
abbrev pub ByStep : (ℕ → ℕ) → Ride → List (List ℕ) → List Stepped → Type 0
ByStep gaps ride [] [] = Unit {0}
ByStep gaps ride [] (s ∷ ss) = ⊥
ByStep gaps ride (r ∷ rs) [] = ⊥
ByStep gaps ride (r ∷ rs) (s ∷ ss) = StepOf ride (gaps (odometer_of r)) r s × ByStep gaps s.ride rs ss

-- Their lines, where the first record has this number.
abbrev pub lines_from : ℕ → List Stepped → List Line
lines_from number [] = []
lines_from number (s ∷ ss) = lines_for number (says_stepped s).lines ++ lines_from (suc number) ss

-- The state after them.
abbrev pub after_steps : Ride → List Stepped → Ride
after_steps ride [] = ride
after_steps ride (s ∷ ss) = after_steps s.ride ss

-- ---- 1. the laws of two cards

-- "Riding the first card and then the second from where the first ended must equal riding the two
-- joined, lines included, with record numbers counted on."
pub record TwoCards : Type 0 where
  pub by_run : (ride : Ride) (store : Store) (a b : List ℕ) (p q both : Ran) → Whole a → Whole b
      → RunOver ride store a p → RunOver p.ride store b q → RunOver ride store (a ++ b) both → both ≡ q
  pub by_step : (gaps : ℕ → ℕ) (ride : Ride) (number : ℕ) (a b : List ℕ) (p q both : List Stepped) → Whole a → Whole b
      → ByStep gaps ride (records a) p → ByStep gaps (after_steps ride p) (records b) q → ByStep gaps ride (records (a ++ b)) both
      → (lines_from number both ≡ lines_from number p ++ lines_from (number + records_in a) q) × (after_steps ride both ≡ after_steps (after_steps ride p) q)
  pub by_list : (ride : Ride) (store : Store) (number : ℕ) (a b : List ℕ) (p q both : List (Call Listed)) → Good store → Whole a → Whole b
      → ByList plain store ride number a p → ByList plain store (after_calls ride p) (number + records_in a) b q → ByList plain store ride number (a ++ b) both
      → (text_from both ≡ text_from p ++ text_from q) × (after_calls ride both ≡ after_calls (after_calls ride p) q)
      × (number_after number both ≡ number_after (number + records_in a) q)

-- ---- 2. three cards

-- "Joining three cards either way is the same": two joined and then the third, or the first and
-- then the other two joined.
pub record ThreeCards : Type 0 where
  pub by_run : (ride : Ride) (store : Store) (a b c : List ℕ) (ab last a' bc : Ran) → Whole a → Whole b → Whole c
      → RunOver ride store (a ++ b) ab → RunOver ab.ride store c last → RunOver ride store a a' → RunOver a'.ride store (b ++ c) bc → last ≡ bc
  pub by_step : (gaps : ℕ → ℕ) (ride : Ride) (number : ℕ) (a b c : List ℕ) (ab last a' bc : List Stepped) → Whole a → Whole b → Whole c
      → ByStep gaps ride (records (a ++ b)) ab → ByStep gaps (after_steps ride ab) (records c) last
      → ByStep gaps ride (records a) a' → ByStep gaps (after_steps ride a') (records (b ++ c)) bc
      → (lines_from number ab ++ lines_from (number + records_in (a ++ b)) last ≡ lines_from number a' ++ lines_from (number + records_in a) bc)
      × (after_steps (after_steps ride ab) last ≡ after_steps (after_steps ride a') bc)
  pub by_list : (ride : Ride) (store : Store) (number : ℕ) (a b c : List ℕ) (ab last a' bc : List (Call Listed)) → Good store → Whole a → Whole b → Whole c
      → ByList plain store ride number (a ++ b) ab → ByList plain store (after_calls ride ab) (number + records_in (a ++ b)) c last
      → ByList plain store ride number a a' → ByList plain store (after_calls ride a') (number + records_in a) (b ++ c) bc
      → (text_from ab ++ text_from last ≡ text_from a' ++ text_from bc) × (after_calls (after_calls ride ab) last ≡ after_calls (after_calls ride a') bc)

-- ---- 3. an empty card

-- "an empty card changes nothing": from any state, so before, between or after others.
pub record EmptyCard : Type 0 where
  pub by_run : (ride : Ride) (store : Store) (q : Ran) → RunOver ride store [] q → q.ride ≡ ride
  pub by_step : (gaps : ℕ → ℕ) (ride : Ride) (number : ℕ) (q : List Stepped) → ByStep gaps ride (records []) q
      → (lines_from number q ≡ []) × (after_steps ride q ≡ ride)
  pub by_list : (ride : Ride) (store : Store) (number : ℕ) (q : List (Call Listed)) → Good store → ByList plain store ride number [] q
      → (text_from q ≡ []) × (after_calls ride q ≡ ride) × (number_after number q ≡ number)

-- ---- 4. the program's blocks

-- The cards one after the other.
abbrev pub joined : List (List ℕ) → List ℕ
joined [] = []
joined (card ∷ cards) = card ++ joined cards

-- Whether one of the cards has a bad length.
abbrev pub any_bad : List (List ℕ) → Bool
any_bad [] = false
any_bad (card ∷ cards) = bad_length card || any_bad cards

-- What the program writes for some cards, with a rule of the gap: the lines of the records of all
-- of them as one ride, and then those of the end; if one has a bad length, that alone.
unfoldable pub output_by : (ℕ → ℕ) → List (List ℕ) → List ℕ
output_by gaps cards =
    let all : Ridden = ride_over gaps fresh_ride 1 (records (joined cards)) in
    pick (any_bad cards) (text (Line.Trace 16)) (text_of (all.lines ++ (end all.ride).lines))

-- Under a store: each record "with the gap in force at its own odometer".
abbrev pub output_under : Store → List (List ℕ) → List ℕ
output_under store cards = output_by (gap_at store) cards

-- "The program's gap is 40."
abbrev pub output_of : List (List ℕ) → List ℕ
output_of cards = output_by (λ odometer. 40) cards

-- Whatever blocks `list` is called with, and whatever room it has, the texts put one after the
-- other are the text of the whole.
pub record Blocks : Type 0 where
  pub whole : (ride : Ride) (store : Store) (number : ℕ) (trace : List ℕ) (calls : List (Call Listed)) → Good store → ByList plain store ride number trace calls
      → (text_from calls ≡ text_of (ride_over (gap_at store) ride number (records trace)).lines)
      × (after_calls ride calls ≡ (ride_over (gap_at store) ride number (records trace)).ride)
      × (number_after number calls ≡ number + records_in trace)
  -- so long as it has room for one record, a call takes one, so that the calls come to an end
  pub goes_on : (ride : Ride) (store : Store) (number : ℕ) (c : Call Listed) → Good store → Whole c.block → 1 ≤ records_in c.block
      → 128 ≤ length c.before → number < largest64
      → ListInto plain ride store number c.block c.before c.answer c.after → 1 ≤ taken c.answer.done
  -- with room for 128 bytes a record it takes the whole block
  pub all_at_once : (ride : Ride) (store : Store) (number : ℕ) (c : Call Listed) → Good store → Whole c.block
      → 128 * records_in c.block ≤ length c.before → number + records_in c.block ≤ largest64
      → ListInto plain ride store number c.block c.before c.answer c.after → taken c.answer.done ≡ records_in c.block
  -- the cards from a fresh ride, the first record with the number 1, and then the end by `put_end`:
  -- what the program writes
  pub program : (store : Store) (f : Ride) (cards : List (List ℕ)) (calls : List (Call Listed)) (before : List ℕ) (n : ℕ) (after : List ℕ) → Good store → any_bad cards ≡ false
      → Fresh f → ByList plain store f 1 (joined cards) calls → 128 ≤ length before → PutEnd plain (after_calls f calls) before 0 n after
      → text_from calls ++ take n after ≡ output_under store cards
  -- without settings the gap is 40, as document 01 says
  pub forty : (store : Store) (cards : List (List ℕ)) → Forty store → Good store × (output_under store cards ≡ output_of cards)
  -- one card: as document 01 says
  pub one_card : (card : List ℕ) → output_of (card ∷ []) ≡ output card

-- All of it.
pub record Sections : Type 0 where
  pub two : TwoCards
  pub three : ThreeCards
  pub empty : EmptyCard
  pub blocks : Blocks
