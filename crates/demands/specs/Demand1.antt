-- Demand 1: "Any bits, any trace, any settings: every call ends with a named reading or a numbered
-- refusal from document 01, given exactly under the condition written there. A refusal hands out no
-- figure, and lent memory and the running state stay untouched unless the table says otherwise."
-- The first sentence is the record `Demand1`, the second the record `Untouched` of
-- specs/Untouched.antt. The conditions are specs/Table.antt, RecordTable.antt and Table02.antt, the
-- lists specs/Lists.antt and, for a store, Stores.antt; what the contracts allow is
-- specs/ByContract.antt. That every call ends is the kit's own check of each function, and no
-- theorem here. Of the crates whose functions have one, those without a list give no number:
-- `fresh`, `speed` and `end` always answer; `put_line` says that a line has no room, for which
-- document 01 has no number; `settings::allowed` says whether row 19's condition does not hold;
-- what M-111 added without a number is named in specs/Stores.antt; but `telegram::spell` gives the
-- first two of `write`'s. Where the other crates say when they refuse, the face for C among them
-- (crates/abi_laws), is in docs/DEMANDS.md.
-- Assumes nothing.
use Rattle.std.specs.Prelude.{ℕ, ◌+◌, ◌*◌, List, [], ◌∷◌, take, Option, Result, ⊤}
use Rattle.words.specs.Why.{not_code_word}
use Rattle.words.specs.Plain.{figure}
use Rattle.words.specs.Code.{exchanged, sent}
use Rattle.words.specs.Says.{says_read, says_written}
use Rattle.words.specs.declared.NotCode.{NotCode}
use Rattle.words.specs.declared.TooLarge.{TooLarge}
use Rattle.telegram.specs.Sync.{good}
use Rattle.telegram.specs.Stretch.{taken}
use Rattle.telegram.specs.Says.{says_pair, says_reach, says_telegram_read, says_found, says_surveyed}
use Rattle.telegram.specs.declared.NotSeven.{NotSeven}
use Rattle.telegram.specs.declared.Beyond.{Beyond}
use Rattle.telegram.specs.declared.BadWord.{BadWord}
use Rattle.telegram.specs.declared.Telegram.{Telegram}
use Rattle.telegram.specs.declared.Found.{Found}
use Rattle.telegram.specs.declared.NotFound.{NotFound}
use Rattle.telegram.specs.declared.Surveyed.{Surveyed}
use Rattle.telegram.specs.declared.NotAlike.{NotAlike}
use Rattle.balise_writer.specs.Says.{says_answer}
use Rattle.balise_writer.specs.declared.Written.{Written}
use Rattle.contact.specs.Contacts.{from_start}
use Rattle.contact.specs.Says.{says_search_begun, says_next, says_judged}
use Rattle.contact.specs.declared.Search.{Search}
use Rattle.contact.specs.declared.HandedOut.{HandedOut}
use Rattle.contact.specs.declared.NextRefused.{NextRefused}
use Rattle.contact.specs.declared.Judged.{Judged}
use Rattle.group_rows.specs.declared.Picked.{Picked}
use Rattle.group.specs.declared.Message.{Message}
use Rattle.group.specs.Says.{says_measured, says_group_judged as says_group}
use Rattle.group_rows.specs.declared.Placed.{Placed}
use Rattle.group_rows.specs.declared.NoRow.{NoRow}
use Rattle.group_rows.specs.Fitting.{says_fitted}
use Rattle.group.specs.declared.Group.{Group}
use Rattle.group.specs.declared.NoDistance.{NoDistance}
use Rattle.group.specs.declared.GroupRefused.{GroupRefused}
use Rattle.ride.specs.Record.{odometer_of, passed_of}
use Rattle.ride.specs.Over.{through}
use Rattle.ride.specs.Says.{says_checked, says_stepped, says_treated, says_ran}
use Rattle.ride.specs.declared.Ride.{Ride}
use Rattle.ride.specs.declared.Checked.{Checked}
use Rattle.ride.specs.declared.Wrong.{Wrong}
use Rattle.ride.specs.declared.Stepped.{Stepped}
use Rattle.ride.specs.declared.trace.Treated.{Treated}
use Rattle.ride.specs.declared.Ran.{Ran}
use Rattle.settings.specs.declared.Store.{Store}
use Rattle.compaction.specs.Says.{says_size}
use Rattle.compaction.specs.declared.Waiting.{Waiting}
use Rattle.compaction.specs.declared.Compacted.{Compacted}
use Rattle.compaction.specs.declared.Block.{Block}
use Rattle.ride_text.specs.Says.{says_done}
use Rattle.ride_text.specs.Style.{Style}
use Rattle.ride_text.specs.declared.Listed.{Listed}
use Rattle.demands.specs.Rules.{row_of, row, Decided, Given, Is}
use Rattle.demands.specs.Table.{not_code, above, not_seven, beyond, no_row, no_distance, bad_gap}
use Rattle.demands.specs.ByContract.{ReadShort, WriteShort, ReadLong, WriteLong, GoodPair, InsideBuffer, ReadTelegram, Find, Survey, Write, Begin, NextContact, JudgeContact, FitRow, Distance, JudgeGroup, CheckRecord, StepOf, TreatAt, RunOver, ListInto}
use Rattle.demands.specs.Compacting.{CompactIn, BlockIn}
use Rattle.demands.specs.Lists.{telegram_rules, find_rules, survey_rules, write_rules, next_rules, judge_rules, group_rules, record_rules, step_rules, find_reads, survey_reads, JudgeReads, NextReads}
use Rattle.demands.specs.Stores.{trace_rules, StoresDecided}
use Rattle.demands.specs.Viewing.{ViewersDecided}
use Rattle.demands.specs.Plans.{PlansDecided}
pub use Rattle.demands.specs.Untouched.{Bare, Untouched}

-- Each public function refuses with the first number of its list whose condition holds, and reads
-- exactly if none does. What the others (`Given`) read is demand 2's: `Groups`
-- (specs/Demand2.antt), `Riding` (specs/Ride.antt), `Written` (specs/Output.antt).
pub record Demand1 : Type 0 where
  pub read_short : (w : ℕ) (r : Result ℕ NotCode) → ReadShort w r → Decided (Is (figure 8 (exchanged 8 w))) (row_of (not_code_word 8 w) (not_code 8 w) ∷ []) (says_read r)
  pub write_short : (x : ℕ) (r : Result ℕ TooLarge) → WriteShort x r → Decided (Is (sent 8 x)) (row 2 (above 15 x) ∷ []) (says_written r)
  pub read_long : (w : ℕ) (r : Result ℕ NotCode) → ReadLong w r → Decided (Is (figure 16 (exchanged 16 w))) (row_of (not_code_word 16 w) (not_code 16 w) ∷ []) (says_read r)
  pub write_long : (x : ℕ) (r : Result ℕ TooLarge) → WriteLong x r → Decided (Is (sent 16 x)) (row 2 (above 2047 x) ∷ []) (says_written r)
  pub good_pair : (s t : ℕ) (r : Result ⊤ NotSeven) → GoodPair s t r → Decided (Is good) (row 4 (not_seven s t) ∷ []) (says_pair r)
  pub inside : (b : List ℕ) (start len : ℕ) (r : Result ⊤ Beyond) → InsideBuffer b start len r → Decided (Is taken) (row 5 (beyond b start len) ∷ []) (says_reach r)
  pub read_telegram : (x y z : ℕ) (r : Result Telegram BadWord) → ReadTelegram x y z r → Decided Given (telegram_rules x y z) (says_telegram_read r)
  pub find : (b : List ℕ) (start len s t : ℕ) (r : Result Found NotFound) → Find b start len s t r
      → Decided (Is (find_reads b start len s t)) (find_rules b start len s t) (says_found r)
  pub survey : (b : List ℕ) (start len s t : ℕ) (r : Result Surveyed NotAlike) → Survey b start len s t r
      → Decided (Is (survey_reads b start len s t)) (survey_rules b start len s t) (says_surveyed r)
  pub write : (x y z s t n : ℕ) (before : List ℕ) (r : Written) (after : List ℕ) → Write x y z s t n before r after
      → Decided (Is (4 * n + 1)) (write_rules x y z s t n before) (says_answer r)
  pub begin : (b : List ℕ) (start len : ℕ) (r : Result Search Beyond) → Begin b start len r
      → Decided (Is (from_start start len)) (row 5 (beyond b start len) ∷ []) (says_search_begun r)
  pub next_contact_law : (b : List ℕ) (search : Search) (r : Result (Option HandedOut) NextRefused) → NextContact b search r → Decided (NextReads b search) (next_rules b search) (says_next r)
  pub judge_contact : (b : List ℕ) (start len s t : ℕ) (r : Judged) → JudgeContact b start len s t r
      → Decided (JudgeReads b start len s t) (judge_rules b start len s t) (says_judged r)
  pub fit_row : (p : List Placed) (n : ℕ) (r : Result Picked NoRow) → FitRow p n r → Decided Given (row 13 (no_row (take n p)) ∷ []) (says_fitted r)
  pub distance : (by figure : ℕ) (r : Result ℕ NoDistance) → Distance by figure r
      → Decided Given (row 15 (no_distance by figure) ∷ []) (says_measured r)
  pub judge_group : (g : Group) (r : Result Message GroupRefused) → JudgeGroup g r → Decided Given (group_rules g) (says_group r)
  pub check_record : (ride : Ride) (bytes : List ℕ) (r : Result Checked Wrong) → CheckRecord ride bytes r
      → Decided (Is (record { odometer = odometer_of bytes; passed = passed_of bytes })) (record_rules ride bytes) (says_checked r)
  pub step : (ride : Ride) (gap : ℕ) (bytes : List ℕ) (r : Stepped) → StepOf ride gap bytes r
      → Decided Given (step_rules ride gap bytes) (says_stepped r).lines
  -- what stands at an index is no refusal of the call: no record, or one that is treated as by
  -- `step` (`treats` of specs/Ride.antt)
  pub treat_at : (ride : Ride) (gap : ℕ) (trace : List ℕ) (i : ℕ) (r : Treated) → TreatAt ride gap trace i r
      → Decided Given (row 19 (bad_gap gap) ∷ []) (says_treated r).reply
  -- whoever goes over a trace under settings: their own refusals, then 16
  pub run : (ride : Ride) (store : Store) (trace : List ℕ) (r : Ran) → RunOver ride store trace r → Decided (Is through) (trace_rules store trace) (says_ran r).answer
  pub list : (style : Style) (ride : Ride) (store : Store) (number : ℕ) (trace before : List ℕ) (r : Listed) (after : List ℕ) → ListInto style ride store number trace before r after
      → Decided Given (trace_rules store trace) (says_done r.done)
  pub compact : (ride : Ride) (store : Store) (before : List ℕ) (r : Compacted) (after : List ℕ) → CompactIn ride store before r after
      → Decided Given (trace_rules store before) (says_size r.size)
  pub block : (w : Waiting) (store : Store) (before : List ℕ) (r : Block) (after : List ℕ) → BlockIn w store before r after
      → Decided Given (trace_rules store before) (says_size r.size)
  -- the functions that make a store of settings or ask one
  pub stores : StoresDecided
  -- a viewer's `start`, `forward` and `back` (M-108)
  pub viewers : ViewersDecided
  -- a plan of the depot's library (M-113)
  pub plans : PlansDecided
