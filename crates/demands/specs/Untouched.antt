-- Demand 1, second sentence: what a refusal leaves as it was.
-- Assumes nothing.
use Rattle.std.specs.Prelude.{ℕ, true, ◌≡◌, List, [], ◌∷◌, Result}
use Rattle.words.specs.Answer.{Answer, gives, refuses}
use Rattle.words.specs.Plain.{figure}
use Rattle.words.specs.Says.{says_read, says_written}
use Rattle.telegram.specs.Says.{says_pair, says_reach, says_telegram_read, says_found, says_surveyed}
use Rattle.settings.specs.Says.{says_verdict, says_asked}
use Rattle.balise_writer.specs.Says.{says_answer}
use Rattle.balise_writer.specs.declared.Written.{Written}
use Rattle.contact.specs.Says.{says_search_begun, says_next, says_judged, says_judged_under}
use Rattle.group.specs.declared.Message.{Message}
use Rattle.group.specs.Says.{says_measured, says_group_judged as says_group}
use Rattle.group_rows.specs.Fitting.{says_fitted}
use Rattle.group.specs.declared.GroupRefused.{GroupRefused}
use Rattle.ride.specs.State.{no_group, is_open_meant, nothing_known}
use Rattle.ride.specs.Joining.{take_up}
use Rattle.ride.specs.Closing.{first_place}
use Rattle.ride.specs.Says.{says_checked, says_report, says_reply, says_stepped, says_treated, says_ended, says_way, says_ran}
use Rattle.ride.specs.declared.Ride.{Ride}
use Rattle.ride.specs.declared.Stepped.{Stepped}
use Rattle.ride.specs.declared.trace.Treated.{Treated}
use Rattle.ride.specs.declared.Ended.{Ended}
use Rattle.ride.specs.declared.Ran.{Ran}
use Rattle.ride.specs.declared.Line.{Line}
use Rattle.settings.specs.declared.Store.{Store}
use Rattle.compaction.specs.Says.{says_size}
use Rattle.compaction.specs.declared.Waiting.{Waiting}
use Rattle.compaction.specs.declared.Compacted.{Compacted}
use Rattle.compaction.specs.declared.Block.{Block}
use Rattle.viewer.specs.Says.{says_opening_went as says_opened, says_call_went}
use Rattle.ride_text.specs.Says.{says_done}
use Rattle.ride_text.specs.Style.{Style}
use Rattle.ride_text.specs.declared.Listed.{Listed}
use Rattle.demands.specs.ByContract.{Write, JudgeGroup, StepOf, TreatAt, EndOf, RunOver, ListInto}
use Rattle.demands.specs.Compacting.{CompactIn, BlockIn}
use Rattle.demands.specs.Steps.{OneStep, LeavesBehind}
use Rattle.demands.specs.Stores.{StoresUntouched}
use Rattle.demands.specs.Viewing.{ViewersUntouched}
use Rattle.demands.specs.Plans.{PlansUntouched}

-- A refusal carries no figure: two answers with the same refusal are the same answer, whatever was
-- asked. A refusal is a number; that of a word is its number and its parity, that of a telegram
-- these and the letter of its first bad word.
abbrev pub Bare : {R A B : Type 0} → (A → Answer R B) → Type 0
Bare {R} {A} says = (refusal : R) (r r' : A) → says r ≡ refuses refusal → says r' ≡ refuses refusal → r ≡ r'

-- "A refusal hands out no figure, and lent memory and the running state stay untouched unless the
-- table says otherwise." Of the functions with a list only those of `ride_text`, `balise_writer`
-- and `compaction` are lent memory that they may write; a search is given by value, and a refusal
-- of `next_contact` gives none back. Those that put a text into a lent buffer (of `text`,
-- `contact_text`, `group_reason`, `ride_text`, `settings_text`, `acceptance_text`, `viewer_text`,
-- `audibility`) refuse with no number: what they leave without room is in their contracts. (The
-- face for C: `left` of crates/abi/specs/Face.antt.)
pub record Untouched : Type 0 where
  -- a refused step closes no group, and it and a refused run leave the ride as it was
  pub step : (ride : Ride) (gap : ℕ) (bytes : List ℕ) (r : Stepped) (n : ℕ) → StepOf ride gap bytes r
      → (says_stepped r).lines ≡ refuses n → (r.ride ≡ ride) × (r.closed ≡ no_group)
  pub treat_at : (ride : Ride) (gap : ℕ) (trace : List ℕ) (i : ℕ) (r : Treated) (n : ℕ) → TreatAt ride gap trace i r
      → (says_treated r).reply ≡ refuses n → (r.ride ≡ ride) × (r.closed ≡ no_group)
  pub run : (ride : Ride) (store : Store) (trace : List ℕ) (r : Ran) (n : ℕ) → RunOver ride store trace r → (says_ran r).answer ≡ refuses n → r.ride ≡ ride
  -- so does a refused listing, which leaves the number and the lent buffer too
  pub list : (style : Style) (ride : Ride) (store : Store) (number : ℕ) (trace before : List ℕ) (r : Listed) (after : List ℕ) (n : ℕ)
      → ListInto style ride store number trace before r after → says_done r.done ≡ refuses n
      → (r.ride ≡ ride) × (r.number ≡ number) × (after ≡ before)
  -- so does a refused writing
  pub write : (x y z s t n : ℕ) (before : List ℕ) (r : Written) (after : List ℕ) (k : ℕ) → Write x y z s t n before r after → says_answer r ≡ refuses k → after ≡ before
  -- so does a refused compaction, of a trace or of a block of it
  pub compact : (ride : Ride) (store : Store) (before : List ℕ) (r : Compacted) (after : List ℕ) (n : ℕ) → CompactIn ride store before r after
      → says_size r.size ≡ refuses n → (r.ride ≡ ride) × (after ≡ before)
  pub block : (w : Waiting) (store : Store) (before : List ℕ) (r : Block) (after : List ℕ) (n : ℕ) → BlockIn w store before r after
      → says_size r.size ≡ refuses n → (r.waiting ≡ w) × (after ≡ before)
  -- "but for the group refusals": a group that is left behind and refused with n, 10 to 13 or 15,
  -- gives the fault line, is handed out as the one that closed, and leaves nothing known and no
  -- group but what the record itself takes up
  pub group : (o : OneStep) (j : Result Message GroupRefused) (n : ℕ) → LeavesBehind o → JudgeGroup o.ride.group j → says_group j ≡ refuses n
      → says_stepped o.answer
      ≡ record {
        lines = gives (Line.Fault (first_place o.ride.group) n ∷ []);
        closed = o.ride.group;
        ride = record { odometer = o.odometer; group = take_up no_group o.odometer o.passed; known = nothing_known };
      }
  -- the same where the end of the ride closes it; the odometer stays
  pub end : (ride : Ride) (r : Ended) (j : Result Message GroupRefused) (n : ℕ) → EndOf ride r → is_open_meant ride.group ≡ true → JudgeGroup ride.group j
      → says_group j ≡ refuses n
      → says_ended r
      ≡ record {
        lines = Line.Fault (first_place ride.group) n ∷ [];
        closed = ride.group;
        ride = record { odometer = ride.odometer; group = no_group; known = nothing_known };
      }
  -- no refusal carries a figure
  pub short_read_law : Bare says_read
  pub short_written : Bare says_written
  pub long_read : Bare says_read
  pub long_written : Bare says_written
  pub pair : Bare says_pair
  pub reach : Bare says_reach
  pub telegram_read : Bare says_telegram_read
  pub found : Bare says_found
  pub surveyed : Bare says_surveyed
  pub written : Bare says_answer
  pub begun : Bare says_search_begun
  pub next : Bare says_next
  pub contact_judged : Bare says_judged
  pub measured : Bare (says_measured {A = ℕ})
  pub fitted : Bare says_fitted
  pub group_judged : Bare says_group
  pub checked : Bare says_checked
  pub report : Bare says_report
  pub reply : Bare says_reply
  pub way : Bare says_way
  pub done : Bare says_done
  pub size : Bare says_size
  pub store : Bare says_verdict
  pub asked : Bare says_asked
  pub judged_under : Bare says_judged_under
  pub viewer_opened : Bare says_opened
  pub viewer_moved : Bare says_call_went
  -- the functions that make a store of settings
  pub stores : StoresUntouched
  -- a viewer's calls
  pub viewers : ViewersUntouched
  -- a refused plan
  pub plans : PlansUntouched
