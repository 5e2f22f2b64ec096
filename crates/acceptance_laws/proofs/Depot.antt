-- The depot's run: the promise, a run that is one, and two entries too near.
-- Assumes nothing.
use Rattle.std.proofs.Common.{Ok}
use Prim.Native.Nat.{ℕ}
use mathlib.Core.Path.{◌≡◌, refl}
use mathlib.Core.List.{List, [], ◌∷◌}
use denote.Ref.{Bor}
use Rattle.group_rows.specs.declared.Kind.{Kind}
use Rattle.ride.specs.declared.Line.{Line}
use Rattle.ride.specs.Over.{first_records}
use Rattle.acceptance.specs.declared.Acceptance.{Acceptance}
use Rattle.acceptance.specs.declared.Planned.{Planned}
use Rattle.acceptance.specs.declared.Role.{Role}
use Rattle.acceptance.specs.Plan.{place_of, kind_of, is_good, all_good, entry_of, entries_of, apart, plan_with, well_formed, plan}
use Rattle.acceptance.specs.Taking.{planned, waiting, after_wanted, after_extra, take_group, take_line}
use Rattle.acceptance.specs.Report.{met_in, sum_up}
use Rattle.demands.specs.Plans.{Plans}
use Rattle.acceptance_laws.specs.Lines.{first_for}
use Rattle.acceptance_laws.specs.Accepted.{Run}
use Rattle.acceptance_laws.specs.Depot.{ride_lines, Blocks, group_at, TooNear, Depot}
use Rattle.acceptance_laws.proofs.Accepted.{accepted}
use Rattle.acceptance_laws.proofs.Over.{answers_to}
use Rattle.acceptance_laws.proofs.Blocks.{one_taken, all_taken}
use Rattle.acceptance_laws.proofs.Riding.{by_step, carried, decided, untouched}
use Rattle.acceptance_laws.proofs.Witness.{answered, such_calls}

-- ---- a run

bytes : List ℕ
bytes = 0 ∷ 0 ∷ 3 ∷ 232 ∷ 0 ∷ 0 ∷ 0 ∷ 0 ∷ 0 ∷ 0 ∷ 19 ∷ 136 ∷ 3 ∷ 0 ∷ 0 ∷ 0 ∷ []

lent : Bor (List ℕ)
lent = record { ref_ptr = (0, 0); now = bytes }

start : Acceptance
start = plan_with 5 (entries_of bytes)

read : Planned
read = record { plan = start; judged = Ok tt }

is_plan : Plans bytes 5 read
unfolding plan well_formed all_good is_good apart entry_of place_of kind_of first_records plan_with bytes lent start read
is_plan = (([], tt), lent, (lent, (5, tt)), refl, refl)

is_good_law : read.judged ≡ Ok tt
unfolding read
is_good_law = refl

first : Line
first = group_at 1003 Kind.Signal

second : Line
second = group_at 2000 Kind.Warning

middle : Acceptance
middle = (take_line start first).state

the_run : Run
unfolding read take_line middle
the_run =
    record {
      bytes = bytes;
      tolerance = 5;
      planned = read;
      lines = first ∷ second ∷ [];
      answers = take_line start first ∷ take_line middle second ∷ [];
      is_plan = is_plan;
      is_good_law = refl;
      are_taken = (((start, (first, tt)), refl), (((middle, (second, tt)), refl), tt));
    }

-- What it comes to: the signal is wanted, the warning board extra, the line board absent.
the_answers : ((take_line start first).answer ≡ Role.Wanted 0) × ((take_line middle second).answer ≡ Role.Extra)
unfolding take_line take_group waiting after_wanted after_extra plan_with entry_of place_of kind_of first_records bytes start first second middle
the_answers = (refl, refl)

the_sums : sum_up (take_line middle second).state ≡ record { entries = 2; met = 1; absent = 1; present = 2; extra = 1 }
unfolding sum_up met_in take_line take_group waiting after_wanted after_extra plan_with entry_of place_of kind_of first_records bytes start first second middle
the_sums = refl

-- ---- too near

too_near : TooNear
unfolding first_for take_line take_group waiting after_wanted after_extra plan well_formed all_good is_good apart entry_of place_of kind_of first_records plan_with
too_near = record { for_both = (refl, refl); left_absent = refl; though_there = refl; refused = refl }

-- ---- over any ride

ride_run : (gaps : ℕ → ℕ) (cards : List (List ℕ)) → Run
ride_run gaps cards =
    record {
      bytes = bytes;
      tolerance = 5;
      planned = read;
      lines = ride_lines gaps cards;
      answers = answers_to read.plan (ride_lines gaps cards);
      is_plan = is_plan;
      is_good_law = is_good_law;
      are_taken = answered read.plan (ride_lines gaps cards);
    }

blocks : Blocks
blocks =
    record {
      whole = carried;
      goes_on = λ going store c good whole some room call. one_taken going store c.block c.before c.answer c.after good whole call some room;
      all_at_once = λ going store c good whole room call. all_taken going store c.block c.before c.answer c.after good whole call room;
      decided = decided;
      untouched = λ going store block before r after n c e. untouched going store block before r after c n e;
    }

pub depot : Depot
unfolding the_run first second ride_run
depot =
    record {
      any_lines = accepted;
      by_step = by_step;
      by_blocks = blocks;
      such_a_run = (the_run, refl);
      such_a_ride = λ gaps cards. (ride_run gaps cards, refl);
      such_calls = such_calls;
      too_near = too_near;
    }
