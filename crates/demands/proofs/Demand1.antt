-- Demand 1 holds: each contract hands over its specification, and each specification refuses as the
-- table says.
-- Assumes nothing.
pub mod Refusals
pub mod Shifted
pub mod Cut
pub mod NextOne
pub mod Contacts
pub mod Answers
pub mod Distances
pub mod Balises
pub mod Groups
pub mod StoreRules
pub mod JudgedFirst
pub mod Rides
pub mod Treats
pub mod Listings
pub mod Compacting
pub mod Writes
pub mod Bare
pub mod Stores
pub mod Viewing
pub mod Plans
use mathlib.Core.Path.{ap, ◌∙◌}
use mathlib.Core.List.{List}
use Prim.Native.Nat.{ℕ}
use lib.ListN.{take}
use Rattle.telegram.specs.Stretch.{stretch_of}
use Rattle.telegram.specs.Place.{find}
use Rattle.telegram.specs.Survey.{survey}
use Rattle.balise_writer.specs.Write.{Writing, write}
use Rattle.contact.specs.Contacts.{begin, next_contact}
use Rattle.contact.specs.Judge.{judge}
use Rattle.ride.specs.Step.{Step}
use Rattle.ride.specs.At.{Treatment}
use Rattle.ride.specs.Over.{Run, run}
use Rattle.compaction.specs.Compact.{Compaction, compact, Settling, compact_block}
use Rattle.demands.specs.Demand1.{Demand1}
use Rattle.demands.proofs.Demand1.Refusals.{reading, writing, pairing, lying, wording, finding, surveying}
use Rattle.demands.proofs.Demand1.Writes.{writing_test}
use Rattle.demands.proofs.Demand1.Contacts.{beginning, nexting, judging}
use Rattle.demands.proofs.Demand1.Distances.{measuring}
use Rattle.demands.proofs.Demand1.Groups.{fitting_to, grouping}
use Rattle.demands.proofs.Demand1.Rides.{checking, stepping, running}
use Rattle.demands.proofs.Demand1.Treats.{treated_is, treating}
use Rattle.demands.proofs.Demand1.Listings.{list_decided}
use Rattle.demands.proofs.Demand1.Compacting.{compacting, settling}
use Rattle.demands.proofs.Demand1.Stores.{stores_decided}
use Rattle.demands.proofs.Demand1.Viewing.{viewers_decided}
use Rattle.demands.proofs.Demand1.Plans.{plans_decided}

pub demand1 : Demand1
demand1 = record {
  read_short = λ w r c. rw c.1 (reading 8 w);
  write_short = λ x r c. rw c.1 (writing 8 15 x);
  read_long = λ w r c. rw c.1 (reading 16 w);
  write_long = λ x r c. rw c.1 (writing 16 2047 x);
  good_pair = λ s t r c. rw c.1 (pairing s t);
  inside = λ b start len r c. let e = c.4 ∙ ap (λ (v : List ℕ). stretch_of v start len) c.3 in rw e (lying b start len);
  read_telegram = λ x y z r c. rw c.1 (wording x y z);
  find = λ b start len s t r c. let e = c.4 ∙ ap (λ (v : List ℕ). find v start len s t) c.3 in rw e (finding b start len s t);
  survey = λ b start len s t r c. let e = c.4 ∙ ap (λ (v : List ℕ). survey v start len s t) c.3 in rw e (surveying b start len s t);
  write = λ x y z s t n before r after c.
      let e = ap (λ (w : Writing). w.answer) (c.5 ∙ ap (write x y z s t n) c.3) in
      rw e (writing_test x y z s t n before);
  begin = λ b start len r c. let e = c.4 ∙ ap (λ (v : List ℕ). begin v start len) c.3 in rw e (beginning b start len);
  next_contact_law = λ b search r c. let e = c.4 ∙ ap (λ (v : List ℕ). next_contact v search) c.3 in rw e (nexting b search);
  judge_contact = λ b start len s t r c. let e = c.4 ∙ ap (λ (v : List ℕ). judge v start len s t) c.3 in rw e (judging b start len s t);
  fit_row = λ p n r c. rw c.1 (fitting_to (take n p));
  distance = λ by figure r c. rw c.1 (measuring by figure);
  judge_group = λ g r c. rw c.1 (grouping g);
  check_record = λ ride bytes r c. rw c.1 (checking ride bytes);
  step = λ ride gap bytes r c. let e = ap (λ (s : Step). s.lines) c.1 in rw e (stepping ride gap bytes);
  treat_at = λ ride gap trace i r c. let e = ap (λ (t : Treatment). t.reply) (treated_is ride gap trace i r c) in rw e (treating ride gap trace i);
  run = λ ride store trace r c. let e = ap (λ (s : Run). s.answer) (c.4 ∙ ap (run ride store) c.3) in rw e (running ride store trace);
  list = list_decided;
  compact = λ ride store before r after c.
      let e = ap (λ (x : Compaction). x.answer) (c.5 ∙ ap (compact ride store) c.3) in
      rw e (compacting ride store before);
  block = λ w store before r after c.
      let e = ap (λ (x : Settling). x.answer) (c.5 ∙ ap (compact_block w store) c.3) in
      rw e (settling w store before);
  stores = stores_decided;
  viewers = viewers_decided;
  plans = plans_decided;
}
