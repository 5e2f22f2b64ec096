-- No refusal carries a figure, and what is refused stays as it was.
-- Assumes nothing.
use mathlib.Core.Path.{sym, ap, ◌∙◌}
use Rattle.words.specs.Says.{says_read, says_written}
use Rattle.telegram.specs.Says.{says_pair, says_reach, says_telegram_read, says_found, says_surveyed}
use Rattle.balise_writer.specs.Write.{Writing, write}
use Rattle.balise_writer.specs.Says.{says_answer}
use Rattle.contact.specs.Says.{says_search_begun, says_next, says_judged, says_judged_under}
use Rattle.group_rows.specs.Fitting.{says_fitted}
use Rattle.group.specs.Says.{says_measured, says_group_judged as says_group}
use Rattle.ride.specs.Says.{says_checked, says_report, says_reply, says_way}
use Rattle.ride.specs.Step.{Step, step}
use Rattle.ride.specs.Over.{Run, run}
use Rattle.ride_text.specs.Says.{says_done}
use Rattle.settings.specs.Says.{says_verdict, says_asked}
use Rattle.settings.proofs.Determined as settings_are
use Rattle.words.proofs.Told.{told}
use Rattle.words.proofs.Determined as words_are
use Rattle.telegram.proofs.Determined as telegram_is
use Rattle.balise_writer.proofs.Determined as writer_is
use Rattle.contact.proofs.Determined as contact_is
use Rattle.group_rows.proofs.Determined as walk_is
use Rattle.group.proofs.Determined as group_is
use Rattle.ride.proofs.Determined as ride_is
use Rattle.ride_text.proofs.Determined as listing_is
use Rattle.demands.specs.Demand1.{Untouched}
use Rattle.demands.proofs.Demand1.Rides.{step_untouched, run_untouched}
use Rattle.demands.proofs.Demand1.Treats.{treat_untouched}
use Rattle.demands.proofs.Demand2.Steps.{group_refused, end_refused}
use Rattle.demands.proofs.Demand1.Writes.{write_untouched}
use Rattle.demands.proofs.Demand1.Listings.{list_left}
use Rattle.demands.proofs.Demand1.Compacting.{compact_untouched, block_untouched}
use Rattle.compaction.specs.Says.{says_size}
use Rattle.compaction.specs.Compact.{Compaction, compact, Settling, compact_block}
use Rattle.compaction.proofs.Determined as compaction_is
use Rattle.demands.proofs.Demand1.Stores.{stores_untouched}
use Rattle.viewer.specs.Says.{says_opening_went as says_opened, says_call_went}
use Rattle.viewer.proofs.Determined as viewer_is
use Rattle.demands.proofs.Demand1.Viewing.{viewers_untouched}
use Rattle.demands.proofs.Demand1.Plans.{plans_untouched}

pub untouched : Untouched
untouched = record {
  step = λ ride gap bytes r n c e.
      let kept = step_untouched ride gap bytes n (sym (ap (λ (s : Step). s.lines) c.1) ∙ e) in
      (ap (λ (s : Step). s.ride) c.1 ∙ kept.0, ap (λ (s : Step). s.closed) c.1 ∙ kept.1);
  treat_at = treat_untouched;
  run = λ ride store trace r n c e.
      let is = c.4 ∙ ap (run ride store) c.3 in
      ap (λ (s : Run). s.ride) is ∙ run_untouched ride store trace n (sym (ap (λ (s : Run). s.answer) is) ∙ e);
  list = λ style ride store number trace before r after n c. list_left style ride store number trace before r after c n;
  write = λ x y z s t n before r after k c e.
      let is = c.5 ∙ ap (write x y z s t n) c.3 in
      sym c.4 ∙ ap (λ (w : Writing). w.buffer) is ∙ write_untouched x y z s t n before k (sym (ap (λ (w : Writing). w.answer) is) ∙ e);
  compact = λ ride store before r after n c e.
      let is = c.5 ∙ ap (compact ride store) c.3 in
      let kept = compact_untouched ride store before n (sym (ap (λ (x : Compaction). x.answer) is) ∙ e) in
      (ap (λ (x : Compaction). x.ride) is ∙ kept.0, sym c.4 ∙ ap (λ (x : Compaction). x.buffer) is ∙ kept.1);
  block = λ w store before r after n c e.
      let is = c.5 ∙ ap (compact_block w store) c.3 in
      let kept = block_untouched w store before n (sym (ap (λ (x : Settling). x.answer) is) ∙ e) in
      (ap (λ (x : Settling). x.waiting) is ∙ kept.0, sym c.4 ∙ ap (λ (x : Settling). x.buffer) is ∙ kept.1);
  group = group_refused;
  end = end_refused;
  short_read_law = λ n r r' p q. told says_read words_are.word_read words_are.word_read_back r r' p q;
  short_written = λ n r r' p q. told says_written words_are.word_written words_are.word_written_back r r' p q;
  long_read = λ n r r' p q. told says_read words_are.word_read words_are.word_read_back r r' p q;
  long_written = λ n r r' p q. told says_written words_are.word_written words_are.word_written_back r r' p q;
  pair = λ n r r' p q. told says_pair telegram_is.pair_of telegram_is.pair_back r r' p q;
  reach = λ n r r' p q. told says_reach telegram_is.reach_of telegram_is.reach_back r r' p q;
  telegram_read = λ n r r' p q. told says_telegram_read telegram_is.read_of telegram_is.read_back r r' p q;
  found = λ n r r' p q. told says_found telegram_is.found_of telegram_is.found_back r r' p q;
  surveyed = λ n r r' p q. told says_surveyed telegram_is.surveyed_of telegram_is.surveyed_back r r' p q;
  written = λ n r r' p q. told says_answer writer_is.written_of writer_is.written_back r r' p q;
  begun = λ n r r' p q. told says_search_begun contact_is.begun_of contact_is.begun_back r r' p q;
  next = λ n r r' p q. told says_next contact_is.next_of contact_is.next_back r r' p q;
  contact_judged = λ n r r' p q. told says_judged contact_is.judged_of contact_is.judged_back r r' p q;
  measured = λ n r r' p q. told says_measured group_is.measured group_is.measured_back r r' p q;
  fitted = λ n r r' p q. told says_fitted walk_is.fitted walk_is.fitted_back r r' p q;
  group_judged = λ n r r' p q. told says_group group_is.judged group_is.judged_back r r' p q;
  checked = λ n r r' p q. told says_checked ride_is.checked_of ride_is.checked_back r r' p q;
  report = λ n r r' p q. told says_report ride_is.report_of ride_is.report_back r r' p q;
  reply = λ n r r' p q. told says_reply ride_is.reply_of ride_is.reply_back r r' p q;
  way = λ n r r' p q. told says_way ride_is.way_of ride_is.way_back r r' p q;
  done = λ n r r' p q. told says_done listing_is.done_of listing_is.done_back r r' p q;
  size = λ n r r' p q. told says_size compaction_is.size_of compaction_is.size_back r r' p q;
  store = λ n r r' p q. told says_verdict settings_are.verdict_of settings_are.verdict_back r r' p q;
  asked = λ n r r' p q. told says_asked settings_are.asked_of settings_are.asked_back r r' p q;
  judged_under = λ n r r' p q. told says_judged_under contact_is.judged_under_of contact_is.judged_under_back r r' p q;
  viewer_opened = λ n r r' p q. told says_opened viewer_is.begun_of viewer_is.begun_back r r' p q;
  viewer_moved = λ n r r' p q. told says_call_went viewer_is.how_of viewer_is.how_back r r' p q;
  stores = stores_untouched;
  viewers = viewers_untouched;
  plans = plans_untouched;
}
