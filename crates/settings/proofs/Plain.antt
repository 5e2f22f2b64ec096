-- A plain gap as a store: it is judged good exactly if the gap is allowed.
-- Assumes nothing.
use Prim.Native.Nat.{ℕ}
use mathlib.Core.Path.{◌≡◌, refl, ap, ◌∙◌}
use mathlib.Core.Bool.{true, false}
use Rattle.words.specs.Answer.{Outcome, gives, refuses}
use Rattle.telegram.specs.Sync.{differing, is_good, good_pair}
use Rattle.settings.specs.Versions.{allowed, Kept, kept, settings_of}
use Rattle.settings.specs.Store.{no_store_meant, versions_of, first_of, opened, opened_if, begin, plain, all_follow, in_order_meant, judged}

pair_good : (gap : ℕ) → allowed gap ≡ true → settings_of gap 0x00 0x7F ≡ gives kept
unfolding settings_of good_pair is_good differing
pair_good gap e = rw e

gap_bad : (gap : ℕ) → allowed gap ≡ false → settings_of gap 0x00 0x7F ≡ refuses 19
unfolding settings_of good_pair is_good differing
gap_bad gap e = rw e

pub plain_is : (gap : ℕ) → allowed gap ≡ true → plain gap ≡ opened (first_of gap 0x00 0x7F)
unfolding begin
plain_is gap e = ap (λ (o : Outcome Kept). (opened_if (first_of gap 0x00 0x7F) o).store) (pair_good gap e)

none_is : (gap : ℕ) → allowed gap ≡ false → plain gap ≡ no_store_meant
unfolding begin
none_is gap e = ap (λ (o : Outcome Kept). (opened_if (first_of gap 0x00 0x7F) o).store) (gap_bad gap e)

opened_good : (gap : ℕ) → allowed gap ≡ true → judged (opened (first_of gap 0x00 0x7F)) ≡ gives kept
unfolding judged versions_of opened no_store_meant in_order_meant all_follow
opened_good gap e = rw (pair_good gap e)

pub plain_good : (gap : ℕ) → allowed gap ≡ true → judged (plain gap) ≡ gives kept
plain_good gap e = ap judged (plain_is gap e) ∙ opened_good gap e

empty_bad : judged no_store_meant ≡ refuses 19
unfolding judged versions_of no_store_meant in_order_meant
empty_bad = refl

pub plain_bad : (gap : ℕ) → allowed gap ≡ false → judged (plain gap) ≡ refuses 19
plain_bad gap e = ap judged (none_is gap e) ∙ empty_bad
