-- `atc2_settings_read` leaves the store that the text makes, or returns what is wrong with its
-- first bad line and leaves what was lent.
-- Assumes nothing.
use mathlib.Core.Path.{◌≡◌, refl, sym, ap, ◌∙◌}
use Rattle.settings_text.specs.declared.Condition.{Condition}
use Rattle.settings_text.specs.declared.Sheet.{Sheet}
use Rattle.settings_text.specs.Sheet.{sheet}
use Rattle.abi.specs.Stores.{how_answer}
use Rattle.abi.proofs.Minus.{back}
use Rattle.abi.proofs.Stored.{stored, unstored}
use Rattle.abi.proofs.stores.atc2_settings_read.Goals.{After-read-read}
use Rattle.abi.proofs.stores.atc2_settings_read.Goals as goal

-- The answer of a text, by how it is.
answered : (w : After-read-read) {how : Condition} → w.read-read.result.how ≡ how → how_answer how ≡ how_answer (sheet w.args.text.now).how
answered w e = ap how_answer (sym e) ∙ ap (λ (x : Sheet). how_answer x.how) w.read-read.ensures

pub returns-in-Fine : goal.returns-in-Fine
returns-in-Fine c =
    let a = c.args in
    let x = sheet a.text.now in
    let made : c.read-read.result.store ≡ x.store = ap (λ (x : Sheet). x.store) c.read-read.ensures in
    let both = stored (how_answer x.how) x.store a.store.now c.read-read.result.store c.store_bytes-bytes.result (answered (goal.at-returns-in-Fine c).After-read-read c.in-Fine.is) made
    c.store_bytes-bytes.ensures.value c.store_bytes-bytes.ensures.result_value in
    record { value = both.0; store_after = both.1.0; store_after_2 = both.1.1 }

pub returns-in-Refused : goal.returns-in-Refused
returns-in-Refused c =
    let a = c.args in
    let x = sheet a.text.now in
    let both = unstored (how_answer x.how) x.store a.store.now c.in-Refused.number _ (answered (goal.at-returns-in-Refused c).After-read-read c.in-Refused.is) (back c.below_zero.result c.in-Refused.number c.below_zero.ensures.0 c.below_zero.ensures.1) in
    record { value = both.0; store_after = both.1.0; store_after_2 = both.1.1 }

pub returns-in-Unreadable : goal.returns-in-Unreadable
returns-in-Unreadable c =
    let a = c.args in
    let x = sheet a.text.now in
    let both = unstored (how_answer x.how) x.store a.store.now 100 _ (answered (goal.at-returns-in-Unreadable c).After-read-read c.in-Unreadable.is) refl in
    record { value = both.0; store_after = both.1.0; store_after_2 = both.1.1 }

pub returns-in-TooLong : goal.returns-in-TooLong
returns-in-TooLong c =
    let a = c.args in
    let x = sheet a.text.now in
    let both = unstored (how_answer x.how) x.store a.store.now 101 _ (answered (goal.at-returns-in-TooLong c).After-read-read c.in-TooLong.is) refl in
    record { value = both.0; store_after = both.1.0; store_after_2 = both.1.1 }

pub returns-in-FirstPlace : goal.returns-in-FirstPlace
returns-in-FirstPlace c =
    let a = c.args in
    let x = sheet a.text.now in
    let both = unstored (how_answer x.how) x.store a.store.now 102 _ (answered (goal.at-returns-in-FirstPlace c).After-read-read c.in-FirstPlace.is) refl in
    record { value = both.0; store_after = both.1.0; store_after_2 = both.1.1 }
