-- `atc2_settings_add` leaves the store that `add` makes of the lent one, or returns its refusal and
-- leaves what was lent.
-- Assumes nothing.
use mathlib.Core.Path.{◌≡◌, sym, ap, ◌∙◌}
use Rattle.words.specs.Answer.{gives, refuses}
use Rattle.settings.specs.declared.Store.{Store}
use Rattle.settings.specs.declared.Version.{Version}
use Rattle.settings.specs.Versions.{kept}
use Rattle.settings.specs.Store.{Change, add}
use Rattle.settings.specs.Says.{says_bad, says_verdict, says_added}
use Rattle.state_bytes.specs.Stores.{store_in}
use Rattle.abi.proofs.Minus.{back}
use Rattle.abi.proofs.Stored.{stored, unstored}
use Rattle.abi.proofs.stores.atc2_settings_add.Goals.{After-add-added, Start}
use Rattle.abi.proofs.stores.atc2_settings_add.Goals as goal

-- The version that is added.
version : Start → Version
version s = record { place = s.args.place; gap = s.args.gap; s = s.args.s; t = s.args.t }

-- What `add` came to.
came : (w : After-add-added) → says_added w.add-added.result ≡ add (store_in w.args.store.now) (version (goal.at-After-add-added w).Start)
unfolding version
came w =
    w.add-added.ensures ∙ ap (λ (held : Store). add held (record { place = w.args.place; gap = w.args.gap; s = w.args.s; t = w.args.t })) w.store_in-held.ensures

-- What is specified.
change : After-add-added → Change
change w = add (store_in w.args.store.now) (version (goal.at-After-add-added w).Start)

pub returns-in-Ok : goal.returns-in-Ok
unfolding version change
returns-in-Ok c =
    let a = c.args in
    let went : gives kept ≡ (change (goal.at-returns-in-Ok c).After-add-added).answer = ap says_verdict (sym c.in-Ok.is) ∙ ap (λ (x : Change). x.answer) (came (goal.at-returns-in-Ok c).After-add-added) in
    let made : c.add-added.result.store ≡ (change (goal.at-returns-in-Ok c).After-add-added).store = ap (λ (x : Change). x.store) (came (goal.at-returns-in-Ok c).After-add-added) in
    let both = stored (change (goal.at-returns-in-Ok c).After-add-added).answer (change (goal.at-returns-in-Ok c).After-add-added).store a.store.now c.add-added.result.store c.store_bytes-bytes.result went made
    c.store_bytes-bytes.ensures.value c.store_bytes-bytes.ensures.result_value in
    record { value = both.0; store_after = both.1.0; store_after_2 = both.1.1 }

pub returns-in-Err : goal.returns-in-Err
unfolding version change
returns-in-Err c =
    let a = c.args in
    let went : refuses (says_bad c.in-Err.bad) ≡ (change (goal.at-returns-in-Err c).After-add-added).answer = ap says_verdict (sym c.in-Err.is) ∙ ap (λ (x : Change). x.answer) (came (goal.at-returns-in-Err c).After-add-added) in
    let both = unstored (change (goal.at-returns-in-Err c).After-add-added).answer (change (goal.at-returns-in-Err c).After-add-added).store a.store.now (says_bad c.in-Err.bad) _ went (back c.of_settings.result (says_bad c.in-Err.bad) c.of_settings.ensures.0 c.of_settings.ensures.1) in
    record { value = both.0; store_after = both.1.0; store_after_2 = both.1.1 }
