-- `atc2_settings_begin` leaves the store that `begin` opens, or returns its refusal and leaves what
-- was lent.
-- Assumes nothing.
use mathlib.Core.Path.{◌≡◌, sym, ap, ◌∙◌}
use Rattle.words.specs.Answer.{gives, refuses}
use Rattle.settings.specs.Versions.{kept}
use Rattle.settings.specs.Store.{Change, begin}
use Rattle.settings.specs.Says.{says_bad, says_verdict, says_begun}
use Rattle.abi.proofs.Minus.{back}
use Rattle.abi.proofs.Stored.{stored, unstored}
use Rattle.abi.proofs.stores.atc2_settings_begin.Goals.{After-begin-begun}
use Rattle.abi.proofs.stores.atc2_settings_begin.Goals as goal

-- What `begin` came to.
came : (w : After-begin-begun) → says_begun w.begin-begun.result ≡ begin w.args.gap w.args.s w.args.t
came w = w.begin-begun.ensures

pub returns-in-Ok : goal.returns-in-Ok
returns-in-Ok c =
    let a = c.args in
    let went : gives kept ≡ (begin a.gap a.s a.t).answer =
    ap says_verdict (sym c.in-Ok.is) ∙ ap (λ (x : Change). x.answer) (came (goal.at-returns-in-Ok c).After-begin-begun) in
    let made : c.begin-begun.result.store ≡ (begin a.gap a.s a.t).store = ap (λ (x : Change). x.store) (came (goal.at-returns-in-Ok c).After-begin-begun) in
    let both = stored (begin a.gap a.s a.t).answer (begin a.gap a.s a.t).store a.store.now c.begin-begun.result.store c.store_bytes-bytes.result went made
    c.store_bytes-bytes.ensures.value c.store_bytes-bytes.ensures.result_value in
    record { value = both.0; store_after = both.1.0; store_after_2 = both.1.1 }

pub returns-in-Err : goal.returns-in-Err
returns-in-Err c =
    let a = c.args in
    let went : refuses (says_bad c.in-Err.bad) ≡ (begin a.gap a.s a.t).answer =
    ap says_verdict (sym c.in-Err.is) ∙ ap (λ (x : Change). x.answer) (came (goal.at-returns-in-Err c).After-begin-begun) in
    let both = unstored (begin a.gap a.s a.t).answer (begin a.gap a.s a.t).store a.store.now (says_bad c.in-Err.bad) _ went (back c.of_settings.result (says_bad c.in-Err.bad) c.of_settings.ensures.0 c.of_settings.ensures.1) in
    record { value = both.0; store_after = both.1.0; store_after_2 = both.1.1 }
