-- `atc2_record` asks the store for place 0, hears the lead, and leaves what is written; or returns
-- the store's refusal and leaves what was lent.
-- Assumes nothing.
use Prim.Native.Nat.{ℕ, ◌*◌, ◌^◌, ◌≤◌, ◌<◌}
use native.Mathlib.Nat.{mul-one}
use mathlib.Core.Path.{sym, ap, subst}
use native.Mathlib.Omega.{arith}
use lib.ListN.{length}
use Rattle.settings.specs.Says.{says_bad}
use Rattle.compaction.proofs.Judging.{in_force_law, refused_with}
use Rattle.ear_bytes.specs.Hearing.{Written}
use Rattle.ear_bytes.proofs.Within.{used_bytes}
use Rattle.abi.proofs.Minus.{back}
use Rattle.abi.proofs.Heard.{unheard, was_heard}
use borrow.Author.Rules.{rules}
use Rattle.abi.proofs.leads.atc2_record.Goals as goal

-- No more bytes are used than the lead has.
pub overflow_mul-out : goal.overflow_mul-out
overflow_mul-out c =
    let a = c.args in
    let big : length a.lead.now < 2 ^ 63 = subst (λ (k : ℕ). k < 2 ^ 63) (mul-one (length a.lead.now)) c.well_formed.1.1.0.1 in
    let same = ap (λ (x : Written). x.wrote.frames) c.hear-wrote.ensures in
    let low : 16 * c.hear-wrote.result.frames ≤ length a.lead.now =
    subst (λ (n : ℕ). 16 * n ≤ length a.lead.now) (sym same) (used_bytes c.ear_in-from.result c.store_in-held.result a.lead.now a.records.now) in
    let small : c.hear-wrote.result.frames * 16 < 2 ^ 64 = omega arith in
    search rules

pub returns-in-Err : goal.returns-in-Err
returns-in-Err c =
    let a = c.args in
    let both = unheard a.ear.now a.store.now a.lead.now a.records.now a.out.now c.store_in-held.result (says_bad c.in-Err.bad) _ c.store_in-held.ensures
    (refused_with c.store_in-held.result c.at.result c.in-Err.bad c.in-Err.is c.at.ensures)
    (back c.of_settings.result (says_bad c.in-Err.bad) c.of_settings.ensures.0 c.of_settings.ensures.1) in
    record { value = both.0; ear_after = both.1.0; records_after = both.1.1.0; out_after = both.1.1.1.0; ear_after_2 = both.1.1.1.1 }

pub returns-in-Ok : goal.returns-in-Ok
returns-in-Ok c =
    let a = c.args in
    let both = was_heard a.ear.now a.store.now a.lead.now a.records.now a.out.now c.store_in-held.result c.ear_in-from.result c.hear-wrote.result
    c.hear-wrote.new.buffer c.ear_bytes-bytes.result c.store_in-held.ensures
    (in_force_law c.store_in-held.result c.at.result _ c.in-Ok.is c.at.ensures).0 c.ear_in-from.ensures c.hear-wrote.ensures
    c.ear_bytes-bytes.ensures.value c.ear_bytes-bytes.ensures.result_value in
    record { value = both.0; ear_after = both.1.0; records_after = both.1.1.0; out_after = both.1.1.1.0; ear_after_2 = both.1.1.1.1 }
