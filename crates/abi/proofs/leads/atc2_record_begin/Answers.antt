-- `atc2_record_begin` leaves the bytes of a fresh hearing.
-- Assumes nothing.
use mathlib.Core.Path.{refl, ap, ◌∙◌}
use Rattle.ear_bytes.specs.Ears.{ear_bytes}
use Rattle.abi.proofs.leads.atc2_record_begin.Goals as goal

pub returns : goal.returns
returns c =
    let begun = c.fresh-begun.ensures in
    record { value = refl; ear_after = c.ear_bytes-bytes.ensures.value ∙ ap ear_bytes begun; ear_after_2 = c.ear_bytes-bytes.ensures.result_value ∙ begun }
