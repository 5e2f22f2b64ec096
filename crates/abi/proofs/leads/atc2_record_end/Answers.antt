-- `atc2_record_end` leaves what `end` writes, and the bytes of the hearing after it.
-- Assumes nothing.
use Rattle.abi.proofs.Heard.{was_ended}
use Rattle.abi.proofs.leads.atc2_record_end.Goals as goal

pub returns : goal.returns
returns c =
    let a = c.args in
    let both = was_ended a.ear.now a.records.now c.ear_in-from.result c.end-wrote.result c.end-wrote.new.buffer c.ear_bytes-bytes.result c.ear_in-from.ensures c.end-wrote.ensures
    c.ear_bytes-bytes.ensures.value c.ear_bytes-bytes.ensures.result_value in
    record { value = both.0; ear_after = both.1.0; records_after = both.1.1.0; out_after = both.1.1.1.0; ear_after_2 = both.1.1.1.1 }
