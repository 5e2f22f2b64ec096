-- Every record of a recorded trace has eight bytes, so that its bytes, one record after the other,
-- are its records.
-- Assumes nothing.
use Prim.Native.Nat.{ℕ, zero, suc, ◌+◌, ◌-◌, ◌%◌}
use native.Mathlib.Omega.{arith}
use mathlib.Core.Path.{◌≡◌, refl, ap₂, ◌∙◌}
use mathlib.Core.Bool.{Bool, true, false}
use mathlib.Core.List.{List, [], ◌∷◌, ◌++◌}
use lib.ListN.{length}
use Rattle.words.specs.Answer.{pick}
use Rattle.telegram.specs.Stretch.{bit_at}
use Rattle.settings.specs.declared.Store.{Store}
use Rattle.antenna.specs.declared.Stand.{Stand}
use Rattle.antenna.specs.Hearing.{Step, nothing, opened, closed, hear}
use Rattle.recording.specs.declared.Tape.{Tape}
use Rattle.recording.specs.Frame.{line_of}
use Rattle.recording.specs.Recording.{silent, after_step, over_bits, is_due, position, after_frame_meant, held_at, in_frame_meant, its_bits, over_frames, frames_of, over_lead, cut_in, is_above, last_position, the_end_meant, fresh, recorded}
use Rattle.ride.specs.Over.{first_records, records}
use Rattle.ride.proofs.Cutting.{join_records}
use Rattle.compaction.proofs.Blocks.{Eights}
use Rattle.recording.proofs.Eights.{record_eight}
use Rattle.lead_text.proofs.OneMore.{only}
use Rattle.lead_text_laws.specs.Live.{joined}

both : (rs qs : List (List ℕ)) → Eights rs → Eights qs → Eights (rs ++ qs)
both [] qs a b = b
both (r ∷ rs) qs (e, a) b = (e, both rs qs a b)

-- ---- bits, frames, the end

step_eights : (tape : Tape) (x : Step) → Eights (after_step tape x).records
step_eights tape (nothing ear) = tt
step_eights tape (opened ear) = tt
step_eights tape (closed ear length judgement) = (record_eight tape.opened judgement, tt)

bits_eights : (b : List ℕ) (s t : ℕ) (n : ℕ) (tape : Tape) (i : ℕ) → Eights (over_bits b s t tape i n).records
unfolding over_bits
bits_eights b s t zero tape i = tt
bits_eights b s t (suc n) tape i =
    let x = after_step tape (hear tape.ear (bit_at b i) s t) in
    both x.records (over_bits b s t x.tape (i + 1) n).records (step_eights tape (hear tape.ear (bit_at b i) s t)) (bits_eights b s t n x.tape (i + 1))

position_by : (tape : Tape) (b : Bool) → Eights (pick b (position tape) (silent tape)).records
position_by tape true = (refl, tt)
position_by tape false = tt

after_eights : (tape : Tape) → Eights (after_frame_meant tape).records
unfolding after_frame_meant
after_eights tape = position_by tape (is_due tape)

its_eights : (store : Store) (lead : List ℕ) (k i : ℕ) (tape : Tape) → Eights (its_bits store lead k i tape).records
unfolding its_bits
its_eights store lead k i tape =
    let held = held_at store (in_frame_meant store lead k tape).odometer in
    bits_eights (line_of lead k) held.s held.t (96 - i) (in_frame_meant store lead k tape) i

frames_eights : (store : Store) (lead : List ℕ) (n : ℕ) (tape : Tape) (k i : ℕ) → Eights (over_frames store lead tape k i n).records
unfolding over_frames
frames_eights store lead zero tape k i = tt
frames_eights store lead (suc n) tape k i =
    let x = its_bits store lead k i tape in
    let y = after_frame_meant x.tape in
    let z = over_frames store lead y.tape (k + 1) 0 n in
    both x.records (y.records ++ z.records) (its_eights store lead k i tape)
    (both y.records z.records (after_eights x.tape) (frames_eights store lead n y.tape (k + 1) 0))

cut_eights : (stand : Stand) (tape : Tape) → Eights (cut_in stand tape).records
cut_eights (Stand.Inside sound) tape = (refl, tt)
cut_eights Stand.Outside tape = tt

end_eights : (tape : Tape) → Eights (the_end_meant tape).records
unfolding the_end_meant last_position
end_eights tape =
    let x = cut_in tape.ear.stand tape in
    both x.records (last_position x.tape).records (cut_eights tape.ear.stand tape) (position_by x.tape (is_above x.tape.last x.tape.odometer))

-- ---- a recorded trace

eights : (store : Store) (lead : List ℕ) → Eights (recorded store lead)
unfolding recorded
eights store lead =
    let x = over_lead store lead fresh in
    both x.records (the_end_meant x.tape).records (frames_eights store lead (frames_of lead) fresh 0 0) (end_eights x.tape)

records_of : (rs : List (List ℕ)) → Eights rs → records (joined rs) ≡ rs
unfolding first_records
records_of [] e = refl
records_of (r ∷ rs) (e, es) =
    let whole : length r % 8 ≡ 0 = omega arith in
    join_records r (joined rs) whole ∙ ap₂ ◌++◌ (only r e) (records_of rs es)

pub trace_records : (store : Store) (lead : List ℕ) → records (joined (recorded store lead)) ≡ recorded store lead
trace_records store lead = records_of (recorded store lead) (eights store lead)
