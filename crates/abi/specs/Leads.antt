-- How a lead heard into records becomes C's numbers and bytes.
-- Assumes nothing.
use Rattle.std.specs.Prelude.{ℕ, ◌*◌, List, [], ◌∷◌}
use Rattle.words.specs.Answer.{Outcome, gives, refuses}
use Rattle.settings.specs.Versions.{Kept}
use Rattle.settings.specs.Store.{judged}
use Rattle.state_bytes.specs.Stores.{store_in}
use Rattle.ear_bytes.specs.declared.Hearing.{Hearing}
use Rattle.ear_bytes.specs.Ears.{ear_bytes, ear_in}
use Rattle.ear_bytes.specs.Hearing.{Written, hear}
use Rattle.abi.specs.Face.{left}

-- What hearing a lead comes to: that the store is in order, or its own refusal; and what is written
-- then.
pub record Heard : Type 0 where
  pub answer : Outcome Kept
  pub written : Written

-- The lead heard by the ear in these bytes, under the store in those.
abbrev pub heard : List ℕ → List ℕ → List ℕ → List ℕ → Heard
heard ear store lead records = record { answer = judged (store_in store); written = hear (ear_in ear) (store_in store) lead records }

-- What is left in the lent bytes of the ear, the room for records, and `out`: bytes of the lead
-- that are used, sixteen a frame, and bytes of records.
abbrev pub ear_left : Heard → List ℕ → List ℕ
ear_left h before = left (λ k b. ear_bytes h.written.wrote.hearing) h.answer before

abbrev pub records_left : Heard → List ℕ → List ℕ
records_left h before = left (λ k b. h.written.buffer) h.answer before

abbrev pub used_left : Heard → List ℕ → List ℕ
used_left h before = left (λ k b. h.written.wrote.frames * 16 ∷ h.written.wrote.bytes ∷ []) h.answer before

-- The hearing that the bytes of the ear hold then: the one after it, or the one that they held.
abbrev pub then_hears : Outcome Kept → Hearing → Hearing → Hearing
then_hears (gives k) after before = after
then_hears (refuses n) after before = before

abbrev pub ear_after_meant : Heard → Hearing → Hearing
ear_after_meant h before = then_hears h.answer h.written.wrote.hearing before
