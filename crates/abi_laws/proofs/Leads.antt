-- The laws of leads from C: each contract hands over what is returned, left and read back; a call
-- after the other hands over the records of the rest.
-- Assumes nothing.
use Prim.Native.Nat.{ℕ, ◌*◌, ◌≤◌}
use mathlib.Core.Path.{◌≡◌, refl, sym, ap, ap₂, subst, ◌∙◌}
use mathlib.Core.Logic.{◌⊎◌, inl, inr}
use mathlib.Core.List.{List, [], ◌∷◌, ◌++◌}
use native.Mathlib.Omega.{arith}
use lib.ListN.{take, drop, get_or}
use lib.IntN.{ℤ}
use Rattle.words.specs.Answer.{Outcome, gives, then}
use Rattle.settings.specs.declared.Store.{Store}
use Rattle.settings.specs.Versions.{Kept, kept}
use Rattle.settings.specs.Store.{judged}
use Rattle.state_bytes.specs.Stores.{store_in}
use Rattle.recording.specs.declared.Tape.{Tape}
use Rattle.recording.specs.Recording.{Taped, silent, over_frames, frames_of, the_end_meant, recorded}
use Rattle.ear_bytes.specs.declared.Hearing.{Hearing}
use Rattle.ear_bytes.specs.Ears.{ear_bytes, ear_in}
use Rattle.ear_bytes.specs.Hearing.{fresh, joined, Written, hear, end}
use Rattle.ear_bytes.specs.Laws.{to_come, wrote_of}
use Rattle.ear_bytes.proofs.Pieces.{any_room, joined_two}
use Rattle.ear_bytes.proofs.Ends.{any_room_at_end, none_left}
use Rattle.ear_bytes.proofs.Forward.{goes_forward}
use Rattle.abi.specs.Face.{returned}
use Rattle.abi.specs.Stores.{kept_number}
use Rattle.abi.specs.Leads.{heard, ear_left, records_left, used_left, ear_after_meant}
use Rattle.abi.proofs.Heard.{AsHeard}
use Rattle.demands.specs.Rules.{Is, Decided}
use Rattle.demands.specs.Stores.{store_rules}
use Rattle.demands.proofs.Demand1.StoreRules.{store_so}
use Rattle.demands.proofs.Demand1.Stores.{no_more as no_further}
use Rattle.abi_laws.specs.LeadsCalls.{Record, RecordEnd}
use Rattle.abi_laws.specs.Leads.{LeadsDecided, LeadsUntouched, EarReadsBack, Heard, no_frame, call, Ended, no_more, call as call_end, LeadAsAWhole, GoesForward}
use Rattle.abi_laws.proofs.Demand1.{decided_of, kept_there}

-- ---- what the contracts say of the bytes that were lent

came : (ear store lead room out : List ℕ) (r : ℤ) (next records told : List ℕ) → Record ear store lead room out r next records told
    → AsHeard (heard ear store lead room) ear room out r next records told
came ear store lead room out r next records told c =
    let Q : List ℕ → List ℕ → List ℕ → List ℕ → List ℕ → List ℕ → List ℕ → List ℕ → Type 0 =
    λ (a s l b o e w t : List ℕ). AsHeard (heard a s l b) a b o r e w t in
    let e0 = c.6.0.now in
    let e3 = c.6.1.1.1.0.now in
    let e4 = c.6.1.1.1.1.0.now in
    let p1 : Q ear c.2.now c.3.now c.4.now c.5.now e0 e3 e4 = subst (λ (z : List ℕ). Q z c.2.now c.3.now c.4.now c.5.now e0 e3 e4) c.7 c.15 in
    let p2 : Q ear store c.3.now c.4.now c.5.now e0 e3 e4 = subst (λ (z : List ℕ). Q ear z c.3.now c.4.now c.5.now e0 e3 e4) c.8 p1 in
    let p3 : Q ear store lead c.4.now c.5.now e0 e3 e4 = subst (λ (z : List ℕ). Q ear store z c.4.now c.5.now e0 e3 e4) c.9 p2 in
    let p4 : Q ear store lead room c.5.now e0 e3 e4 = subst (λ (z : List ℕ). Q ear store lead z c.5.now e0 e3 e4) c.10 p3 in
    let p5 : Q ear store lead room out e0 e3 e4 = subst (λ (z : List ℕ). Q ear store lead room z e0 e3 e4) c.11 p4 in
    let p6 : Q ear store lead room out next e3 e4 = subst (λ (z : List ℕ). Q ear store lead room out z e3 e4) c.12 p5 in
    let p7 : Q ear store lead room out next records e4 = subst (λ (z : List ℕ). Q ear store lead room out next z e4) c.13 p6 in
    subst (λ (z : List ℕ). Q ear store lead room out next records z) c.14 p7

-- What the end leaves.
record Closing (ear room next records told : List ℕ) : Type 0 where
  wrote : records ≡ (end (ear_in ear) room).buffer
  counted : told ≡ (end (ear_in ear) room).wrote.bytes ∷ []
  reads : ear_in next ≡ (end (ear_in ear) room).wrote.hearing

closes : (ear room out : List ℕ) (r : ℤ) (next records told : List ℕ) → RecordEnd ear room out r next records told → Closing ear room next records told
closes ear room out r next records told c =
    let after : List ℕ → List ℕ → Written = λ (a b : List ℕ). end (ear_in a) b in
    let to : after c.1.now c.2.now ≡ after ear room = ap₂ after c.5 c.6 in
    record {
      wrote = sym c.9 ∙ c.11.1.1.0 ∙ ap (λ (w : Written). w.buffer) to;
      counted = sym c.10 ∙ c.11.1.1.1.0 ∙ ap (λ (w : Written). w.wrote.bytes ∷ []) to;
      reads = ap ear_in (sym c.8) ∙ c.11.1.1.1.1 ∙ ap (λ (w : Written). w.wrote.hearing) to;
    }

-- ---- demand 1, and what is left

store_decided : (store : Store) → Decided (Is kept) (store_rules store []) (judged store)
store_decided store =
    subst (λ (o : Outcome Kept). Decided (Is kept) (store_rules store []) o) (no_further (judged store)) (store_so (Is kept) (λ k. gives kept) [] store refl)

pub leads_decided : LeadsDecided
leads_decided = record {
  begin = λ before r after c. c.5.0;
  hears = λ ear store lead room out r next records told c.
      decided_of (returned kept_number) (Is kept) (store_rules (store_in store) []) (judged (store_in store)) (came ear store lead room out r next records told c).0 (store_decided (store_in store));
  ends = λ ear room out r next records told c. c.11.0;
}

pub leads_untouched : LeadsUntouched
leads_untouched ear store lead room out r next records told c refused =
    let p = came ear store lead room out r next records told c in
    let w : Written = hear (ear_in ear) (store_in store) lead room in
    let o : Outcome Kept = judged (store_in store) in (
      kept_there kept_number (λ (k : Kept) (b : List ℕ). ear_bytes w.wrote.hearing) o p.0 p.1.0 refused,
      kept_there kept_number (λ (k : Kept) (b : List ℕ). w.buffer) o p.0 p.1.1.0 refused,
      kept_there kept_number (λ (k : Kept) (b : List ℕ). w.wrote.frames * 16 ∷ w.wrote.bytes ∷ []) o p.0 p.1.1.1.0 refused,
    )

pub ear_reads_back : EarReadsBack
ear_reads_back = record {
  begin = λ before r after c. ap ear_in (sym c.4) ∙ c.5.1.1;
  hears = λ ear store lead room out r next records told c. (came ear store lead room out r next records told c).1.1.1.1;
  ends = λ ear room out r next records told c. (closes ear room out r next records told c).reads;
  begun_bytes = λ before r after c. sym c.4 ∙ c.5.1.0 ∙ ap ear_bytes (sym (ap ear_in (sym c.4) ∙ c.5.1.1));
  heard_bytes = λ ear store lead room out r next records told good c.
      let p = came ear store lead room out r next records told c in
      let w : Written = hear (ear_in ear) (store_in store) lead room in
      let left_is : next ≡ ear_bytes w.wrote.hearing = p.1.0 ∙ ap (λ (q : Outcome Kept). ear_left (record { answer = q; written = w }) ear) good in
      let held : ear_in next ≡ w.wrote.hearing = p.1.1.1.1 ∙ ap (λ (q : Outcome Kept). ear_after_meant (record { answer = q; written = w }) (ear_in ear)) good in
      left_is ∙ ap ear_bytes (sym held);
  ended_bytes = λ ear room out r next records told c. sym c.8 ∙ c.11.1.0 ∙ ap ear_bytes (sym (ap ear_in (sym c.8) ∙ c.11.1.1.1.1));
}

-- ---- pieces and rooms

-- What a call under a store in order did.
record Done (ear store lead room next records : List ℕ) (used bytes : ℕ) : Type 0 where
  used_is : used ≡ 16 * (hear (ear_in ear) (store_in store) lead room).wrote.frames
  bytes_is : bytes ≡ (hear (ear_in ear) (store_in store) lead room).wrote.bytes
  wrote_is : take bytes records ≡ wrote_of (hear (ear_in ear) (store_in store) lead room)
  next_is : ear_in next ≡ (hear (ear_in ear) (store_in store) lead room).wrote.hearing

done : (ear store lead room out : List ℕ) (r : ℤ) (next records : List ℕ) (used bytes : ℕ) → judged (store_in store) ≡ gives kept
    → Record ear store lead room out r next records (used ∷ bytes ∷ []) → Done ear store lead room next records used bytes
done ear store lead room out r next records used bytes good c =
    let p = came ear store lead room out r next records (used ∷ bytes ∷ []) c in
    let w : Written = hear (ear_in ear) (store_in store) lead room in
    let o : Outcome Kept = judged (store_in store) in
    let told : used ∷ bytes ∷ [] ≡ w.wrote.frames * 16 ∷ w.wrote.bytes ∷ [] =
    p.1.1.1.0 ∙ ap (λ (q : Outcome Kept). used_left (record { answer = q; written = w }) out) good in
    let buffer : records ≡ w.buffer = p.1.1.0 ∙ ap (λ (q : Outcome Kept). records_left (record { answer = q; written = w }) room) good in
    let first : used ≡ w.wrote.frames * 16 = ap (λ (l : List ℕ). get_or l 0 0) told in
    let second : bytes ≡ w.wrote.bytes = ap (λ (l : List ℕ). get_or l 1 0) told in
    record {
      used_is = omega arith;
      bytes_is = second;
      wrote_is = ap₂ (λ (n : ℕ) (l : List ℕ). take n l) second buffer;
      next_is = p.1.1.1.1 ∙ ap (λ (q : Outcome Kept). ear_after_meant (record { answer = q; written = w }) (ear_in ear)) good;
    }

-- What is written call by call, and the tape then.
all_heard : {store lead ear first last : List ℕ} → judged (store_in store) ≡ gives kept → Heard store lead ear first last
    → (first ≡ joined (to_come (ear_in ear) (store_in store) lead).records) × ((ear_in last).tape ≡ (to_come (ear_in ear) (store_in store) lead).tape)
unfolding over_frames
all_heard {store} {lead} {ear} good (no_frame few) =
    let none : frames_of lead ≡ 0 = omega arith in
    let is : to_come (ear_in ear) (store_in store) lead ≡ silent (ear_in ear).tape =
    ap (λ (n : ℕ). over_frames (store_in store) lead (ear_in ear).tape 0 (ear_in ear).bit n) none in
    (sym (ap (λ (x : Taped). joined x.records) is), sym (ap (λ (x : Taped). x.tape) is))
all_heard {store} {ear = ear} {last = last} good (call {next = next} {piece = piece} {room = room} {out = out} {records = records} {later = later} {used = used} {bytes = bytes} {r = r} rest c on) =
    let d = done ear store piece room out r next records used bytes good c in
    let w : Written = hear (ear_in ear) (store_in store) piece room in
    let law = any_room (ear_in ear) (store_in store) piece rest room in
    let ih = all_heard good on in
    let there : to_come (ear_in next) (store_in store) (drop used (piece ++ rest)) ≡ to_come w.wrote.hearing (store_in store) (drop (16 * w.wrote.frames) (piece ++ rest)) =
    ap₂ (λ (h : Hearing) (n : ℕ). to_come h (store_in store) (drop n (piece ++ rest))) d.next_is d.used_is in (
      ap₂ (λ (a b : List ℕ). a ++ b) d.wrote_is (ih.0 ∙ ap (λ (x : Taped). joined x.records) there) ∙ sym law.0,
      ih.1 ∙ ap (λ (x : Taped). x.tape) there ∙ sym law.1,
    )

all_ended : {ear then : List ℕ} → Ended ear then → then ≡ joined (the_end_meant (ear_in ear).tape).records
all_ended {ear} (no_more {room = room} {out = out} {next = next} {records = records} {r = r} enough c) =
    let d = closes ear room out r next records (0 ∷ []) c in
    let none : 0 ≡ (end (ear_in ear) room).wrote.bytes = ap (λ (l : List ℕ). get_or l 0 0) d.counted in
    sym (ap joined (none_left (ear_in ear) room enough (sym none)))
all_ended {ear} (call_end {room = room} {out = out} {next = next} {records = records} {later = later} {bytes = bytes} {r = r} c on) =
    let d = closes ear room out r next records (bytes ∷ []) c in
    let w : Written = end (ear_in ear) room in
    let counted : bytes ≡ w.wrote.bytes = ap (λ (l : List ℕ). get_or l 0 0) d.counted in
    ap₂ (λ (a b : List ℕ). a ++ b) (ap₂ (λ (n : ℕ) (l : List ℕ). take n l) counted d.wrote)
    (all_ended on ∙ ap (λ (h : Hearing). joined (the_end_meant h.tape).records) d.reads)
    ∙ sym (any_room_at_end (ear_in ear) room)

pub lead_as_a_whole : LeadAsAWhole
unfolding recorded fresh
lead_as_a_whole store lead before ear last first then r good begun hears ends =
    let start : ear_in ear ≡ fresh = ear_reads_back.begin before r ear begun in
    let h = all_heard good hears in
    let x : Taped = to_come fresh (store_in store) lead in
    let there : to_come (ear_in ear) (store_in store) lead ≡ x = ap (λ (k : Hearing). to_come k (store_in store) lead) start in
    let at_first : first ≡ joined x.records = h.0 ∙ ap (λ (y : Taped). joined y.records) there in
    let at_last : then ≡ joined (the_end_meant x.tape).records =
    all_ended ends ∙ ap (λ (t : Tape). joined (the_end_meant t).records) (h.1 ∙ ap (λ (y : Taped). y.tape) there) in
    ap₂ (λ (a b : List ℕ). a ++ b) at_first at_last ∙ sym (joined_two x.records (the_end_meant x.tape).records)

pub forward : GoesForward
forward ear store lead room out r next records used bytes good enough c =
    let d = done ear store lead room out r next records used bytes good c in
    by_either d.bytes_is d.used_is (goes_forward (ear_in ear) (store_in store) lead room enough)
  where
    by_either : {bytes used wrote frames all : ℕ} → bytes ≡ wrote → used ≡ 16 * frames → (8 ≤ wrote) ⊎ (frames ≡ all) → (8 ≤ bytes) ⊎ (used ≡ 16 * all)
    by_either b u (inl h) = inl (omega (arith, b, h))
    by_either b u (inr h) = inr (omega (arith, u, h))
