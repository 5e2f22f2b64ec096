-- The hypotheses on a lead are met: an ear is begun, hears a lead of one whole frame into room for
-- one record, and its end has no further record.
-- Assumes nothing.
use Prim.Native.Nat.{ℕ, ◌*◌, ◌≤◌}
use mathlib.Core.Path.{◌≡◌, refl, sym, ap, ap₂, subst, ◌∙◌}
use mathlib.Core.List.{List, [], ◌∷◌}
use native.Mathlib.Omega.{arith}
use lib.IntN.{pos}
use lib.ListN.{length}
use Rattle.words.specs.Answer.{Outcome, gives}
use Rattle.telegram.specs.Sync.{differing, is_good, good_pair}
use Rattle.text.specs.Put.{placed}
use Rattle.settings.specs.Versions.{Kept, kept, settings_of, follows}
use Rattle.settings.specs.Store.{versions_of, all_follow, in_order_meant, judged}
use Rattle.settings.specs.At.{held_from, held_at, asked, hold}
use Rattle.contact.specs.History.{zeroes_of, zeroes, after, opens, closes}
use Rattle.antenna.specs.declared.Stand.{Stand}
use Rattle.antenna.specs.Hearing as antenna
use Rattle.std.specs.Prelude.{Some}
use Rattle.recording.specs.Frame.{line_of, odometer_of, accepted_after}
use Rattle.recording.specs.Recording as recording
use Rattle.recording.specs.Asking.{first_in, first_of, go_on, finish}
use Rattle.state_bytes.specs.Figures.{each, byte_of, spread, eight_at, figure_at_meant}
use Rattle.state_bytes.specs.Stores.{store_in}
use Rattle.ear_bytes.specs.declared.Hearing.{Hearing}
use Rattle.ear_bytes.specs.Ears.{figures_of, ear_bytes, ear_in}
use Rattle.ear_bytes.specs.Hearing.{fresh, some_of, Written, hear, end}
use Rattle.abi.specs.Face.{returned}
use Rattle.abi.specs.Stores.{kept_number}
use Rattle.abi.specs.Leads as leads
use Rattle.abi.specs.Leads.{ear_left, records_left, used_left, ear_after_meant}
use Rattle.demands.proofs.Witness.CallsMet.{lent, lent_out}
use Rattle.abi_laws.specs.LeadsCalls.{RecordBegin, Record, RecordEnd}
use Rattle.abi_laws.specs.Leads.{Heard, no_frame, call, Ended, no_more}
use Rattle.abi_laws.proofs.SettingsMet.{settings, settings_good}

-- ---- calls that the contracts allow

pub ear_back : ear_in (ear_bytes fresh) ≡ fresh
unfolding ear_in ear_bytes figures_of fresh recording.fresh antenna.fresh spread each byte_of eight_at figure_at_meant
ear_back = refl

pub begin_met : (before : List ℕ) → RecordBegin before (pos 0) (ear_bytes fresh)
begin_met before = (([], tt), lent_out before, (lent_out (ear_bytes fresh), tt), refl, refl, (refl, (refl, ear_back)))

-- By an ear whose hearing comes to this, and reads back.
record_met : (ear store lead room : List ℕ) (w : Written) → judged (store_in store) ≡ gives kept → w ≡ hear (ear_in ear) (store_in store) lead room
    → ear_in (ear_bytes w.wrote.hearing) ≡ w.wrote.hearing
    → Record ear store lead room (0 ∷ 0 ∷ []) (pos 0) (ear_bytes w.wrote.hearing) w.buffer (w.wrote.frames * 16 ∷ w.wrote.bytes ∷ [])
record_met ear store lead room w good is back =
    let told : List ℕ = w.wrote.frames * 16 ∷ w.wrote.bytes ∷ [] in
    let so : ◌≡◌ {A = leads.Heard} (record { answer = gives kept; written = w }) (leads.heard ear store lead room) =
    ap₂ (λ (o : Outcome Kept) (v : Written). record { answer = o; written = v }) (sym good) is in (
      ([], ([], ([], ([], ([], tt))))),
      lent_out ear,
      lent store,
      lent lead,
      lent_out room,
      lent_out (0 ∷ 0 ∷ []),
      (lent_out (ear_bytes w.wrote.hearing), (lent store, (lent lead, (lent_out w.buffer, (lent_out told, tt))))),
      refl,
      refl,
      refl,
      refl,
      refl,
      refl,
      refl,
      refl,
      (
        ap (λ (h : leads.Heard). returned kept_number h.answer) so,
        (ap (λ (h : leads.Heard). ear_left h ear) so, (ap (λ (h : leads.Heard). records_left h room) so, (ap (λ (h : leads.Heard). used_left h (0 ∷ 0 ∷ [])) so, back ∙ ap (λ (h : leads.Heard). ear_after_meant h (ear_in ear)) so))),
      ),
    )

-- The end of an ear that has no further record.
end_met : (ear room : List ℕ) (w : Written) → 8 ≤ length room → w ≡ end (ear_in ear) room → w.wrote.bytes ≡ 0 → ear_in (ear_bytes w.wrote.hearing) ≡ w.wrote.hearing → Ended ear []
end_met ear room w wide is none back =
    let told : List ℕ = w.wrote.bytes ∷ [] in
    let c : RecordEnd ear room (0 ∷ []) (pos 0) (ear_bytes w.wrote.hearing) w.buffer told = (
      ([], ([], ([], tt))),
      lent_out ear,
      lent_out room,
      lent_out (0 ∷ []),
      (lent_out (ear_bytes w.wrote.hearing), (lent_out w.buffer, (lent_out told, tt))),
      refl,
      refl,
      refl,
      refl,
      refl,
      refl,
      (
        refl,
        (
          ap (λ (v : Written). ear_bytes v.wrote.hearing) is,
          (ap (λ (v : Written). v.buffer) is, (ap (λ (v : Written). v.wrote.bytes ∷ []) is, back ∙ ap (λ (v : Written). v.wrote.hearing) is)),
        ),
      ),
    ) in
    no_more {room = room} wide (subst (λ (n : ℕ). RecordEnd ear room (0 ∷ []) (pos 0) (ear_bytes w.wrote.hearing) w.buffer (n ∷ [])) none c)

-- ---- a frame

-- A quiet frame at 5, room for a record, and what comes of it: the position.
abbrev frame : List ℕ
frame = 0 ∷ 0 ∷ 0 ∷ 5 ∷ 255 ∷ 255 ∷ 255 ∷ 255 ∷ 255 ∷ 255 ∷ 255 ∷ 255 ∷ 255 ∷ 255 ∷ 255 ∷ 255 ∷ []

abbrev room : List ℕ
room = 0 ∷ 0 ∷ 0 ∷ 0 ∷ 0 ∷ 0 ∷ 0 ∷ 0 ∷ []

abbrev position : List ℕ
position = 0 ∷ 0 ∷ 0 ∷ 5 ∷ 3 ∷ 0 ∷ 0 ∷ 0 ∷ []

abbrev then : Hearing
then = record { tape = record { ear = record { history = 65535; stand = Stand.Outside }; odometer = 5; opened = 0; last = Some 5 }; bit = 0 }

abbrev wrote : Written
wrote = record { wrote = record { hearing = then; frames = 1; bytes = 8 }; buffer = position }

one_heard : wrote ≡ hear fresh (store_in settings) frame room
unfolding hear some_of go_on first_of first_in fresh recording.fresh antenna.fresh antenna.hear recording.held_at hold asked held_from held_at judged versions_of in_order_meant all_follow follows settings_of good_pair is_good differing store_in each eight_at figure_at_meant after zeroes_of zeroes opens closes line_of odometer_of accepted_after placed
one_heard = refl

then_back : ear_in (ear_bytes then) ≡ then
unfolding ear_in ear_bytes figures_of spread each byte_of eight_at figure_at_meant
then_back = refl

pub hears_met : Heard settings frame (ear_bytes fresh) position (ear_bytes then)
hears_met =
    let is : wrote ≡ hear (ear_in (ear_bytes fresh)) (store_in settings) frame room = one_heard ∙ ap (λ (h : Hearing). hear h (store_in settings) frame room) (sym ear_back) in
    call {piece = frame} {room = room} {records = position} {later = []} {used = 16} {bytes = 8} [] (record_met (ear_bytes fresh) settings frame room wrote settings_good is then_back) (no_frame {lead = []} (omega arith))

none_more : record { wrote = record { hearing = then; frames = 0; bytes = 0 }; buffer = room } ≡ end then room
unfolding end some_of finish placed
none_more = refl

pub ends_met : Ended (ear_bytes then) []
ends_met =
    end_met (ear_bytes then) room (record { wrote = record { hearing = then; frames = 0; bytes = 0 }; buffer = room }) (omega arith)
    (none_more ∙ ap (λ (h : Hearing). end h room) (sym then_back)) refl then_back
