-- No false reading in pieces: what the calls hand out are the contacts of the whole line in one
-- buffer, each judged there, and of those none is read falsely.
-- Assumes nothing.
use Prim.Native.Nat.{ℕ, ◌+◌, ◌-◌}
use mathlib.Core.Path.{◌≡◌, refl, sym, ap, subst, ◌∙◌}
use mathlib.Core.List.{List, []}
use native.Mathlib.Omega.{arith}
use denote.Ref.{Bor}
use Rattle.words.specs.Answer.{gives}
use Rattle.telegram.specs.Stretch.{bit_at}
use Rattle.telegram.specs.declared.Telegram.{Telegram}
use Rattle.telegram.proofs.Taken.{taken}
use Rattle.balise_line.specs.Line.{OneBalise}
use Rattle.contact.specs.History.{sixteen_ones}
use Rattle.contact.specs.Contacts.{Contacts, contact, quiet, refused, outside, contacts}
use Rattle.contact.specs.Judge.{read, judge}
use Rattle.contact.specs.declared.Judged.{Judged}
use Rattle.contact_laws.specs.Calls.{JudgeContact}
use Rattle.contact_laws.proofs.Over.{from_taken}
use Rattle.antenna.specs.declared.Ear.{Ear}
use Rattle.antenna.specs.Line.{heard, judged_all}
use Rattle.antenna.proofs.Law.{hears_all}
use Rattle.noise_laws.specs.Reading.{ReadsTheSent}
use Rattle.noise_laws.proofs.Reading.{reads_the_contacts}
use Rattle.recording_laws.specs.Hearing.{bits_in}
use Rattle.recording_laws.proofs.Hearing.{small_enough}
use Rattle.recording_laws.proofs.Through.{all}
use Rattle.antenna_noise_laws.specs.InPieces.{AllTheSent, NoFalseReadingInPieces}

-- What a contact is judged to be, the contract of `judge` allows.
may_read : (o : OneBalise) (start len : ℕ) (m : Telegram) (first count : ℕ) → judge o.buffer start len o.s o.t ≡ gives (read (gives m) first count)
    → JudgeContact o.buffer start len o.s o.t (Judged.Read m first count)
may_read o start len m first count e =
    let lent : Bor (List ℕ) = record { ref_ptr = (0, 0); now = o.buffer } in
    (([], tt), lent, (lent, (start, (len, (o.s, (o.t, tt))))), refl, sym e)

-- The contacts, each judged with the balise's pair.
all_judged : (o : OneBalise) (w : Contacts) → ReadsTheSent o w → AllTheSent o (judged_all o.buffer (λ k. o.s) (λ k. o.t) w)
unfolding judged_all
all_judged o (contact start len then rest) reads = (
  λ m first count e. reads.1 (Judged.Read m first count) (may_read o start len m first count e) m first count refl,
  all_judged o rest reads.2,
)
all_judged o quiet reads = tt
all_judged o (refused n) reads = tt

pub no_false_reading_in_pieces : NoFalseReadingInPieces
no_false_reading_in_pieces o proper k equal ps in_one pair pass fresh last l begins calls =
    let b = o.buffer in
    let n = bits_in ps in
    let s : ℕ → ℕ = λ j. o.s in
    let t : ℕ → ℕ = λ j. o.t in
    let Handed-out = all (bit_at b) s t calls
    (λ j low. let here : 0 + j ≡ j = omega arith in (ap (bit_at b) here ∙ in_one.bits j low, sym (pair j low).0, sym (pair j low).1)) in
    let law = hears_all b s t n in_one.long (small_enough b n pass.taken) in
    let whole : n - 0 ≡ n = omega arith in
    let are = from_taken b 0 n pass.taken ∙ ap (contacts b outside sixteen_ones 0) whole in
    subst (AllTheSent o) (sym law.0 ∙ ap (λ (e : Ear). heard (bit_at b) s t e 0 n) (sym begins.1) ∙ Handed-out.0)
    (all_judged o (contacts b outside sixteen_ones 0 n) (subst (ReadsTheSent o) are (reads_the_contacts o proper k equal 0 n pass)))
