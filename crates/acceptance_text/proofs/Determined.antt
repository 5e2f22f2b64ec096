-- Each contract fixes the answer and every byte of the buffer: any two that it allows are equal.
-- Assumes nothing.
use mathlib.Core.Path.{◌≡◌, refl, sym, ap, ◌∙◌}
use Prim.Native.Nat.{ℕ}
use mathlib.Core.List.{List}
use Rattle.words.specs.Answer.{Outcome, gives, refuses}
use Rattle.std.specs.Prelude.{Result, Ok, Err}
use Rattle.ride.specs.declared.TraceRefused.{TraceRefused}
use Rattle.ride.proofs.Determined.{trace_refused_of, trace_refused_back}
use Rattle.ride_text.specs.declared.Took.{Took}
use Rattle.acceptance_text.specs.declared.Advanced.{Advanced}
use Rattle.acceptance_text.specs.Accept.{Taken, Advance, Finish}
use Rattle.acceptance_text.specs.Says.{says_progress, says_advanced, says_finished}
use Rattle.acceptance_text.proofs.accept.Kinds as accept_kinds
use Rattle.acceptance_text.proofs.accept.Reads as accept_reads
use Rattle.acceptance_text.proofs.finish.Kinds as finish_kinds
use Rattle.acceptance_text.proofs.finish.Reads as finish_reads
use Rattle.acceptance_text.proofs.put_entry.Kinds as put_entry_kinds
use Rattle.acceptance_text.proofs.put_entry.Reads as put_entry_reads
use Rattle.acceptance_text.proofs.put_sum.Kinds as put_sum_kinds
use Rattle.acceptance_text.proofs.put_sum.Reads as put_sum_reads
use Rattle.words.proofs.Told.{Fixed, FixedWith}
use Rattle.acceptance_text.proofs.is_passed.Kinds as is_passed_kinds
use Rattle.acceptance_text.proofs.is_passed.Reads as is_passed_reads
use Rattle.acceptance_text.proofs.put_last.Kinds as put_last_kinds
use Rattle.acceptance_text.proofs.put_last.Reads as put_last_reads
use Rattle.acceptance_text.proofs.put_refused.Kinds as put_refused_kinds
use Rattle.acceptance_text.proofs.put_refused.Reads as put_refused_reads
use Rattle.text.proofs.Putting.{same_put}

pub put_entry_determined : FixedWith 1 put_entry_kinds.ps put_entry_kinds.r put_entry_reads.Post (λ κs x. x.1.1.0.now)
put_entry_determined κs a r r' x x' p q = same_put (p ∙ sym q)

pub put_sum_determined : FixedWith 1 put_sum_kinds.ps put_sum_kinds.r put_sum_reads.Post (λ κs x. x.1.0.now)
put_sum_determined κs a r r' x x' p q = same_put (p ∙ sym q)

pub put_refused_determined : FixedWith 1 put_refused_kinds.ps put_refused_kinds.r put_refused_reads.Post (λ κs x. x.1.0.now)
put_refused_determined κs a r r' x x' p q = same_put (p ∙ sym q)

pub is_passed_determined : Fixed 0 is_passed_kinds.ps is_passed_kinds.r is_passed_reads.Post
is_passed_determined κs a r r' x x' p q = p ∙ sym q

pub put_last_determined : FixedWith 1 put_last_kinds.ps put_last_kinds.r put_last_reads.Post (λ κs x. x.1.1.1.0.now)
put_last_determined κs a r r' x x' p q = same_put (p ∙ sym q)

-- From what an answer says, the answer.
abbrev pub progress_of : Outcome Taken → Result Took TraceRefused
progress_of (gives t) = Ok (record { records = t.records; bytes = t.bytes })
progress_of (refuses n) = Err (trace_refused_of n)

pub progress_back : (d : Result Took TraceRefused) → progress_of (says_progress d) ≡ d
progress_back (Ok t) = refl
progress_back (Err r) = ap Err (trace_refused_back r)

abbrev pub advanced_of : Advance → Advanced
advanced_of a = record { going = a.going; progress = progress_of a.answer }

pub advanced_back : (r : Advanced) (out : List ℕ) → advanced_of (says_advanced r out) ≡ r
advanced_back r out = ap (λ (p : Result Took TraceRefused). record { going = r.going; progress = p }) (progress_back r.progress)

pub accept_determined : FixedWith 2 accept_kinds.ps accept_kinds.r accept_reads.Post (λ κs x. x.1.1.1.0.now)
accept_determined κs a r r' x x' p q =
    let same : says_advanced r x.1.1.1.0.now ≡ says_advanced r' x'.1.1.1.0.now = p ∙ sym q in (
      sym (advanced_back r x.1.1.1.0.now) ∙ ap advanced_of same ∙ advanced_back r' x'.1.1.1.0.now,
      ap (λ (l : Advance). l.out) same,
    )

pub finish_determined : FixedWith 1 finish_kinds.ps finish_kinds.r finish_reads.Post (λ κs x. x.1.0.now)
finish_determined κs a r r' x x' p q =
    let same : says_finished r x.1.0.now ≡ says_finished r' x'.1.0.now = p ∙ sym q in (
      ap (λ (f : Finish). record { going = f.going; ending = f.ending }) same,
      ap (λ (f : Finish). f.out) same,
    )
