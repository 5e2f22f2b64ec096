-- Each contract fixes its function's whole answer and the lent buffer then: any two answers that it
-- allows are equal, and so are the buffers.
-- Assumes nothing.
use mathlib.Core.Path.{◌≡◌, refl, sym, ap, ◌∙◌}
use mathlib.Core.List.{List}
use Prim.Native.Nat.{ℕ}
use lib.Dec.{eqb}
use Rattle.words.specs.Answer.{Outcome, gives, refuses, pick}
use Rattle.text.specs.Put.{Put, came}
use Rattle.ride_text.specs.declared.Took.{Took}
use Rattle.ride.specs.declared.TraceRefused.{TraceRefused}
use Rattle.ride.proofs.Determined.{trace_refused_of, trace_refused_back}
use Rattle.std.specs.Prelude.{Result, Ok, Err}
use Rattle.ride_text.specs.declared.Listed.{Listed}
use Rattle.ride_text.specs.List.{Taken, Listing}
use Rattle.ride_text.specs.Says.{says_done, says_listed}
use Rattle.ride_text.proofs.put_kind.Kinds as put_kind_kinds
use Rattle.ride_text.proofs.put_kind.Reads as put_kind_reads
use Rattle.ride_text.proofs.put_line.Kinds as put_line_kinds
use Rattle.ride_text.proofs.put_line.Reads as put_line_reads
use Rattle.ride_text.proofs.put_styled.Kinds as put_styled_kinds
use Rattle.ride_text.proofs.put_styled.Reads as put_styled_reads
use Rattle.ride_text.proofs.put_end.Kinds as put_end_kinds
use Rattle.ride_text.proofs.put_end.Reads as put_end_reads
use Rattle.ride_text.proofs.list.Kinds as list_kinds
use Rattle.ride_text.proofs.list.Reads as list_reads
use Rattle.words.proofs.Told.{FixedWith}

-- From what an answer says, the answer.
abbrev pub done_of : Outcome Taken → Result Took TraceRefused
done_of (gives t) = Ok (record { records = t.records; bytes = t.bytes })
done_of (refuses n) = Err (trace_refused_of n)

pub done_back : (d : Result Took TraceRefused) → done_of (says_done d) ≡ d
done_back (Ok t) = refl
done_back (Err r) = ap Err (trace_refused_back r)

abbrev pub listed_of : Listing → Listed
listed_of l = record { ride = l.ride; number = l.number; done = done_of l.answer }

pub listed_back : (r : Listed) (out : List ℕ) → listed_of (says_listed r out) ≡ r
listed_back r out = ap (λ (d : Result Took TraceRefused). record { ride = r.ride; number = r.number; done = d }) (done_back r.done)

-- what two puts of one text have alike
same_put : (n n' : ℕ) (b b' : List ℕ) → came n b ≡ came n' b' → (n ≡ n') × (b ≡ b')
same_put n n' b b' e = (ap (λ (p : Put). p.next) e, ap (λ (p : Put). p.buffer) e)

pub put_kind_determined : FixedWith 1 put_kind_kinds.ps put_kind_kinds.r put_kind_reads.Post (λ κs x. x.1.0.now)
put_kind_determined κs a r r' x x' p q = same_put r r' x.1.0.now x'.1.0.now (p ∙ sym q)

pub put_line_determined : FixedWith 1 put_line_kinds.ps put_line_kinds.r put_line_reads.Post (λ κs x. x.1.0.now)
put_line_determined κs a r r' x x' p q = same_put r r' x.1.0.now x'.1.0.now (p ∙ sym q)

pub put_styled_determined : FixedWith 1 put_styled_kinds.ps put_styled_kinds.r put_styled_reads.Post (λ κs x. x.1.1.1.0.now)
put_styled_determined κs a r r' x x' p q = same_put r r' x.1.1.1.0.now x'.1.1.1.0.now (p ∙ sym q)

pub put_end_determined : FixedWith 1 put_end_kinds.ps put_end_kinds.r put_end_reads.Post (λ κs x. x.1.1.0.now)
put_end_determined κs a r r' x x' p q = same_put r r' x.1.1.0.now x'.1.1.0.now (p ∙ sym q)

pub list_determined : FixedWith 2 list_kinds.ps list_kinds.r list_reads.Post (λ κs x. x.1.1.1.1.1.0.now)
list_determined κs a r r' x x' p q =
    let same : says_listed r x.1.1.1.1.1.0.now ≡ says_listed r' x'.1.1.1.1.1.0.now = p ∙ sym q in (
      sym (listed_back r x.1.1.1.1.1.0.now) ∙ ap listed_of same ∙ listed_back r' x'.1.1.1.1.1.0.now,
      ap (λ (l : Listing). l.out) same,
    )
