-- The end of the ride and the refusals of a block, from what their tests say.
-- Assumes nothing.
use Rattle.std.proofs.Common.{Ok, Err}
use Prim.Native.Nat.{ℕ, ◌%◌, ◌≤◌, ◌<◌}
use native.Mathlib.Omega.{arith}
use mathlib.Core.Path.{◌≡◌, sym, ap, ap₂, ◌∙◌}
use mathlib.Core.Bool.{true, false}
use mathlib.Core.List.{List}
use lib.Dec.{eqb}
use lib.ListN.{length}
use borrow.Author.Tests.{le-leb, lt-leb}
use Rattle.words.specs.Answer.{gives, refuses}
use Rattle.text.specs.Put.{placed, put}
use Rattle.text.proofs.Standing.{stands}
use Rattle.settings.specs.declared.Store.{Store}
use Rattle.settings.specs.Versions.{kept}
use Rattle.settings.specs.Store.{judged}
use Rattle.settings.specs.At.{gap_at}
use Rattle.ride.specs.declared.Ride.{Ride}
use Rattle.ride.specs.declared.Ended.{Ended}
use Rattle.ride.specs.Step.{End, end}
use Rattle.ride.specs.Over.{records}
use Rattle.ride.specs.Says.{says_lines, says_ended}
use Rattle.acceptance.specs.declared.Acceptance.{Acceptance}
use Rattle.acceptance_text.specs.declared.Going.{Going}
use Rattle.acceptance_text.specs.declared.NotEnded.{NotEnded}
use Rattle.acceptance_text.specs.declared.taking.Troubles.{Troubles}
use Rattle.acceptance_text.specs.declared.taking.Written.{Written}
use Rattle.acceptance_text.specs.Taking.{Taking, take_all}
use Rattle.acceptance_text.specs.Accept.{began, accept_taken, accept, Finish, finish}
use Rattle.acceptance_text.specs.Accept as spec
use Rattle.acceptance_text.specs.Inside.{Writing, writes, written}
use Rattle.acceptance_text.proofs.Takings.{lines_short}

-- ---- a block

pub accept_refused : (g : Going) (store : Store) (trace out : List ℕ) (n : ℕ) → judged store ≡ refuses n → spec.stands g out n ≡ accept g store trace out
unfolding accept
accept_refused g store trace out n e = rw e

pub accept_length : (g : Going) (store : Store) (trace out : List ℕ) → judged store ≡ gives kept → eqb (length trace % 8) 0 ≡ false
    → spec.stands g out 16 ≡ accept g store trace out
unfolding accept
accept_length g store trace out e h = rw (e, h)

pub accept_taken_law : (g : Going) (store : Store) (trace out : List ℕ) → judged store ≡ gives kept → eqb (length trace % 8) 0 ≡ true
    → accept_taken (gap_at store) g (records trace) out ≡ accept g store trace out
unfolding accept
accept_taken_law g store trace out e h = rw (e, h)

-- ---- the end

pub no_end : (g : Going) (out : List ℕ) → length out < 128 → ◌≡◌ {A = Finish} (record { ending = Err NotEnded.NoRoom; going = g; out = out }) (finish g out)
unfolding finish
no_end g out h = rw (lt-leb 128 (length out) h)

-- What the end comes to, where there is room.
abbrev pub finished : Ride → Taking → List ℕ → Finish
finished ride t out =
    record { ending = Ok (length t.text); going = record { ride = ride; run = t.run; troubles = t.troubles }; out = placed t.text out 0 }

pub finish_is : (g : Going) (out : List ℕ) → 128 ≤ length out → finish g out ≡ finished (end g.ride).ride (take_all (began g) (end g.ride).lines) out
unfolding finish
finish_is g out h = rw (le-leb 128 (length out) h)

pub at_end : (g : Going) (out : List ℕ) (e : Ended) (w : Written) (x : List ℕ) → 128 ≤ length out → says_ended e ≡ end g.ride
    → written w x ≡ writes (take_all (began g) (says_lines e.lines)) out 0
    → ◌≡◌ {A = Finish} (record { ending = Ok w.next; going = record { ride = e.ride; run = w.run; troubles = w.troubles }; out = x }) (finish g out)
at_end g out e w x h is wrote =
    let t : Taking = take_all (began g) (says_lines e.lines) in
    let s = stands {t = t.text} (omega (arith, lines_short (began g) e.lines)) (ap (λ (z : Writing). z.text) wrote) in
    let next : w.next ≡ length t.text = omega (arith, s.put.0) in
    ap₂ (λ (n : ℕ) (b : List ℕ). record { ending = Ok n; going = record { ride = e.ride; run = w.run; troubles = w.troubles }; out = b }) next s.put.1
    ∙ ap₂ (λ (r : Acceptance) (q : Troubles). record { ending = Ok (length t.text); going = record { ride = e.ride; run = r; troubles = q }; out = placed t.text out 0 })
    (ap (λ (z : Writing). z.run) wrote) (ap (λ (z : Writing). z.troubles) wrote)
    ∙ ap (λ (z : End). finished z.ride (take_all (began g) z.lines) out) is
    ∙ sym (finish_is g out h)
