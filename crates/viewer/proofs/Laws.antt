-- A viewer that was opened shows after any calls what the plain definition says, and that is what a
-- fresh ride comes to.
-- Assumes nothing.
use Rattle.std.specs.Prelude.{Ok}
use Prim.Native.Nat.{ℕ, ◌%◌}
use mathlib.Core.Path.{◌≡◌, refl, sym, ap, ◌∙◌}
use mathlib.Core.Bool.{Bool, true, false}
use mathlib.Core.List.{List, [], ◌∷◌}
use lib.Dec.{eqb}
use lib.ListN.{length}
use denote.Ref.{Bor}
use Rattle.words.specs.Answer.{Outcome, gives, refuses}
use Rattle.settings.specs.declared.Store.{Store}
use Rattle.settings.specs.Versions.{Kept, kept}
use Rattle.settings.specs.Store.{judged}
use Rattle.settings.specs.At.{gap_at}
use Rattle.viewer.specs.declared.Viewer.{Viewer}
use Rattle.viewer.specs.declared.Started.{Started}
use Rattle.viewer.specs.Stand.{opened}
use Rattle.viewer.specs.Viewing.{Done, done, start, Forward, forward, Back}
use Rattle.viewer.specs.Says.{Holding, Over, says_opening_went}
use Rattle.viewer.specs.History.{Plain, first, Call, forth, back, called, plainly, straight}
use Rattle.viewer.specs.Laws.{Starts, Lead, Views, Viewing}
use Rattle.viewer.proofs.Straight.{first_held, plainly_held}
use Rattle.viewer.proofs.Ring.{Alike, opened_alike, called_alike}
use Rattle.words.proofs.Never.{cannot_be}

-- ---- some calls

pub lead_alike : (store : Store) (trace : List ℕ) (cs : List Call) (v w : Viewer) (p : Plain) → v.trace.now ≡ trace → judged store ≡ gives kept
    → Alike store v.stand p → Lead cs v w → Alike store w.stand (plainly (gap_at store) trace cs p)
lead_alike store trace [] v w p held good h l = rw (← l) h
lead_alike store trace (forth ∷ cs) v w p held good h l =
    let answer = l.1 in
    let stays : l.0.viewer.trace.now ≡ trace = ap (λ (o : Over Forward). o.trace.now) answer ∙ held in
    let stands = ap (λ (o : Over Forward). o.answer.stand) answer ∙ ap (λ (t : List ℕ). (forward t v.stand).stand) held in
    lead_alike store trace cs l.0.viewer w (called (gap_at store) trace forth p) stays good (rw stands (called_alike store trace forth v.stand p good h)) l.2
lead_alike store trace (back ∷ cs) v w p held good h l =
    let answer = l.1 in
    let stays : l.0.viewer.trace.now ≡ trace = ap (λ (o : Over Back). o.trace.now) answer ∙ held in
    let stands = ap (λ (o : Over Back). o.answer.stand) answer in
    lead_alike store trace cs l.0.viewer w (called (gap_at store) trace back p) stays good (rw stands (called_alike store trace back v.stand p good h)) l.2

-- ---- from an opened viewer

never : (A : Type 0) (n : ℕ) → ◌≡◌ {A = Outcome Done} (gives done) (refuses n) → A
never A n e = cannot_be cc

-- a viewer that is not refused has good settings, the whole trace, and stands at the first record
pub record Opens (store : Store) (trace : List ℕ) : Type 0 where
  pub good : judged store ≡ gives kept
  pub held : (start store trace).trace ≡ trace
  pub stand : (start store trace).stand ≡ opened store

one_kept : (k : Kept) → k ≡ kept
one_kept kept = refl

pub opens_by : (o : Outcome Kept) (d : Bool) (store : Store) (trace : List ℕ) → judged store ≡ o → eqb (length trace % 8) 0 ≡ d
    → gives done ≡ (start store trace).answer → Opens store trace
unfolding start
opens_by (gives k) true store trace e h o = record { good = e ∙ ap gives (one_kept k); held = rw (e, h); stand = rw (e, h) }
opens_by (gives k) false store trace e h o = never _ 16 (rw (e, h) at o)
opens_by (refuses n) d store trace e h o = never _ n (rw e at o)

opens : (store : Store) (trace : Bor (List ℕ)) (r : Started) → Starts store trace r → r.begun ≡ Ok tt → Opens store trace.now
opens store trace r s b =
    opens_by (judged store) (eqb (length trace.now % 8) 0) store trace.now refl refl (ap says_opening_went (sym b) ∙ ap (λ (x : Holding). x.start.answer) s)

views : (store : Store) (trace : Bor (List ℕ)) (r : Started) (cs : List Call) (w : Viewer) → Starts store trace r → r.begun ≡ Ok tt → Lead cs r.viewer w
    → Views (gap_at store) trace.now cs w
views store trace r cs w s b l =
    let o = opens store trace r s b in
    let held : r.viewer.trace.now ≡ trace.now = ap (λ (x : Holding). x.start.trace) s ∙ o.held in
    let stand : r.viewer.stand ≡ opened store = ap (λ (x : Holding). x.start.stand) s ∙ o.stand in
    let a = lead_alike store trace.now cs r.viewer w first held o.good (rw stand (opened_alike store)) l in
    record {
      shows = record { number = a.number; kept = a.kept; ride = a.ride };
      as_straight = a.ride ∙ (plainly_held (gap_at store) trace.now cs first (first_held (gap_at store) trace.now)).here ∙ ap (straight (gap_at store) trace.now) (sym a.number);
    }

pub viewing : Viewing
viewing = record { after_any = views }
