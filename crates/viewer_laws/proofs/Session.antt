-- Each move keeps a viewer alike to the plain definition, whose state is that of a fresh ride over
-- the records before its number.
-- Assumes nothing.
use Rattle.std.specs.Prelude.{Ok}
use Prim.Native.Nat.{ℕ, zero, suc, ◌*◌, ◌/◌, ◌%◌, ◌≤◌}
use mathlib.Core.Path.{◌≡◌, refl, sym, ap, subst, ◌∙◌}
use mathlib.Core.Bool.{Bool, true, false}
use mathlib.Core.List.{List, [], ◌∷◌}
use native.Mathlib.Omega.{arith}
use borrow.Author.Tests.{eq-eqb}
use lib.Dec.{eqb}
use lib.ListN.{length, take, drop, take-append-drop}
use lib.Seq.{length-take-le}
use Rattle.words.specs.Answer.{Outcome, gives, refuses}
use Rattle.settings.specs.declared.Store.{Store}
use Rattle.settings.specs.Versions.{Kept, kept}
use Rattle.settings.specs.Store.{judged}
use Rattle.settings.specs.At.{gap_at}
use Rattle.ride.specs.State.{fresh_ride}
use Rattle.ride.specs.Over.{first_records, records, ride_over, Run, run}
use Rattle.ride.proofs.Cutting.{take_records, front_records}
use Rattle.viewer.specs.declared.Standing.{Standing}
use Rattle.viewer.specs.declared.Opened.{Opened}
use Rattle.viewer.specs.Stand.{opened}
use Rattle.viewer.specs.Viewing.{Done, done, Start, start, forward as forward_of, back as back_of}
use Rattle.viewer.specs.Going.{further, Moved as Moves, forwards, backs}
use Rattle.viewer.specs.Says.{says_opening_went}
use Rattle.viewer.specs.History.{Plain, first, go_forth, go_back, forth, back as back_call, straight}
use Rattle.viewer.proofs.Straight.{Held, first_held, plainly_held}
use Rattle.viewer.proofs.Ring.{Alike, opened_alike, called_alike}
use Rattle.viewer.proofs.Often.{forward_stays, back_stays}
use Rattle.viewer.proofs.Laws.{opens_by}
use Rattle.viewer_laws.specs.Session.{StartAt, Move, forward, back, afresh, Lead, often, moved, session, Views, Sessions}

-- ---- many calls

module _ (store : Store) (trace : List ℕ) (good : judged store ≡ gives kept) where
  abbrev on : Plain → Plain
  on = go_forth (gap_at store) trace

  stuck : (n k : ℕ) (s : Standing) (p : Plain) → (forward_of trace s).answer ≡ refuses k → Alike store s p → Alike store s (often n on p)
  stuck zero k s p e h = h
  stuck (suc n) k s p e h = stuck n k s (on p) e (subst (λ (t : Standing). Alike store t (on p)) (forward_stays trace s k e) (called_alike store trace forth s p good h))

  forward_by : (o : Outcome Done) (n : ℕ) (s : Standing) (p : Plain) → (forward_of trace s).answer ≡ o
      → ((t : Standing) (q : Plain) → Alike store t q → Alike store (forwards n trace t).stand (often n on q))
      → Alike store s p → Alike store (further o s (forwards n trace (forward_of trace s).stand)).stand (often n on (on p))
  forward_by (gives d) n s p e rest h = rest (forward_of trace s).stand (on p) (called_alike store trace forth s p good h)
  forward_by (refuses k) n s p e rest h = stuck (suc n) k s p e h

  pub forwards_alike : (n : ℕ) (s : Standing) (p : Plain) → Alike store s p → Alike store (forwards n trace s).stand (often n on p)
  unfolding forwards
  forwards_alike zero s p h = h
  forwards_alike (suc n) s p h = forward_by (forward_of trace s).answer n s p refl (λ t q a. forwards_alike n t q a) h

  back_stuck : (n k : ℕ) (s : Standing) (p : Plain) → (back_of s).answer ≡ refuses k → Alike store s p → Alike store s (often n go_back p)
  back_stuck zero k s p e h = h
  back_stuck (suc n) k s p e h = back_stuck n k s (go_back p) e (subst (λ (t : Standing). Alike store t (go_back p)) (back_stays s k e) (called_alike store trace back_call s p good h))

  back_by : (o : Outcome Done) (n : ℕ) (s : Standing) (p : Plain) → (back_of s).answer ≡ o
      → ((t : Standing) (q : Plain) → Alike store t q → Alike store (backs n t).stand (often n go_back q))
      → Alike store s p → Alike store (further o s (backs n (back_of s).stand)).stand (often n go_back (go_back p))
  back_by (gives d) n s p e rest h = rest (back_of s).stand (go_back p) (called_alike store trace back_call s p good h)
  back_by (refuses k) n s p e rest h = back_stuck (suc n) k s p e h

  pub backs_alike : (n : ℕ) (s : Standing) (p : Plain) → Alike store s p → Alike store (backs n s).stand (often n go_back p)
  unfolding backs
  backs_alike zero s p h = h
  backs_alike (suc n) s p h = back_by (back_of s).answer n s p refl (λ t q a. backs_alike n t q a) h

-- ---- the plain definition holds states of a fresh ride

forth_held : (n : ℕ) (gaps : ℕ → ℕ) (trace : List ℕ) (p : Plain) → Held gaps trace p → Held gaps trace (often n (go_forth gaps trace) p)
forth_held zero gaps trace p h = h
forth_held (suc n) gaps trace p h = forth_held n gaps trace (go_forth gaps trace p) (plainly_held gaps trace (forth ∷ []) p h)

back_held : (n : ℕ) (gaps : ℕ → ℕ) (trace : List ℕ) (p : Plain) → Held gaps trace p → Held gaps trace (often n go_back p)
back_held zero gaps trace p h = h
back_held (suc n) gaps trace p h = back_held n gaps trace (go_back p) (plainly_held gaps trace (back_call ∷ []) p h)

moved_held : (gaps : ℕ → ℕ) (trace : List ℕ) (m : Move) (p : Plain) → Held gaps trace p → Held gaps trace (moved gaps trace m p)
moved_held gaps trace (forward n) p h = forth_held n gaps trace p h
moved_held gaps trace (back n) p h = back_held n gaps trace p h
moved_held gaps trace afresh p h = first_held gaps trace

session_held : (gaps : ℕ → ℕ) (trace : List ℕ) (ms : List Move) (p : Plain) → Held gaps trace p → Held gaps trace (session gaps trace ms p)
session_held gaps trace [] p h = h
session_held gaps trace (m ∷ ms) p h = session_held gaps trace ms (moved gaps trace m p) (moved_held gaps trace m p h)

-- ---- a session

-- a fresh viewer stands at the first record, refused or not
stands_by : (o : Outcome Kept) (d : Bool) (store : Store) (trace : List ℕ) → judged store ≡ o → eqb (length trace % 8) 0 ≡ d → (start store trace).stand ≡ opened store
unfolding start
stands_by (gives k) true store trace e h = rw (e, h)
stands_by (gives k) false store trace e h = rw (e, h)
stands_by (refuses n) d store trace e h = rw e

stands : (store : Store) (trace : List ℕ) (r : Opened) → StartAt store trace r → r.stand ≡ opened store
stands store trace r c = ap (λ (x : Start). x.stand) (c.4 ∙ ap (start store) c.3) ∙ stands_by (judged store) (eqb (length trace % 8) 0) store trace refl refl

lead_alike : (store : Store) (trace : List ℕ) (ms : List Move) (s t : Standing) (p : Plain) → judged store ≡ gives kept → Alike store s p → Lead trace ms s t
    → Alike store t (session (gap_at store) trace ms p)
lead_alike store trace [] s t p good h l = subst (λ (x : Standing). Alike store x p) l h
lead_alike store trace (forward n ∷ ms) s t p good h l =
    let is : l.0.stand ≡ (forwards n trace s).stand = ap (λ (m : Moves). m.stand) (l.1.4 ∙ ap (λ (x : List ℕ). forwards n x s) l.1.3) in
    let next : Plain = often n (go_forth (gap_at store) trace) p in
    lead_alike store trace ms l.0.stand t next good (subst (λ (x : Standing). Alike store x next) (sym is) (forwards_alike store trace good n s p h)) l.2
lead_alike store trace (back n ∷ ms) s t p good h l =
    let is : l.0.stand ≡ (backs n s).stand = ap (λ (m : Moves). m.stand) l.1.1 in
    let next : Plain = often n go_back p in
    lead_alike store trace ms l.0.stand t next good (subst (λ (x : Standing). Alike store x next) (sym is) (backs_alike store trace good n s p h)) l.2
lead_alike store trace (afresh ∷ ms) s t p good h l =
    let is : l.0.stand ≡ opened store = stands s.settings trace l.0 l.1 ∙ ap opened h.set_to in
    lead_alike store trace ms l.0.stand t first good (subst (λ (x : Standing). Alike store x first) (sym is) (opened_alike store)) l.2

-- ---- as `run` over the records before the number

front : (n : ℕ) (trace : List ℕ) → n ≤ length trace / 8 → records (take (n * 8) trace) ≡ take n (records trace)
front n trace h =
    let fits : n * 8 ≤ length trace = omega arith in
    let long : length (take (n * 8) trace) ≡ n * 8 = length-take-le (n * 8) trace fits in
    let count : length (take (n * 8) trace) / 8 ≡ n = omega arith in
    let enough : n * 8 ≤ length (take (n * 8) trace) = omega arith in
    ap (λ (k : ℕ). first_records k (take (n * 8) trace)) count
    ∙ sym (front_records n (take (n * 8) trace) (drop (n * 8) trace) enough)
    ∙ ap (first_records n) (take-append-drop (n * 8) trace)
    ∙ sym (take_records n (length trace / 8) trace h)

run_is : (store : Store) (trace : List ℕ) (n : ℕ) → judged store ≡ gives kept → n ≤ length trace / 8 → (run fresh_ride store (take (n * 8) trace)).ride ≡ straight (gap_at store) trace n
unfolding run
run_is store trace n good h =
    let fits : n * 8 ≤ length trace = omega arith in
    let long : length (take (n * 8) trace) ≡ n * 8 = length-take-le (n * 8) trace fits in
    let whole : length (take (n * 8) trace) % 8 ≡ 0 = omega arith in
    rw (good, eq-eqb (length (take (n * 8) trace) % 8) 0 whole)
    (ap (λ (rs : List (List ℕ)). (ride_over (gap_at store) fresh_ride 1 rs).ride) (front n trace h))

views : (store : Store) (trace : List ℕ) (r : Opened) (ms : List Move) (t : Standing) → StartAt store trace r → r.begun ≡ Ok tt → Lead trace ms r.stand t
    → Views store trace (session (gap_at store) trace ms first) t
views store trace r ms t c b l =
    let answer : gives done ≡ (start store trace).answer = ap says_opening_went (sym b) ∙ ap (λ (x : Start). x.answer) (c.4 ∙ ap (start store) c.3) in
    let good : judged store ≡ gives kept = (opens_by (judged store) (eqb (length trace % 8) 0) store trace refl refl answer).good in
    let a = lead_alike store trace ms r.stand t first good (subst (λ (x : Standing). Alike store x first) (sym (stands store trace r c)) (opened_alike store)) l in
    let h = session_held (gap_at store) trace ms first (first_held (gap_at store) trace) in
    let within : t.number ≤ length trace / 8 = subst (λ (k : ℕ). k ≤ length trace / 8) (sym a.number) h.within in
    record {
      number = a.number;
      kept = a.kept;
      settings = a.set_to;
      as_run = λ ran x.
          a.ride ∙ h.here ∙ ap (straight (gap_at store) trace) (sym a.number)
          ∙ sym (run_is store trace t.number good within)
          ∙ sym (ap (λ (y : Run). y.ride) (x.4 ∙ ap (run fresh_ride store) x.3));
    }

pub sessions : Sessions
sessions = record { after_any = views }
