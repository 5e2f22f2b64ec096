-- Demand 1 holds of the viewer's functions: opening judges the settings first and then the length,
-- forward the end, back the kept count.
-- Assumes nothing.
use Prim.Native.Nat.{ℕ, ◌/◌}
use mathlib.Core.Path.{◌≡◌, refl, sym, ap, subst, ◌∙◌}
use mathlib.Core.Bool.{Bool, true, false, not}
use mathlib.Core.List.{List, [], ◌∷◌}
use borrow.Author.Tests.{leb-true, leb-false, lt-ltb, le-ltb}
use lib.Dec.{eqb, leb, ltb}
use lib.ListN.{length}
use Rattle.words.specs.Answer.{Outcome, gives, refuses, then, pick}
use Rattle.settings.specs.declared.Store.{Store}
use Rattle.settings.specs.Versions.{Kept}
use Rattle.settings.specs.Store.{judged}
use Rattle.ride.specs.declared.Lines.{Lines}
use Rattle.ride.specs.At.{record_at}
use Rattle.ride.specs.Says.{says_lines}
use Rattle.ride.proofs.Determined.{lines_of, lines_back}
use Rattle.viewer.specs.declared.Standing.{Standing}
use Rattle.viewer.specs.declared.Viewer.{Viewer}
use Rattle.viewer.specs.Stand.{opened, returned}
use Rattle.viewer.specs.Viewing.{Done, done, Start, unopened, start, Forward, stays, by_step, under, step_of, forward, Back, back}
use Rattle.viewer.specs.Says.{Holding, Over, over}
use Rattle.demands.specs.Table02.{nothing_kept, at_end}
use Rattle.demands.specs.Rules.{Rule, row, Decided, Is}
use Rattle.demands.specs.Lists.{forward_rules, back_rules}
use Rattle.demands.specs.Stores.{store_rules, trace_rules}
use Rattle.demands.specs.Viewing.{ViewersDecided, ViewersUntouched}
use Rattle.demands.proofs.Common.Rules.{true_not_false}
use Rattle.demands.proofs.Demand1.Rides.{gives_not}
use Rattle.demands.proofs.Demand1.StoreRules.{store_so}
use Rattle.demands.proofs.Demand1.JudgedFirst.{JudgedFirst, decided, untouched}

-- ---- opening

module _ (store : Store) (trace : List ℕ) where
  tests : JudgedFirst (λ (x : Start). x.answer) (unopened store) store trace (record { answer = gives done; trace = trace; stand = opened store }) (start store trace)
  unfolding start
  tests = record { bare = λ n. refl; refused = λ n e. rw e; short = λ e h. rw (e, h); whole = λ e h. rw (e, h) }

  start_so : Decided (Is done) (trace_rules store trace) (start store trace).answer
  start_so = decided tests (Is done) refl

  start_left : (n : ℕ) → (start store trace).answer ≡ refuses n → start store trace ≡ unopened store n
  start_left n e = untouched tests (done, refl) n e

-- ---- forward and back

past : (a b : ℕ) → leb a b ≡ not (ltb b a)
past a b = go (leb a b) refl
  where
    go : (t : Bool) → leb a b ≡ t → t ≡ not (ltb b a)
    go true e = ap not (sym (le-ltb b a (leb-true a b e)))
    go false e = ap not (sym (lt-ltb b a (leb-false a b e)))

under_then : (s : Standing) (o : Outcome Kept) (f : Forward) → then o (λ k. f.answer) ≡ (under s o f).answer
under_then s (gives k) f = refl
under_then s (refuses n) f = refl

end_so : (rules : List (Rule (Outcome Done))) (s : Standing) (f : Forward) (t : Bool) → Decided (Is done) rules f.answer
    → Decided (Is done) (row 23 (not t) ∷ rules) (pick t f (stays s 23)).answer
end_so rules s f true rest = (λ e. absurd (true_not_false (sym e)), λ e. rest)
end_so rules s f false rest = (λ e. refl, λ e. absurd (true_not_false e))

forward_so : (trace : List ℕ) (s : Standing) → Decided (Is done) (forward_rules trace s.number (store_rules s.settings [])) (forward trace s).answer
unfolding forward at_end
forward_so trace s =
    let step : Forward = by_step s (step_of s (record_at trace s.number)) in
    let rules : List (Rule (Outcome Done)) = store_rules s.settings [] in
    subst (λ (t : Bool). Decided (Is done) (row 23 t ∷ rules) (forward trace s).answer) (sym (past (length trace / 8) s.number))
    (end_so rules s (under s (judged s.settings) step) (ltb s.number (length trace / 8))
    (subst (λ (o : Outcome Done). Decided (Is done) rules o) (under_then s (judged s.settings) step)
    (store_so (Is done) (λ k. gives done) [] s.settings refl)))

back_so : (s : Standing) → Decided (Is done) (back_rules s.kept) (back s).answer
unfolding back nothing_kept
back_so s = go (eqb s.kept 0)
  where
    go : (t : Bool) → Decided (Is done) (row 22 t ∷ []) (pick {A = Back} t (record { answer = refuses 22; stand = s }) (record { answer = gives done; stand = returned s })).answer
    go true = (λ e. refl, λ e. absurd (true_not_false e))
    go false = (λ e. absurd (true_not_false (sym e)), λ e. refl)

pub viewers_decided : ViewersDecided
viewers_decided = record {
  start = λ store trace r c. let e = ap (λ (x : Holding). x.start.answer) c in rw e (start_so store trace.now);
  forward = λ v r c. let e = ap (λ (o : Over Forward). o.answer.answer) c in rw e (forward_so v.trace.now v.stand);
  back = λ v r c. let e = ap (λ (o : Over Back). o.answer.answer) c in rw e (back_so v.stand);
  start_at = λ store trace r c.
      let e = ap (λ (x : Start). x.answer) (c.4 ∙ ap (start store) c.3) in
      rw e (start_so store trace);
  forward_at = λ trace s r c.
      let e = ap (λ (f : Forward). f.answer) (c.4 ∙ ap (λ (t : List ℕ). forward t s) c.3) in
      rw e (forward_so trace s);
  back_at = λ s r c. let e = ap (λ (b : Back). b.answer) c.1 in rw e (back_so s);
}

-- ---- what a refusal leaves

forward_none : (s : Standing) (o : Outcome Kept) (step : Forward) (t : Bool) (n : ℕ) → step.answer ≡ gives done
    → (pick t (under s o step) (stays s 23)).answer ≡ refuses n → pick t (under s o step) (stays s 23) ≡ stays s n
forward_none s (gives k) step true n d e = absurd (gives_not (sym d ∙ e))
forward_none s (refuses m) step true n d e = let same : m ≡ n = cc in ap (stays s) same
forward_none s o step false n d e = let same : 23 ≡ n = cc in ap (stays s) same

forward_left : (trace : List ℕ) (s : Standing) (n : ℕ) → (forward trace s).answer ≡ refuses n → forward trace s ≡ stays s n
unfolding forward
forward_left trace s n e =
    forward_none s (judged s.settings) (by_step s (step_of s (record_at trace s.number))) (ltb s.number (length trace / 8)) n refl e

back_left : (s : Standing) (n : ℕ) → (back s).answer ≡ refuses n → (back s).stand ≡ s
unfolding back
back_left s n e = go (eqb s.kept 0) e
  where
    go : (t : Bool) → (pick {A = Back} t (record { answer = refuses 22; stand = s }) (record { answer = gives done; stand = returned s })).answer ≡ refuses n
        → (pick {A = Back} t (record { answer = refuses 22; stand = s }) (record { answer = gives done; stand = returned s })).stand ≡ s
    go true q = refl
    go false q = absurd (gives_not q)

-- the viewer of an answer
abbrev viewer_of : Over Forward → Viewer
viewer_of o = record { trace = o.trace; stand = o.answer.stand }

no_lines : (ls : Lines) → says_lines ls ≡ [] → ls ≡ Lines.None
no_lines ls e = sym (lines_back ls) ∙ ap lines_of e

pub viewers_untouched : ViewersUntouched
viewers_untouched = record {
  start = λ store trace r n c e.
      let begun = ap (λ (x : Holding). x.start) c in
      let left = begun ∙ start_left store trace.now n (sym (ap (λ (x : Start). x.answer) begun) ∙ e) in
      (ap (λ (x : Start). x.trace) left, ap (λ (x : Start). x.stand) left);
  forward = λ v r n c e.
      let left = c ∙ ap (over v.trace) (forward_left v.trace.now v.stand n (sym (ap (λ (o : Over Forward). o.answer.answer) c) ∙ e)) in
      (ap viewer_of left, no_lines r.lines (ap (λ (o : Over Forward). o.answer.lines) left), ap (λ (o : Over Forward). o.answer.closed) left);
  back = λ v r n c e.
      let stand = ap (λ (o : Over Back). o.answer.stand) c ∙ back_left v.stand n (sym (ap (λ (o : Over Back). o.answer.answer) c) ∙ e) in
      ap (λ (o : Over Back). record { trace = o.trace; stand = r.viewer.stand }) c ∙ ap (λ (s : Standing). record { trace = v.trace; stand = s }) stand;
  start_at = λ store trace r n c e.
      let is = c.4 ∙ ap (start store) c.3 in
      let left = is ∙ start_left store trace n (sym (ap (λ (x : Start). x.answer) is) ∙ e) in
      ap (λ (x : Start). x.stand) left;
  forward_at = λ trace s r n c e.
      let is = c.4 ∙ ap (λ (t : List ℕ). forward t s) c.3 in
      let left = is ∙ forward_left trace s n (sym (ap (λ (f : Forward). f.answer) is) ∙ e) in
      (ap (λ (f : Forward). f.stand) left, no_lines r.lines (ap (λ (f : Forward). f.lines) left), ap (λ (f : Forward). f.closed) left);
  back_at = λ s r n c e. ap (λ (b : Back). b.stand) c.1 ∙ back_left s n (sym (ap (λ (b : Back). b.answer) c.1) ∙ e);
}
