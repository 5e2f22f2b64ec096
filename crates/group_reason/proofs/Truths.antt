-- What the explainer names is true: case by case with the judgement.
-- Assumes nothing.
use Prim.Native.Nat.{ℕ, ◌+◌}
use mathlib.Core.Path.{◌≡◌, refl, sym, ap, subst, ◌∙◌}
use mathlib.Core.Logic.{◌⊎◌, inl, inr}
use mathlib.Core.Bool.{Bool, true, false, ◌&&◌}
use mathlib.Core.List.{List}
use native.Mathlib.Omega.{arith}
use lib.Dec.{eqb, ltb}
use lib.ListN.{length}
use borrow.Author.Tests.{eqb-true, eq-eqb, ltb-true}
use Rattle.std.specs.Prelude.{Result}
use Rattle.words.specs.Answer.{Answer, Outcome, gives, refuses, then, pick}
use Rattle.group_rows.specs.declared.Direction.{Direction}
use Rattle.group_rows.specs.declared.Kind.{Kind}
use Rattle.group_rows.specs.declared.Placed.{Placed}
use Rattle.group_rows.specs.declared.Picked.{Picked}
use Rattle.group_rows.specs.Row.{Y, Z, Found, none, found}
use Rattle.group_rows.specs.Fitting.{fitting}
use Rattle.group_rows.proofs.Bools.{both, false_true}
use Rattle.group.specs.declared.Group.{Group}
use Rattle.group.specs.declared.GroupRefused.{GroupRefused}
use Rattle.group.specs.Balise as received
use Rattle.group.specs.Distance.{is_preset, no_increase}
use Rattle.group.specs.Numbers.{number_of}
use Rattle.group.specs.declared.Message.{Message}
use Rattle.group.specs.Judge.{y_of, B, signal_distance, content_of, message_of, judge_as, judge_read, judge}
use Rattle.group.specs.Says.{says_group_judged}
use borrow.Fn.Kinds.{ended_of}
use denote.Triple.Clauses.{AtExit}
use Rattle.group.proofs.judge.Kinds as judge_kinds
use Rattle.group.proofs.judge.Reads as judge_reads
use Rattle.group_reason.proofs.explain.Kinds as explain_kinds
use Rattle.group_reason.proofs.explain.Reads as explain_reads
use Rattle.group_reason.specs.declared.Reason.{Reason}
use Rattle.group_reason.specs.Opening.{opening_run}
use Rattle.group_reason.specs.Reason.{Cause, balises, bad, Explained, no_reason, because}
use Rattle.group_reason.specs.Explain.{read_from, is_found, why_present, why_row, why_fit, why_read, explain}
use Rattle.group_reason.specs.Says.{says_reason}
use Rattle.group_reason.specs.Truths.{Explains, Judges, Culprit, BreaksRule, Why, why_10, why_11, why_12, why_13, why_15, Right, Truths}
use Rattle.group.specs.declared.Heard.{Heard}
use Rattle.group_reason.proofs.Examples.{at, a_one, a_nine, two, three, counted, one_balise, six_balises, second_unreadable, two_of_three, b_breaks_law, accepted_of_the_ride}
use Rattle.group_reason.proofs.Runs.{run_is_longest}
use Rattle.group_reason.proofs.Firsts.{unnamed, read_unnamed, names_first}
use Rattle.group_reason.proofs.Nines.{is_judged, only_13, nine_there}
use Rattle.group_reason.proofs.Culprits.{Decided, breaks, allowed, decided}
use Rattle.words.proofs.Never.{cannot_be}

-- ---- the row that fits

module _ (g : Group) (bs : List Placed) (read : received.read_all (received.balises g) ≡ gives bs) (row : Picked) (fits : fitting bs ≡ gives row) where
  -- What a group of this direction and kind is judged and said to be.
  abbrev OfKind : Kind → Type 0
  OfKind k =
      Right g (then (content_of k row.speed (Y row.a.part) (Z row.a.part) bs) λ more. gives (message_of row (number_of bs) more)) (why_present k (Z row.a.part) bs)

  rule : (i place : ℕ) (b : Placed) → B bs ≡ found b → row.direction ≡ Direction.Present → (row.kind ≡ Kind.Signal) ⊎ (row.kind ≡ Kind.Warning) → Culprit bs row b i place → BreaksRule g i place
  rule i place b is way kind c = record { parts = bs; read = read; row = row; fits = fits; present = way; kind = kind; b = b; is_B = is; culprit = c }

  of_signal : (b : Placed) → B bs ≡ found b → row.direction ≡ Direction.Present → row.kind ≡ Kind.Signal → OfKind Kind.Signal
  unfolding signal_distance
  of_signal b is way kind = go (decided row b bs is (is_preset (y_of (B bs)) && no_increase (Z row.a.part)) from to)
    where
      by : y_of (B bs) ≡ Y b.part
      by = ap y_of is

      from : is_preset (y_of (B bs)) && no_increase (Z row.a.part) ≡ true → (row.kind ≡ Kind.Signal) × (Y b.part ≡ 14) × (no_increase (Z row.a.part) ≡ true)
      from e =
          let h = both (is_preset (y_of (B bs))) (no_increase (Z row.a.part)) e in
          (kind, sym by ∙ eqb-true (y_of (B bs)) 14 h.0, h.1)

      to : (row.kind ≡ Kind.Signal) × (Y b.part ≡ 14) × (no_increase (Z row.a.part) ≡ true) → is_preset (y_of (B bs)) && no_increase (Z row.a.part) ≡ true
      to h = rw (eq-eqb (y_of (B bs)) 14 (by ∙ h.1), h.2)

      go : Decided row b bs (is_preset (y_of (B bs)) && no_increase (Z row.a.part)) → OfKind Kind.Signal
      go (breaks i place refused why c) = rw (refused, why) (why_15 i place (rule i place b is way (inl kind) c))
      go (allowed d given why) = rw given why

  of_warning : (b : Placed) → B bs ≡ found b → row.direction ≡ Direction.Present → row.kind ≡ Kind.Warning → OfKind Kind.Warning
  of_warning b is way kind = go (decided row b bs is false (λ e. false_true e) (λ h. absurd (let k : Kind.Signal ≡ Kind.Warning = cc in cannot_be cc)))
    where
      go : Decided row b bs false → OfKind Kind.Warning
      go (breaks i place refused why c) = rw (refused, why) (why_15 i place (rule i place b is way (inr kind) c))
      go (allowed d given why) = rw given why

  -- By the kind of a present row.
  of_present : row.direction ≡ Direction.Present → OfKind row.kind
  of_present way = go row.kind refl (B bs) refl (nine_there bs row fits way)
    where
      go : (k : Kind) → row.kind ≡ k → (f : Found) → B bs ≡ f → (is_judged row.kind ≡ true → is_found (B bs) ≡ true) → OfKind k
      go Kind.Signal kind (found b) is there = of_signal b is way kind
      go Kind.Signal kind none is there = false_true (sym (ap is_found is) ∙ there (ap is_judged kind))
      go Kind.Warning kind (found b) is there = of_warning b is way kind
      go Kind.Warning kind none is there = false_true (sym (ap is_found is) ∙ there (ap is_judged kind))
      go Kind.Annulled kind f is there = refl
      go Kind.Line kind f is there = refl
      go Kind.Route kind f is there = refl

  of_row : Right g (judge_as row.direction row bs) (why_row row.direction row bs)
  of_row = go row.direction refl of_present
    where
      go : (d : Direction) → row.direction ≡ d → (row.direction ≡ Direction.Present → OfKind row.kind) → Right g (judge_as d row bs) (why_row d row bs)
      go Direction.Present way on = on way
      go Direction.Opposite way on = refl

-- ---- all groups

of_read : (g : Group) (bs : List Placed) → received.read_all (received.balises g) ≡ gives bs → Right g (judge_read bs) (why_fit (fitting bs) bs)
unfolding judge_read
of_read g bs read = go (fitting bs) refl
  where
    go : (o : Outcome Picked) → fitting bs ≡ o → Right g (then o λ row. judge_as row.direction row bs) (why_fit o bs)
    go (gives row) e = of_row g bs read row e
    go (refuses n) e =
        let is : n ≡ 13 = only_13 bs n e in
        rw is (why_13 (opening_run bs) (length bs) (record { parts = bs; read = read; no_row = e ∙ ap refuses is; many_is = refl; longest = run_is_longest bs }))

of_few : (g : Group) → Right g (then (received.read_all (received.balises g)) judge_read) (why_read (read_from 0 (received.balises g)))
of_few g = go (read_from 0 (received.balises g)) refl (read_unnamed 0 (received.balises g))
  where
    go : (o : Answer Cause (List Placed)) → read_from 0 (received.balises g) ≡ o → unnamed (read_from 0 (received.balises g)) ≡ received.read_all (received.balises g)
        → Right g (then (received.read_all (received.balises g)) judge_read) (why_read o)
    go (gives bs) e same =
        let read : received.read_all (received.balises g) ≡ gives bs = sym same ∙ ap unnamed e in
        rw read (of_read g bs read)
    go (refuses c) e same =
        let read : received.read_all (received.balises g) ≡ refuses 12 = sym same ∙ ap unnamed e in
        let n = names_first 0 (received.balises g) c e in
        let first : 0 + n.index ≡ n.index = omega arith in
        let is : c ≡ bad n.index n.place n.what = n.is ∙ ap (λ (i : ℕ). bad i n.place n.what) first in
        rw (read, is) (why_12 n.index n.place n.what n.first)

pub of_group : (g : Group) → Right g (judge g) (explain g)
unfolding judge explain
of_group g = go (eqb g.count 1) refl (ltb 5 g.count) refl
  where
    go : (s : Bool) → eqb g.count 1 ≡ s → (t : Bool) → ltb 5 g.count ≡ t
        → Right g (pick s (refuses 10) (pick t (refuses 11) (then (received.read_all (received.balises g)) judge_read)))
        (pick s (because 10 (balises g.count)) (pick t (because 11 (balises g.count)) (why_read (read_from 0 (received.balises g)))))
    go true e t f = let one : g.count ≡ 1 = eqb-true g.count 1 e in subst (λ (n : ℕ). Why g 10 (because 10 (balises n))) (sym one) (why_10 one)
    go false e true f = why_11 (ltb-true 5 g.count f)
    go false e false f = of_few g

reasoned : (g : Group) (n : ℕ) (e : Explained) → Why g n e → e ≡ no_reason → ⊥
reasoned g n e (why_10 h) q = cannot_be cc
reasoned g n e (why_11 h) q = cannot_be cc
reasoned g n e (why_12 i place what h) q = cannot_be cc
reasoned g n e (why_13 run many h) q = cannot_be cc
reasoned g n e (why_15 i place h) q = cannot_be cc

accepted : (g : Group) (o : Outcome Message) (e : Explained) → Right g o e → e ≡ no_reason → (m : Message) × (o ≡ gives m)
accepted g (gives m) e r q = (m, refl)
accepted g (refuses n) e r q = absurd (reasoned g n e r q)

-- What the contracts of `explain` and of `group::judge` promise.
pub explains_tied : (g : Group) (r : Reason) (x : AtExit (ended_of 0 explain_kinds.ps explain_kinds.r) tt) → explain_reads.Post tt (g, tt) r x → Explains g r
explains_tied g r x p = p

pub judges_tied : (g : Group) (j : Result Message GroupRefused) (x : AtExit (ended_of 0 judge_kinds.ps judge_kinds.r) tt) → judge_reads.Post tt (g, tt) j x → Judges g j
judges_tied g j x p = p

right : (g : Group) (r : Reason) (j : Result Message GroupRefused) → Explains g r → Judges g j → Right g (says_group_judged j) (says_reason r)
right g r j e f = rw (e, f) (of_group g)

pub truths : Truths
truths =
    record {
      right = right;
      none_if = λ g r j e f is. accepted g (says_group_judged j) (says_reason r) (right g r j e f) (ap says_reason is);
      some_10 = (counted 1, one_balise.1);
      some_11 = (counted 6, six_balises.1);
      some_12 = (two a_one (at 1030 Heard.Unreadable), second_unreadable.1);
      some_13 = (three a_one a_nine a_one, two_of_three.1);
      some_15 = (two a_one (at 1030 (Heard.Words 0x99 0x2B 0x00)), b_breaks_law.1);
      some_accepted = (two a_one a_nine, accepted_of_the_ride.0, accepted_of_the_ride.1);
    }
