-- The program's calls: each takes the front of what is left, so together they take the ride's lines
-- in order, whatever their blocks.
-- Assumes nothing.
use Prim.Native.Nat.{ℕ, ◌+◌, ◌*◌, ◌/◌, ◌%◌, ◌≤◌}
use native.Mathlib.Omega.{arith}
use native.Mathlib.Nat.{zero-add}
use mathlib.Core.Path.{◌≡◌, refl, sym, ap, ap₂, ◌∙◌}
use mathlib.Core.List.{List, [], ◌++◌}
use lib.ListN.{length, take}
use borrow.Author.Tests.{eq-eqb}
use Rattle.settings.specs.declared.Store.{Store}
use Rattle.settings.specs.At.{gap_at}
use Rattle.text.specs.Put.{placed}
use Rattle.text.proofs.Placing.{placed_start}
use Rattle.ride.specs.declared.Ride.{Ride}
use Rattle.ride.specs.Over.{records, Ridden, ride_over}
use Rattle.ride.proofs.Cutting.{records_length}
use Rattle.ride.proofs.Sections.{ride_on, unnumbered}
use Rattle.acceptance_text.specs.declared.Going.{Going}
use Rattle.std.specs.Prelude.{Ok}
use Rattle.acceptance_text.specs.declared.Advanced.{Advanced}
use Rattle.acceptance_text.specs.Taking.{Taking, take_all}
use Rattle.acceptance_text.specs.Accept.{began, Advance, accept_of, accept}
use Rattle.acceptance_text.specs.Accept as spec
use Rattle.acceptance_text.specs.Says.{says_advanced}
use Rattle.acceptance_text.proofs.Determined.{progress_of, progress_back}
use Rattle.acceptance_text.proofs.Takings.{take_on, behind, after_text}
use Rattle.acceptance_text.proofs.Turns.{rides_alike}
use Rattle.acceptance_text.proofs.Ends.{accept_taken_law}
use Rattle.acceptance_text.proofs.Blocks.{taken_within, taken_all, taken_one}
use Rattle.demands.specs.Output.{records_in}
use Rattle.demands.specs.Stores.{Good}
use Rattle.demands.specs.TraceCalls.{Whole, Call}
use Rattle.demands.proofs.Beside.Cards.{eights}
use Rattle.demands.proofs.Beside.TraceCalls.{Gone, gone, on_from, TakesFront}
use Rattle.demands.proofs.Beside.TraceCalls as by_calls
use Rattle.acceptance_laws.specs.ByContract.{AcceptInto}
use Rattle.acceptance_laws.specs.Calls.{taken, bytes_of, AcceptCall, ByAccept, text_from, after_calls}

-- ---- what is taken of a trace

-- all its records,
abbrev pub total : (ℕ → ℕ) → Going → List (List ℕ) → Taking
total gaps g rs = take_all (began g) (ride_over gaps g.ride 1 rs).lines

-- and where the run stands then.
abbrev pub standing : Ride → Taking → Going
standing ride t = record { ride = ride; run = t.run; troubles = t.troubles }

-- ---- one call

pub accepted_is : (going : Going) (store : Store) (block before : List ℕ) (r : Advanced) (after : List ℕ) → AcceptInto going store block before r after
    → says_advanced r after ≡ accept going store block before
accepted_is going store block before r after c =
    ap (says_advanced r) (sym c.6) ∙ c.7 ∙ ap₂ (λ (x y : List ℕ). accept going store x y) c.4 c.5

module _ (going : Going) (store : Store) (block before : List ℕ) (r : Advanced) (after : List ℕ) (good : Good store) (whole : Whole block)
    (call : AcceptInto going store block before r after) where
  -- how many it takes
  abbrev pub many : ℕ
  many = spec.taken (gap_at store) (length before) going.ride (began going) (records block)

  abbrev ridden : Ridden
  ridden = ride_over (gap_at store) going.ride 1 (take many (records block))

  abbrev took : Taking
  took = take_all (began going) ridden.lines

  is : says_advanced r after ≡ accept_of (gap_at store) going many (records block) before
  is =
      accepted_is going store block before r after call
      ∙ sym (accept_taken_law going store block before good (eq-eqb (length block % 8) 0 (eights block whole)))

  pub progress_is : r.progress ≡ Ok (record { records = many; bytes = length took.text })
  unfolding accept_of
  progress_is = sym (progress_back r.progress) ∙ ap (λ (a : Advance). progress_of a.answer) is

  pub going_is : r.going ≡ standing ridden.ride took
  unfolding accept_of
  going_is = ap (λ (a : Advance). a.going) is

  pub text_is : take (bytes_of r.progress) after ≡ took.text
  unfolding accept_of
  text_is =
      ap (λ (k : ℕ). take k after) (ap bytes_of progress_is) ∙ ap (take (length took.text)) (ap (λ (a : Advance). a.out) is)
      ∙ ap (λ (k : ℕ). take k (placed took.text before 0)) (sym (zero-add (length took.text)))
      ∙ placed_start took.text before

  pub of_these : many ≤ records_in block
  of_these =
      omega (arith, taken_within (gap_at store) (length before) going.ride (began going) (records block), records_length (length block / 8) block)

  pub one_taken : 1 ≤ records_in block → 128 ≤ length before → 1 ≤ taken r.progress
  one_taken some room =
      let there : 1 ≤ length (records block) = omega (arith, records_length (length block / 8) block) in
      omega (arith, ap taken progress_is, taken_one (gap_at store) (length before) going.ride (began going) (records block) there room)

  pub all_taken : 128 * records_in block ≤ length before → taken r.progress ≡ records_in block
  all_taken room =
      let enough : 0 + 128 * length (records block) ≤ length before = omega (arith, records_length (length block / 8) block) in
      ap taken progress_is ∙ taken_all (gap_at store) (length before) going.ride (began going) (records block) enough
      ∙ records_length (length block / 8) block

-- ---- all of them

module _ (store : Store) (good : Good store) where
  abbrev gaps : ℕ → ℕ
  gaps = gap_at store

  -- some records taken, by a run on its way
  abbrev pub over : Going → List (List ℕ) → Gone Going
  over g rs = gone (total gaps g rs).text (standing (ride_over gaps g.ride 1 rs).ride (total gaps g rs))

  none : (g : Going) → gone [] g ≡ over g []
  unfolding ride_over take_all
  none g = refl

  on : (g : Going) (xs ys : List (List ℕ)) → over g (xs ++ ys) ≡ on_from (over g xs) (λ (h : Going). over h ys)
  on g xs ys =
      let first : Ridden = ride_over gaps g.ride 1 xs in
      let t : Taking = total gaps g xs in
      let goes = ride_on gaps g.ride 1 xs ys in
      let ride-goes = ap (λ (x : Ridden). x.ride) goes ∙ unnumbered gaps first.ride (1 + length xs) 1 ys in
      let total_goes : total gaps g (xs ++ ys) ≡ behind t.text (total gaps (standing first.ride t) ys) =
      ap (λ (x : Ridden). take_all (began g) x.lines) goes
      ∙ take_on (began g) first.lines (ride_over gaps first.ride (1 + length xs) ys).lines
      ∙ rides_alike gaps first.ride t (1 + length xs) 1 ys
      ∙ after_text t.run t.troubles t.text (ride_over gaps first.ride 1 ys).lines in
      ap₂ (λ (ride : Ride) (u : Taking). gone u.text (standing ride u)) ride-goes total_goes

  takes : (g : Going) (c : Call Advanced) → Whole c.block → AcceptCall store g c
      → TakesFront over (λ c. taken c.answer.progress) (λ c. bytes_of c.answer.progress) (λ a. a.going) g c
  takes g c whole call =
      let n : ℕ = many g store c.block c.before c.answer c.after good whole call in
      let n_is : taken c.answer.progress ≡ n = ap taken (progress_is g store c.block c.before c.answer c.after good whole call) in
      let within = of_these g store c.block c.before c.answer c.after good whole call in
      record {
        of_these = omega (arith, n_is, within);
        goes =
            ap₂ (λ (t : List ℕ) (h : Going). gone t h) (text_is g store c.block c.before c.answer c.after good whole call)
            (going_is g store c.block c.before c.answer c.after good whole call)
            ∙ ap (λ (k : ℕ). over g (take k (records c.block))) (sym n_is);
      }

  pub comes : (g : Going) (trace : List ℕ) (calls : List (Call Advanced)) → ByAccept store g trace calls → gone (text_from calls) (after_calls g calls) ≡ over g (records trace)
  comes = by_calls.comes (λ c. taken c.answer.progress) (λ c. bytes_of c.answer.progress) (λ a. a.going) over on (AcceptCall store) none takes
