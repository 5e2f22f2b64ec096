-- `over` goes over the records that are left: the first of them from here on is the first of all.
use Rattle.std.proofs.Common.{Option}
use mathlib.Core.Path.{◌≡◌, sym, ap, ◌∙◌}
use mathlib.Core.List.{List}
use Prim.Native.Nat.{ℕ, ◌+◌, ◌-◌, ◌*◌, ◌<◌, ◌≤◌}
use native.Mathlib.Omega.{arith}
use lib.ListN.{take, drop, length-replicate}
use lib.Seq.{length-take-le}
use Rattle.settings.specs.At.{gap_at}
use Rattle.words.specs.Limits.{largest64}
use Rattle.ride.specs.declared.Ride.{Ride}
use Rattle.ride.specs.Record.{odometer_of}
use Rattle.ride.specs.Step.{treat}
use Rattle.ride.specs.At.{record_at}
use Rattle.ride.specs.Over.{records}
use Rattle.ride_text.specs.Style.{with_reasons}
use Rattle.ride_text.specs.Told.{step_text}
use Rattle.ride_text.specs.List.{list}
use Rattle.viewer_text.specs.Finding.{has}
use Rattle.viewer_text.specs.Seeking.{further, seek_in}
use Rattle.viewer_text.proofs.Onward.{further_none, further_on, Here, here, seek_here, seek_next, seek_none}
use Rattle.viewer_text.proofs.seeking.over.Goals.{After-bytes_of-bytes, After-has}
use Rattle.viewer_text.proofs.seeking.over.Goals as goal

-- what a record's listing says
listed : (b : After-bytes_of-bytes) →
    let a = b.args in
    Here a.store b.loop-i.now b.loop-i.i a.trace.now b.list-listed.new.out b.list-listed.result b.bytes_of-bytes.result
listed b =
    let a = b.args in
    let eight : b.loop-i.i * 8 + 8 - b.loop-i.i * 8 ≡ 8 = omega arith in
    let small : b.loop-i.i + 1 < largest64 = omega (arith, b.loop-i-test.true) in
    here a.store b.loop-i.now b.loop-i.i a.trace.now b.loop-i.text b.list-listed.new.out b.list-listed.result b.bytes_of-bytes.result
    b.loop-i-test.true b.requires b.loop-i.invariant.0 small
    (b.list-listed.ensures
    ∙ ap (λ (n : ℕ). list with_reasons b.loop-i.now a.store (b.loop-i.i + 1) (take n (drop (b.loop-i.i * 8) a.trace.now)) b.loop-i.text) eight)
    b.bytes_of-bytes.ensures

-- whether its lines have the word
told : (h : After-has) →
    let a = h.args in
    let r = record_at a.trace.now h.loop-i.i in
    has (step_text with_reasons (h.loop-i.i + 1) (treat h.loop-i.now (gap_at a.store (odometer_of r)) r)) a.word.now ≡ h.has.result
told h =
    let a = h.args in
    ap (λ (x : List ℕ). has x a.word.now) (sym (listed (goal.at-After-has h).After-bytes_of-bytes).text_is) ∙ sym h.has.ensures

-- no record lies before the first
none_before : (n : ℕ) → n - n ≡ 0
none_before n = omega arith

-- and one more before the next
one_more : (i n : ℕ) → n ≤ i → i + 1 - n ≡ i - n + 1
one_more i n h = omega arith

pub loop-i-init : goal.loop-i-init
loop-i-init c =
    let a = c.args in
    let all : Option ℕ = seek_in a.word.now (gap_at a.store) a.ride (a.number + 1) (records (drop (a.number * 8) a.trace.now)) in
    (length-replicate {A = ℕ} 320 0, ap (λ (n : ℕ). further n all) (none_before a.number) ∙ further_none all)

pub returns-then-has : goal.returns-then-has
returns-then-has c =
    let a = c.args in
    ap (further (c.loop-i.i - a.number)) (sym (seek_here a.word.now a.store c.loop-i.now c.loop-i.i a.trace.now c.loop-i-test.true (told (goal.at-returns-then-has c).After-has ∙ c.if-has.true)))
    ∙ c.loop-i.invariant.1

pub loop-i-preserved : goal.loop-i-preserved
loop-i-preserved c =
    let a = c.args in
    let so_far = c.loop-i.i - a.number in
    let rest : List (List ℕ) = records (drop ((c.loop-i.i + 1) * 8) a.trace.now) in
    let r = record_at a.trace.now c.loop-i.i in
    let then : Ride = (treat c.loop-i.now (gap_at a.store (odometer_of r)) r).ride in
    let there = c.loop-i-test.true in (
      (listed (goal.at-loop-i-preserved c).After-bytes_of-bytes).long,
      ap (λ (n : ℕ). further n (seek_in a.word.now (gap_at a.store) c.list-listed.result.ride (c.loop-i.i + 1 + 1) rest)) (one_more c.loop-i.i a.number c.loop-i.auto.i)
          ∙ ap (λ (x : Ride). further (so_far + 1) (seek_in a.word.now (gap_at a.store) x (c.loop-i.i + 1 + 1) rest)) (listed (goal.at-loop-i-preserved c).After-bytes_of-bytes).ride_is
          ∙ sym (further_on so_far (seek_in a.word.now (gap_at a.store) then (c.loop-i.i + 1 + 1) rest))
          ∙ ap (further so_far) (sym (seek_next a.word.now a.store c.loop-i.now c.loop-i.i a.trace.now there (told (goal.at-loop-i-preserved c).After-has ∙ c.if-has.false)))
          ∙ c.loop-i.invariant.1,
    )

pub returns : goal.returns
returns c =
    let a = c.args in
    ap (further (c.loop-i.i - a.number)) (sym (seek_none a.word.now a.store c.loop-i.now c.loop-i.i a.trace.now c.loop-i-test.false)) ∙ c.loop-i.invariant.1

pub slice_bounds-text-end : goal.slice_bounds-text-end
slice_bounds-text-end c = omega (arith, (listed c).within, (listed c).long)

pub slice_bounds-has-end : goal.slice_bounds-has-end
slice_bounds-has-end c = sym (length-take-le _ _ (omega (arith, (listed (goal.at-slice_bounds-has-end c).After-bytes_of-bytes).within, (listed (goal.at-slice_bounds-has-end c).After-bytes_of-bytes).long)))
