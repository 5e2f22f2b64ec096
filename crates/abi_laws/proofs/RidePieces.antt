-- Pieces make no difference: each call tells the records that it took, and the calls come to what
-- is told of the trace.
-- Assumes nothing.
use Prim.Native.Nat.{ℕ, ◌+◌, ◌%◌, ◌≤◌, ◌<◌}
use native.Mathlib.Omega.{arith}
use mathlib.Core.Path.{◌≡◌, refl, sym, ap, ap₂, ◌∙◌}
use mathlib.Core.Bool.{Bool, true, false}
use mathlib.Core.List.{List, [], ◌∷◌, ◌++◌}
use lib.Dec.{leb}
use lib.IntN.{ℤ, pos}
use lib.ListN.{length, get_or, take}
use borrow.Author.Tests.{eq-eqb}
use Rattle.words.specs.Answer.{Outcome, gives, refuses, pick}
use Rattle.words.specs.Limits.{largest64}
use Rattle.text.specs.Put.{placed, put}
use Rattle.text.proofs.Placing.{placed_start}
use Rattle.settings.specs.At.{gap_at}
use Rattle.ride.specs.declared.Ride.{Ride}
use Rattle.ride.specs.State.{fresh_ride}
use Rattle.ride.specs.Over.{first_records, records}
use Rattle.ride_text.specs.Told.{Told, tell_over, end_text}
use Rattle.ride_text.specs.List.{Taken, Listing, room_for, taken, list_of, list_taken}
use Rattle.ride_text.proofs.Judging.{list_taken_law}
use Rattle.ride_text.proofs.Taken.{one_taken}
use Rattle.state_bytes.specs.Stores.{store_in}
use Rattle.ride_bytes.specs.Rides.{ride_in}
use Rattle.abi.specs.Face.{returned, left, itself}
use Rattle.abi.specs.Rides.{style_of, listed, listed_put, ending}
use Rattle.demands.specs.Stores.{Good}
use Rattle.demands.specs.TraceCalls.{Whole, Call}
use Rattle.demands.proofs.Beside.Cards.{eights, are_whole}
use Rattle.demands.proofs.Beside.TraceCalls.{Gone, TakesFront, one_more}
use Rattle.demands.proofs.Beside.Told.{told, on, front}
use Rattle.abi_laws.specs.RideCalls.{RideList, RideEnd, InPieces, none, more}
use Rattle.abi_laws.specs.Rides.{RidesInPieces}
use Rattle.abi_laws.proofs.Carried.{never_below}
use Rattle.abi_laws.proofs.RideFaced.{holds_is, after_is, counts_is, end_is, ended_is}

-- ---- all calls

-- What a call leaves: the ride that the bytes hold then with the next record's number, and its
-- counts.
abbrev Left : Type 0
Left = (Ride × ℕ) × (ℕ × ℕ)

module _ (ride store block : List ℕ) (number style : ℕ) (before out : List ℕ) {moved after : List ℕ} (k n : ℕ) (good : Good (store_in store)) (whole : Whole block)
    (c : RideList ride store block number style before out (pos 0) moved after (k ∷ n ∷ [])) where
  abbrev the_call : Call Left
  the_call = record { block = block; before = before; answer = ((ride_in moved, number + k), (k, n)); after = after }

  -- As many as have room.
  is : listed ride store block number style before ≡ list_taken (style_of style) (gap_at (store_in store)) (ride_in ride) number (records block) before
  is = sym (list_taken_law (style_of style) (ride_in ride) (store_in store) number block before good (eq-eqb (length block % 8) 0 (eights block whole)))

  counts : k ∷ n ∷ [] ≡ left listed_put (list_taken (style_of style) (gap_at (store_in store)) (ride_in ride) number (records block) before).answer out
  counts = counts_is ride store block number style before out c ∙ ap (λ (l : Listing). left listed_put l.answer out) is

  one_at_least : 1 ≤ length (records block) → room_for (style_of style) ≤ length before → number < largest64 → 1 ≤ k
  unfolding list_of
  one_at_least some room small =
      let k_is : k ≡ taken (style_of style) (gap_at (store_in store)) (ride_in ride) number (length before) (records block) = ap (λ (l : List ℕ). get_or l 0 0) counts in
      omega (arith, k_is, one_taken (style_of style) (gap_at (store_in store)) (records block) (ride_in ride) number (length before) some room small)

  -- It told the records that it took.
  takes : TakesFront (told (style_of style) (gap_at (store_in store))) (λ c. c.answer.1.0) (λ c. c.answer.1.1) (λ a. a.0) (ride_in ride, number) the_call
  unfolding list_of
  takes =
      let answer = ap₂ {C = Outcome Taken} (λ (i j : ℕ). gives (record { records = i; bytes = j })) (sym (ap (λ (l : List ℕ). get_or l 0 0) counts)) (sym (ap (λ (l : List ℕ). get_or l 1 0) counts)) in
      let f = front (style_of style) (gap_at (store_in store)) (ride_in ride) number block before after k n (ride_in moved) answer
      (holds_is ride store block number style before out c ∙ ap (λ (l : Listing). l.ride) is)
      (after_is ride store block number style before out c ∙ ap (λ (l : Listing). l.out) is) in
      record { of_these = f.0; goes = f.1 }

all_pieces : (store : List ℕ) (style : ℕ) → Good (store_in store) → {ride last : List ℕ} {number : ℕ} {trace text : List ℕ} → InPieces store style ride number trace text last →
    let all : Told = tell_over (style_of style) (gap_at (store_in store)) (ride_in ride) number (records trace) in
    (text ≡ all.text) × (ride_in last ≡ all.ride)
unfolding tell_over first_records
all_pieces store style good none = (refl, refl)
all_pieces store style good {ride} {last} {number} {trace} (more {moved = moved} block rest before out after k n cut whole c on_from) =
    let later = all_pieces store style good on_from in
    let are = are_whole block whole in
    let e = one_more (λ (c : Call Left). c.answer.1.0) (λ (c : Call Left). c.answer.1.1) (λ (a : Left). a.0) (told (style_of style) (gap_at (store_in store))) (on (style_of style) (gap_at (store_in store)))
    (ride_in ride, number) trace (the_call ride store block number style before out k n good are c) (record { rest = rest; front = cut; whole = are }) (takes ride store block number style before out k n good are c) in
    (ap (λ (x : List ℕ). take n after ++ x) later.0 ∙ ap (λ (g : Gone (Ride × ℕ)). g.text) e, later.1 ∙ ap (λ (g : Gone (Ride × ℕ)). g.state.0) e)

-- ---- the end

-- Told with room, its text stands at the start.
end_by : (t before : List ℕ) (n : ℕ) (b : Bool) → leb (0 + length t) (length before) ≡ b → pos n ≡ returned itself (pick {A = Outcome ℕ} b (gives (length t)) (refuses 21))
    → take n (put t before 0).buffer ≡ t
unfolding put
end_by t before n true h e =
    let size : n ≡ 0 + length t = pos_inj e ∙ (omega arith) in
    rw h (ap (λ (m : ℕ). take m (placed t before 0)) size ∙ placed_start t before)
  where
    from : ℤ → ℕ
    from (pos i) = i
    from (lib.IntN.negsuc i) = 0

    pos_inj : {i j : ℕ} → pos i ≡ pos j → i ≡ j
    pos_inj q = ap from q
end_by t before n false h e = absurd (never_below n 20 e)

module _ (ride : List ℕ) (style : ℕ) (before : List ℕ) {after : List ℕ} (n : ℕ) (c : RideEnd ride style before (pos n) after) where
  end_text_law : take n after ≡ end_text (style_of style) (ride_in ride)
  unfolding ending
  end_text_law =
      let t : List ℕ = end_text (style_of style) (ride_in ride) in
      let same : 0 + length t ≡ length t = omega arith in
      ap (take n) (ended_is ride style before c)
      ∙ end_by t before n (leb (length t) (length before)) (ap (λ (m : ℕ). leb m (length before)) same) (end_is ride style before c)

pub rides_in_pieces : RidesInPieces
rides_in_pieces = record {
  on = λ store ride number style trace text last good calls. all_pieces store style good calls;
  whole = λ store lent fresh style trace text last before after n good begun calls ended.
      let afresh : ride_in fresh ≡ fresh_ride = ap ride_in (sym begun.4) ∙ begun.5.1.1 in
      let tells : Ride → Told = λ (x : Ride). tell_over (style_of style) (gap_at (store_in store)) x 1 (records trace) in
      let all = all_pieces store style good calls in
      ap₂ ◌++◌ (all.0 ∙ ap (λ (x : Ride). (tells x).text) afresh)
      (end_text_law last style before n ended ∙ ap (end_text (style_of style)) (all.1 ∙ ap (λ (x : Ride). (tells x).ride) afresh));
  goes_on = λ store ride block number style before out moved after k n good whole some room small c.
      one_at_least ride store block number style before out k n good (are_whole block whole) c some room small;
}
