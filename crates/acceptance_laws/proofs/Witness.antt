-- There are such runs and such calls: over any ride, and over any card of whole records.
-- Assumes nothing.
use Rattle.std.proofs.Common.{Ok}
use Prim.Native.Nat.{ℕ, ◌*◌, ◌%◌, ◌≤◌}
use native.Mathlib.Omega.{arith}
use mathlib.Core.Path.{◌≡◌, refl, sym}
use mathlib.Core.List.{List, [], ◌∷◌, append-nil}
use lib.ListN.{length, take, replicate, length-replicate, drop_of_length-le}
use borrow.Author.Tests.{eq-eqb}
use Rattle.settings.specs.declared.Store.{Store}
use Rattle.settings.specs.At.{gap_at}
use Rattle.text.specs.Put.{placed}
use Rattle.ride.specs.Step.{end}
use Rattle.ride.specs.Over.{records, ride_over, Ridden}
use Rattle.ride.specs.declared.Line.{Line}
use Rattle.acceptance.specs.declared.Acceptance.{Acceptance}
use Rattle.acceptance.specs.declared.Took.{Took}
use Rattle.acceptance.specs.Taking.{take_line}
use Rattle.acceptance_text.specs.declared.Going.{Going}
use Rattle.std.specs.Prelude.{Ok}
use Rattle.acceptance_text.specs.declared.Advanced.{Advanced}
use Rattle.acceptance_text.specs.Taking.{Taking, take_all}
use Rattle.acceptance_text.specs.Accept.{began, accept_of, taken}
use Rattle.acceptance_text.proofs.Ends.{accept_taken_law, finish_is}
use Rattle.demands.specs.Output.{records_in}
use Rattle.demands.specs.Stores.{Good}
use Rattle.demands.specs.TraceCalls.{Whole, Call}
use Rattle.demands.proofs.Beside.Cards.{eights}
use Rattle.demands.proofs.Witness.CallsMet.{lent, lent_out}
use Rattle.acceptance_laws.specs.ByContract.{AcceptInto}
use Rattle.acceptance_laws.specs.Accepted.{Taken}
use Rattle.acceptance_laws.specs.Calls.{ByAccept, after_calls, Last, Ends}
use Rattle.acceptance_laws.proofs.Over.{answers_to}
use Rattle.acceptance_laws.proofs.Blocks.{standing, all_taken}

-- `take` answers any lines.
pub answered : (s : Acceptance) (ls : List Line) → Taken s ls (answers_to s ls)
unfolding answers_to
answered s [] = tt
answered s (l ∷ ls) = (((s, (l, tt)), refl), answered (take_line s l).state ls)

-- ---- one call with a whole card, and 128 bytes a record

module _ (going : Going) (store : Store) (card : List ℕ) (good : Good store) (whole : Whole card) where
  abbrev room : List ℕ
  room = replicate (128 * records_in card) 0

  abbrev many : ℕ
  many = taken (gap_at store) (length room) going.ride (began going) (records card)

  abbrev ridden : Ridden
  ridden = ride_over (gap_at store) going.ride 1 (take many (records card))

  abbrev took : Taking
  took = take_all (began going) ridden.lines

  abbrev pub the_call : Call Advanced
  the_call =
      record {
        block = card;
        before = room;
        answer = record { going = standing ridden.ride took; progress = Ok (record { records = many; bytes = length took.text }) };
        after = placed took.text room 0;
      }

  called : AcceptInto going store card room the_call.answer the_call.after
  unfolding accept_of
  called = (
    ([], ([], tt)),
    lent card,
    lent_out room,
    (going, (store, (lent card, (lent_out the_call.after, tt)))),
    refl,
    refl,
    refl,
    accept_taken_law going store card room good (eq-eqb (length card % 8) 0 (eights card whole)),
  )

  pub by_one_call : ByAccept store going card (the_call ∷ [])
  by_one_call =
      let enough : 128 * records_in card ≤ length room = omega (arith, length-replicate {A = ℕ} (128 * records_in card) 0) in
      let all : many ≡ records_in card = all_taken going store card room the_call.answer the_call.after good whole called enough in
      let behind : length card ≤ many * 8 = omega (arith, eights card whole) in
      (record { rest = []; front = sym (append-nil card); whole = whole }, called, drop_of_length-le card behind)

-- ---- the end, with 128 bytes

module _ (going : Going) where
  abbrev space : List ℕ
  space = replicate 128 0

  abbrev at_end : Taking
  at_end = take_all (began going) (end going.ride).lines

  abbrev pub the_last : Last
  the_last =
      record {
        before = space;
        answer = record { going = standing (end going.ride).ride at_end; ending = Ok (length at_end.text) };
        after = placed at_end.text space 0;
      }

  pub ends_so : Ends going the_last
  ends_so =
      let enough : 128 ≤ length space = omega (arith, length-replicate {A = ℕ} 128 0) in
      (enough, (([], tt), lent_out space, (going, (lent_out the_last.after, tt)), refl, refl, sym (finish_is going space enough)))

pub such_calls : (going : Going) (store : Store) (card : List ℕ) → Good store → Whole card
    → (calls : List (Call Advanced)) × (last : Last) × ByAccept store going card calls × Ends (after_calls going calls) last
such_calls going store card good whole =
    let c : Call Advanced = the_call going store card good whole in
    (c ∷ [], the_last c.answer.going, by_one_call going store card good whole, ends_so c.answer.going)
