-- Too few bits, or no sync words around the words, or the words decide.
-- Assumes nothing.
use Prim.Native.Nat.{ℕ, ◌-◌, ◌/◌, ◌%◌, ◌^◌, ◌≤◌, ◌<◌}
use mathlib.Core.Path.{◌≡◌, sym, ap, ◌∙◌}
use mathlib.Core.Bool.{true, false}
use borrow.Author.Tests.{le-leb, lt-leb, not-true, not-false}
use Rattle.telegram.specs.Telegram.{Received, telegram}
use Rattle.telegram.specs.Place.{are_syncs}
use Rattle.telegram.specs.Says.{says_telegram_read}
use Rattle.std.specs.Prelude.{Result, Ok, Err}
use Rattle.telegram.specs.declared.BadWord.{BadWord}
use Rattle.telegram.specs.declared.Telegram.{Telegram}
use Rattle.antenna.specs.declared.Places.{Places}
use Rattle.antenna.specs.Places.{between, places_after}
use Rattle.antenna.proofs.offset.after.Goals as goal

module _ (places : Places) (length v s t : ℕ) where
  too_few : length < 40 → places ≡ places_after places length v s t
  unfolding places_after
  too_few h = simp (lt-leb _ _ h)

  module _ (enough : 40 ≤ length) where
    no-syncs : are_syncs s t (v / 2 ^ 32) (v % 256) ≡ false → places ≡ places_after places length v s t
    unfolding places_after
    no-syncs e = simp (le-leb _ _ enough, e)

    -- The words read r.
    by_words : are_syncs s t (v / 2 ^ 32) (v % 256) ≡ true → (r : Received) → r ≡ telegram (v / 2 ^ 24 % 256) (v / 2 ^ 16 % 256) (v / 2 ^ 8 % 256)
        → between r (v / 2 ^ 24 % 256) (v / 2 ^ 16 % 256) (v / 2 ^ 8 % 256) (length - 40) places ≡ places_after places length v s t
    unfolding places_after
    by_words e r is = simp (le-leb _ _ enough, e, is)

    -- What was read is o.
    by_answer : are_syncs s t (v / 2 ^ 32) (v % 256) ≡ true → (a o : Result Telegram BadWord)
        → says_telegram_read a ≡ telegram (v / 2 ^ 24 % 256) (v / 2 ^ 16 % 256) (v / 2 ^ 8 % 256) → a ≡ o
        → between (says_telegram_read o) (v / 2 ^ 24 % 256) (v / 2 ^ 16 % 256) (v / 2 ^ 8 % 256) (length - 40) places ≡ places_after places length v s t
    by_answer e a o says is = by_words e (says_telegram_read o) (ap says_telegram_read (sym is) ∙ says)

pub returns-then-length-lt40 : goal.returns-then-length-lt40
returns-then-length-lt40 c = let a = c.args in too_few a.places a.length a.v a.s a.t c.if-length-lt40.true

pub returns-then-not-are_syncs : goal.returns-then-not-are_syncs
returns-then-not-are_syncs c =
    let a = c.args in
    no-syncs a.places a.length a.v a.s a.t c.if-length-lt40.false (sym c.are_syncs.ensures ∙ not-true c.are_syncs.result c.if-not-are_syncs.true-raw)

pub returns-in-Ok : goal.returns-in-Ok
returns-in-Ok c =
    let a = c.args in
    c.another.ensures
    ∙ by_answer a.places a.length a.v a.s a.t c.if-length-lt40.false
    (sym c.are_syncs.ensures ∙ not-false c.are_syncs.result c.if-not-are_syncs.false-raw)
    c.read.result (Ok c.in-Ok.telegram) c.read.ensures c.in-Ok.is

pub returns-in-Err : goal.returns-in-Err
returns-in-Err c =
    let a = c.args in
    by_answer a.places a.length a.v a.s a.t c.if-length-lt40.false
    (sym c.are_syncs.ensures ∙ not-false c.are_syncs.result c.if-not-are_syncs.false-raw)
    c.read.result (Err c.in-Err.field-0) c.read.ensures c.in-Err.is
