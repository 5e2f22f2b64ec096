-- The calls, from what their tests say.
-- Assumes nothing.
use Prim.Native.Nat.{ℕ, ◌/◌, ◌%◌, ◌≤◌, ◌<◌}
use mathlib.Core.Path.{◌≡◌}
use mathlib.Core.Bool.{true, false}
use mathlib.Core.List.{List}
use lib.Dec.{eqb}
use lib.ListN.{length}
use borrow.Author.Tests.{lt-ltb, le-ltb}
use Rattle.words.specs.Answer.{gives, refuses}
use Rattle.settings.specs.declared.Store.{Store}
use Rattle.settings.specs.Versions.{kept}
use Rattle.settings.specs.Store.{judged}
use Rattle.ride.specs.At.{record_at}
use Rattle.viewer.specs.declared.Standing.{Standing}
use Rattle.viewer.specs.Stand.{opened, returned}
use Rattle.viewer.specs.Viewing.{done, Start, unopened, start, stays, by_step, step_of, forward, Back, back}

pub open_refused : (store : Store) (trace : List ℕ) (n : ℕ) → judged store ≡ refuses n → unopened store n ≡ start store trace
unfolding start
open_refused store trace n e = rw e

pub open_length : (store : Store) (trace : List ℕ) → judged store ≡ gives kept → eqb (length trace % 8) 0 ≡ false → unopened store 16 ≡ start store trace
unfolding start
open_length store trace e h = rw (e, h)

pub open_done : (store : Store) (trace : List ℕ) → judged store ≡ gives kept → eqb (length trace % 8) 0 ≡ true
    → ◌≡◌ {A = Start} (record { answer = gives done; trace = trace; stand = opened store }) (start store trace)
unfolding start
open_done store trace e h = rw (e, h)

pub forward_end : (trace : List ℕ) (s : Standing) → length trace / 8 ≤ s.number → stays s 23 ≡ forward trace s
unfolding forward
forward_end trace s h = rw (le-ltb s.number (length trace / 8) h)

pub forward_refused : (trace : List ℕ) (s : Standing) (n : ℕ) → s.number < length trace / 8 → judged s.settings ≡ refuses n → stays s n ≡ forward trace s
unfolding forward
forward_refused trace s n h e = rw (lt-ltb s.number (length trace / 8) h, e)

pub forward_step : (trace : List ℕ) (s : Standing) → s.number < length trace / 8 → judged s.settings ≡ gives kept
    → by_step s (step_of s (record_at trace s.number)) ≡ forward trace s
unfolding forward
forward_step trace s h e = rw (lt-ltb s.number (length trace / 8) h, e)

pub back_none : (s : Standing) → eqb s.kept 0 ≡ true → ◌≡◌ {A = Back} (record { answer = refuses 22; stand = s }) (back s)
unfolding back
back_none s e = rw e

pub back_done : (s : Standing) → eqb s.kept 0 ≡ false → ◌≡◌ {A = Back} (record { answer = gives done; stand = returned s }) (back s)
unfolding back
back_done s e = rw e
