-- Where a viewer stands (document 02, M-108): how many records lie before it, the state there, and
-- "a history of the last 256 states". The history is a ring of 256 places: the state before record
-- n, the first with 0, stands at n % 256.
-- Assumes nothing.
use Rattle.std.specs.Prelude.{ℕ, ◌+◌, ◌-◌, ◌%◌, ltb, get_or, set, replicate}
use Rattle.words.specs.Answer.{pick}
use Rattle.settings.specs.declared.Store.{Store}
use Rattle.ride.specs.declared.Ride.{Ride}
use Rattle.ride.specs.State.{fresh_ride}
use Rattle.viewer.specs.declared.Standing.{Standing}

-- "A viewer opens at the first record with a fresh ride"; "opening a viewer starts [the kept count]
-- at 0".
unfoldable pub opened : Store → Standing
opened store = record { number = 0; kept = 0; ride = fresh_ride; last = replicate 256 fresh_ride; settings = store }

-- "The kept count rises by one with a forward, up to 256".
abbrev pub one_more : ℕ → ℕ
one_more kept = pick (ltb kept 256) (kept + 1) kept

-- One record is passed, and leaves this state: the state before it is kept.
unfoldable pub passed : Standing → Ride → Standing
passed s next =
    record {
      number = s.number + 1;
      kept = one_more s.kept;
      ride = next;
      last = set s.last (s.number % 256) s.ride;
      settings = s.settings;
    }

-- One record back, to the state that was kept last; the kept count "falls by one with a back".
unfoldable pub returned : Standing → Standing
returned s =
    record {
      number = s.number - 1;
      kept = s.kept - 1;
      ride = get_or s.last ((s.number - 1) % 256) fresh_ride;
      last = s.last;
      settings = s.settings;
    }
