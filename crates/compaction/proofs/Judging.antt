-- What decides first: the settings, then the trace's length.
-- Assumes nothing.
use Prim.Native.Nat.{ℕ, ◌%◌}
use mathlib.Core.Path.{◌≡◌, sym, ap, ◌∙◌}
use mathlib.Core.Bool.{true, false}
use mathlib.Core.List.{List}
use lib.Dec.{eqb}
use lib.ListN.{length}
use Rattle.words.specs.Answer.{gives, refuses}
use Rattle.settings.specs.declared.Store.{Store}
use Rattle.settings.specs.declared.Held.{Held}
use Rattle.settings.specs.declared.Bad.{Bad}
use Rattle.std.specs.Prelude.{Result, Ok, Err}
use Rattle.settings.specs.Versions.{kept}
use Rattle.settings.specs.Store.{judged}
use Rattle.settings.specs.At.{held_at, gap_at, asked}
use Rattle.settings.specs.Says.{says_bad, says_asked}
use Rattle.settings.proofs.Holding.{held_given, store_refused}
use Rattle.ride.specs.declared.Ride.{Ride}
use Rattle.compaction.specs.declared.Waiting.{Waiting}
use Rattle.compaction.specs.Compact.{untouched, smaller_trace, compact, Settling, unsettled, settled_block, compact_block}
use Rattle.compaction.specs.Inside.{Over}

-- ---- what decides

-- What the store answered for place 0: it is good, and the version is the one in force there.
pub in_force_law : (store : Store) (r : Result Held Bad) (held : Held) → r ≡ Ok held → says_asked r ≡ asked store 0 → (judged store ≡ gives kept) × (held ≡ held_at store 0)
in_force_law store r held is says = let given = held_given store 0 held (sym says ∙ ap says_asked is) in (given.0, given.2)

-- .. or the number of its own refusal.
pub refused_with : (store : Store) (r : Result Held Bad) (bad : Bad) → r ≡ Err bad → says_asked r ≡ asked store 0 → judged store ≡ refuses (says_bad bad)
refused_with store r bad is says = store_refused store (says_bad bad) (sym says ∙ ap says_asked is)

pub compact_refused : (ride : Ride) (store : Store) (trace : List ℕ) (n : ℕ) → judged store ≡ refuses n → untouched ride trace n ≡ compact ride store trace
unfolding compact
compact_refused ride store trace n e = rw e

pub compact_length : (ride : Ride) (store : Store) (trace : List ℕ) → judged store ≡ gives kept → eqb (length trace % 8) 0 ≡ false
    → untouched ride trace 16 ≡ compact ride store trace
unfolding compact
compact_length ride store trace e h = rw (e, h)

pub compact_whole : (ride : Ride) (store : Store) (trace : List ℕ) → judged store ≡ gives kept → eqb (length trace % 8) 0 ≡ true
    → smaller_trace (gap_at store) ride trace ≡ compact ride store trace
unfolding compact
compact_whole ride store trace e h = rw (e, h)

pub block_refused : (w : Waiting) (store : Store) (block : List ℕ) (n : ℕ) → judged store ≡ refuses n → unsettled w block n ≡ compact_block w store block
unfolding compact_block
block_refused w store block n e = rw e

pub block_length : (w : Waiting) (store : Store) (block : List ℕ) → judged store ≡ gives kept → eqb (length block % 8) 0 ≡ false
    → unsettled w block 16 ≡ compact_block w store block
unfolding compact_block
block_length w store block e h = rw (e, h)

pub block_settled : (w : Waiting) (store : Store) (block : List ℕ) (after : Waiting) (gap bytes : ℕ) (then : List ℕ) → judged store ≡ gives kept
    → eqb (length block % 8) 0 ≡ true → Over (gap_at store) w block after gap bytes then
    → ◌≡◌ {A = Settling} (record { answer = gives bytes; waiting = after; buffer = then }) (compact_block w store block)
unfolding compact_block settled_block
block_settled w store block after gap bytes then e h o = rw (e, h, o.bytes_are, o.waits, o.buffer)
