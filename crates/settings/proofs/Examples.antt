-- A store of two versions, computed: opened, added to, asked; and the refusals in their order.
-- Assumes nothing.
use Prim.Native.Nat.{ℕ}
use mathlib.Core.Path.{◌≡◌, refl}
use mathlib.Core.Bool.{true, false}
use mathlib.Core.List.{List, [], ◌∷◌}
use lib.ListN.{replicate}
use Rattle.words.specs.Answer.{gives, refuses}
use Rattle.telegram.specs.Sync.{differing, is_good, good_pair}
use Rattle.settings.specs.declared.Version.{Version}
use Rattle.settings.specs.declared.Store.{Store}
use Rattle.settings.specs.Versions.{allowed, kept, settings_of, follows}
use Rattle.settings.specs.Store.{no_store_meant, versions_of, opened, begin, all_follow, in_order_meant, judged, with_one, may_add, add}
use Rattle.settings.specs.At.{held_from, held_at, asked}

-- "The gap is a setting, 1 to 200 dm."
narrowest : allowed 1 ≡ true
narrowest = refl

widest : allowed 200 ≡ true
widest = refl

no_gap : allowed 0 ≡ false
no_gap = refl

too_wide : allowed 201 ≡ false
too_wide = refl

-- A version.
abbrev version : ℕ → ℕ → ℕ → ℕ → Version
version place gap s t = record { place = place; gap = gap; s = s; t = t }

-- Gap 40 from 0 on, and gap 60 with another pair from 5000 on.
abbrev two : Store
two = (add (begin 40 0x00 0x7F).store (version 5000 60 0xFF 0x01)).store

first_held : asked two 4999 ≡ gives (record { gap = 40; s = 0x00; t = 0x7F; from = 0; until = 5000 })
unfolding differing is_good good_pair settings_of follows no_store_meant versions_of opened begin all_follow in_order_meant judged with_one may_add add held_from held_at asked
first_held = refl

-- "in force from a stated odometer place": that place included.
second_held : asked two 5000 ≡ gives (record { gap = 60; s = 0xFF; t = 0x01; from = 5000; until = 4000000001 })
unfolding differing is_good good_pair settings_of follows no_store_meant versions_of opened begin all_follow in_order_meant judged with_one may_add add held_from held_at asked
second_held = refl

at_the_highest : asked two 4000000000 ≡ gives (record { gap = 60; s = 0xFF; t = 0x01; from = 5000; until = 4000000001 })
unfolding differing is_good good_pair settings_of follows no_store_meant versions_of opened begin all_follow in_order_meant judged with_one may_add add held_from held_at asked
at_the_highest = refl

beyond_it : asked two 4000000001 ≡ refuses 18
unfolding differing is_good good_pair settings_of follows no_store_meant versions_of opened begin all_follow in_order_meant judged with_one may_add add held_from held_at asked
beyond_it = refl

-- ---- refusals: 4 and 19, then 18, then 24, each before those that follow

bad_pair : may_add two (version 4000000001 0 0x00 0x00) ≡ refuses 4
unfolding differing is_good good_pair settings_of follows no_store_meant versions_of opened begin all_follow in_order_meant judged with_one may_add add
bad_pair = refl

bad_gap_law : may_add two (version 4000000001 201 0x00 0x7F) ≡ refuses 19
unfolding differing is_good good_pair settings_of follows no_store_meant versions_of opened begin all_follow in_order_meant judged with_one may_add add
bad_gap_law = refl

bad_place : may_add two (version 4000000001 200 0x00 0x7F) ≡ refuses 18
unfolding differing is_good good_pair settings_of follows no_store_meant versions_of opened begin all_follow in_order_meant judged with_one may_add add
bad_place = refl

not_above : may_add two (version 5000 200 0x00 0x7F) ≡ refuses 24
unfolding differing is_good good_pair settings_of follows no_store_meant versions_of opened begin all_follow in_order_meant judged with_one may_add add
not_above = refl

-- ---- lent stores that no call made

-- A store of n versions at the places 0, 1, 2 and so on.
abbrev rising : ℕ → ℕ → List Version
rising place Prim.Native.Nat.zero = []
rising place (Prim.Native.Nat.suc n) = version place 40 0x00 0x7F ∷ rising (Prim.Native.Nat.suc place) n

full : judged (record { versions = rising 0 32; count = 32 }) ≡ gives kept
unfolding differing is_good good_pair settings_of follows versions_of all_follow in_order_meant judged
full = refl

one_too_many : may_add (record { versions = rising 0 32; count = 32 }) (version 32 40 0x00 0x7F) ≡ refuses 25
unfolding differing is_good good_pair settings_of follows versions_of all_follow in_order_meant judged may_add
one_too_many = refl

above_32 : judged (record { versions = rising 0 32; count = 33 }) ≡ refuses 25
unfolding judged
above_32 = refl

empty : judged no_store_meant ≡ refuses 19
unfolding no_store_meant versions_of in_order_meant judged
empty = refl

late_start : judged (record { versions = rising 1 32; count = 2 }) ≡ refuses 24
unfolding differing is_good good_pair settings_of follows versions_of all_follow in_order_meant judged
late_start = refl

same_place : judged (record { versions = version 0 40 0x00 0x7F ∷ replicate 31 (version 7 40 0x00 0x7F); count = 3 }) ≡ refuses 24
unfolding differing is_good good_pair settings_of follows versions_of all_follow in_order_meant judged
same_place = refl
