-- Bytes that hold a store in order: the gap 40 and the pair 72 and 0D hex, from place 0 on.
-- Assumes nothing.
use Prim.Native.Nat.{ℕ}
use mathlib.Core.Path.{◌≡◌, refl}
use mathlib.Core.List.{List, [], ◌∷◌, ◌++◌}
use lib.ListN.{replicate}
use Rattle.words.specs.Answer.{gives}
use Rattle.telegram.specs.Sync.{differing, is_good, good_pair}
use Rattle.settings.specs.Versions.{kept, settings_of, follows}
use Rattle.settings.specs.Store.{versions_of, all_follow, in_order_meant, judged}
use Rattle.state_bytes.specs.Figures.{each, eight_at, figure_at_meant}
use Rattle.state_bytes.specs.Stores.{store_in}

-- A figure below 256 in eight bytes.
abbrev eight : ℕ → List ℕ
eight n = 0 ∷ 0 ∷ 0 ∷ 0 ∷ 0 ∷ 0 ∷ 0 ∷ n ∷ []

-- Place, gap, S and S* of the first version, 31 versions more, and the count.
abbrev pub settings : List ℕ
settings = eight 0 ++ (eight 40 ++ (eight 0x72 ++ (eight 0x0d ++ (replicate 992 0 ++ eight 1))))

pub settings_good : judged (store_in settings) ≡ gives kept
unfolding store_in each eight_at figure_at_meant judged versions_of in_order_meant all_follow follows settings_of good_pair is_good differing
settings_good = refl
