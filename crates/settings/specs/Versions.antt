-- A version of the settings (document 02, M-111): "Keep up to 32 versions of the settings (gap, S,
-- S*), each in force from a stated odometer place until the next one's."
-- Assumes nothing.
use Rattle.std.specs.Prelude.{ℕ, Bool, ◌&&◌, leb, ltb}
use Rattle.words.specs.Answer.{Outcome, gives, refuses, pick}
pub use Rattle.words.specs.Answer.{then}
use Rattle.telegram.specs.Sync.{good_pair}
use Rattle.settings.specs.declared.Version.{Version}

-- "The gap is a setting, 1 to 200 dm."
abbrev pub allowed : ℕ → Bool
allowed gap = leb 1 gap && leb gap 200

-- The highest place: "Any place up to 4,000,000,000 can be asked".
abbrev pub highest : ℕ
highest = 4000000000

-- What is said of settings, a version or a store without a fault: that it is kept.
pub data Kept : Type 0 where
  kept : Kept

-- "4 and 19 for the settings": the sync pair is judged first, then the gap.
unfoldable pub settings_of : ℕ → ℕ → ℕ → Outcome Kept
settings_of gap s t =
    then (good_pair s t) λ g.
    pick (allowed gap) (gives kept) (refuses 19)

-- A version to be added after one that is in force from `last` on: "4 and 19 for the settings, then
-- 18 for a place above 4,000,000,000", "then 24 for an added place not above the last".
unfoldable pub follows : ℕ → Version → Outcome Kept
follows last v =
    then (settings_of v.gap v.s v.t) λ k.
    pick (ltb highest v.place) (refuses 18)
    (pick (leb v.place last) (refuses 24)
    (gives kept))
