-- Speeds in km/h (document 01, "Signal speeds"; tables HS and FS of source 000). What a figure
-- tells of a speed (`Told`) is a number of km/h (`Kmh v`), or no information (`Unknown`).
-- Assumes nothing.
use Rattle.std.specs.Prelude.{ℕ, zero, suc, not, ◌&&◌, ◌||◌, List, [], ◌∷◌, eqb, leb}
use Rattle.words.specs.Answer.{pick}
use Rattle.group.specs.declared.Told.{Told}

-- "Signal speeds, km/h for figures 0 to 13"
abbrev pub speeds : List ℕ
speeds = 0 ∷ 40 ∷ 50 ∷ 60 ∷ 70 ∷ 80 ∷ 90 ∷ 100 ∷ 130 ∷ 160 ∷ 190 ∷ 220 ∷ 270 ∷ 0 ∷ []

-- The speed at this place of the list; past its end, "14 means no information".
abbrev pub nth : List ℕ → ℕ → Told
nth [] figure = Told.Unknown
nth (v ∷ vs) zero = Told.Kmh v
nth (v ∷ vs) (suc figure) = nth vs figure

-- The speed that a figure of a signal means.
unfoldable pub signal_speed : ℕ → Told
signal_speed figure = nth speeds figure

-- The target figure of a present signal. "A prefix 8 with PY 7 to 14 and PZ not 0 makes target
-- figure 1 read 0, if AY is 1 to 12 or 14." With no prefix PY is 0.
unfoldable pub target_figure : ℕ → ℕ → ℕ → ℕ → ℕ
target_figure ay az py pz =
    pick ((leb 7 py && leb py 14) && not (eqb pz 0) && eqb az 1 && ((leb 1 ay && leb ay 12) || eqb ay 14)) 0 az
