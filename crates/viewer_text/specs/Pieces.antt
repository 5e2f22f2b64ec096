-- Not for callers: what the private functions of src/state.rt put, which a contract can cite from
-- specs/ alone. The lines of Text.antt, cut so that each piece but the first begins with the
-- newline of the line before: then words and a number are one call. That they come to `state` of
-- Text.antt is `state_is` (proofs/Pieces.antt).
-- Assumes nothing.
use Rattle.std.specs.Prelude.{ℕ, List, ◌++◌}
use Rattle.words.specs.Answer.{pick}
use Rattle.text.specs.Text.{codes, decimal}
use Rattle.group.specs.declared.Group.{Group}
use Rattle.group.specs.declared.Number.{Number}
use Rattle.ride.specs.declared.Linking.{Linking}
use Rattle.ride.specs.declared.Known.{Known}
use Rattle.ride.specs.State.{is_open_meant}
use Rattle.ride.specs.Closing.{first_place}
use Rattle.viewer_text.specs.Text.{speed, figure}

-- `place` without its last newline.
unfoldable pub on_place : ℕ → ℕ → ℕ → ℕ → List ℕ
on_place number count kept odometer =
    (codes "" ++ decimal number) ++ (codes " of " ++ decimal count) ++ (codes ", kept " ++ decimal kept) ++ (codes "\n  odometer " ++ decimal odometer)

-- `group`, with the newline before it and not after it; so are the others.
unfoldable pub on_group : Group → List ℕ
on_group g =
    pick (is_open_meant g)
    ((codes "\n  group of " ++ decimal g.count) ++ (codes " from " ++ decimal (first_place g)) ++ (codes " to " ++ decimal g.last))
    (codes "\n  no group")

unfoldable pub on_linking : Linking → List ℕ
on_linking Linking.Unset = codes "\n  no linking"
on_linking (Linking.Set distance from) = (codes "\n  linking " ++ decimal distance) ++ (codes " from " ++ decimal from)

unfoldable pub on_figure : Number → List ℕ
on_figure m = codes ", number " ++ figure m

unfoldable pub on_speeds : Known → List ℕ
on_speeds known = (codes "\n  main " ++ speed known.main) ++ (codes ", target " ++ speed known.target) ++ on_figure known.number
