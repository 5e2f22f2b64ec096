-- What judging a group answers, as the file of groups writes it:
-- `present signal, A at 100, AY 8, AZ 5, n1612, 4000 dm, main 130, target 80`, or `refused 13`. It
-- is put piece by piece into a lent buffer, each piece whole or not at all.
-- Assumes nothing.
use Rattle.std.specs.Prelude.{ℕ, Bool, false, List, [], ◌∷◌, ◌++◌}
use Rattle.words.specs.Answer.{Outcome, gives, refuses, pick}
use Rattle.text.specs.Text.{codes, decimal}
use Rattle.group_rows.specs.declared.Direction.{Direction}
use Rattle.ride_text.specs.Text.{kind_word}
use Rattle.group.specs.declared.Told.{Told}
use Rattle.group.specs.declared.Number.{Number}
use Rattle.group.specs.declared.Content.{Content}
use Rattle.group.specs.declared.Message.{Message}

-- The word for a direction, with which a line begins.
abbrev pub direction_word : Direction → List ℕ
direction_word Direction.Present = codes "present"
direction_word Direction.Opposite = codes "opposite"

-- A speed after its words, or a dash where nothing is told.
abbrev pub told_pieces : List ℕ → Told → List (List ℕ)
told_pieces words (Told.Kmh v) = (words ++ decimal v) ∷ []
told_pieces words Told.Unknown = words ∷ codes "-" ∷ []

-- A distance, and whether it is a preset point's.
abbrev pub distance_pieces : ℕ → Bool → List (List ℕ)
distance_pieces dm preset = (codes ", " ++ decimal dm) ∷ pick preset (codes " dm preset") (codes " dm") ∷ []

-- What a group says beyond its kind.
abbrev pub content_pieces : Content → List (List ℕ)
content_pieces (Content.Signal dm preset main target) = distance_pieces dm preset ++ told_pieces (codes ", main ") main ++ told_pieces (codes ", target ") target
content_pieces (Content.Warning dm) = distance_pieces dm false
content_pieces (Content.Route v) = (codes ", speed " ++ decimal v) ∷ []
content_pieces Content.Nothing = []

-- The place and the figures of the A balise.
abbrev pub balise_pieces : ℕ → ℕ → ℕ → List (List ℕ)
balise_pieces place ay az = (codes ", A at " ++ decimal place) ∷ (codes ", AY " ++ decimal ay) ∷ (codes ", AZ " ++ decimal az) ∷ []

-- The group's number, if it has one.
abbrev pub number_pieces : Number → List (List ℕ)
number_pieces Number.None = []
number_pieces (Number.Figure m) = (codes ", n" ++ decimal m) ∷ []

-- An accepted group.
abbrev pub message_pieces : Message → List (List ℕ)
message_pieces m =
    (direction_word m.direction ∷ kind_word m.kind ∷ [])
    ++ balise_pieces m.place m.ay m.az
    ++ number_pieces m.number
    ++ content_pieces m.content

-- The whole answer: the group, or the number with which it is refused.
abbrev pub answer_pieces : Outcome Message → List (List ℕ)
answer_pieces (gives m) = message_pieces m
answer_pieces (refuses n) = (codes "refused " ++ decimal n) ∷ []
