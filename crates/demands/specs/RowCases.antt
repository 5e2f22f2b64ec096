-- The rows of document 01's groups, each in its shortest form and with all its optional members,
-- and just outside: what is judged of each. The balises lie 30 dm apart, the first at 1000 dm, and
-- are given as they are received.
-- Assumes nothing.
use Rattle.std.specs.Prelude.{ℕ, ◌+◌, ◌*◌, ◌≡◌, true, false, List, [], ◌∷◌, ◌++◌, length, take, get_or, replicate, Result}
use Rattle.words.specs.Answer.{Outcome, gives, refuses}
use Rattle.group.specs.Says.{says_group_judged}
use Rattle.group.specs.declared.Balise.{Balise}
use Rattle.group.specs.declared.Content.{Content}
use Rattle.group_rows.specs.declared.Direction.{Direction}
use Rattle.group.specs.declared.Group.{Group}
use Rattle.group.specs.declared.Heard.{Heard}
use Rattle.group.specs.declared.GroupRefused.{GroupRefused}
use Rattle.group.specs.declared.Message.{Message}
use Rattle.group_rows.specs.declared.Kind.{Kind}
use Rattle.group.specs.declared.Number.{Number}
use Rattle.group.specs.declared.Told.{Told}
use Rattle.demands.specs.Cases.{M8}
use Rattle.demands.specs.ByContract.{JudgeGroup}

-- The balise that sends the figures x, y and z: the words of M(8,4).
abbrev pub f : ℕ → ℕ → ℕ → Heard
f x y z = Heard.Words (get_or M8 x 0) (get_or M8 y 0) (get_or M8 z 0)

-- The number balise with 1612: "1612 is D1/C6".
abbrev pub N : Heard
N = Heard.Words 0xC3 0xD1 0xC6

-- A marker.
abbrev pub M : Heard
M = Heard.Marker

-- Balises 30 dm apart, from this place on.
abbrev pub from : ℕ → List Heard → List Balise
from place [] = []
from place (h ∷ hs) = record { place = place; heard = h } ∷ from (place + 30) hs

-- The group of these balises. It keeps five; where there are fewer, the rest is never looked at.
abbrev pub group_of : List Heard → Group
group_of hs =
    record {
      kept = take 5 (from 1000 hs ++ replicate 5 (record { place = 0; heard = Heard.Unreadable }));
      count = length hs;
      last = 970 + 30 * length hs;
    }

-- A group, and what must be judged of it.
pub record RowCase : Type 0 where
  pub balises : List Heard
  pub judged : Outcome Message

-- A group in this direction: its kind, the place of its A, AY and AZ, its number, and what more it
-- says.
abbrev pub is : Direction → List Heard → Kind → ℕ → ℕ → ℕ → Number → Content → RowCase
is direction hs kind place ay az number content =
    record {
      balises = hs;
      judged = gives (record { direction = direction; kind = kind; place = place; ay = ay; az = az; number = number; content = content });
    }

-- A group in the present direction.
abbrev pub present : List Heard → Kind → ℕ → ℕ → ℕ → Number → Content → RowCase
present = is Direction.Present

-- A group in the opposite direction: it says nothing more.
abbrev pub opposite : List Heard → Kind → ℕ → ℕ → ℕ → Number → RowCase
opposite hs kind place ay az number = is Direction.Opposite hs kind place ay az number Content.Nothing

-- The number of a group with N; that of a group without.
abbrev pub n1612 : Number
n1612 = Number.Figure 1612

abbrev pub no_n : Number
no_n = Number.None

-- A group that is refused with this number.
abbrev pub refused_as : ℕ → List Heard → RowCase
refused_as n hs = record { balises = hs; judged = refuses n }

-- "Present direction, in the order passed"
abbrev pub present_cases : List RowCase
present_cases =
    -- signal: [12] [8] 1 9 [14] [12]; the prefix makes target figure 1 read 0; AY 14 and AZ 14 give
    -- no information; BY 14 is preset
    present (f 1 8 5 ∷ f 9 2 4 ∷ []) Kind.Signal 1000 8 5 no_n (Content.Signal 4000 false (Told.Kmh 130) (Told.Kmh 80))
    ∷ present (N ∷ f 8 7 1 ∷ f 1 8 1 ∷ f 9 2 0 ∷ f 14 4 0 ∷ []) Kind.Signal 1060 8 1 n1612 (Content.Signal 4000 false (Told.Kmh 130) (Told.Kmh 0))
    ∷ present (f 8 7 0 ∷ f 1 8 1 ∷ f 9 2 0 ∷ f 14 4 0 ∷ N ∷ []) Kind.Signal 1030 8 1 n1612 (Content.Signal 4000 false (Told.Kmh 130) (Told.Kmh 40))
    ∷ present (f 1 14 14 ∷ f 9 14 1 ∷ []) Kind.Signal 1000 14 14 no_n (Content.Signal 7000 true Told.Unknown Told.Unknown)
    -- a preset point with AZ 2, 12 or 14, with a 14 and without; BY 13 with AZ 13
    ∷ present (f 1 1 2 ∷ f 9 14 14 ∷ []) Kind.Signal 1000 1 2 no_n (Content.Signal 500 true (Told.Kmh 40) (Told.Kmh 50))
    ∷ present (f 1 1 2 ∷ f 9 14 0 ∷ f 14 1 0 ∷ []) Kind.Signal 1000 1 2 no_n (Content.Signal 7000 true (Told.Kmh 40) (Told.Kmh 50))
    ∷ present (f 1 1 12 ∷ f 9 14 1 ∷ []) Kind.Signal 1000 1 12 no_n (Content.Signal 7000 true (Told.Kmh 40) (Told.Kmh 270))
    ∷ present (f 1 1 12 ∷ f 9 14 0 ∷ f 14 14 0 ∷ []) Kind.Signal 1000 1 12 no_n (Content.Signal 500 true (Told.Kmh 40) (Told.Kmh 270))
    ∷ present (f 1 14 14 ∷ f 9 14 0 ∷ f 14 1 0 ∷ []) Kind.Signal 1000 14 14 no_n (Content.Signal 7000 true Told.Unknown Told.Unknown)
    ∷ present (f 1 1 13 ∷ f 9 13 1 ∷ []) Kind.Signal 1000 1 13 no_n (Content.Signal 106000 false (Told.Kmh 40) (Told.Kmh 0))
    -- and the same with 4 for 1
    ∷ present (f 4 8 5 ∷ f 9 13 14 ∷ []) Kind.Signal 1000 8 5 no_n (Content.Signal 119000 false (Told.Kmh 130) (Told.Kmh 80))
    ∷ present (N ∷ f 8 14 14 ∷ f 4 14 1 ∷ f 9 0 0 ∷ f 14 1 0 ∷ []) Kind.Signal 1060 14 1 n1612 (Content.Signal 125 false Told.Unknown (Told.Kmh 0))
    ∷ present (f 8 6 1 ∷ f 4 13 1 ∷ f 9 0 0 ∷ f 14 14 0 ∷ N ∷ []) Kind.Signal 1030 13 1 n1612 (Content.Signal 1750 false (Told.Kmh 0) (Told.Kmh 40))
    -- warning board: [8] 2 9 [14] [12], AZ 0 to 13 and BY 0 to 13
    ∷ present (f 2 0 0 ∷ f 9 0 1 ∷ []) Kind.Warning 1000 0 0 no_n (Content.Warning 125)
    ∷ present (f 8 0 0 ∷ f 2 14 13 ∷ f 9 13 0 ∷ f 14 14 0 ∷ N ∷ []) Kind.Warning 1030 14 13 n1612 (Content.Warning 119000)
    -- annulled: [12] [8] 10 9 [14] [12]; no distance is judged
    ∷ present (f 10 0 0 ∷ f 9 0 0 ∷ []) Kind.Annulled 1000 0 0 no_n Content.Nothing
    ∷ present (N ∷ f 8 0 0 ∷ f 10 14 14 ∷ f 9 14 14 ∷ f 14 0 0 ∷ []) Kind.Annulled 1060 14 14 n1612 Content.Nothing
    ∷ present (f 8 0 0 ∷ f 10 14 14 ∷ f 9 14 14 ∷ f 14 0 0 ∷ N ∷ []) Kind.Annulled 1030 14 14 n1612 Content.Nothing
    -- line speed board: 3 5 if AY is 0 to 8; 3 M if AY is 9 to 14; AZ 0 to 13
    ∷ present (f 3 0 0 ∷ f 5 0 0 ∷ []) Kind.Line 1000 0 0 no_n Content.Nothing
    ∷ present (f 3 8 13 ∷ f 5 14 14 ∷ []) Kind.Line 1000 8 13 no_n Content.Nothing
    ∷ present (f 3 9 0 ∷ M ∷ []) Kind.Line 1000 9 0 no_n Content.Nothing
    ∷ present (f 3 14 13 ∷ M ∷ []) Kind.Line 1000 14 13 no_n Content.Nothing
    -- route board: 5 followed by 3, 5 or 7, with AY 2 and AZ 0 to 13 (10 x AZ km/h), or AY 4 and AZ
    -- 10 (140 km/h)
    ∷ present (f 5 2 0 ∷ f 3 0 0 ∷ []) Kind.Route 1000 2 0 no_n (Content.Route 0)
    ∷ present (f 5 2 13 ∷ f 5 2 12 ∷ []) Kind.Route 1000 2 13 no_n (Content.Route 130)
    ∷ present (f 5 2 9 ∷ f 7 0 0 ∷ []) Kind.Route 1000 2 9 no_n (Content.Route 90)
    ∷ present (f 5 4 10 ∷ f 3 0 0 ∷ []) Kind.Route 1000 4 10 no_n (Content.Route 140)
    ∷ present (f 5 4 10 ∷ f 5 4 10 ∷ []) Kind.Route 1000 4 10 no_n (Content.Route 140)
    ∷ present (f 5 4 10 ∷ f 7 0 0 ∷ []) Kind.Route 1000 4 10 no_n (Content.Route 140)
    ∷ []

-- "Opposite direction, in the order passed"
abbrev pub opposite_cases : List RowCase
opposite_cases =
    -- [12] [14] 9, then 1, 4 or 10, then [8] [12]
    opposite (f 9 0 0 ∷ f 1 0 0 ∷ []) Kind.Signal 1030 0 0 no_n
    ∷ opposite (N ∷ f 14 0 0 ∷ f 9 0 0 ∷ f 1 14 14 ∷ f 8 0 0 ∷ []) Kind.Signal 1090 14 14 n1612
    ∷ opposite (f 14 0 0 ∷ f 9 0 0 ∷ f 1 14 14 ∷ f 8 0 0 ∷ N ∷ []) Kind.Signal 1060 14 14 n1612
    ∷ opposite (f 9 0 0 ∷ f 4 0 0 ∷ []) Kind.Signal 1030 0 0 no_n
    ∷ opposite (N ∷ f 14 0 0 ∷ f 9 0 0 ∷ f 4 14 14 ∷ f 8 0 0 ∷ []) Kind.Signal 1090 14 14 n1612
    ∷ opposite (f 14 0 0 ∷ f 9 0 0 ∷ f 4 14 14 ∷ f 8 0 0 ∷ N ∷ []) Kind.Signal 1060 14 14 n1612
    ∷ opposite (f 9 0 0 ∷ f 10 0 0 ∷ []) Kind.Annulled 1030 0 0 no_n
    ∷ opposite (N ∷ f 14 0 0 ∷ f 9 0 0 ∷ f 10 14 14 ∷ f 8 0 0 ∷ []) Kind.Annulled 1090 14 14 n1612
    ∷ opposite (f 14 0 0 ∷ f 9 0 0 ∷ f 10 14 14 ∷ f 8 0 0 ∷ N ∷ []) Kind.Annulled 1060 14 14 n1612
    -- [12] [14] 9 2, or [12] M 2
    ∷ opposite (f 9 14 0 ∷ f 2 0 14 ∷ []) Kind.Warning 1030 0 14 no_n
    ∷ opposite (N ∷ f 14 0 0 ∷ f 9 0 0 ∷ f 2 0 0 ∷ []) Kind.Warning 1090 0 0 n1612
    ∷ opposite (M ∷ f 2 0 14 ∷ []) Kind.Warning 1030 0 14 no_n
    ∷ opposite (N ∷ M ∷ f 2 0 0 ∷ []) Kind.Warning 1060 0 0 n1612
    -- M 3 if AY is 9 to 14
    ∷ opposite (M ∷ f 3 9 0 ∷ []) Kind.Line 1030 9 0 no_n
    ∷ opposite (M ∷ f 3 14 14 ∷ []) Kind.Line 1030 14 14 no_n
    ∷ []

-- Just outside.
abbrev pub outside_cases : List RowCase
outside_cases =
    -- one balise; six; one unreadable; one with a word that is not a code word; one with a 15
    refused_as 10 (f 1 8 5 ∷ [])
    ∷ refused_as 11 (N ∷ f 8 7 1 ∷ f 1 8 5 ∷ f 9 2 0 ∷ f 14 4 0 ∷ N ∷ [])
    ∷ refused_as 12 (f 1 8 5 ∷ Heard.Unreadable ∷ [])
    ∷ refused_as 12 (f 1 8 5 ∷ Heard.Words 0x18 0x00 0x00 ∷ [])
    ∷ refused_as 12 (f 1 8 15 ∷ f 9 2 4 ∷ [])
    -- 12 twice; AZ 14 and BY 14 of a warning board
    ∷ refused_as 13 (N ∷ f 1 8 5 ∷ f 9 2 4 ∷ N ∷ [])
    ∷ refused_as 13 (f 2 0 14 ∷ f 9 0 1 ∷ [])
    ∷ refused_as 13 (f 2 0 0 ∷ f 9 14 1 ∷ [])
    -- a member where the row has none: 12 before a warning board; 8 or 12 after 9 2
    ∷ refused_as 13 (N ∷ f 2 0 0 ∷ f 9 0 1 ∷ [])
    ∷ refused_as 13 (f 9 0 0 ∷ f 2 0 0 ∷ f 8 0 0 ∷ [])
    ∷ refused_as 13 (f 9 0 0 ∷ f 2 0 0 ∷ N ∷ [])
    -- a line board: AY 9 with a 5, AY 8 with a marker, AZ 14 of either form
    ∷ refused_as 13 (f 3 9 0 ∷ f 5 0 0 ∷ [])
    ∷ refused_as 13 (f 3 8 0 ∷ M ∷ [])
    ∷ refused_as 13 (f 3 0 14 ∷ f 5 0 0 ∷ [])
    ∷ refused_as 13 (f 3 9 14 ∷ M ∷ [])
    -- a route board: AZ 14, AY 3, AY 4 with AZ 9 or 11; AY 8 of M 3
    ∷ refused_as 13 (f 5 2 14 ∷ f 3 0 0 ∷ [])
    ∷ refused_as 13 (f 5 3 0 ∷ f 3 0 0 ∷ [])
    ∷ refused_as 13 (f 5 4 9 ∷ f 7 0 0 ∷ [])
    ∷ refused_as 13 (f 5 4 11 ∷ f 7 0 0 ∷ [])
    ∷ refused_as 13 (M ∷ f 3 8 0 ∷ [])
    -- a distance that is not allowed: BZ 0 without a 14; BZ 5 or CY 0 with one
    ∷ refused_as 15 (f 1 8 5 ∷ f 9 2 0 ∷ [])
    ∷ refused_as 15 (f 1 8 5 ∷ f 9 2 5 ∷ f 14 4 0 ∷ [])
    ∷ refused_as 15 (f 1 8 5 ∷ f 9 2 0 ∷ f 14 0 0 ∷ [])
    ∷ refused_as 15 (f 2 0 0 ∷ f 9 2 0 ∷ [])
    -- a preset point with AZ 0, 1 or 13, without a 14 and with one; a prefix does not come before
    -- it
    ∷ refused_as 15 (f 1 8 0 ∷ f 9 14 1 ∷ [])
    ∷ refused_as 15 (f 1 8 1 ∷ f 9 14 1 ∷ [])
    ∷ refused_as 15 (f 4 8 13 ∷ f 9 14 14 ∷ [])
    ∷ refused_as 15 (f 1 8 0 ∷ f 9 14 0 ∷ f 14 1 0 ∷ [])
    ∷ refused_as 15 (f 8 7 1 ∷ f 4 8 1 ∷ f 9 14 0 ∷ f 14 1 0 ∷ [])
    ∷ refused_as 15 (f 1 8 13 ∷ f 9 14 0 ∷ f 14 14 0 ∷ [])
    ∷ []

-- Every case of a list is judged so, by every answer that the contract of `group::judge` allows.
abbrev pub AllJudged : List RowCase → Type 0
AllJudged [] = Unit {0}
AllJudged (c ∷ cs) = ((r : Result Message GroupRefused) → JudgeGroup (group_of c.balises) r → says_group_judged r ≡ c.judged) × AllJudged cs
