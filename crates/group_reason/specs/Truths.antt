-- "What it names is proved true, it names the first such balise, and it never gives a reason for a
-- group that was accepted" (request M-103), over the contracts of `explain` and of `group::judge`.
-- Assumes nothing.
use Rattle.std.specs.Prelude.{ℕ, ◌≤◌, ◌<◌, ◌≡◌, ◌⊎◌, true, length, Result}
use mathlib.Core.List.{List, ◌∷◌, ◌++◌, Memᴰ}
use Rattle.words.specs.Answer.{Outcome, gives, refuses}
use Rattle.telegram.specs.Telegram.{BadWord, telegram}
use Rattle.group_rows.specs.declared.Direction.{Direction}
use Rattle.group_rows.specs.declared.Kind.{Kind}
use Rattle.group_rows.specs.declared.Part.{Part}
use Rattle.group_rows.specs.declared.Placed.{Placed}
use Rattle.group_rows.specs.declared.Picked.{Picked}
use Rattle.group_rows.specs.Row.{Y, Z, Found, none, found}
use Rattle.group_rows.specs.Fitting.{fitting}
use Rattle.group_rows.specs.Opening.{Longest}
use Rattle.group.specs.declared.Heard.{Heard}
use Rattle.group.specs.declared.Balise.{Balise}
use Rattle.group.specs.declared.Group.{Group}
use Rattle.group.specs.declared.GroupRefused.{GroupRefused}
use Rattle.group.specs.Balise as received
use Rattle.group.specs.Distance.{no_increase}
use Rattle.group.specs.declared.Message.{Message}
use Rattle.group.specs.Judge.{B, C, judge}
use Rattle.group.specs.Says.{says_group_judged}
use Rattle.group_reason.specs.declared.Reason.{Reason}
use Rattle.group_reason.specs.Reason.{Amiss, unreadable, word, balises, bad, opens, figure, Explained, no_reason, because}
use Rattle.group_reason.specs.Explain.{explain}
use Rattle.group_reason.specs.Says.{says_reason}

-- What the two contracts promise of a group.
abbrev pub Explains : Group → Reason → Type 0
Explains g r = says_reason r ≡ explain g

abbrev pub Judges : Group → Result Message GroupRefused → Type 0
Judges g j = says_group_judged j ≡ judge g

-- The balise stands among these with the index i, counted from 0.
pub record At {A : Type 0} (bs : List A) (i : ℕ) (b : A) : Type 0 where
  pub before : List A
  pub later : List A
  pub stands : bs ≡ before ++ (b ∷ later)
  pub index : length before ≡ i

-- ---- 12: "a balise unreadable, or its words refused"

-- What was heard is bad as said: it was unreadable, or its first bad word is this one, refused so.
pub data BadAs : Heard → Amiss → Type 0 where
  was_unreadable : BadAs Heard.Unreadable unreadable
  bad_word : (x y z : ℕ) (w : BadWord) → telegram x y z ≡ refuses w → BadAs (Heard.Words x y z) (word w)

-- "the first bad balise in passing order": the balise at i is bad, and none before it is.
pub record FirstBad (bs : List Balise) (i place : ℕ) (what : Amiss) : Type 0 where
  pub balise : Balise
  pub at : At bs i balise
  pub place_is : balise.place ≡ place
  pub is_bad : received.part_heard balise.heard ≡ refuses 12
  pub bad_as : BadAs balise.heard what
  pub none_before : (b : Balise) → Memᴰ b at.before → (p : Part) × (received.part_heard b.heard ≡ gives p)

-- ---- 13: "no row fits"

-- The balises were read, no row fits them, and the first `run` of the `many` open a permitted
-- group: some balises more (given in `Longest`, and such as can be) make them fit a row of either
-- direction. If they are not all, no balises more make the first `run` + 1 fit one.
pub record OpensSoFar (g : Group) (run many : ℕ) : Type 0 where
  pub parts : List Placed
  pub read : received.read_all (received.balises g) ≡ gives parts
  pub no_row : fitting parts ≡ refuses 13
  pub many_is : length parts ≡ many
  pub longest : Longest parts run

-- ---- 15: "distance not allowed"

-- A figure of B breaks the rule: BY = 14 with AZ of 0, 1 or 13 in a signal (M-101); "Without a 14,
-- BZ must be 1 to 14"; "With a 14 (C), BZ must be 0"; or table DF has no such column (no telegram
-- carries such a figure).
pub data BBreaks (row : Picked) (b : Placed) (c : Found) : Type 0 where
  preset_barred : row.kind ≡ Kind.Signal → Y b.part ≡ 14 → no_increase (Z row.a.part) ≡ true → BBreaks row b c
  without_14 : c ≡ none → (1 ≤ Z b.part → Z b.part ≤ 14 → ⊥) → BBreaks row b c
  with_14 : (x : Placed) → c ≡ found x → (Z b.part ≡ 0 → ⊥) → BBreaks row b c
  no_column : 14 < Y b.part → BBreaks row b c

-- C's figure breaks it: "CY 1 to 14".
abbrev pub CBreaks : Placed → Type 0
CBreaks c = 1 ≤ Y c.part → Y c.part ≤ 14 → ⊥

-- "the balise whose figure breaks the rule, B before C": B; or C, and then no figure of B breaks
-- it.
pub data Culprit (parts : List Placed) (row : Picked) (b : Placed) (i place : ℕ) : Type 0 where
  its_B : At parts i b → b.place ≡ place → BBreaks row b (C parts) → Culprit parts row b i place
  its_C : (c : Placed) → C parts ≡ found c → At parts i c → c.place ≡ place → CBreaks c → (BBreaks row b (C parts) → ⊥) → Culprit parts row b i place

-- The balises were read and fit a row of the present direction, a signal's or a warning board's;
-- one of them breaks the rule.
pub record BreaksRule (g : Group) (i place : ℕ) : Type 0 where
  pub parts : List Placed
  pub read : received.read_all (received.balises g) ≡ gives parts
  pub row : Picked
  pub fits : fitting parts ≡ gives row
  pub present : row.direction ≡ Direction.Present
  pub kind : (row.kind ≡ Kind.Signal) ⊎ (row.kind ≡ Kind.Warning)
  pub b : Placed
  pub is_B : B parts ≡ found b
  pub culprit : Culprit parts row b i place

-- ---- together

-- What is said of a group that was refused with this number, and is true of it.
pub data Why (g : Group) : ℕ → Explained → Type 0 where
  why_10 : g.count ≡ 1 → Why g 10 (because 10 (balises 1))
  why_11 : 5 < g.count → Why g 11 (because 11 (balises g.count))
  why_12 : (i place : ℕ) (what : Amiss) → FirstBad (received.balises g) i place what → Why g 12 (because 12 (bad i place what))
  why_13 : (run many : ℕ) → OpensSoFar g run many → Why g 13 (because 13 (opens run many))
  why_15 : (i place : ℕ) → BreaksRule g i place → Why g 15 (because 15 (figure i place))

-- No reason for an accepted group; for a refused one a reason, for its number, that is true.
abbrev pub Right : Group → Outcome Message → Explained → Type 0
Right g (gives m) e = e ≡ no_reason
Right g (refuses n) e = Why g n e

-- A group that is refused with this number: so that none of what is claimed speaks of nothing.
abbrev pub RefusedWith : ℕ → Type 0
RefusedWith n = (g : Group) × (judge g ≡ refuses n)

-- What is claimed, for any group that is lent.
pub record Truths : Type 0 where
  pub right : (g : Group) (r : Reason) (j : Result Message GroupRefused) → Explains g r → Judges g j → Right g (says_group_judged j) (says_reason r)
  -- Only an accepted group has no reason.
  pub none_if : (g : Group) (r : Reason) (j : Result Message GroupRefused) → Explains g r → Judges g j → r ≡ Reason.None → (m : Message) × (says_group_judged j ≡ gives m)
  -- There are groups of each sort.
  pub some_10 : RefusedWith 10
  pub some_11 : RefusedWith 11
  pub some_12 : RefusedWith 12
  pub some_13 : RefusedWith 13
  pub some_15 : RefusedWith 15
  pub some_accepted : (g : Group) × (m : Message) × (judge g ≡ gives m)
