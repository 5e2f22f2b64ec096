-- Demand 2: "Words, telegrams, groups, signal speeds, distances and linking marks are exactly those
-- that document 01 draws from the ATC-2 papers. Writing a figure as a code word and reading it back
-- gives the figure; reading an accepted word and writing it gives the word." That each contract is
-- an equation with document 01's definitions is in each crate; here every answer that the contracts
-- allow is compared with document 01's own sentences and numbers, and the contracts with each
-- other. What the contracts allow: specs/ByContract.antt. The rows, to be compared with document 01:
-- crates/group_rows/specs/Rows.antt, and what a row is: Row.antt there; cases of all of them:
-- specs/RowCases.antt. What accepted groups say: specs/Said.antt. The ride, its marks and missed
-- signals: specs/Ride.antt. The table of proved cases: specs/Cases.antt. The ride in full, and what
-- the program writes: specs/Output.antt. That all of this holds: proofs/Demand2.antt. It does not
-- say that the rows, tables and speeds of document 01 are those of the railway's own papers: source
-- 000's tables are compared by running programs (crates test_words and test_rows).
-- Assumes nothing.
use Rattle.std.specs.Prelude.{ℕ, ◌+◌, ◌*◌, ◌≤◌, ◌<◌, ◌≡◌, Bool, true, false, eqb, get_or, Result, Ok, Err}
use mathlib.Core.List.{List, map, Memᴰ}
use Rattle.words.specs.Answer.{gives, refuses}
use Rattle.words.specs.Why.{Why, why, are, unsaid}
use Rattle.words.specs.Says.{says_written}
use Rattle.words.specs.declared.Parity.{Parity}
use Rattle.words.specs.declared.NotCode.{NotCode}
use Rattle.words.specs.declared.TooLarge.{TooLarge}
use Rattle.telegram.specs.Telegram.{bad_word}
use Rattle.telegram.specs.declared.Word.{Word}
use Rattle.telegram.specs.Place.{words_at, places}
use Rattle.telegram.specs.Says.{says_telegram_read}
use Rattle.telegram.specs.declared.BadWord.{BadWord}
use Rattle.telegram.specs.declared.Found.{Found}
use Rattle.telegram.specs.declared.NotFound.{NotFound}
use Rattle.telegram.specs.declared.Telegram.{Telegram}
use Rattle.group.specs.Distance.{columns, Column, column, plus, in_column}
use Rattle.group.specs.Speed.{speeds}
use Rattle.group_rows.specs.OneWay.{OneWay}
use Rattle.group_rows.specs.declared.Direction.{Direction}
use Rattle.group_rows.specs.declared.Kind.{Kind}
use Rattle.group.specs.Judge.{y_of, B, judge_read}
use Rattle.group.specs.Says.{says_measured, says_group_judged}
use Rattle.group.specs.declared.Content.{Content}
use Rattle.group.specs.declared.Group.{Group}
use Rattle.group.specs.declared.GroupRefused.{GroupRefused}
use Rattle.group.specs.declared.NoDistance.{NoDistance}
use Rattle.group.specs.declared.Message.{Message}
use Rattle.group.specs.declared.Told.{Told}
use Rattle.demands.specs.Table.{not_seven, beyond, one_balise, more_than_five, unread, parts_of}
use Rattle.demands.specs.ByContract.{ReadShort, WriteShort, ReadLong, WriteLong, ReadTelegram, Distance, Speed, JudgeGroup}
use Rattle.demands.specs.Calls.{Comes}
use Rattle.demands.specs.Said.{Announces, Speeds, Content-of, Its-A, Its-number}
use Rattle.demands.specs.Cases.{M8, AllHold, cases}
use Rattle.demands.specs.RowCases.{present_cases, opposite_cases, outside_cases, AllJudged}
use Rattle.demands.specs.Ride.{Riding}
use Rattle.demands.specs.Output.{Written, OneRide}

-- ---- the two codes

-- "Writing a figure as a code word and reading it back gives the figure", of a code with this
-- largest figure: it is written as a word, and every reading of that word is the figure.
abbrev pub WrittenBack : {A R : Type 0} → ℕ → (ℕ → A → Type 0) → (ℕ → A) → (ℕ → R → Type 0) → (ℕ → R) → Type 0
WrittenBack {A} {R} largest Writes word Reads figure =
    (x : ℕ) (a : A) → x ≤ largest → Writes x a → (w : ℕ) × (a ≡ word w) × ((r : R) → Reads w r → r ≡ figure x)

-- "reading an accepted word and writing it gives the word", of a code whose words are received as
-- numbers below this one.
abbrev pub ReadBack : {A R : Type 0} → ℕ → (ℕ → A → Type 0) → (ℕ → A) → (ℕ → R → Type 0) → (ℕ → R) → Type 0
ReadBack {A} {R} bound Writes word Reads figure = (w x : ℕ) (a : A) → w < bound → Reads w (figure x) → Writes x a → a ≡ word w

-- Both codes.
pub record Words : Type 0 where
  pub short_back : WrittenBack 15 WriteShort Ok ReadShort Ok
  pub long_back : WrittenBack 2047 WriteLong Ok ReadLong Ok
  pub short_itself : ReadBack 256 WriteShort Ok ReadShort Ok
  pub long_itself : ReadBack 65536 WriteLong Ok ReadLong Ok
  -- the table of M(8,4)
  pub m8 : (x : ℕ) (a : Result ℕ TooLarge) → x < 16 → WriteShort x a → says_written a ≡ gives (get_or M8 x 0)

-- ---- telegrams

-- A short word of a telegram reads this figure, and not 15.
abbrev pub Good : ℕ → ℕ → Type 0
Good w a = ReadShort w (Ok a) × (a ≡ 15 → ⊥)

-- A short word of a telegram is bad for this reason: "not a code word" is 1, with the parity that
-- the word says; "a short word of a telegram reads 15" is 3, with none.
pub data Bad (w : ℕ) : Why → Type 0 where
  no_code : {p : Parity} → ReadShort w (Err (record { 0 = p })) → Bad w (why 1 (are p))
  is_15 : ReadShort w (Ok 15) → Bad w (why 3 unsaid)

-- The place of an answer of `find` that hands one out.
abbrev pub place_of : Result Found NotFound → ℕ
place_of (Ok f) = f.place
place_of (Err e) = 0

-- The three words of a telegram, and the search for telegrams.
pub record Telegrams : Type 0 where
  -- "If X reads 12, Y and Z are one M(16,11) word"
  pub number : (x y z m : ℕ) (r : Result Telegram BadWord) → ReadTelegram x y z r → ReadShort x (Ok 12) → ReadLong (y * 256 + z) (Ok m)
      → r ≡ Ok (Telegram.Number m)
  -- "otherwise each is M(8,4)"
  pub figures : (x y z a b c : ℕ) (r : Result Telegram BadWord) → ReadTelegram x y z r → Good x a → (a ≡ 12 → ⊥) → Good y b → Good z c
      → r ≡ Ok (Telegram.Figures a b c)
  -- "X is judged before Y, Y before Z, and the first bad word decides whatever the numbers.", and
  -- the refusal passes on its letter and parity
  pub x_decides : (x y z : ℕ) (b : Why) (r : Result Telegram BadWord) → ReadTelegram x y z r → Bad x b → says_telegram_read r ≡ refuses (bad_word Word.X b)
  pub y_decides : (x y z a : ℕ) (b : Why) (r : Result Telegram BadWord) → ReadTelegram x y z r → Good x a → (a ≡ 12 → ⊥) → Bad y b → says_telegram_read r ≡ refuses (bad_word Word.Y b)
  pub z_decides : (x y z a b : ℕ) (d : Why) (r : Result Telegram BadWord) → ReadTelegram x y z r → Good x a → (a ≡ 12 → ⊥) → Good y b → Bad z d
      → says_telegram_read r ≡ refuses (bad_word Word.Z d)
  pub yz_decides : (x y z : ℕ) (p : Parity) (r : Result Telegram BadWord) → ReadTelegram x y z r → ReadShort x (Ok 12) → ReadLong (y * 256 + z) (Err (record { 0 = p }))
      → says_telegram_read r ≡ refuses (bad_word Word.YZ (why 1 (are p)))
  -- "asked again from the bit after that place, it goes on, and so every place is handed out once",
  -- with what its words read
  pub handed_once : (b : List ℕ) (start len s t : ℕ) (w : List (Result Found NotFound)) → not_seven s t ≡ false → beyond b start len ≡ false
      → Comes b s t start len w → map place_of w ≡ places b start len s t
  pub with_words : (b : List ℕ) (start len s t p : ℕ) (m : Telegram) (w : List (Result Found NotFound)) → Comes b s t start len w → Memᴰ (Ok (record { place = p; telegram = m })) w
      → gives m ≡ words_at b p

-- ---- groups, distances and speeds

-- A column that is none, for a table that is asked past its end.
abbrev pub no_column : Column
no_column = column 0 (plus 0)

-- Groups: the rows, distances and speeds.
pub record Groups : Type 0 where
  -- two to five balises that were all read are judged by the rows (a group of none, which no ride
  -- makes, gets 13 by them)
  pub by_rows : (g : Group) (r : Result Message GroupRefused) → JudgeGroup g r → one_balise g ≡ false → more_than_five g ≡ false → unread g ≡ false
      → says_group_judged r ≡ judge_read (parts_of g)
  -- no group fits a row of each direction: the first balise that is no 12 tells it
  pub one_way : OneWay
  -- every accepted group has an A, holds its number or none, and says what its kind says
  pub its_a : (g : Group) (m : Message) → JudgeGroup g (Ok m) → Its-A (parts_of g) m
  pub its_number : (g : Group) (m : Message) → JudgeGroup g (Ok m) → Its-number (parts_of g) m.number
  pub content : (g : Group) (m : Message) → JudgeGroup g (Ok m) → Content-of m
  -- what present signals, present warning boards and route boards (10 x AZ km/h with AY 2, 140 km/h
  -- with AY 4) say
  pub signal : (g : Group) (m : Message) (d : ℕ) (preset : Bool) (main target : Told) → JudgeGroup g (Ok m)
      → m.content ≡ Content.Signal d preset main target → Announces (parts_of g) d × (preset ≡ eqb (y_of (B (parts_of g))) 14) × Speeds (parts_of g) m main target
  -- "a present signal with BY = 14 and AZ of 0, 1 or 13 is refused with 15": an accepted preset
  -- point has another target figure
  pub preset_target : (g : Group) (m : Message) (d : ℕ) (main target : Told) → JudgeGroup g (Ok m)
      → m.content ≡ Content.Signal d true main target → (m.az ≡ 0 → ⊥) × (m.az ≡ 1 → ⊥) × (m.az ≡ 13 → ⊥)
  pub warning : (g : Group) (m : Message) (d : ℕ) → JudgeGroup g (Ok m) → m.content ≡ Content.Warning d → Announces (parts_of g) d
  pub route : (g : Group) (m : Message) (v : ℕ) → JudgeGroup g (Ok m) → m.content ≡ Content.Route v
      → (m.ay ≡ 2 → v ≡ 10 * m.az) × (m.ay ≡ 4 → v ≡ 140)
  -- "route, present only"
  pub route_present : (g : Group) (m : Message) → JudgeGroup g (Ok m) → m.kind ≡ Kind.Route → m.direction ≡ Direction.Present
  -- every entry of table DF; "column 14 ... between 500 and 7000"
  pub distances : (by figure : ℕ) (r : Result ℕ NoDistance) → Distance by figure r → by < 15 → 1 ≤ figure → figure ≤ 14
      → says_measured r ≡ gives (in_column (get_or columns by no_column) figure)
  pub preset : (figure d : ℕ) → Distance 14 figure (Ok d) → (500 ≤ d) × (d ≤ 7000)
  -- every signal speed, and "14 means no information"; so does what is above 14, which no telegram
  -- carries
  pub speed : (figure : ℕ) (r : Told) → Speed figure r → figure < 14 → r ≡ Told.Kmh (get_or speeds figure 0)
  pub no_speed : (figure : ℕ) (r : Told) → Speed figure r → 14 ≤ figure → r ≡ Told.Unknown

-- Demand 2.
pub record Demand2 : Type 0 where
  pub words : Words
  pub telegrams : Telegrams
  pub groups : Groups
  -- the rows of the groups, in short and in long forms, and just outside
  pub present : AllJudged present_cases
  pub opposite : AllJudged opposite_cases
  pub outside : AllJudged outside_cases
  -- linking marks, what a present signal sets, missed signals, and the steps around them
  pub riding : Riding
  -- document 01's table of proved cases under a single claim; what the program writes; the ride in
  -- full
  pub proved : AllHold cases
  pub written : Written
  pub one_ride_law : OneRide
