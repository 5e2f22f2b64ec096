-- What is kept of a reading are the words received: each figure has one word.
-- Assumes nothing.
use Prim.Native.Nat.{ℕ, ◌+◌, ◌*◌, ◌/◌, ◌%◌, ◌<◌}
use mathlib.Core.Path.{◌≡◌, refl, sym, ap, ◌∙◌, subst}
use mathlib.Core.Bool.{Bool, true, false, ◌&&◌, not}
use mathlib.Core.List.{List}
use native.Mathlib.Omega.{arith}
use lib.Dec.{eqb, leb, ltb}
use lib.ListN.{length}
use borrow.Author.Tests.{le-ltb, eqb-true}
use Rattle.words.specs.Answer.{Answer, Outcome, gives, refuses, then, pick}
use Rattle.words.specs.Why.{Why, why, unsaid}
use Rattle.words.specs.Plain.{is_check, carriers}
use Rattle.words.specs.Code.{read_short, read_long, sent}
use Rattle.words.proofs.Widths.{short, long}
use Rattle.words.proofs.Laws.{writes_back, figure_small}
use Rattle.telegram.specs.Stretch.{bits_at, inside}
use Rattle.telegram.specs.Sync.{is_good}
use Rattle.telegram.specs.Telegram.{named, not_fifteen, short_word, long_word, telegram}
use Rattle.telegram.specs.Place.{words_at, places}
use Rattle.telegram.specs.declared.Telegram.{Telegram}
use Rattle.telegram.specs.declared.Word.{Word}
use Rattle.telegram.proofs.Window.{bits_lt}
use Rattle.contact.specs.Judge.{all_alike, first_place, is_marker, Contact, read, marker, judgement, judge}
use Rattle.telegram.specs.Spelling.{Words, asked, too_large, has_fifteen, words_of, spell}
use Rattle.recorder.specs.Record.{telegram_of, content_of, at_odometer, record_of_meant}
use Rattle.recorder.specs.Received.{AsReceived}
use Rattle.words.proofs.Never.{cannot_be}

-- A reading says what the words at its first place say.
pub place_words : (b : List ℕ) (start len s t : ℕ) (m : Telegram) (first count : ℕ) → judge b start len s t ≡ gives (read (gives m) first count) → words_at b first ≡ gives m
unfolding judge judgement
place_words b start len s t m first count = go (is_good s t) (inside b start len) (leb 2 (length ps) && all_alike b ps) (not (all_alike b ps)) (is_marker b start len)
  where
    ps : List ℕ
    ps = places b start len s t

    go : (g i two other mark : Bool)
        → pick {A = Outcome Contact} g (pick i (pick two (gives (read (words_at b (first_place ps)) (first_place ps) (length ps))) (pick other (refuses 7) (pick mark (gives marker) (refuses 8)))) (refuses 5)) (refuses 4)
        ≡ gives (read (gives m) first count) → words_at b first ≡ gives m
    go true true true other mark e =
        let place : first_place ps ≡ first = cc in
        let words : words_at b (first_place ps) ≡ gives m = cc in
        ap (words_at b) (sym place) ∙ words
    go true true false true mark e = cannot_be cc
    go true true false false true e = cannot_be cc
    go true true false false false e = cannot_be cc
    go true false two other mark e = cannot_be cc
    go false i two other mark e = cannot_be cc

-- Figures that are read are no larger than those that are written.
short_small : (w a : ℕ) → read_short w ≡ gives a → ltb 15 a ≡ false
unfolding carriers is_check
short_small w a reads = let l : a < 16 = figure_small 8 w a reads in le-ltb 15 a (omega arith)

long_small : (w a : ℕ) → read_long w ≡ gives a → ltb 2047 a ≡ false
unfolding carriers is_check
long_small w a reads = let l : a < 2048 = figure_small 16 w a reads in le-ltb 2047 a (omega arith)

-- A short word of a telegram is the word sent for its figure, which is at most 14.
record Short (w a : ℕ) : Type 0 where
  pub is : sent 8 a ≡ w
  pub small : ltb 15 a ≡ false
  pub not_fifteen_law : eqb a 15 ≡ false

of_short : (w a : ℕ) → w < 256 → short_word w ≡ gives a → Short w a
unfolding short_word
of_short w a low e = go (read_short w) refl e
  where
    by : (v : ℕ) (t : Bool) → eqb v 15 ≡ t → read_short w ≡ gives v → pick {A = Answer Why ℕ} t (refuses (why 3 unsaid)) (gives v) ≡ gives a → Short w a
    by v true is so e = cannot_be cc
    by v false is so e =
        let same : v ≡ a = cc in
        let reads : read_short w ≡ gives a = so ∙ ap gives same in
        record { is = writes_back short w a low reads; small = short_small w a reads; not_fifteen_law = ap (λ (x : ℕ). eqb x 15) (sym same) ∙ is }

    go : (o : Answer Why ℕ) → read_short w ≡ o → then o not_fifteen ≡ gives a → Short w a
    go (refuses k) so e = cannot_be cc
    go (gives v) so e = by v (eqb v 15) refl so e

-- The words of a telegram are those that are written for it.
module _ (x y z : ℕ) (x-low : x < 256) (y-low : y < 256) (z-low : z < 256) where
  abbrev three : Words
  three = record { x = x; y = y; z = z }

  figures_spelt : (a b c : ℕ) → eqb a 12 ≡ false → Short x a → Short y b → Short z c → spell (telegram_of (Telegram.Figures a b c)) ≡ gives three
  unfolding asked spell too_large has_fifteen words_of
  figures_spelt a b c other p q r =
      simp (other, p.small, q.small, r.small, p.not_fifteen_law, q.not_fifteen_law, r.not_fifteen_law, p.is, q.is, r.is)

  number_spelt : (n : ℕ) → Short x 12 → long_word y z ≡ gives n → spell (telegram_of (Telegram.Number n)) ≡ gives three
  unfolding long_word spell too_large has_fifteen words_of
  number_spelt n p e =
      let whole : sent 16 n ≡ y * 256 + z = writes_back long (y * 256 + z) n (omega arith) e in
      let high : sent 16 n / 256 ≡ y = omega arith in
      let low : sent 16 n % 256 ≡ z = omega arith in
      simp (long_small (y * 256 + z) n e, p.is, high, low)

  pub spelt_back : (m : Telegram) → telegram x y z ≡ gives m → spell (telegram_of m) ≡ gives three
  unfolding telegram
  spelt_back m = first (short_word x) refl
    where
      last : (a b : ℕ) → eqb a 12 ≡ false → Short x a → Short y b → (o : Answer Why ℕ) → short_word z ≡ o
          → then (named Word.Z o) (λ c. gives (Telegram.Figures a b c)) ≡ gives m → spell (telegram_of m) ≡ gives three
      last a b other p q (refuses k) is e = cannot_be cc
      last a b other p q (gives c) is e =
          let same : Telegram.Figures a b c ≡ m = cc in
          ap (λ (t : Telegram). spell (telegram_of t)) (sym same) ∙ figures_spelt a b c other p q (of_short z c z-low is)

      middle : (a : ℕ) → eqb a 12 ≡ false → Short x a → (o : Answer Why ℕ) → short_word y ≡ o
          → then (named Word.Y o) (λ b. then (named Word.Z (short_word z)) (λ c. gives (Telegram.Figures a b c))) ≡ gives m → spell (telegram_of m) ≡ gives three
      middle a other p (refuses k) is e = cannot_be cc
      middle a other p (gives b) is e = last a b other p (of_short y b y-low is) (short_word z) refl e

      number : Short x 12 → (o : Answer Why ℕ) → long_word y z ≡ o → then (named Word.YZ o) (λ n. gives (Telegram.Number n)) ≡ gives m → spell (telegram_of m) ≡ gives three
      number p (refuses k) is e = cannot_be cc
      number p (gives n) is e =
          let same : Telegram.Number n ≡ m = cc in
          ap (λ (t : Telegram). spell (telegram_of t)) (sym same) ∙ number_spelt n p is

      by : (a : ℕ) (t : Bool) → eqb a 12 ≡ t → Short x a
          → pick t (then (named Word.YZ (long_word y z)) (λ n. gives (Telegram.Number n)))
          (then (named Word.Y (short_word y)) (λ b. then (named Word.Z (short_word z)) (λ c. gives (Telegram.Figures a b c)))) ≡ gives m
          → spell (telegram_of m) ≡ gives three
      by a true is p e = number (subst (Short x) (eqb-true a 12 is) p) (long_word y z) refl e
      by a false is p e = middle a is p (short_word y) refl e

      first : (o : Answer Why ℕ) → short_word x ≡ o
          → then (named Word.X o) (λ a. pick (eqb a 12) (then (named Word.YZ (long_word y z)) (λ n. gives (Telegram.Number n)))
          (then (named Word.Y (short_word y)) (λ b. then (named Word.Z (short_word z)) (λ c. gives (Telegram.Figures a b c))))) ≡ gives m
          → spell (telegram_of m) ≡ gives three
      first (refuses k) is e = cannot_be cc
      first (gives a) is e = by a (eqb a 12) refl (of_short x a x-low is) e

pub as_received : AsReceived
unfolding record_of_meant content_of at_odometer words_at
as_received b start len s t m first count odometer is low =
    let words : telegram (bits_at b (first + 8) 8) (bits_at b (first + 16) 8) (bits_at b (first + 24) 8) ≡ gives m = place_words b start len s t m first count is in
    simp (spelt_back (bits_at b (first + 8) 8) (bits_at b (first + 16) 8) (bits_at b (first + 24) 8) (bits_lt b (first + 8) 8) (bits_lt b (first + 16) 8) (bits_lt b (first + 24) 8) m words, le-ltb 4000000000 odometer low)
