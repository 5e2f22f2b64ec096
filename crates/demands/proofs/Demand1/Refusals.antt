-- The specification of each function refuses as document 01's table says.
-- Assumes nothing.
use mathlib.Core.Path.{◌≡◌, refl, sym, ap₂, ◌∙◌, subst}
use mathlib.Core.Bool.{Bool, true, false, not, ◌&&◌, ◌||◌}
use mathlib.Core.List.{List, [], ◌∷◌}
use Prim.Native.Nat.{ℕ, ◌+◌, ◌*◌, ◌^◌}
use lib.Dec.{eqb, leb, ltb}
use lib.ListN.{length}
use borrow.Author.Tests.{le-leb, lt-leb, ltb-true, ltb-false}
use Rattle.words.specs.Answer.{Outcome, gives, refuses, then, pick}
use Rattle.words.specs.Why.{Why, why, unsaid, not_code_word}
use Rattle.words.specs.Plain.{is_code, figure}
use Rattle.words.specs.Code.{exchanged, read_word, sent, write_word}
use Rattle.telegram.specs.Sync.{good, is_good, good_pair}
use Rattle.telegram.specs.Telegram.{Received, bad_word, named, not_fifteen, short_word, long_word, telegram}
use Rattle.telegram.specs.declared.Telegram.{Telegram}
use Rattle.telegram.specs.declared.Word.{Word}
use Rattle.telegram.specs.Stretch.{inside, taken, stretch_of}
use Rattle.telegram.specs.Place.{at, first_of, words_at, places, find}
use Rattle.telegram.specs.Survey.{alike, all_as, together, survey}
use Rattle.contact.specs.Judge.{all_alike, first_place}
use Rattle.demands.specs.Rules.{Rule, row_of, row, Decided, Given, Is}
use Rattle.demands.specs.Table.{not_code, above, fifteen, not_seven, beyond, is_empty, no_place, places_differ, is_number}
use Rattle.demands.specs.Lists.{no_code, is15, rules_after_x, telegram_rules, find_rules, survey_rules, find_reads, survey_reads}
use Rattle.demands.proofs.Common.Rules.{true_not_false, if_not}
use Rattle.demands.proofs.Common.Spelled.{above_not}

-- A received word of n bits: 1.
pub reading : (n w : ℕ) → Decided (Is (figure n (exchanged n w))) (row_of (not_code_word n w) (not_code n w) ∷ []) (read_word n w)
unfolding not_code read_word
reading n w = if_not (Is (figure n (exchanged n w))) [] (refuses (not_code_word n w)) (gives (figure n (exchanged n w))) refl (is_code n (exchanged n w))

-- No less is not below.
below_ltb : (x bound : ℕ) → leb bound x ≡ not (ltb x bound)
below_ltb x bound = go (ltb x bound) refl
  where
    go : (t : Bool) → ltb x bound ≡ t → leb bound x ≡ not t
    go true e = lt-leb bound x (ltb-true x bound e)
    go false e = le-leb bound x (ltb-false x bound e)

-- A figure to write: 2.
pub writing : (n largest x : ℕ) → Decided (Is (sent n x)) (row 2 (above largest x) ∷ []) (write_word n largest x)
unfolding above write_word
writing n largest x =
    subst (λ (t : Bool). Decided (Is (sent n x)) (row 2 t ∷ []) (write_word n largest x)) (sym (above_not x largest))
    (if_not (Is (sent n x)) [] (refuses 2) (gives (sent n x)) refl (leb x largest))

-- A sync pair: 4.
pub pairing : (s t : ℕ) → Decided (Is good) (row 4 (not_seven s t) ∷ []) (good_pair s t)
unfolding not_seven good_pair is_good
pairing s t = if_not (Is good) [] (refuses 4) (gives good) refl (is_good s t)

-- A short word of a telegram, 1 and then 3, before what follows it.
short_then : (word : Word) (w : ℕ) (rules : List (Rule Received)) (next : ℕ → Received)
    → Decided Given rules (next (figure 8 (exchanged 8 w)))
    → Decided Given (no_code word 8 w ∷ is15 word w ∷ rules) (then (named word (short_word w)) next)
unfolding not_code fifteen short_word read_word
short_then word w rules next rest = go (is_code 8 (exchanged 8 w)) (eqb f 15) refl
  where
    f : ℕ
    f = figure 8 (exchanged 8 w)

    -- the rows, and what the word comes to, where it is a code word or not and reads 15 or not
    rows : Bool → Bool → List (Rule Received)
    rows c u = row_of (bad_word word (not_code_word 8 w)) (not c) ∷ row_of (bad_word word (why 3 unsaid)) u ∷ rules

    fifteenth : Bool → Received
    fifteenth u = then (named word (pick u (refuses (why 3 unsaid)) (gives f))) next

    go : (c t : Bool) → eqb f 15 ≡ t
        → Decided Given (rows c (c && eqb f 15)) (then (named word (then (pick c (gives f) (refuses (not_code_word 8 w))) not_fifteen)) next)
    go false t e = (λ q. refl, λ q. absurd (true_not_false q))
    go true true e =
        subst (λ (u : Bool). Decided Given (rows true u) (fifteenth u)) (sym e)
        (λ q. absurd (true_not_false (sym q)), λ q. (λ p. refl, λ p. absurd (true_not_false p)))
    go true false e =
        subst (λ (u : Bool). Decided Given (rows true u) (fifteenth u)) (sym e)
        (λ q. absurd (true_not_false (sym q)), λ q. (λ p. absurd (true_not_false (sym p)), λ p. rest))

-- Y and Z as one long word, 1.
long_then : (y z : ℕ) → Decided Given (no_code Word.YZ 16 (y * 256 + z) ∷ []) (then (named Word.YZ (long_word y z)) (λ m. gives (Telegram.Number m)))
unfolding not_code long_word read_word
long_then y z = go (is_code 16 (exchanged 16 (y * 256 + z)))
  where
    m : ℕ
    m = figure 16 (exchanged 16 (y * 256 + z))

    b : Why
    b = not_code_word 16 (y * 256 + z)

    go : (c : Bool) → Decided Given (row_of (bad_word Word.YZ b) (not c) ∷ []) (then (named Word.YZ (pick c (gives m) (refuses b))) (λ k. gives (Telegram.Number k)))
    go true = (λ q. absurd (true_not_false (sym q)), λ q. (Telegram.Number m, refl))
    go false = (λ q. refl, λ q. absurd (true_not_false q))

-- Three received words: word by word, each 1 and then 3.
pub wording : (x y z : ℕ) → Decided Given (telegram_rules x y z) (telegram x y z)
unfolding telegram
wording x y z =
    short_then Word.X x (rules_after_x x y z)
    (λ a. pick (eqb a 12) (then (named Word.YZ (long_word y z)) (λ m. gives (Telegram.Number m))) (y_then_z a))
    (go (is_number x))
  where
    y_then_z : ℕ → Received
    y_then_z a = then (named Word.Y (short_word y)) (λ b. then (named Word.Z (short_word z)) (λ c. gives (Telegram.Figures a b c)))

    a : ℕ
    a = figure 8 (exchanged 8 x)

    go : (t : Bool)
        → Decided Given (pick t (no_code Word.YZ 16 (y * 256 + z) ∷ []) (no_code Word.Y 8 y ∷ is15 Word.Y y ∷ no_code Word.Z 8 z ∷ is15 Word.Z z ∷ []))
        (pick t (then (named Word.YZ (long_word y z)) (λ m. gives (Telegram.Number m))) (y_then_z a))
    go true = long_then y z
    go false =
        short_then Word.Y y (no_code Word.Z 8 z ∷ is15 Word.Z z ∷ []) (λ b. then (named Word.Z (short_word z)) (λ c. gives (Telegram.Figures a b c)))
        (short_then Word.Z z [] (λ c. gives (Telegram.Figures a (figure 8 (exchanged 8 y)) c))
        (Telegram.Figures a (figure 8 (exchanged 8 y)) (figure 8 (exchanged 8 z)), refl))

-- beyond is not inside
pub beyond_is : (b : List ℕ) (start len : ℕ) → beyond b start len ≡ not (inside b start len)
unfolding beyond inside
beyond_is b start len =
    ap₂ (λ (x y : Bool). x || y)
    (ap₂ (λ (x y : Bool). x || y) (above_not (start + len) (8 * length b)) (below_ltb (start + len) (2 ^ 64))) (above_not len 16777216)
    ∙ any_not (leb (start + len) (8 * length b)) (ltb (start + len) (2 ^ 64)) (leb len 16777216)
  where
    any_not : (x y z : Bool) → ((not x || not y) || not z) ≡ not ((x && y) && z)
    any_not true true z = refl
    any_not true false z = refl
    any_not false y z = refl

-- A stretch: 5.
pub lying : (b : List ℕ) (start len : ℕ) → Decided (Is taken) (row 5 (beyond b start len) ∷ []) (stretch_of b start len)
unfolding stretch_of
lying b start len =
    subst (λ (t : Bool). Decided (Is taken) (row 5 t ∷ []) (stretch_of b start len)) (sym (beyond_is b start len))
    (if_not (Is taken) [] (refuses 5) (gives taken) refl (inside b start len))

-- The sync pair, 4, and the stretch, 5, before what follows them.
pub stretch_then : {A : Type 0} (Reads : Outcome A → Type 0) (b : List ℕ) (start len s t : ℕ) (rules : List (Rule (Outcome A))) (o : Outcome A) → Decided Reads rules o
    → Decided Reads (row 4 (not_seven s t) ∷ row 5 (beyond b start len) ∷ rules) (pick (is_good s t) (pick (inside b start len) o (refuses 5)) (refuses 4))
unfolding not_seven is_good
stretch_then Reads b start len s t rules o rest =
    if_not Reads (row 5 (beyond b start len) ∷ rules) (refuses 4) (pick (inside b start len) o (refuses 5))
    (subst (λ (t : Bool). Decided Reads (row 5 t ∷ rules) (pick (inside b start len) o (refuses 5))) (sym (beyond_is b start len))
    (if_not Reads rules (refuses 5) o rest (inside b start len))) (is_good s t)

-- The search for single telegrams: 4, 5, 6.
pub finding : (b : List ℕ) (start len s t : ℕ) → Decided (Is (find_reads b start len s t)) (find_rules b start len s t) (find b start len s t)
unfolding find no_place
finding b start len s t =
    stretch_then (Is (find_reads b start len s t)) b start len s t (row 6 (is_empty (places b start len s t)) ∷ []) (first_of b (places b start len s t)) (go (places b start len s t))
  where
    go : (ps : List ℕ) → Decided (Is (at (first_place ps) (words_at b (first_place ps)))) (row 6 (is_empty ps) ∷ []) (first_of b ps)
    go [] = (λ q. refl, λ q. absurd (true_not_false q))
    go (p ∷ ps) = (λ q. absurd (true_not_false (sym q)), λ q. refl)

-- All places of a stretch: 4, 5, 6, 7.
pub surveying : (b : List ℕ) (start len s t : ℕ) → Decided (Is (survey_reads b start len s t)) (survey_rules b start len s t) (survey b start len s t)
unfolding survey no_place places_differ
surveying b start len s t =
    stretch_then (Is (survey_reads b start len s t)) b start len s t (row 6 (is_empty (places b start len s t)) ∷ row 7 (not (all_alike b (places b start len s t))) ∷ [])
    (together b (places b start len s t)) (go (places b start len s t))
  where
    go : (ps : List ℕ) → Decided (Is (alike (words_at b (first_place ps)) (first_place ps) (length ps))) (row 6 (is_empty ps) ∷ row 7 (not (all_alike b ps)) ∷ []) (together b ps)
    go [] = (λ q. refl, λ q. absurd (true_not_false q))
    go (p ∷ ps) =
        let a = alike (words_at b p) p (length (p ∷ ps)) in
        (λ q. absurd (true_not_false (sym q)), λ q. if_not (Is a) [] (refuses 7) (gives a) refl (all_as b p ps))
