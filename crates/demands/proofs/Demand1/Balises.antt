-- The balises of a group are refused as document 01's table says.
-- Assumes nothing.
use mathlib.Core.Path.{◌≡◌, refl, sym, ap, ◌∙◌, subst}
use mathlib.Core.Bool.{Bool, true, false, not, ◌&&◌, ◌||◌}
use mathlib.Core.List.{List, [], ◌∷◌}
use Prim.Native.Nat.{ℕ, ◌+◌, ◌*◌}
use lib.Dec.{eqb}
use Rattle.words.specs.Answer.{Answer, Outcome, gives, refuses, then, pick}
use Rattle.words.specs.Why.{Why, why, unsaid, not_code_word}
use Rattle.words.specs.Plain.{is_code, figure}
use Rattle.words.specs.Code.{exchanged, read_word}
use Rattle.telegram.specs.Telegram.{Received, named, not_fifteen, short_word, long_word, telegram}
use Rattle.telegram.specs.declared.Telegram.{Telegram}
use Rattle.telegram.specs.declared.Word.{Word}
use Rattle.group.specs.Balise.{part_of, part_heard, read_all}
use Rattle.group.specs.declared.Balise.{Balise}
use Rattle.group.specs.declared.Heard.{Heard}
use Rattle.group_rows.specs.declared.Part.{Part}
use Rattle.group_rows.specs.declared.Placed.{Placed}
use Rattle.demands.specs.Table.{not_code, fifteen, is_number, is_bad, words_refused, is_unread, some_unread}
use Rattle.demands.proofs.Demand1.Answers.{is_refusal, Only, or_false}

part_twelve : (r : Received) → Only 12 (part_of r)
unfolding Only
part_twelve (gives (Telegram.Figures x y z)) = tt
part_twelve (gives (Telegram.Number m)) = tt
part_twelve (refuses b) = refl

heard_twelve : (h : Heard) → Only 12 (part_heard h)
unfolding Only
heard_twelve (Heard.Words x y z) = part_twelve (telegram x y z)
heard_twelve Heard.Marker = tt
heard_twelve Heard.Unreadable = refl

-- whether words are refused
abbrev is_refused : Received → Bool
is_refused (gives m) = false
is_refused (refuses b) = true

-- a word, and then what follows it
refused_then : (letter : Word) (t : Bool) (b : Why) (f : ℕ) (next : ℕ → Received) → is_refused (then (named letter (pick t (refuses b) (gives f))) next) ≡ (t || is_refused (next f))
refused_then letter true b f next = refl
refused_then letter false b f next = refl

short_is : (w : ℕ) → short_word w ≡ pick (is_bad w) (refuses (pick (not_code 8 w) (not_code_word 8 w) (why 3 unsaid))) (gives (figure 8 (exchanged 8 w)))
unfolding short_word read_word not_code fifteen
short_is w = go (is_code 8 (exchanged 8 w))
  where
    f : ℕ
    f = figure 8 (exchanged 8 w)

    go : (c : Bool) → then (pick c (gives f) (refuses (not_code_word 8 w))) not_fifteen
        ≡ pick (not c || (c && eqb f 15)) (refuses (pick (not c) (not_code_word 8 w) (why 3 unsaid))) (gives f)
    go true = refl
    go false = refl

long_is : (y z : ℕ) → long_word y z ≡ pick (not_code 16 (y * 256 + z)) (refuses (not_code_word 16 (y * 256 + z))) (gives (figure 16 (exchanged 16 (y * 256 + z))))
unfolding long_word read_word not_code
long_is y z = go (is_code 16 (exchanged 16 (y * 256 + z)))
  where
    m : ℕ
    m = figure 16 (exchanged 16 (y * 256 + z))

    go : (c : Bool) → pick c (gives m) (refuses (not_code_word 16 (y * 256 + z))) ≡ pick (not c) (refuses (not_code_word 16 (y * 256 + z))) (gives m)
    go true = refl
    go false = refl

-- Words are refused exactly if one that is looked at is.
words_refused_law : (x y z : ℕ) → is_refused (telegram x y z) ≡ words_refused x y z
unfolding telegram words_refused
words_refused_law x y z =
    short_then Word.X x (λ a. pick (eqb a 12) (then (named Word.YZ (long_word y z)) (λ m. gives (Telegram.Number m))) (y_then_z a))
    ∙ ap (λ (t : Bool). is_bad x || t) (go (is_number x))
  where
    fig : ℕ → ℕ
    fig w = figure 8 (exchanged 8 w)

    y_then_z : ℕ → Received
    y_then_z a = then (named Word.Y (short_word y)) (λ b. then (named Word.Z (short_word z)) (λ c. gives (Telegram.Figures a b c)))

    short_then : (letter : Word) (w : ℕ) (next : ℕ → Received) → is_refused (then (named letter (short_word w)) next) ≡ (is_bad w || is_refused (next (fig w)))
    short_then letter w next =
        ap (λ (o : Answer Why ℕ). is_refused (then (named letter o) next)) (short_is w) ∙ refused_then letter (is_bad w) (pick (not_code 8 w) (not_code_word 8 w) (why 3 unsaid)) (fig w) next

    go : (t : Bool) → is_refused (pick t (then (named Word.YZ (long_word y z)) (λ m. gives (Telegram.Number m))) (y_then_z (fig x))) ≡ pick t (not_code 16 (y * 256 + z)) (is_bad y || is_bad z)
    go true =
        ap (λ (o : Answer Why ℕ). is_refused (then (named Word.YZ o) (λ m. gives (Telegram.Number m)))) (long_is y z)
        ∙ refused_then Word.YZ (not_code 16 (y * 256 + z)) (not_code_word 16 (y * 256 + z)) (figure 16 (exchanged 16 (y * 256 + z))) (λ m. gives (Telegram.Number m)) ∙ or_false (not_code 16 (y * 256 + z))
    go false =
        short_then Word.Y y (λ b. then (named Word.Z (short_word z)) (λ c. gives (Telegram.Figures (fig x) b c)))
        ∙ ap (λ (t : Bool). is_bad y || t) (short_then Word.Z z (λ c. gives (Telegram.Figures (fig x) (fig y) c)) ∙ or_false (is_bad z))

-- So is what was heard.
heard_refused : (h : Heard) → is_refusal (part_heard h) ≡ is_unread h
heard_refused (Heard.Words x y z) = go (telegram x y z) ∙ words_refused_law x y z
  where
    go : (r : Received) → is_refusal (part_of r) ≡ is_refused r
    go (gives (Telegram.Figures a b c)) = refl
    go (gives (Telegram.Number m)) = refl
    go (refuses b) = refl
heard_refused Heard.Marker = refl
heard_refused Heard.Unreadable = refl

-- one is not read, and all are refused with 12; or all are read
pub data Read : Bool → Outcome (List Placed) → Type 0 where
  bad : Read true (refuses 12)
  all : (ps : List Placed) → Read false (gives ps)

more : (place : ℕ) (h : Outcome Part) → Only 12 h → (u : Bool) (o : Outcome (List Placed)) → Read u o
    → Read (is_refusal h || u) (then h (λ p. then o (λ ps. gives (record { place = place; part = p } ∷ ps))))
unfolding Only
more place (refuses n) only u o r = subst (λ (k : ℕ). Read true (refuses k)) (sym only) bad
more place (gives p) only u o bad = bad
more place (gives p) only u o (all ps) = all (record { place = place; part = p } ∷ ps)

pub read_is : (bs : List Balise) → Read (some_unread bs) (read_all bs)
unfolding read_all
read_is [] = all []
read_is (b ∷ bs) =
    subst (λ (t : Bool). Read (t || some_unread bs) (read_all (b ∷ bs))) (heard_refused b.heard)
    (more b.place (part_heard b.heard) (heard_twelve b.heard) (some_unread bs) (read_all bs) (read_is bs))
