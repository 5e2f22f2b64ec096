-- Telegrams are read word by word as document 01 says, and the search hands out every place once.
-- Assumes nothing.
use Prim.Native.Nat.{ℕ, ◌+◌, ◌*◌}
use native.Mathlib.Omega.{arith}
use mathlib.Core.Path.{◌≡◌, refl, sym, ap, ◌∙◌}
use mathlib.Core.Bool.{Bool, true}
use mathlib.Core.List.{List, [], ◌∷◌, map, Memᴰ}
use lib.Dec.{eqb}
use borrow.Author.Tests.{ne_eqb, not-false}
use Rattle.words.specs.Answer.{Answer, gives, refuses, then, pick}
use Rattle.words.specs.Why.{Why, why, are, unsaid}
use Rattle.words.specs.Says.{says_read}
use Rattle.words.proofs.Told.{told}
use Rattle.std.specs.Prelude.{Result, Ok, Err}
use Rattle.words.specs.declared.NotCode.{NotCode}
use Rattle.telegram.specs.Stretch.{inside}
use Rattle.telegram.specs.Sync.{is_good}
use Rattle.telegram.specs.Telegram.{Received, named, not_fifteen, short_word, long_word, telegram}
use Rattle.telegram.specs.declared.Word.{Word}
use Rattle.telegram.specs.Place.{words_at, places}
use Rattle.telegram.specs.Says.{says_telegram_read}
use Rattle.telegram.specs.declared.BadWord.{BadWord}
use Rattle.telegram.specs.declared.Found.{Found}
use Rattle.telegram.specs.declared.NotFound.{NotFound}
use Rattle.telegram.specs.declared.Telegram.{Telegram}
use Rattle.telegram.proofs.Determined as telegram_is
use Rattle.telegram.proofs.Handed.{handed}
use Rattle.telegram.proofs.Law.{with_telegrams, law, only}
use Rattle.demands.specs.Table.{not_seven}
use Rattle.demands.specs.ByContract.{ReadShort, ReadLong}
use Rattle.demands.specs.Calls.{Comes, further, ends}
use Rattle.demands.specs.Demand2.{Good, Bad, no_code, is_15, place_of, Telegrams}
use Rattle.demands.proofs.Demand1.Refusals.{beyond_is}
use Rattle.demands.proofs.Demand3.Handed.{specified, single_place, comes_listed}

-- ---- the words

good_word : (w a : ℕ) → Good w a → short_word w ≡ gives a
unfolding short_word
good_word w a g = ap (λ (o : Answer Why ℕ). then o not_fifteen) (sym g.0.1) ∙ ap (λ (t : Bool). pick t (refuses (why 3 unsaid)) (gives a)) (ne_eqb a 15 g.1)

bad_word : (w : ℕ) {b : Why} → Bad w b → short_word w ≡ refuses b
unfolding short_word
bad_word w (no_code c) = ap (λ (o : Answer Why ℕ). then o not_fifteen) (sym c.1)
bad_word w (is_15 c) = ap (λ (o : Answer Why ℕ). then o not_fifteen) (sym c.1)

long_word_law : (y z : ℕ) (r : Result ℕ NotCode) → ReadLong (y * 256 + z) r → long_word y z ≡ says_read r
unfolding long_word
long_word_law y z r c = sym c.1

-- ---- what X says decides how Y and Z are read

y_then_z : ℕ → ℕ → ℕ → Received
y_then_z y z a = then (named Word.Y (short_word y)) (λ b. then (named Word.Z (short_word z)) (λ c. gives (Telegram.Figures a b c)))

on_x : (x y z : ℕ) (o : Answer Why ℕ) → short_word x ≡ o
    → telegram x y z ≡ then (named Word.X o) (λ a. pick (eqb a 12) (then (named Word.YZ (long_word y z)) (λ m. gives (Telegram.Number m))) (y_then_z y z a))
unfolding telegram y_then_z
on_x x y z o e =
    ap (λ (o : Answer Why ℕ). then (named Word.X o) (λ a. pick (eqb a 12) (then (named Word.YZ (long_word y z)) (λ m. gives (Telegram.Number m))) (y_then_z y z a))) e

on_yz : (x y z : ℕ) (o : Answer Why ℕ) → ReadShort x (Ok 12) → long_word y z ≡ o → telegram x y z ≡ then (named Word.YZ o) (λ m. gives (Telegram.Number m))
on_yz x y z o c e =
    on_x x y z (gives 12) (good_word x 12 (c, λ p. omega arith)) ∙ ap (λ (o : Answer Why ℕ). then (named Word.YZ o) (λ m. gives (Telegram.Number m))) e

on_y : (x y z a : ℕ) (o : Answer Why ℕ) → Good x a → (a ≡ 12 → ⊥) → short_word y ≡ o
    → telegram x y z ≡ then (named Word.Y o) (λ b. then (named Word.Z (short_word z)) (λ c. gives (Telegram.Figures a b c)))
unfolding y_then_z
on_y x y z a o g other e =
    on_x x y z (gives a) (good_word x a g)
    ∙ ap (λ (t : Bool). pick t (then (named Word.YZ (long_word y z)) (λ m. gives (Telegram.Number m))) (y_then_z y z a)) (ne_eqb a 12 other)
    ∙ ap (λ (o : Answer Why ℕ). then (named Word.Y o) (λ b. then (named Word.Z (short_word z)) (λ c. gives (Telegram.Figures a b c)))) e

on_z : (x y z a b : ℕ) (o : Answer Why ℕ) → Good x a → (a ≡ 12 → ⊥) → Good y b → short_word z ≡ o
    → telegram x y z ≡ then (named Word.Z o) (λ c. gives (Telegram.Figures a b c))
on_z x y z a b o g other h e =
    on_y x y z a (gives b) g other (good_word y b h) ∙ ap (λ (o : Answer Why ℕ). then (named Word.Z o) (λ c. gives (Telegram.Figures a b c))) e

is_read : (o : Received) (r r' : Result Telegram BadWord) → says_telegram_read r ≡ o → o ≡ says_telegram_read r' → r ≡ r'
is_read o r r' p q = told says_telegram_read telegram_is.read_of telegram_is.read_back r r' p (sym q)

-- ---- every place once

places_of : (b : List ℕ) (ps : List ℕ) → map single_place (with_telegrams b ps) ≡ ps
places_of b [] = refl
places_of b (p ∷ ps) = ap (λ (qs : List ℕ). p ∷ qs) (places_of b ps)

once : (b : List ℕ) (start len s t : ℕ) (w : List (Result Found NotFound)) → is_good s t ≡ true → inside b start len ≡ true → Comes b s t start len w
    → map place_of w ≡ places b start len s t
once b start len s t w good taken c =
    let r = comes_listed c in
    r.3 ∙ ap (map single_place) (only b s t r.1 (law b s t good start len taken)) ∙ places_of b (places b start len s t)

abbrev telegram_in : Result Found NotFound → Telegram
telegram_in (Ok f) = f.telegram
telegram_in (Err e) = Telegram.Number 0

words_there : {b : List ℕ} {s t start len : ℕ} {w : List (Result Found NotFound)} (p : ℕ) (m : Telegram) → Comes b s t start len w → Memᴰ (Ok (record { place = p; telegram = m })) w
    → gives m ≡ words_at b p
words_there p m (ends _) l = elim l [ ]
words_there {b} {s} {t} {start} {len} p m (further {p = q} {m = n} k c) (Memᴰ.head e) =
    let says : gives n ≡ words_at b q = (handed b start len s t q (gives n) (specified b start len s t (Ok (record { place = q; telegram = n })) k)).says in
    let same_m : m ≡ n = ap telegram_in e in
    let same_p : p ≡ q = ap place_of e in
    ap (λ (v : Telegram). gives v) same_m ∙ says ∙ ap (words_at b) (sym same_p)
words_there p m (further k c) (Memᴰ.tail l) = words_there p m c l

pub telegrams : Telegrams
unfolding not_seven is_good
telegrams = record {
  number = λ x y z m r c d e. is_read (telegram x y z) r (Ok (Telegram.Number m)) c.1 (on_yz x y z (gives m) d (long_word_law y z (Ok m) e));
  figures = λ x y z a b c r k g other h i.
      is_read (telegram x y z) r (Ok (Telegram.Figures a b c)) k.1 (on_z x y z a b (gives c) g other h (good_word z c i));
  x_decides = λ x y z b r c bad. c.1 ∙ on_x x y z (refuses b) (bad_word x bad);
  y_decides = λ x y z a b r c g other bad. c.1 ∙ on_y x y z a (refuses b) g other (bad_word y bad);
  z_decides = λ x y z a b d r c g other h bad. c.1 ∙ on_z x y z a b (refuses d) g other h (bad_word z bad);
  yz_decides = λ x y z p r c d e. c.1 ∙ on_yz x y z (refuses (why 1 (are p))) d (long_word_law y z (Err (record { 0 = p })) e);
  handed_once = λ b start len s t w good taken c.
      once b start len s t w (not-false (is_good s t) good) (not-false (inside b start len) (sym (beyond_is b start len) ∙ taken)) c;
  with_words = λ b start len s t p m w c l. words_there p m c l;
}
