-- From what reading a word answers to what a telegram makes of it.
-- Assumes nothing.
use mathlib.Core.Path.{◌≡◌, refl, sym, ap, ◌∙◌}
use mathlib.Core.Bool.{Bool}
use Prim.Native.Nat.{ℕ, ◌+◌, ◌*◌}
use borrow.Author.Tests.{eq-eqb, ne_eqb}
use Rattle.std.specs.Prelude.{Result, Ok, Err, is_ok}
use Rattle.words.specs.Answer.{Answer, gives, refuses, then, pick}
use Rattle.words.specs.Why.{Why, why, are, unsaid}
use Rattle.words.specs.Code.{read_short, read_long}
use Rattle.words.specs.Says.{says_read}
use Rattle.words.specs.declared.NotCode.{NotCode}
use Rattle.telegram.specs.declared.BadWord.{BadWord}
use Rattle.telegram.specs.declared.Word.{Word}
use Rattle.telegram.specs.Telegram.{BadWord as Bad, Received, bad_word, named, not_fifteen, short_word, long_word}
use Rattle.telegram.specs.Place.{accepted}
use Rattle.telegram.specs.Says.{says_bad, says_figure_read, says_telegram_read}
use Rattle.telegram.specs.declared.Telegram.{Telegram}

-- The short word w of a telegram, whose answer is r.
module _ (word : Word) (w : ℕ) (r : Result ℕ NotCode) (says : says_read r ≡ read_short w) where
  -- what is made of an answer that says o
  judged : {o : Answer Why ℕ} → says_read r ≡ o → named word (then o not_fifteen) ≡ named word (short_word w)
  unfolding short_word
  judged e = ap (λ (o : Answer Why ℕ). named word (then o not_fifteen)) (sym e ∙ says)

  pub a_figure : (x : ℕ) → r ≡ Ok x → (x ≡ 15 → ⊥) → gives x ≡ named word (short_word w)
  a_figure x is other =
      sym (ap (λ (t : Bool). named word (pick t (refuses (why 3 unsaid)) (gives x))) (ne_eqb x 15 other)) ∙ judged (ap says_read is)

  pub fifteen : (x : ℕ) → r ≡ Ok x → x ≡ 15 → refuses (bad_word word (why 3 unsaid)) ≡ named word (short_word w)
  fifteen x is so =
      sym (ap (λ (t : Bool). named word (pick t (refuses (why 3 unsaid)) (gives x))) (eq-eqb x 15 so)) ∙ judged (ap says_read is)

  pub no_code : (e : NotCode) → r ≡ Err e → refuses (bad_word word (why 1 (are e.0))) ≡ named word (short_word w)
  no_code e is = judged (ap says_read is)

-- What follows a word, by what was read of it.
module _ (o : Answer Bad ℕ) (next : ℕ → Received) (r : Result ℕ BadWord) (says : says_figure_read r ≡ o) where
  pub goes_on : (x : ℕ) → r ≡ Ok x → next x ≡ then o next
  goes_on x is = ap (λ (p : Answer Bad ℕ). then p next) (sym (ap says_figure_read is) ∙ says)

  pub stops : (e : BadWord) → r ≡ Err e → refuses (says_bad e) ≡ then o next
  stops e is = ap (λ (p : Answer Bad ℕ). then p next) (sym (ap says_figure_read is) ∙ says)

-- Y and Z as one long word, whose answer is r, and what follows it.
pub long_is : (y z : ℕ) (next : ℕ → Received) (r s : Result ℕ NotCode) → says_read r ≡ read_long (y * 256 + z) → r ≡ s
    → then (named Word.YZ (says_read s)) next ≡ then (named Word.YZ (long_word y z)) next
unfolding long_word
long_is y z next r s says is = ap (λ (o : Answer Why ℕ). then (named Word.YZ o) next) (sym (ap says_read is) ∙ says)

-- Three words are a telegram where the reading succeeds.
pub read_accepted : (r : Result Telegram BadWord) → is_ok r ≡ accepted (says_telegram_read r)
read_accepted (Ok t) = refl
read_accepted (Err e) = refl
