-- The promise holds: both contracts are one equation, the list is the one that the contract names,
-- and it has each word at its figure.
-- Assumes nothing.
use mathlib.Core.Path.{◌≡◌, refl, sym, ap, ◌∙◌, subst}
use mathlib.Core.Bool.{Bool, true, false}
use mathlib.Core.List.{List}
use mathlib.Core.Logic.{⊎_elim}
use Prim.Native.Nat.{ℕ, ◌<◌}
use native.Mathlib.Omega.{arith}
use lib.ListN.{length, get_or}
use borrow.Author.Tests.{lt-ltb, le-ltb}
use borrow.Fn.Kinds.{ended_of}
use denote.Triple.Clauses.{AtExit}
use Rattle.words.specs.Answer.{gives, refuses, pick}
use Rattle.words.specs.Plain.{is_code, figure}
use Rattle.words.specs.Why.{parity, not_code_word}
use Rattle.words.specs.Code.{exchanged, read_word, read_long}
use Rattle.words.specs.Says.{says_read}
use Rattle.words.proofs.Answers.{refused}
use Rattle.words.proofs.Told.{told}
use Rattle.words.proofs.Determined.{word_read, word_read_back}
use Rattle.std.specs.Prelude.{Result, Ok, Err}
use Rattle.words.specs.declared.NotCode.{NotCode}
use Rattle.words_list.specs.Listed.{list, passed, read_by}
use Rattle.words_list.specs.Alike.{Printed}
use Rattle.words_list.proofs.Entries.{list_length}
use Rattle.words_list.proofs.Law.{listed_reads, read_listed, not_listed}
use Rattle.words_list.proofs.ByHand.{met_or_not}
use Rattle.words_list.proofs.list.Kinds as list_kinds
use Rattle.words_list.proofs.list.Reads as list_reads
use Rattle.words_list.proofs.read_long.Kinds as read_long_kinds
use Rattle.words_list.proofs.read_long.Reads as read_long_reads

-- The contract of `read_long` allows the answer r for the word w.
abbrev pub ByList : ℕ → Result ℕ NotCode → Type 0
ByList w r = (x : AtExit (ended_of 0 read_long_kinds.ps read_long_kinds.r) tt) × read_long_reads.Post tt (w, tt) r x

-- The contract of `list` allows it to hand out the list l.
abbrev pub Lists : List ℕ → Type 0
Lists l = (x : AtExit (ended_of 0 list_kinds.ps list_kinds.r) tt) × list_reads.Post tt tt l x

-- Every word has an answer.
an_answer : (w : ℕ) → (r : Result ℕ NotCode) × (says_read r ≡ read_long w)
unfolding read_word
an_answer w = go (is_code 16 (exchanged 16 w))
  where
    go : (t : Bool) → (r : Result ℕ NotCode) × (says_read r ≡ pick t (gives (figure 16 (exchanged 16 w))) (refuses (not_code_word 16 w)))
    go true = (Ok (figure 16 (exchanged 16 w)), refl)
    go false = (Err (record { 0 = (parity 16 w) }), refl)

-- Going down the list, one reads what the checks read.
by_the_list : (w : ℕ) → w < 65536 → read_by list w ≡ read_long w
unfolding read_by
by_the_list w small =
    ⊎_elim
    (λ m. ap (λ (t : Bool). pick t (gives (passed w list)) (refuses (not_code_word 16 w))) (lt-ltb (passed w list) (length list) m.0)
    ∙ sym (listed_reads (passed w list) w (subst (λ (n : ℕ). passed w list < n) list_length m.0) m.1))
    (λ n. ap (λ (t : Bool). pick t (gives (passed w list)) (refuses (not_code_word 16 w))) (le-ltb (passed w list) (length list) (omega arith))
    ∙ refused 16 w false (sym (not_listed w small (λ x l. n.1 x (omega (arith, list_length))))) (parity 16 w) refl refl)
    (met_or_not w list)

-- A figure has one word, and a word one figure.
one_figure : (x y : ℕ) → x < 2048 → y < 2048 → get_or list x 0 ≡ get_or list y 0 → x ≡ y
one_figure x y hx hy e =
    let a : read_long (get_or list y 0) ≡ gives x = listed_reads x (get_or list y 0) hx e in
    let b : read_long (get_or list y 0) ≡ gives y = listed_reads y (get_or list y 0) hy refl in
    cc

pub printed : Printed ByList Lists
printed = record {
  same = λ w r r' a b. told says_read word_read word_read_back r r' a.1 b.1;
  answered = λ w. ((an_answer w).0, (((w, tt), (an_answer w).1), ((w, tt), (an_answer w).1)));
  by_hand = λ l h w small. ap (λ (m : List ℕ). read_by m w) h.1 ∙ by_the_list w small;
  how_many = λ l h. ap length h.1 ∙ list_length;
  own_figure = λ l h x k. ((get_or l x 0, tt), sym (listed_reads x (get_or l x 0) k (ap (λ (m : List ℕ). get_or m x 0) (sym h.1))));
  nowhere_else = λ l h x y hx hy e. one_figure x y hx hy (ap (λ (m : List ℕ). get_or m x 0) (sym h.1) ∙ e ∙ ap (λ (m : List ℕ). get_or m y 0) h.1);
  every_one = λ l h w x small r. ap (λ (m : List ℕ). get_or m x 0) h.1 ∙ (read_listed w x small (sym r.1)).1;
  handed_out = (list, (tt, refl));
}
