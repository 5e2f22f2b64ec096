-- The laws of the settings from C: each contract hands over what is returned, left and read back,
-- and demands has how the store's functions decide.
-- Assumes nothing.
use mathlib.Core.Path.{◌≡◌, sym, ap, subst, ◌∙◌}
use mathlib.Core.Bool.{Bool}
use mathlib.Core.List.{List, [], ◌∷◌}
use Prim.Native.Nat.{ℕ, ◌%◌}
use native.Mathlib.Omega.{arith}
use lib.IntN.{ℤ, pos}
use borrow.Author.Tests.{ne_eqb}
use Rattle.words.specs.Answer.{Answer, Outcome, gives, pick}
use Rattle.words.specs.Why.{Why, not_code_word}
use Rattle.words.specs.Plain.{figure}
use Rattle.words.specs.Code.{exchanged, read_word, read_short, read_long}
use Rattle.settings.specs.declared.Version.{Version}
use Rattle.settings.specs.declared.Store.{Store}
use Rattle.settings.specs.Versions.{Kept, kept, settings_of}
use Rattle.settings.specs.Store.{Change, first_of, begin, add, may_add, last_place}
use Rattle.settings_text.specs.Sheet.{sheet}
use Rattle.state_bytes.specs.Stores.{store_bytes, store_in}
use Rattle.abi.specs.Face.{returned, left, word_number}
use Rattle.abi.specs.Stores.{kept_number, store_left, then_holds, store_after_meant, change_of}
use Rattle.demands.specs.Rules.{Rule, row_of, row, Is, Decided}
use Rattle.demands.specs.Table.{not_code}
use Rattle.demands.specs.Table02.{full}
use Rattle.demands.specs.Stores.{settings_rules, version_rules, store_rules}
use Rattle.demands.proofs.Demand1.Refusals.{reading}
use Rattle.demands.proofs.Demand1.Stores.{begin_so, add_so, opened_answer, added_answer}
use Rattle.abi_laws.specs.Calls.{SettingsBegin, SettingsAdd, SettingsRead}
use Rattle.abi_laws.specs.Settings.{SettingsDecided, SettingsUntouched, ReadsBack}
use Rattle.abi_laws.proofs.Demand1.{decided_of, kept_there}

begin_decided : (gap s t : ℕ) → Decided (Is kept) (settings_rules (first_of gap s t) []) (begin gap s t).answer
unfolding begin
begin_decided gap s t =
    subst (λ (o : Outcome Kept). Decided (Is kept) (settings_rules (first_of gap s t) []) o) (sym (opened_answer (first_of gap s t) (settings_of gap s t))) (begin_so gap s t)

-- The rules of adding.
abbrev add_rules : Store → Version → List (Rule (Outcome Kept))
add_rules store v = store_rules store (version_rules (last_place store) v (row 25 (full store.count) ∷ []))

add_decided : (store : Store) (v : Version) → Decided (Is kept) (add_rules store v) (add store v).answer
unfolding add
add_decided store v =
    subst (λ (o : Outcome Kept). Decided (Is kept) (add_rules store v) o) (sym (added_answer store v (may_add store v))) (add_so store v)

pub settings_decided : SettingsDecided
settings_decided = record {
  short_word = λ word r c.
      decided_of (λ (o : Answer Why ℕ). pos (word_number o)) (Is (figure 8 (exchanged 8 (word % 256)))) (row_of (not_code_word 8 (word % 256)) (not_code 8 (word % 256)) ∷ [])
      (read_word 8 (word % 256)) c.1 (reading 8 (word % 256));
  long_word_law = λ word wide r some c.
      let e : r ≡ pos (word_number (read_word 16 word)) =
      c.1 ∙ ap (λ (b : Bool). pos (word_number (pick b (read_short (word % 256)) (read_long word)))) (ne_eqb wide 0 (λ same. omega arith)) in
      decided_of (λ (o : Answer Why ℕ). pos (word_number o)) (Is (figure 16 (exchanged 16 word))) (row_of (not_code_word 16 word) (not_code 16 word) ∷ [])
      (read_word 16 word) e (reading 16 word);
  begin = λ gap s t before r after c.
      decided_of (returned kept_number) (Is kept) (settings_rules (first_of gap s t) []) (begin gap s t).answer c.5.0 (begin_decided gap s t);
  add = λ v before r after c.
      let e : r ≡ returned kept_number (add (store_in before) v).answer =
      c.5.0 ∙ ap (λ (b : List ℕ). returned kept_number (add (store_in b) v).answer) c.3 in
      decided_of (returned kept_number) (Is kept) (add_rules (store_in before) v) (add (store_in before) v).answer e (add_decided (store_in before) v);
}

-- What is put into the bytes of a store.
abbrev put : Change → Kept → List ℕ → List ℕ
put change k b = store_bytes change.store

begin_left : (gap s t : ℕ) (before : List ℕ) (r : ℤ) (after : List ℕ) → SettingsBegin gap s t before r after → after ≡ store_left (begin gap s t) before
begin_left gap s t before r after c = sym c.4 ∙ c.5.1.0 ∙ ap (λ (b : List ℕ). store_left (begin gap s t) b) c.3

add_left : (v : Version) (before : List ℕ) (r : ℤ) (after : List ℕ) → SettingsAdd v before r after → after ≡ store_left (add (store_in before) v) before
add_left v before r after c = sym c.4 ∙ c.5.1.0 ∙ ap (λ (b : List ℕ). store_left (add (store_in b) v) b) c.3

read_left : (text before : List ℕ) (r : ℤ) (after : List ℕ) → SettingsRead text before r after → after ≡ store_left (change_of (sheet text)) before
read_left text before r after c =
    sym c.6 ∙ c.7.1.0 ∙ ap (λ (b : List ℕ). store_left (change_of (sheet b)) c.2.now) c.4
    ∙ ap (λ (b : List ℕ). store_left (change_of (sheet text)) b) c.5

pub settings_untouched : SettingsUntouched
settings_untouched = record {
  begin = λ gap s t before r after c refused.
      kept_there kept_number (put (begin gap s t)) (begin gap s t).answer c.5.0 (begin_left gap s t before r after c) refused;
  add = λ v before r after c refused.
      kept_there kept_number (put (add (store_in before) v)) (add (store_in before) v).answer
      (c.5.0 ∙ ap (λ (b : List ℕ). returned kept_number (add (store_in b) v).answer) c.3) (add_left v before r after c) refused;
  read = λ text before r after c refused.
      kept_there kept_number (put (change_of (sheet text))) (change_of (sheet text)).answer
      (c.7.0 ∙ ap (λ (b : List ℕ). returned kept_number (change_of (sheet b)).answer) c.4) (read_left text before r after c) refused;
}

-- What the bytes hold then.
begin_holds : (gap s t : ℕ) (before : List ℕ) (r : ℤ) (after : List ℕ) → SettingsBegin gap s t before r after → store_in after ≡ store_after_meant (begin gap s t) (store_in before)
begin_holds gap s t before r after c = ap store_in (sym c.4) ∙ c.5.1.1 ∙ ap (λ (b : List ℕ). store_after_meant (begin gap s t) (store_in b)) c.3

add_holds : (v : Version) (before : List ℕ) (r : ℤ) (after : List ℕ) → SettingsAdd v before r after → store_in after ≡ store_after_meant (add (store_in before) v) (store_in before)
add_holds v before r after c = ap store_in (sym c.4) ∙ c.5.1.1 ∙ ap (λ (b : List ℕ). store_after_meant (add (store_in b) v) (store_in b)) c.3

read_holds : (text before : List ℕ) (r : ℤ) (after : List ℕ) → SettingsRead text before r after → store_in after ≡ store_after_meant (change_of (sheet text)) (store_in before)
read_holds text before r after c =
    ap store_in (sym c.6) ∙ c.7.1.1 ∙ ap (λ (b : List ℕ). store_after_meant (change_of (sheet b)) (store_in c.2.now)) c.4
    ∙ ap (λ (b : List ℕ). store_after_meant (change_of (sheet text)) (store_in b)) c.5

-- So they are the bytes of what they hold, where nothing is refused.
bytes_of : (change : Change) (before after : List ℕ) → change.answer ≡ gives kept → after ≡ store_left change before → store_in after ≡ store_after_meant change (store_in before)
    → after ≡ store_bytes (store_in after)
bytes_of change before after good is-left holds =
    is-left ∙ ap (λ (q : Outcome Kept). left (put change) q before) good
    ∙ ap store_bytes (sym (holds ∙ ap (λ (q : Outcome Kept). then_holds q change.store (store_in before)) good))

pub reads_back : ReadsBack
reads_back = record {
  begin = begin_holds;
  add = add_holds;
  read = read_holds;
  begun_bytes = λ gap s t before r after good c. bytes_of (begin gap s t) before after good (begin_left gap s t before r after c) (begin_holds gap s t before r after c);
  added_bytes = λ v before r after good c. bytes_of (add (store_in before) v) before after good (add_left v before r after c) (add_holds v before r after c);
  read_bytes = λ text before r after good c. bytes_of (change_of (sheet text)) before after good (read_left text before r after c) (read_holds text before r after c);
}
