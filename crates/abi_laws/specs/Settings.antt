-- Settings and single words from C: demand 1 for the functions that make a store in lent bytes,
-- what a refusal leaves there, and that what they made reads back as the store that was made. Bytes
-- that none of them made are some store, which is judged as a lent store is: 25, 19, 24, 4, 18.
-- Assumes nothing.
use Rattle.std.specs.Prelude.{ℕ, ◌≤◌, ◌%◌, ◌≡◌, List, [], ◌∷◌, ℤ, pos}
use Rattle.words.specs.Answer.{Answer, gives}
use Rattle.words.specs.Why.{Why, not_code_word}
use Rattle.words.specs.Plain.{figure}
use Rattle.words.specs.Code.{exchanged}
use Rattle.settings.specs.declared.Version.{Version}
use Rattle.settings.specs.Versions.{kept}
use Rattle.settings.specs.Store.{last_place}
use Rattle.settings.specs.Store as store
use Rattle.settings_text.specs.Sheet.{sheet}
use Rattle.state_bytes.specs.Stores.{store_bytes, store_in}
use Rattle.abi.specs.Face.{returned, word_number}
use Rattle.abi.specs.Stores.{kept_number, store_after_meant, change_of}
use Rattle.demands.specs.Rules.{row_of, row, Is}
use Rattle.demands.specs.Table.{not_code}
use Rattle.demands.specs.Table02.{full}
use Rattle.demands.specs.Stores.{settings_rules, version_rules, store_rules}
use Rattle.abi_laws.specs.Calls.{WhyWord, SettingsBegin, SettingsAdd, SettingsRead}
use Rattle.abi_laws.specs.Demand1.{DecidedAs, Refused}

-- Each refuses with the first number of its list whose condition holds, as the function that it
-- calls does. `atc2_why_word` refuses nothing: its number says whether the word is a code word, and
-- the parity of its ones if not.
pub record SettingsDecided : Type 0 where
  pub short_word : (word : ℕ) (r : ℤ) → WhyWord word 0 r
      → DecidedAs (λ (o : Answer Why ℕ). pos (word_number o)) (Is (figure 8 (exchanged 8 (word % 256)))) (row_of (not_code_word 8 (word % 256)) (not_code 8 (word % 256)) ∷ []) r
  pub long_word_law : (word wide : ℕ) (r : ℤ) → 1 ≤ wide → WhyWord word wide r
      → DecidedAs (λ (o : Answer Why ℕ). pos (word_number o)) (Is (figure 16 (exchanged 16 word))) (row_of (not_code_word 16 word) (not_code 16 word) ∷ []) r
  pub begin : (gap s t : ℕ) (before : List ℕ) (r : ℤ) (after : List ℕ) → SettingsBegin gap s t before r after
      → DecidedAs (returned kept_number) (Is kept) (settings_rules (record { place = 0; gap = gap; s = s; t = t }) []) r
  pub add : (v : Version) (before : List ℕ) (r : ℤ) (after : List ℕ) → SettingsAdd v before r after
      → DecidedAs (returned kept_number) (Is kept)
      (store_rules (store_in before) (version_rules (last_place (store_in before)) v (row 25 (full (store_in before).count) ∷ []))) r

-- "lent memory and the running state stay untouched": a call that returns a number below 0 leaves
-- the bytes as they were.
pub record SettingsUntouched : Type 0 where
  pub begin : (gap s t : ℕ) (before : List ℕ) (r : ℤ) (after : List ℕ) → SettingsBegin gap s t before r after → Refused r → after ≡ before
  pub add : (v : Version) (before : List ℕ) (r : ℤ) (after : List ℕ) → SettingsAdd v before r after → Refused r → after ≡ before
  pub read : (text before : List ℕ) (r : ℤ) (after : List ℕ) → SettingsRead text before r after → Refused r → after ≡ before

-- Bytes and store are each other's inverse where the library made them: after a call the bytes hold
-- the store that was made, or, refused, the one that they held.
pub record ReadsBack : Type 0 where
  pub begin : (gap s t : ℕ) (before : List ℕ) (r : ℤ) (after : List ℕ) → SettingsBegin gap s t before r after
      → store_in after ≡ store_after_meant (store.begin gap s t) (store_in before)
  pub add : (v : Version) (before : List ℕ) (r : ℤ) (after : List ℕ) → SettingsAdd v before r after
      → store_in after ≡ store_after_meant (store.add (store_in before) v) (store_in before)
  pub read : (text before : List ℕ) (r : ℤ) (after : List ℕ) → SettingsRead text before r after
      → store_in after ≡ store_after_meant (change_of (sheet text)) (store_in before)
  -- and where nothing is refused they are the bytes of the store that they hold
  pub begun_bytes : (gap s t : ℕ) (before : List ℕ) (r : ℤ) (after : List ℕ) → (store.begin gap s t).answer ≡ gives kept
      → SettingsBegin gap s t before r after → after ≡ store_bytes (store_in after)
  pub added_bytes : (v : Version) (before : List ℕ) (r : ℤ) (after : List ℕ) → (store.add (store_in before) v).answer ≡ gives kept
      → SettingsAdd v before r after → after ≡ store_bytes (store_in after)
  pub read_bytes : (text before : List ℕ) (r : ℤ) (after : List ℕ) → (change_of (sheet text)).answer ≡ gives kept
      → SettingsRead text before r after → after ≡ store_bytes (store_in after)
