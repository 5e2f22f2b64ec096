-- Demand 1 for the settings as a text (document 02, M-111): "every call ends with a named reading
-- or a numbered refusal .., given exactly under the condition written there. A refusal hands out no
-- figure, and lent memory and the running state stay untouched". Shown in proofs/Take.antt,
-- Text.antt, Good.antt and Left.antt.
-- Assumes nothing.
use Rattle.std.specs.Prelude.{ℕ, ◌+◌, ◌≡◌, true, false, not, List, [], ◌∷◌, eqb, ltb, length}
use contract.Lifetimes.{Lfts}
use Rattle.std.specs.Borrow.{Bor}
use borrow.Fn.Kinds.{ended_of}
use denote.Triple.Clauses.{AtExit}
use Rattle.words.specs.Answer.{Answer, Outcome, gives, refuses, pick}
use Rattle.settings.specs.declared.Version.{Version}
use Rattle.settings.specs.declared.Store.{Store}
use Rattle.settings.specs.Versions.{Kept, kept}
use Rattle.settings.specs.Store.{no_store_meant, last_place, judged}
use Rattle.lines.specs.declared.TextLine.{TextLine}
use Rattle.lines.specs.Text.{lines_in}
use Rattle.lines.specs.Words.{line_of}
use Rattle.settings_text.specs.declared.line.Stated.{Stated}
use Rattle.settings_text.specs.declared.Condition.{Condition}
use Rattle.settings_text.specs.declared.Taken.{Taken}
use Rattle.settings_text.specs.declared.Sheet.{Sheet}
use Rattle.settings_text.specs.Line.{stated}
use Rattle.settings_text.specs.Taking.{take_line}
use Rattle.settings_text.specs.Sheet.{is_fine, bad}
use Rattle.settings_text.proofs.take.Kinds as take_kinds
use Rattle.settings_text.proofs.take.Reads as take_reads
use Rattle.settings_text.proofs.read.Kinds as read_kinds
use Rattle.settings_text.proofs.read.Reads as read_reads
use Rattle.demands.specs.Rules.{Rule, row, row_of, Decided, Is}
use Rattle.demands.specs.Table02.{starts_late, full}
use Rattle.demands.specs.Stores.{settings_rules, version_rules, store_rules}

-- ---- what the contracts allow

-- The contract of `take` allows the answer r for this line and this store.
abbrev pub Takes : Store → TextLine → Taken → Type 0
Takes store line r = (e : AtExit (ended_of 0 take_kinds.ps take_kinds.r) tt) × take_reads.Post tt (store, (line, tt)) r e

-- The contract of `read` allows the answer r for this text.
abbrev pub Reads : List ℕ → Sheet → Type 0
Reads text r =
    (κs : Lfts 1) × (buf : Bor (List ℕ)) × (e : AtExit (ended_of 1 read_kinds.ps read_kinds.r) κs) × (buf.now ≡ text) × read_reads.Post κs (buf, tt) r e

-- ---- a line

-- How a line is that states a version, by what the store answers: fine, or refused with its number.
abbrev pub heard : Outcome Kept → Condition
heard (gives k) = Condition.Fine
heard (refuses n) = Condition.Refused n

-- The line is as the first rule says whose condition holds, and fine exactly if none does.
abbrev pub ByRules : List (Rule (Outcome Kept)) → Condition → Type 0
ByRules rules how = (o : Outcome Kept) × Decided (Is kept) rules o × (how ≡ heard o)

-- The line states this version.
abbrev pub States : TextLine → Version → Type 0
States line v = stated line ≡ Stated.Version v.place v.gap v.s v.t

-- `take`: a line without a version gives no number. The first version opens the store: its place is
-- 0, else that is told; then 4 and 19. Any other is added: the store's own refusals, 4, 19, 18, 24,
-- 25.
pub record TakeDecided : Type 0 where
  pub blank : (store : Store) (line : TextLine) (r : Taken) → Takes store line r → stated line ≡ Stated.Nothing → r.how ≡ Condition.Fine
  pub unreadable : (store : Store) (line : TextLine) (r : Taken) → Takes store line r → stated line ≡ Stated.Unreadable → r.how ≡ Condition.Unreadable
  pub late : (store : Store) (line : TextLine) (v : Version) (r : Taken) → Takes store line r → States line v → store.count ≡ 0
      → starts_late v.place ≡ true → r.how ≡ Condition.FirstPlace
  pub first : (store : Store) (line : TextLine) (v : Version) (r : Taken) → Takes store line r → States line v → store.count ≡ 0
      → starts_late v.place ≡ false → ByRules (settings_rules v []) r.how
  pub later : (store : Store) (line : TextLine) (v : Version) (r : Taken) → Takes store line r → States line v → (store.count ≡ 0 → ⊥)
      → ByRules (store_rules store (version_rules (last_place store) v (row 25 (full store.count) ∷ []))) r.how

-- ---- a text

-- What is wrong with a text: which line, and how it is; 0 where no line is to be named.
pub record Fault : Type 0 where
  pub line : ℕ
  pub how : Condition

abbrev pub fault : ℕ → Condition → Fault
fault line how = record { line = line; how = how }

-- What a text comes to: its store, or what is wrong.
abbrev pub says : Sheet → Answer Fault Store
says r = pick (is_fine r.how) (gives r.store) (refuses (fault r.line r.how))

-- Line by line, in order, each taken with the store of those before it, the one with number n
-- first; 19 where no line states a version.
unfoldable pub line_rules : Store → ℕ → List (List ℕ) → List (Rule (Answer Fault Store))
line_rules store n [] = row_of (fault 0 (Condition.Refused 19)) (eqb store.count 0) ∷ []
line_rules store n (line ∷ lines) =
    row_of (fault n (take_line store (line_of line)).how) (not (is_fine (take_line store (line_of line)).how))
    ∷ line_rules (take_line store (line_of line)).store (n + 1) lines

-- The store that all lines leave.
unfoldable pub leaves : Store → List (List ℕ) → Store
leaves store [] = store
leaves store (line ∷ lines) = leaves (take_line store (line_of line)).store lines

-- `read`: too long, then line by line.
abbrev pub text_rules : List ℕ → List (Rule (Answer Fault Store))
text_rules text = row_of (fault 0 Condition.TooLong) (ltb 1048576 (length text)) ∷ line_rules no_store_meant 1 (lines_in text)

-- The first bad line decides.
abbrev pub ReadDecided : Type 0
ReadDecided = (text : List ℕ) (r : Sheet) → Reads text r → Decided (Is (leaves no_store_meant (lines_in text))) (text_rules text) (says r)

-- A text that is fine makes a good store.
abbrev pub ReadGood : Type 0
ReadGood = (text : List ℕ) (r : Sheet) → Reads text r → r.how ≡ Condition.Fine → judged r.store ≡ gives kept

-- ---- what a refusal leaves

-- A line that is not fine leaves the store as it was; of a text that is not fine there is no store,
-- and nothing but what is wrong.
pub record Untouched : Type 0 where
  pub take : (store : Store) (line : TextLine) (r : Taken) → Takes store line r → is_fine r.how ≡ false → r.store ≡ store
  pub read : (text : List ℕ) (r : Sheet) (f : Fault) → Reads text r → says r ≡ refuses f → r ≡ bad f.line f.how
