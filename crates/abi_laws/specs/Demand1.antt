-- Demand 1 for C and C++: each function of the face decides by the same list of refusals as the
-- function that it calls, and returns refusal N as -N; a refusal leaves every lent array as it was.
-- The lists are those of crates/demands/specs/Lists.antt.
-- Assumes nothing.
use Rattle.std.specs.Prelude.{ℕ, suc, ◌+◌, ◌*◌, ◌≡◌, List, [], ◌∷◌, ℤ, pos, neg_ℤ}
use Rattle.words.specs.Answer.{Outcome}
use Rattle.words.specs.Why.{not_code_word, numbered}
use Rattle.words.specs.Plain.{figure}
use Rattle.words.specs.Code.{exchanged, sent}
use Rattle.telegram.specs.Telegram.{Received}
use Rattle.contact.specs.Contacts.{from_start}
use Rattle.abi.specs.Face.{returned, itself, as_one, told, why_number, found_number}
use Rattle.abi.specs.Contacts.{search_in, begun_number, next_number, judged_number}
use Rattle.demands.specs.Rules.{Rule, row_of, row, Decided, Given, Is}
use Rattle.demands.specs.Table.{not_code, above, beyond, no_distance}
use Rattle.demands.specs.Lists.{telegram_rules, find_rules, write_rules, next_rules, judge_rules, run_rules, find_reads, JudgeReads, NextReads}
use Rattle.abi_laws.specs.Calls.{ReadShort, WriteShort, ReadLong, WriteLong, ReadTelegram, WhyTelegram, Distance, Find, Begin, NextContact, Judge, WriteBalise, Compact}

-- A list of refusals, each answer told in another way: its conditions and their order stay.
abbrev pub told_by : {A B : Type 0} → (A → B) → List (Rule A) → List (Rule B)
told_by tell [] = []
told_by tell (rule ∷ rules) = record { holds = rule.holds; answer = tell rule.answer } ∷ told_by tell rules

-- The reading is one of these, told so.
abbrev pub Told : {A B : Type 0} → (A → B) → (A → Type 0) → B → Type 0
Told {A} tell Reading r = (o : A) × Reading o × (r ≡ tell o)

-- The number r is decided by this list as told in C's numbers, and where no condition holds it is
-- that of a reading.
abbrev pub DecidedAs : {A : Type 0} → (A → ℤ) → (A → Type 0) → List (Rule A) → ℤ → Type 0
DecidedAs tell Reading rules r = Decided (Told tell Reading) (told_by tell rules) r

-- Each function returns -N for the first number N of its list whose condition holds, and the number
-- of a reading exactly if none does. `atc2_why_telegram` refuses nothing: its number says which row
-- of the telegram's list was the first to hold.
pub record Demand1 : Type 0 where
  pub read_short : (w : ℕ) (r : ℤ) → ReadShort w r
      → DecidedAs (λ o. returned itself (numbered o)) (Is (figure 8 (exchanged 8 w))) (row_of (not_code_word 8 w) (not_code 8 w) ∷ []) r
  pub write_short : (x : ℕ) (r : ℤ) → WriteShort x r → DecidedAs (returned itself) (Is (sent 8 x)) (row 2 (above 15 x) ∷ []) r
  pub read_long : (w : ℕ) (r : ℤ) → ReadLong w r
      → DecidedAs (λ o. returned itself (numbered o)) (Is (figure 16 (exchanged 16 w))) (row_of (not_code_word 16 w) (not_code 16 w) ∷ []) r
  pub write_long : (x : ℕ) (r : ℤ) → WriteLong x r → DecidedAs (returned itself) (Is (sent 16 x)) (row 2 (above 2047 x) ∷ []) r
  pub read_telegram : (x y z : ℕ) (r : ℤ) → ReadTelegram x y z r → DecidedAs (λ (o : Received). returned as_one (told o)) Given (telegram_rules x y z) r
  pub why_telegram : (x y z : ℕ) (r : ℤ) → WhyTelegram x y z r → DecidedAs (λ (o : Received). pos (why_number o)) Given (telegram_rules x y z) r
  pub distance : (by f : ℕ) (r : ℤ) → Distance by f r → DecidedAs {A = Outcome ℕ} (returned itself) Given (row 15 (no_distance by f) ∷ []) r
  pub find : (b : List ℕ) (start len s t : ℕ) (before : List ℕ) (r : ℤ) (after : List ℕ) → Find b start len s t before r after
      → DecidedAs (returned found_number) (Is (find_reads b start len s t)) (find_rules b start len s t) r
  pub begin : (b : List ℕ) (start len : ℕ) (before : List ℕ) (r : ℤ) (after : List ℕ) → Begin b start len before r after
      → DecidedAs (returned begun_number) (Is (from_start start len)) (row 5 (beyond b start len) ∷ []) r
  pub next_contact_law : (b from before : List ℕ) (r : ℤ) (moved after : List ℕ) → NextContact b from before r moved after
      → DecidedAs (returned next_number) (NextReads b (search_in from)) (next_rules b (search_in from)) r
  pub judge : (b : List ℕ) (start len s t : ℕ) (before : List ℕ) (r : ℤ) (after : List ℕ) → Judge b start len s t before r after
      → DecidedAs (returned judged_number) (JudgeReads b start len s t) (judge_rules b start len s t) r
  pub write_balise : (x y z s t n : ℕ) (before : List ℕ) (r : ℤ) (after : List ℕ) → WriteBalise x y z s t n before r after
      → DecidedAs (returned itself) (Is (4 * n + 1)) (write_rules x y z s t n before) r
  pub compact : (gap : ℕ) (before : List ℕ) (r : ℤ) (after : List ℕ) → Compact gap before r after
      → DecidedAs {A = Outcome ℕ} (returned itself) Given (run_rules gap before) r

-- A number below 0: a refusal.
abbrev pub Refused : ℤ → Type 0
Refused r = (n : ℕ) × (r ≡ neg_ℤ (pos (suc n)))

-- "lent memory and the running state stay untouched": a call that returns a number below 0 leaves
-- every lent array as it was.
pub record Untouched : Type 0 where
  pub find : (b : List ℕ) (start len s t : ℕ) (before : List ℕ) (r : ℤ) (after : List ℕ) → Find b start len s t before r after → Refused r → after ≡ before
  pub begin : (b : List ℕ) (start len : ℕ) (before : List ℕ) (r : ℤ) (after : List ℕ) → Begin b start len before r after → Refused r → after ≡ before
  pub next_contact_law : (b from before : List ℕ) (r : ℤ) (moved after : List ℕ) → NextContact b from before r moved after → Refused r
      → (moved ≡ from) × (after ≡ before)
  pub judge : (b : List ℕ) (start len s t : ℕ) (before : List ℕ) (r : ℤ) (after : List ℕ) → Judge b start len s t before r after → Refused r → after ≡ before
  pub write_balise : (x y z s t n : ℕ) (before : List ℕ) (r : ℤ) (after : List ℕ) → WriteBalise x y z s t n before r after → Refused r → after ≡ before
  pub compact : (gap : ℕ) (before : List ℕ) (r : ℤ) (after : List ℕ) → Compact gap before r after → Refused r → after ≡ before
