-- Demand 1 for the functions that make records and tracks of figures: "every call ends with a named
-- reading or a numbered refusal from document 01, given exactly under the condition written there";
-- "a refusal hands out no figure". The conditions are those of crates/demands/specs/Table02.antt.
-- The functions of `plan_text`, `typed_lines` and `lines`, `thing_at`, `put_record` and both
-- `read`s always answer: what a line is that says no thing has no number.
-- Assumes nothing.
use Rattle.std.specs.Prelude.{ℕ, ◌≡◌, ◌&&◌, List, [], ◌∷◌, ltb, Result}
use borrow.Fn.Kinds.{ended_of}
use denote.Triple.Clauses.{AtExit}
use Rattle.words.specs.Answer.{Answer, Outcome, refuses}
use Rattle.telegram.specs.Says.{says_spelt}
use Rattle.telegram.specs.declared.spelling.NotSpelt.{NotSpelt}
use Rattle.telegram.specs.declared.spelling.Spelt.{Spelt}
use Rattle.telegram.proofs.spell.Kinds as spell_kinds
use Rattle.telegram.proofs.spell.Reads as spell_reads
use Rattle.trace_text.specs.declared.What.{What}
use Rattle.trace_text.specs.declared.Recorded.{Recorded}
use Rattle.trace_text.specs.Record.{eight_zeroes}
use Rattle.trace_text.specs.Says.{says_making_went}
use Rattle.trace_text_laws.specs.Calls.{RecordOf}
use Rattle.track_lead.specs.declared.Thing.{Thing}
use Rattle.track_lead.specs.declared.TrackWay.{TrackWay}
use Rattle.track_lead.specs.declared.Taken.{Taken}
use Rattle.track_lead.specs.Way.{Bad, refused, too_near, is_sent, is_near}
use Rattle.track_lead.specs.Says.{says_taken}
use Rattle.demands.specs.Rules.{Rule, row_of, row, Decided, Given}
use Rattle.demands.specs.Table02.{some_above, some_fifteen, too_high}
use Rattle.demands.specs.Untouched.{Bare}
use Rattle.track_laws.specs.Calls.{TakeLine}

-- The contract of `telegram::spell` allows the answer r for these figures.
abbrev pub Spell : ℕ → ℕ → ℕ → Result Spelt NotSpelt → Type 0
Spell x y z r = (e : AtExit (ended_of 0 spell_kinds.ps spell_kinds.r) tt) × spell_reads.Post tt (x, (y, (z, tt))) r e

-- The figures of a balise: 2, then 3.
abbrev pub figure_rules : {A : Type 0} → ℕ → ℕ → ℕ → List (Rule (Outcome A))
figure_rules x y z = row 2 (some_above x y z) ∷ row 3 (some_fifteen x y z) ∷ []

-- What lies at a place: the figures of a balise; all else has a record.
abbrev pub what_rules : {A : Type 0} → What → List (Rule (Outcome A))
what_rules (What.Balise x y z) = figure_rules x y z
what_rules What.Marker = []
what_rules What.Unreadable = []
what_rules What.Position = []
what_rules (What.Raw kind x y z) = []

-- A line of a track: "18, 17, too near, in this order".
abbrev pub take_rules : TrackWay → ℕ → Thing → List (Rule (Answer Bad TrackWay))
take_rules way place thing =
    row_of (refused 18) (too_high place) ∷ row_of (refused 17) (ltb place way.last) ∷ row_of too_near (is_sent thing && is_near way.thing place) ∷ []

pub record Demand1 : Type 0 where
  pub spell : (x y z : ℕ) (r : Result Spelt NotSpelt) → Spell x y z r → Decided Given (figure_rules x y z) (says_spelt r)
  pub record_of : (place : ℕ) (what : What) (r : Recorded) → RecordOf place what r → Decided Given (what_rules what) (says_making_went r.how)
  pub take : (way : TrackWay) (place : ℕ) (thing : Thing) (r : Taken) → TakeLine way place thing r
      → Decided Given (take_rules way place thing) (says_taken r)

-- "A refusal hands out no figure": the same refusal is the same answer, whatever was asked; the
-- bytes beside a refused record are zero.
pub record Untouched : Type 0 where
  pub spell : Bare says_spelt
  pub record_of : (place : ℕ) (what : What) (r : Recorded) (n : ℕ) → RecordOf place what r → says_making_went r.how ≡ refuses n → r.bytes ≡ eight_zeroes
  pub take : Bare says_taken
