-- Demand 1 for the lines of a lead: "given exactly under the condition written there"; "lent memory
-- and the running state stay untouched". `list_frames` and `list_end` refuse the settings that they
-- are lent, with the store's own refusals, and nothing else; then ride and buffer stay.
-- Assumes nothing.
use Rattle.std.specs.Prelude.{ℕ, ◌≡◌, List, []}
use Rattle.words.specs.Answer.{refuses}
use Rattle.settings.specs.declared.Store.{Store}
use Rattle.lead_text.specs.Says.{says_how_far}
use Rattle.lead_text.specs.declared.Underway.{Underway}
use Rattle.lead_text.specs.declared.Written.{Written}
use Rattle.demands.specs.Rules.{Decided, Given}
use Rattle.demands.specs.Stores.{store_rules}
use Rattle.demands.specs.Untouched.{Bare}
use Rattle.lead_text_laws.specs.Calls.{ListFrames, ListEnd}

-- The ride and the lent buffer are as they were.
abbrev pub Stayed : Underway → List ℕ → Written → List ℕ → Type 0
Stayed u before r after = (r.underway ≡ u) × (after ≡ before)

pub record LinesDecided : Type 0 where
  pub list_frames_law : (u : Underway) (store : Store) (piece before : List ℕ) (r : Written) (after : List ℕ) → ListFrames u store piece before r after
      → Decided Given (store_rules store []) (says_how_far r.how)
  pub list_end_law : (u : Underway) (store : Store) (before : List ℕ) (r : Written) (after : List ℕ) → ListEnd u store before r after
      → Decided Given (store_rules store []) (says_how_far r.how)
  -- what is refused stays as it was, and no refusal carries a figure
  pub frames_untouched : (u : Underway) (store : Store) (piece before : List ℕ) (r : Written) (after : List ℕ) (n : ℕ) → ListFrames u store piece before r after
      → says_how_far r.how ≡ refuses n → Stayed u before r after
  pub end_untouched : (u : Underway) (store : Store) (before : List ℕ) (r : Written) (after : List ℕ) (n : ℕ) → ListEnd u store before r after
      → says_how_far r.how ≡ refuses n → Stayed u before r after
  pub how : Bare says_how_far
