-- What one listing of some records says.
-- Assumes nothing.
use Rattle.std.specs.Prelude.{Result, Ok}
use Prim.Native.Nat.{ℕ, ◌+◌, ◌≤◌, ◌<◌}
use native.Mathlib.Omega.{arith}
use mathlib.Core.Path.{◌≡◌, refl, sym, ap, ap₂, ◌∙◌}
use mathlib.Core.Bool.{Bool, true, false}
use mathlib.Core.List.{List, [], ◌∷◌, ◌++◌, append-nil}
use lib.ListN.{length, take, drop, take-append-drop}
use lib.Seq.{length-take-le, drop-nil}
use borrow.Author.Tests.{le-leb, lt-ltb}
use Rattle.words.specs.Answer.{Outcome, gives, refuses, pick}
use Rattle.words.specs.Limits.{largest64}
use Rattle.words.proofs.Never.{cannot_be}
use Rattle.text.proofs.Placing.{placed_start}
use Rattle.ride.specs.declared.Ride.{Ride}
use Rattle.ride_text.specs.Style.{with_reasons}
use Rattle.ride_text.specs.Told.{Told, tell_over}
use Rattle.ride_text.specs.List.{taken}
use Rattle.ride_text.proofs.Taken.{few_taken}
use Rattle.lead_text.specs.declared.HowFar.{HowFar}
use Rattle.settings.specs.declared.Bad.{Bad}
use Rattle.lead_text.specs.declared.Underway.{Underway}
use Rattle.lead_text.specs.declared.Written.{Written}
use Rattle.lead_text.specs.Places.{Place}
use Rattle.lead_text.specs.List.{standing, Wrote, Telling, none_left_meant, list_of}
use Rattle.lead_text.specs.Says.{says_how_far, says_written}

-- ---- how many are taken

-- One at least, where there is one and room for it.
pub taken_one : (gaps : ℕ → ℕ) (ride : Ride) (number room : ℕ) (rs : List (List ℕ)) → none_left_meant rs ≡ false → 320 ≤ room → number < largest64 → 1 ≤ taken with_reasons gaps ride number room rs
unfolding taken
taken_one gaps ride number room [] e wide low = let never : true ≡ false = e in cannot_be cc
taken_one gaps ride number room (r ∷ rs) e wide low = rw (le-leb 320 room wide, lt-ltb number largest64 low) (omega arith)

-- What leaves some is not none.
pub some_left : (k : ℕ) (rs : List (List ℕ)) → none_left_meant (drop k rs) ≡ false → none_left_meant rs ≡ false
some_left k [] e = let never : true ≡ false = sym (ap none_left_meant (drop-nil {A = List ℕ} k)) ∙ e in cannot_be cc
some_left k (r ∷ rs) e = refl

-- ---- what one listing says

-- The bytes that an answer tells, and whether all records were taken.
abbrev bytes_in : Outcome Wrote → ℕ
bytes_in (gives w) = w.bytes
bytes_in (refuses n) = 0

abbrev all_in : Outcome Wrote → Bool
all_in (gives w) = w.all
all_in (refuses n) = false

none_left : (rs : List (List ℕ)) → none_left_meant rs ≡ true → rs ≡ []
none_left [] e = refl
none_left (r ∷ rs) e = let never : false ≡ true = e in cannot_be cc

module _ (gaps : ℕ → ℕ) (u : Underway) (rs : List (List ℕ)) (last : Place) (up_to : ℕ → Place) (before after : List ℕ) (r : Written) (n : ℕ)
    (says : says_written r after ≡ list_of gaps u rs last up_to before) where
  -- So many records were taken.
  abbrev pub count : ℕ
  count = taken with_reasons gaps u.ride u.number (length before) rs

  abbrev told : Told
  told = tell_over with_reasons gaps u.ride u.number (take count rs)

  pub enough : count ≤ length rs
  enough = few_taken with_reasons gaps rs u.ride u.number (length before)

  pub counted : length (take count rs) ≡ count
  counted = length-take-le count rs enough

  -- The text written is that of these records.
  text_by : (bytes_in (says_how_far r.how) ≡ n) → take n after ≡ told.text
  unfolding list_of
  text_by e =
      let t : List ℕ = told.text in
      let size : n ≡ 0 + length t = sym e ∙ ap (λ (x : Telling). bytes_in x.answer) says ∙ (omega arith) in
      ap₂ take size (ap (λ (x : Telling). x.out) says) ∙ placed_start t before

  left_by : (b : Bool) → all_in (says_how_far r.how) ≡ b → none_left_meant (drop count rs) ≡ b
  unfolding list_of
  left_by b e = sym (ap (λ (x : Telling). all_in x.answer) says) ∙ e

  stands_by : (b : Bool) → all_in (says_how_far r.how) ≡ b → r.underway ≡ standing (pick b last (up_to count)) told.ride (u.number + count)
  unfolding list_of
  stands_by b e =
      ap (λ (x : Telling). x.underway) says
      ∙ ap (λ (x : Bool). standing (pick x last (up_to count)) told.ride (u.number + count)) (left_by b e)

  -- All of them.
  pub record Over : Type 0 where
    pub text : take n after ≡ (tell_over with_reasons gaps u.ride u.number rs).text
    pub then : r.underway ≡ standing last (tell_over with_reasons gaps u.ride u.number rs).ride (u.number + length rs)

  pub over_all : r.how ≡ Ok (HowFar.Over n) → Over
  over_all e =
      let none = none_left (drop count rs) (left_by true (ap (λ (h : Result HowFar Bad). all_in (says_how_far h)) e)) in
      let whole : take count rs ≡ rs = all_of none in
      let number : count ≡ length rs = sym counted ∙ ap length whole in
      record {
        text = text_by (ap (λ (h : Result HowFar Bad). bytes_in (says_how_far h)) e) ∙ ap (λ (x : List (List ℕ)). (tell_over with_reasons gaps u.ride u.number x).text) whole;
        then = stands_by true (ap (λ (h : Result HowFar Bad). all_in (says_how_far h)) e)
            ∙ ap₂ (λ (x : List (List ℕ)) (k : ℕ). standing last (tell_over with_reasons gaps u.ride u.number x).ride (u.number + k)) whole number;
      }
    where
      all_of : drop count rs ≡ [] → take count rs ≡ rs
      all_of e = sym (append-nil (take count rs)) ∙ ap (λ (x : List (List ℕ)). take count rs ++ x) (sym e) ∙ take-append-drop count rs

  -- The first of them, and some are left.
  pub record Full : Type 0 where
    pub text : take n after ≡ told.text
    pub then : r.underway ≡ standing (up_to count) told.ride (u.number + count)
    pub left : none_left_meant (drop count rs) ≡ false

  pub full_some : r.how ≡ Ok (HowFar.Full n) → Full
  full_some e =
      record {
        text = text_by (ap (λ (h : Result HowFar Bad). bytes_in (says_how_far h)) e);
        then = stands_by false (ap (λ (h : Result HowFar Bad). all_in (says_how_far h)) e);
        left = left_by false (ap (λ (h : Result HowFar Bad). all_in (says_how_far h)) e);
      }
