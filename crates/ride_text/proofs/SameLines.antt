-- The ride that is told has the checker's lines and its state, and its text is that of those lines.
-- Assumes nothing.
use Prim.Native.Nat.{ℕ, suc, ◌+◌}
use mathlib.Core.Path.{◌≡◌, refl, sym, ap, ap₂, ◌∙◌}
use mathlib.Core.List.{List, [], ◌∷◌, ◌++◌, append_assoc}
use lib.ListN.{length, take}
use Rattle.words.specs.Answer.{gives}
use Rattle.text.specs.Put.{placed}
use Rattle.group.specs.declared.Group.{Group}
use Rattle.ride.specs.declared.Line.{Line}
use Rattle.ride.specs.declared.Ride.{Ride}
use Rattle.ride.specs.Record.{odometer_of}
use Rattle.ride.specs.Step.{Step, treat}
use Rattle.ride.specs.Over.{lines_for, Ridden, ride_over}
use Rattle.ride_text.specs.Style.{Style, plain}
use Rattle.ride_text.specs.Text.{text_of, line_text, lines_text}
use Rattle.ride_text.specs.Told.{step_text, tell_over}
use Rattle.ride_text.specs.List.{Listing, list_of}
use Rattle.ride_text.specs.SameLines.{Said, said_by, said_over, lines_of, said_text, SameLines}
use Rattle.ride_text.proofs.Texts as texts

pub lines_by : (g : Group) (ls : List Line) → lines_of (said_by g ls) ≡ ls
lines_by g [] = refl
lines_by g (l ∷ ls) = ap (λ (x : List Line). l ∷ x) (lines_by g ls)

pub lines_join : (xs ys : List Said) → lines_of (xs ++ ys) ≡ lines_of xs ++ lines_of ys
lines_join [] ys = refl
lines_join (x ∷ xs) ys = ap (λ (ls : List Line). x.line ∷ ls) (lines_join xs ys)

pub text_by : (style : Style) (g : Group) (ls : List Line) → lines_text style g ls ≡ said_text style (said_by g ls)
unfolding said_text lines_text
text_by style g [] = refl
text_by style g (l ∷ ls) = ap (λ (x : List ℕ). line_text style g l ++ x) (text_by style g ls)

pub text_join : (style : Style) (xs ys : List Said) → said_text style (xs ++ ys) ≡ said_text style xs ++ said_text style ys
unfolding said_text
text_join style [] ys = refl
text_join style (x ∷ xs) ys =
    let t : List ℕ = line_text style x.closed x.line in
    ap (λ (u : List ℕ). t ++ u) (text_join style xs ys) ∙ sym (append_assoc t (said_text style xs) (said_text style ys))

module _ (gaps : ℕ → ℕ) where
  abbrev step : Ride → List ℕ → Step
  step ride r = treat ride (gaps (odometer_of r)) r

  lines : (ride : Ride) (number : ℕ) (rs : List (List ℕ)) → lines_of (said_over gaps ride number rs) ≡ (ride_over gaps ride number rs).lines
  unfolding said_over ride_over
  lines ride number [] = refl
  lines ride number (r ∷ rs) =
      let ls : List Line = lines_for number (step ride r).lines in
      lines_join (said_by (step ride r).closed ls) (said_over gaps (step ride r).ride (suc number) rs)
      ∙ ap₂ ◌++◌ (lines_by (step ride r).closed ls) (lines (step ride r).ride (suc number) rs)

  text : (style : Style) (ride : Ride) (number : ℕ) (rs : List (List ℕ)) → (tell_over style gaps ride number rs).text ≡ said_text style (said_over gaps ride number rs)
  unfolding said_over tell_over said_text
  text style ride number [] = refl
  text style ride number (r ∷ rs) =
      let ls : List Line = lines_for number (step ride r).lines in
      ap₂ ◌++◌ (text_by style (step ride r).closed ls) (text style (step ride r).ride (suc number) rs)
      ∙ sym (text_join style (said_by (step ride r).closed ls) (said_over gaps (step ride r).ride (suc number) rs))

  pub plain_text : (ride : Ride) (number : ℕ) (rs : List (List ℕ)) → (tell_over plain gaps ride number rs).text ≡ text_of (ride_over gaps ride number rs).lines
  unfolding tell_over ride_over text_of
  plain_text ride number [] = refl
  plain_text ride number (r ∷ rs) =
      let ls : List Line = lines_for number (step ride r).lines in
      let rest : List Line = (ride_over gaps (step ride r).ride (suc number) rs).lines in
      ap (λ (x : List ℕ). step_text plain number (step ride r) ++ x) (plain_text (step ride r).ride (suc number) rs)
      ∙ ap (λ (x : List ℕ). x ++ text_of rest) (texts.plain_is (step ride r).closed ls)
      ∙ sym (texts.text_join ls rest)

  pub state : (style : Style) (ride : Ride) (number : ℕ) (rs : List (List ℕ)) → (tell_over style gaps ride number rs).ride ≡ (ride_over gaps ride number rs).ride
  unfolding tell_over ride_over
  state style ride number [] = refl
  state style ride number (r ∷ rs) = state style (step ride r).ride (suc number) rs

pub same_lines : (gaps : ℕ → ℕ) (ride : Ride) (number : ℕ) (rs : List (List ℕ)) → SameLines gaps ride number rs
same_lines gaps ride number rs =
    record {
      lines = lines gaps ride number rs;
      text = λ style. text gaps style ride number rs;
      document = plain_text gaps ride number rs;
      state = λ style. state gaps style ride number rs;
    }

-- The listing without reasons, over the ride's own lines.
abbrev pub plainly : (ℕ → ℕ) → Ride → ℕ → ℕ → List (List ℕ) → List ℕ → Listing
plainly gaps ride number n rs out =
    let ridden : Ridden = ride_over gaps ride number rs in
    let written : List ℕ = text_of ridden.lines in
    record { answer = gives (record { records = n; bytes = length written }); ride = ridden.ride; number = number + n; out = placed written out 0 }

pub plain_listed : (gaps : ℕ → ℕ) (ride : Ride) (number n : ℕ) (rs : List (List ℕ)) (out : List ℕ)
    → list_of plain gaps ride number n rs out ≡ plainly gaps ride number n (take n rs) out
unfolding list_of
plain_listed gaps ride number n rs out =
    ap₂ (λ (t : List ℕ) (x : Ride). record { answer = gives (record { records = n; bytes = length t }); ride = x; number = number + n; out = placed t out 0 })
    (plain_text gaps ride number (take n rs)) (state gaps plain ride number (take n rs))
