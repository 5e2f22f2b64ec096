-- What the contracts of the functions that ride hand over, of the arrays that were lent.
-- Assumes nothing.
use Prim.Native.Nat.{ℕ}
use mathlib.Core.Path.{◌≡◌, sym, ap, ap₂, ◌∙◌}
use mathlib.Core.List.{List}
use lib.IntN.{ℤ}
use Rattle.text.specs.Put.{put}
use Rattle.ride_text.specs.Told.{end_text}
use Rattle.ride_text.specs.List.{Listing}
use Rattle.ride_bytes.specs.Rides.{ride_in}
use Rattle.abi.specs.Face.{returned, left, itself}
use Rattle.abi.specs.Rides.{style_of, listed, listed_number, listed_put, ride_left, ending}
use Rattle.abi_laws.specs.RideCalls.{RideList, RideEnd}

module _ (ride store trace : List ℕ) (number style : ℕ) (before out : List ℕ) {r : ℤ} {moved after counts : List ℕ}
    (c : RideList ride store trace number style before out r moved after counts) where
  abbrev pub all : Listing
  all = listed ride store trace number style before

  -- the lent arrays are those
  those : listed c.1.now c.2.now c.3.now number style c.4.now ≡ all
  those =
      ap₂ (λ (x y : List ℕ). listed x y c.3.now number style c.4.now) c.7 c.8
      ∙ ap₂ (λ (x y : List ℕ). listed ride store x number style y) c.9 c.10

  pub returned_is : r ≡ returned listed_number all.answer
  returned_is = c.15.0 ∙ ap (λ (l : Listing). returned listed_number l.answer) those

  pub moved_is : moved ≡ ride_left all ride
  moved_is = sym c.12 ∙ c.15.1.0 ∙ ap₂ ride_left those c.7

  pub holds_is : ride_in moved ≡ all.ride
  holds_is = ap ride_in (sym c.12) ∙ c.15.1.1.0 ∙ ap (λ (l : Listing). l.ride) those

  pub after_is : after ≡ all.out
  after_is = sym c.13 ∙ c.15.1.1.1.0 ∙ ap (λ (l : Listing). l.out) those

  pub counts_is : counts ≡ left listed_put all.answer out
  counts_is = sym c.14 ∙ c.15.1.1.1.1 ∙ ap₂ (λ (l : Listing) (b : List ℕ). left listed_put l.answer b) those c.11

module _ (ride : List ℕ) (style : ℕ) (before : List ℕ) {r : ℤ} {after : List ℕ} (c : RideEnd ride style before r after) where
  pub end_is : r ≡ returned itself (ending (style_of style) (ride_in ride) before)
  end_is = c.7.0 ∙ ap₂ (λ (x y : List ℕ). returned itself (ending (style_of style) (ride_in x) y)) c.4 c.5

  pub ended_is : after ≡ (put (end_text (style_of style) (ride_in ride)) before 0).buffer
  ended_is = sym c.6 ∙ c.7.1 ∙ ap₂ (λ (x y : List ℕ). (put (end_text (style_of style) (ride_in x)) y 0).buffer) c.4 c.5
