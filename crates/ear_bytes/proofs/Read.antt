-- What is made of figures that were read is what stands in the bytes.
-- Assumes nothing.
use Prim.Native.Nat.{ℕ, ◌%◌}
use mathlib.Core.Path.{◌≡◌, refl, sym, ap, ◌∙◌}
use mathlib.Core.Bool.{Bool, true, false, not}
use mathlib.Core.List.{List}
use lib.Dec.{eqb}
use borrow.Author.Tests.{eq-eqb, ne_eqb}
use Rattle.words.specs.Answer.{pick}
use Rattle.telegram.specs.declared.Telegram.{Telegram}
use Rattle.antenna.specs.declared.Places.{Places}
use Rattle.antenna.specs.declared.Sound.{Sound}
use Rattle.antenna.specs.declared.Stand.{Stand}
use Rattle.std.specs.Prelude.{Option, Some, None}
use Rattle.state_bytes.specs.Figures.{figure_at_meant}
use Rattle.ear_bytes.specs.declared.Hearing.{Hearing}
use Rattle.ear_bytes.specs.Ears.{telegram_in, places_in, sound_in, stand_in, last_in, ear_in}

-- ---- by a test

pub chosen : {A : Type 0} (t : Bool) (a b x : A) → t ≡ true → x ≡ a → x ≡ pick t a b
chosen t a b x e f = f ∙ sym (ap (λ (s : Bool). pick s a b) e)

pub other : {A : Type 0} (t : Bool) (a b x : A) → t ≡ false → x ≡ b → x ≡ pick t a b
other t a b x e f = f ∙ sym (ap (λ (s : Bool). pick s a b) e)

-- a figure that was read is 0, or is not
pub is_so : (k n m : ℕ) → k ≡ n → k ≡ m → eqb n m ≡ true
is_so k n m e z = eq-eqb n m (sym e ∙ z)

pub not_so : (k n m : ℕ) → k ≡ n → (k ≡ m → ⊥) → eqb n m ≡ false
not_so k n m e z = ne_eqb n m (λ same. z (e ∙ same))

-- the low bits of a figure that was read
low : (m r k n : ℕ) → r ≡ k % m → k ≡ n → r ≡ n % m
low m r k n e f = e ∙ ap (λ (j : ℕ). j % m) f

-- ---- part by part

module _ (b : List ℕ) where
  three : (x y z p q r : ℕ) → x ≡ p → y ≡ q → z ≡ r → Telegram.Figures x y z ≡ Telegram.Figures p q r
  three x y z p q r e f g = cc

  pub figures_read : (kind x y z p q r : ℕ) → kind ≡ figure_at_meant b 19 → x ≡ figure_at_meant b 20 → y ≡ figure_at_meant b 21 → z ≡ figure_at_meant b 22
      → kind ≡ 0 → p ≡ x % 256 → q ≡ y % 256 → r ≡ z % 256 → Telegram.Figures p q r ≡ telegram_in b
  figures_read kind x y z p q r k e f g none u v w =
      chosen (eqb (figure_at_meant b 19) 0) _ _ _ (is_so kind (figure_at_meant b 19) 0 k none)
      (three p q r _ _ _ (low 256 p x (figure_at_meant b 20) u e) (low 256 q y (figure_at_meant b 21) v f) (low 256 r z (figure_at_meant b 22) w g))

  pub number_read : (kind x p : ℕ) → kind ≡ figure_at_meant b 19 → x ≡ figure_at_meant b 20 → (kind ≡ 0 → ⊥) → p ≡ x % 65536 → Telegram.Number p ≡ telegram_in b
  number_read kind x p k e some u = other (eqb (figure_at_meant b 19) 0) _ _ _ (not_so kind (figure_at_meant b 19) 0 k some) (ap Telegram.Number (low 65536 p x (figure_at_meant b 20) u e))

  pub none_read : (kind : ℕ) → kind ≡ figure_at_meant b 13 → kind ≡ 0 → Places.NoPlace ≡ places_in b
  none_read kind k none = chosen (eqb (figure_at_meant b 13) 0) _ _ _ (is_so kind (figure_at_meant b 13) 0 k none) refl

  alike : (m n : Telegram) (x y z f c p q r g d : ℕ) → m ≡ n → x ≡ p → y ≡ q → z ≡ r → f ≡ g → c ≡ d → Places.Alike m x y z f c ≡ Places.Alike n p q r g d
  alike m n x y z f c p q r g d e1 e2 e3 e4 e5 e6 = cc

  pub alike_read : (kind x y z p q r first count : ℕ) (m : Telegram) → kind ≡ figure_at_meant b 13 → (kind ≡ 0 → ⊥) → kind ≡ 1
      → x ≡ figure_at_meant b 14 → y ≡ figure_at_meant b 15 → z ≡ figure_at_meant b 16 → m ≡ telegram_in b → p ≡ x % 256 → q ≡ y % 256 → r ≡ z % 256
      → first ≡ figure_at_meant b 17 → count ≡ figure_at_meant b 18 → Places.Alike m p q r first count ≡ places_in b
  alike_read kind x y z p q r first count m k some one e f g t u v w h n =
      other (eqb (figure_at_meant b 13) 0) _ _ _ (not_so kind (figure_at_meant b 13) 0 k some)
      (chosen (eqb (figure_at_meant b 13) 1) _ _ _ (is_so kind (figure_at_meant b 13) 1 k one)
      (alike m _ p q r first count _ _ _ _ _ t (low 256 p x (figure_at_meant b 14) u e) (low 256 q y (figure_at_meant b 15) v f) (low 256 r z (figure_at_meant b 16) w g) h n))

  pub differ_read : (kind : ℕ) → kind ≡ figure_at_meant b 13 → (kind ≡ 0 → ⊥) → (kind ≡ 1 → ⊥) → Places.Differ ≡ places_in b
  differ_read kind k some more =
      other (eqb (figure_at_meant b 13) 0) _ _ _ (not_so kind (figure_at_meant b 13) 0 k some) (other (eqb (figure_at_meant b 13) 1) _ _ _ (not_so kind (figure_at_meant b 13) 1 k more) refl)

  sounds : (s s' t t' length length' forty forty' ones ones' : ℕ) (plain plain' : Bool) (places places' : Places)
      → s ≡ s' → t ≡ t' → length ≡ length' → forty ≡ forty' → ones ≡ ones' → plain ≡ plain' → places ≡ places'
      → ◌≡◌ {A = Sound} (record { s = s; t = t; length = length; forty = forty; ones = ones; plain = plain; places = places })
      (record { s = s'; t = t'; length = length'; forty = forty'; ones = ones'; plain = plain'; places = places' })
  sounds s s' t t' length length' forty forty' ones ones' plain plain' places places' e1 e2 e3 e4 e5 e6 e7 = cc

  pub sound_read : (s s' t t' length forty ones kind : ℕ) (places : Places) → s ≡ figure_at_meant b 7 → t ≡ figure_at_meant b 8 → s' ≡ s % 256 → t' ≡ t % 256
      → length ≡ figure_at_meant b 9 → forty ≡ figure_at_meant b 10 → ones ≡ figure_at_meant b 11 → kind ≡ figure_at_meant b 12 → places ≡ places_in b
      → ◌≡◌ {A = Sound} (record { s = s'; t = t'; length = length; forty = forty; ones = ones; plain = not (eqb kind 0); places = places }) (sound_in b)
  sound_read s s' t t' length forty ones kind places e f u v g h i j k =
      sounds s' _ t' _ length _ forty _ ones _ (not (eqb kind 0)) _ places _ (low 256 s' s (figure_at_meant b 7) u e) (low 256 t' t (figure_at_meant b 8) v f)
      g h i (ap (λ (n : ℕ). not (eqb n 0)) j) k

  pub outside_read : (kind : ℕ) → kind ≡ figure_at_meant b 6 → kind ≡ 0 → Stand.Outside ≡ stand_in b
  outside_read kind k none = chosen (eqb (figure_at_meant b 6) 0) _ _ _ (is_so kind (figure_at_meant b 6) 0 k none) refl

  pub inside_read : (kind : ℕ) (sound : Sound) → kind ≡ figure_at_meant b 6 → (kind ≡ 0 → ⊥) → sound ≡ sound_in b → Stand.Inside sound ≡ stand_in b
  inside_read kind sound k some e = other (eqb (figure_at_meant b 6) 0) _ _ _ (not_so kind (figure_at_meant b 6) 0 k some) (ap Stand.Inside e)

  pub never_read : (kind : ℕ) → kind ≡ figure_at_meant b 4 → kind ≡ 0 → None ≡ last_in b
  never_read kind k none = chosen (eqb (figure_at_meant b 4) 0) _ _ _ (is_so kind (figure_at_meant b 4) 0 k none) refl

  pub at_read : (kind x p : ℕ) → kind ≡ figure_at_meant b 4 → (kind ≡ 0 → ⊥) → x ≡ figure_at_meant b 5 → p ≡ x % 4294967296 → Some p ≡ last_in b
  at_read kind x p k some e u = other (eqb (figure_at_meant b 4) 0) _ _ _ (not_so kind (figure_at_meant b 4) 0 k some) (ap Some (low 4294967296 p x (figure_at_meant b 5) u e))

  abbrev hearing_of : ℕ → Stand → ℕ → ℕ → Option ℕ → ℕ → Hearing
  hearing_of history stand odometer opened last bit =
      record { tape = record { ear = record { history = history; stand = stand }; odometer = odometer; opened = opened; last = last }; bit = bit }

  pub hearings : (h h' o o' p p' bit bit' : ℕ) (stand stand' : Stand) (last last' : (Option ℕ)) → h ≡ h' → stand ≡ stand' → o ≡ o' → p ≡ p' → last ≡ last' → bit ≡ bit'
      → hearing_of h stand o p last bit ≡ hearing_of h' stand' o' p' last' bit'
  hearings h h' o o' p p' bit bit' stand stand' last last' e1 e2 e3 e4 e5 e6 = cc

  pub hearing_read : (h h' o o' p p' bit : ℕ) (stand : Stand) (last : (Option ℕ)) → h ≡ figure_at_meant b 0 → o ≡ figure_at_meant b 1 → p ≡ figure_at_meant b 2
      → h' ≡ h % 65536 → stand ≡ stand_in b → o' ≡ o % 4294967296 → p' ≡ p % 4294967296 → last ≡ last_in b → bit ≡ figure_at_meant b 3
      → hearing_of h' stand o' p' last bit ≡ ear_in b
  unfolding ear_in
  hearing_read h h' o o' p p' bit stand last e f g u i v w l n =
      hearings h' _ o' _ p' _ bit _ stand _ last _ (low 65536 h' h (figure_at_meant b 0) u e) i (low 4294967296 o' o (figure_at_meant b 1) v f) (low 4294967296 p' p (figure_at_meant b 2) w g) l n
