-- What is chosen by a test or a case that is known; and the bytes of a part of a text.
-- Assumes nothing.
use Prim.Native.Nat.{ℕ}
use mathlib.Core.Path.{◌≡◌, sym, ap}
use mathlib.Core.Bool.{Bool, true, false}
use mathlib.Core.List.{List}
use Rattle.words.specs.Answer.{pick}
use Rattle.text.specs.Put.{Put}
use Rattle.text.specs.Pieces.{puts}
use Rattle.text.proofs.Putting.{all_as}
use Rattle.figures.specs.Fields.{Lies}

pub holds : {A : Type 0} {t : Bool} (a b : A) → t ≡ true → pick t a b ≡ a
holds a b e = ap (λ (s : Bool). pick s a b) e

pub fails : {A : Type 0} {t : Bool} (a b : A) → t ≡ false → pick t a b ≡ b
fails a b e = ap (λ (s : Bool). pick s a b) e

pub bytes_of : {a b : Lies} → a ≡ b → a.bytes ≡ b.bytes
bytes_of e = ap (λ (l : Lies). l.bytes) e

-- Pieces chosen by a case: what is put for the case is put for the value.
pub by_case : {A : Type 0} {x y : A} {p : Put} (pieces : A → List (List ℕ)) (b : List ℕ) (at : ℕ) → x ≡ y → p ≡ puts (pieces y) b at → p ≡ puts (pieces x) b at
by_case pieces b at is e = all_as b at (ap pieces (sym is)) e
