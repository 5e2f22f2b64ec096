-- Pieces one after the other: what is put after some pieces makes more of them.
-- Assumes nothing.
use mathlib.Core.Path.{◌≡◌, refl, sym, ap, ◌∙◌}
use mathlib.Core.List.{List, [], ◌∷◌, ◌++◌}
use Prim.Native.Nat.{ℕ}
use Rattle.text.specs.Put.{Put, put, came}
use Rattle.text.specs.Pieces.{puts}

-- No piece,
pub none : (b : List ℕ) (at : ℕ) → came at b ≡ puts [] b at
unfolding puts
none b at = refl

-- pieces after a piece,
pub then : {x y : List ℕ} {m r : ℕ} (b : List ℕ) (at : ℕ) (t : List ℕ) (ts : List (List ℕ)) → came m x ≡ put t b at → came r y ≡ puts ts x m → came r y ≡ puts (t ∷ ts) b at
unfolding puts
then b at t ts e f = f ∙ ap (λ (p : Put). puts ts p.buffer p.next) e

-- one piece alone,
pub alone : {x : List ℕ} {m : ℕ} (b : List ℕ) (at : ℕ) (t : List ℕ) → came m x ≡ put t b at → came m x ≡ puts (t ∷ []) b at
alone {x} {m} b at t e = then b at t [] e (none x m)

pub puts_append : (ts us : List (List ℕ)) (b : List ℕ) (at : ℕ) → puts (ts ++ us) b at ≡ puts us (puts ts b at).buffer (puts ts b at).next
unfolding puts
puts_append [] us b at = refl
puts_append (t ∷ ts) us b at = puts_append ts us (put t b at).buffer (put t b at).next

-- and pieces after pieces.
pub after : {x y : List ℕ} {m r : ℕ} (b : List ℕ) (at : ℕ) (ts us : List (List ℕ)) → came m x ≡ puts ts b at → came r y ≡ puts us x m → came r y ≡ puts (ts ++ us) b at
after b at ts us e f = f ∙ ap (λ (p : Put). puts us p.buffer p.next) e ∙ sym (puts_append ts us b at)

-- The same piece in other words, the same pieces, and no piece.
pub word_as : {p : Put} {t u : List ℕ} (b : List ℕ) (at : ℕ) → t ≡ u → p ≡ put t b at → p ≡ put u b at
word_as b at is e = e ∙ ap (λ (v : List ℕ). put v b at) is

pub all_as : {p : Put} {ts us : List (List ℕ)} (b : List ℕ) (at : ℕ) → ts ≡ us → p ≡ puts ts b at → p ≡ puts us b at
all_as b at is e = e ∙ ap (λ (v : List (List ℕ)). puts v b at) is

pub none_as : {ts : List (List ℕ)} (b : List ℕ) (at : ℕ) → [] ≡ ts → came at b ≡ puts ts b at
none_as b at is = all_as b at is (none b at)

-- The same put: the same place, and the same buffer.
pub same_put : {r r' : ℕ} {b b' : List ℕ} → came r b ≡ came r' b' → (r ≡ r') × (b ≡ b')
same_put same = (ap (λ (v : Put). v.next) same, ap (λ (v : Put). v.buffer) same)
