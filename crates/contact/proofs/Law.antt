-- The law of the detector: asked on and on, each time with the search that came with the contact
-- before, the answers are exactly the contacts of the whole stretch, in order, and then their end.
-- Assumes nothing.
use Prim.Native.Nat.{ℕ, zero, suc, ◌<◌}
use mathlib.Core.Path.{◌≡◌, refl, sym, ap, subst}
use mathlib.Core.List.{List}
use native.Mathlib.Nat.{not-suc-le-zero}
use native.Mathlib.Omega.{arith}
use Rattle.words.specs.Answer.{Outcome, gives, refuses}
use Rattle.contact.specs.Contacts.{Contacts, contact, quiet, refused, contacts_from, Handed, handed, no_further, first, next_contact}
use Rattle.contact.specs.declared.Search.{Search}
use Rattle.contact.proofs.Follows.{Follows, follows}

-- What comes of asking on and on from a search, where `Says s o` is that asking with the search s
-- is answered by o: a contact, and then what comes from the search after it; or that no further one
-- opens; or a refusal.
pub data Comes (Says : Search → Outcome Handed → Type 0) : Search → Contacts → Type 0 where
  further : {s then : Search} {start length : ℕ} {rest : Contacts}
      → Says s (gives (handed start length then)) → Comes Says then rest → Comes Says s (contact start length then rest)
  ends : {s : Search} → Says s (gives no_further) → Comes Says s quiet
  refuses_with : {s : Search} {n : ℕ} → Says s (refuses n) → Comes Says s (refused n)

-- The specification's answers.
abbrev pub Specified : List ℕ → Search → Outcome Handed → Type 0
Specified b s o = next_contact b s ≡ o

step : (b : List ℕ) (s : Search) → ((t : Search) → t.left < s.left → Comes (Specified b) t (contacts_from b t))
    → (w : Contacts) → contacts_from b s ≡ w → Follows b s w → Comes (Specified b) s w
unfolding next_contact
step b s on (contact start length then rest) e f =
    further (ap first e) (subst (λ (r : Contacts). Comes (Specified b) then r) (sym f.5) (on then (omega arith)))
step b s on quiet e f = ends (ap first e)
step b s on (refused n) e f = refuses_with (ap first e)

fewer : (b : List ℕ) (n : ℕ) (s : Search) → s.left < n → Comes (Specified b) s (contacts_from b s)
fewer b zero s h = absurd (not-suc-le-zero h)
fewer b (suc n) s h = step b s (λ t shorter. fewer b n t (omega arith)) (contacts_from b s) refl (follows b s)

-- The contacts of the whole stretch come of asking on and on, and their end is reached.
pub law : (b : List ℕ) (s : Search) → Comes (Specified b) s (contacts_from b s)
law b s = fewer b (suc s.left) s (omega arith)

-- Nothing else comes of it.
pub only : (b : List ℕ) {s : Search} {v w : Contacts} → Comes (Specified b) s v → Comes (Specified b) s w → v ≡ w
only b (further {then = t} {rest = v} e p) (further {then = t'} {rest = w} e' q) =
    let same : t ≡ t' = cc in
    let rests : v ≡ w = only b p (subst (λ (x : Search). Comes (Specified b) x w) (sym same) q) in
    cc
only b (further e p) (ends e') = cc
only b (further e p) (refuses_with e') = cc
only b (ends e) (further e' q) = cc
only b (ends e) (ends e') = refl
only b (ends e) (refuses_with e') = cc
only b (refuses_with e) (further e' q) = cc
only b (refuses_with e) (ends e') = cc
only b (refuses_with e) (refuses_with e') = cc
