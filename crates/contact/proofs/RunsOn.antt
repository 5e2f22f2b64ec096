-- "The history runs on and holds the closing bit once": the search after a contact has heard every
-- bit of the stretch up to the closing one, each once.
-- Assumes nothing.
use Prim.Native.Nat.{ℕ, zero, suc, ◌+◌, ◌-◌}
use mathlib.Core.Path.{◌≡◌, refl, ap, ap₂, ◌∙◌}
use mathlib.Core.List.{List}
use native.Mathlib.Omega.{arith}
use Rattle.telegram.specs.Stretch.{bit_at, inside}
use Rattle.contact.specs.History.{sixteen_ones, after, opens, closes}
use Rattle.contact.specs.Contacts.{Mode, outside, since, Contacts, contact, quiet, refused, contacts, contacts_from, from_start}
use Rattle.contact.specs.declared.Search.{Search}
use Rattle.contact.proofs.Follows.{either_way}
use Rattle.contact.proofs.Latest.{heard}

-- After each of the contacts the history is that of all the bits from the stretch's start up to the
-- next.
abbrev pub RunsOn : List ℕ → ℕ → Contacts → Type 0
RunsOn b start (contact first length then rest) = (then.history ≡ heard b start (then.next - start)) × RunsOn b start rest
RunsOn b start quiet = Unit
RunsOn b start (refused n) = Unit

-- One bit more is heard.
one_more : (b : List ℕ) (start k h i : ℕ) → i ≡ start + k → h ≡ heard b start k → after h (bit_at b i) ≡ heard b start (suc k)
unfolding heard
one_more b start k h i e same = ap₂ (λ (x y : ℕ). after x (bit_at b y)) same e

walk : (b : List ℕ) (start n : ℕ) (m : Mode) (k h i : ℕ) → i ≡ start + k → h ≡ heard b start k → RunsOn b start (contacts b m h i n)
unfolding contacts
walk b start zero outside k h i e same = tt
walk b start zero (since s) k h i e same = tt
walk b start (suc n) outside k h i e same =
    let now = after h (bit_at b i) in
    let next : i + 1 ≡ start + suc k = omega arith in
    let more = one_more b start k h i e same in
    either_way (RunsOn b start) (opens now) (contacts b (since i) now (i + 1) n) (contacts b outside now (i + 1) n)
    (walk b start n (since i) (suc k) now (i + 1) next more)
    (walk b start n outside (suc k) now (i + 1) next more)
walk b start (suc n) (since s) k h i e same =
    let now = after h (bit_at b i) in
    let next : i + 1 ≡ start + suc k = omega arith in
    let heard_so_far : suc k ≡ i + 1 - start = omega arith in
    let more = one_more b start k h i e same in
    let then : Search = record { next = i + 1; left = n; history = now } in
    either_way (RunsOn b start) (closes now)
    (contact s (i - s) then (contacts b outside now (i + 1) n))
    (contacts b (since s) now (i + 1) n)
    (more ∙ ap (heard b start) heard_so_far, walk b start n outside (suc k) now (i + 1) next more)
    (walk b start n (since s) (suc k) now (i + 1) next more)

-- Begun with sixteen ones, it runs on over all the contacts of a stretch.
pub runs_on : (b : List ℕ) (start len : ℕ) → RunsOn b start (contacts_from b (from_start start len))
unfolding contacts_from from_start heard
runs_on b start len =
    either_way (RunsOn b start) (inside b start len) (contacts b outside sixteen_ones start len) (refused 5)
    (walk b start len outside 0 sixteen_ones start (omega arith) refl)
    tt
