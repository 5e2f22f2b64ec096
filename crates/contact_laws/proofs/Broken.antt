-- A broken balise: no contact is as long as two telegrams.
-- Assumes nothing.
use Prim.Native.Nat.{ℕ, zero, suc, ◌+◌, ◌-◌, ◌%◌, ◌≤◌, ◌<◌}
use mathlib.Core.Path.{◌≡◌, refl, ap, ap₂, subst}
use mathlib.Core.Bool.{Bool, true, false}
use mathlib.Core.List.{List}
use native.Mathlib.Omega.{arith}
use lib.Dec.{leb, ltb}
use borrow.Author.Tests.{leb-true, leb-false, ltb-true, ltb-false}
use Rattle.words.specs.Answer.{pick}
use Rattle.telegram.specs.Stretch.{bit_at, inside}
use Rattle.balise_line.specs.Line.{OneBalise}
use Rattle.contact.specs.History.{sixteen_ones, after, zeroes, opens, closes}
use Rattle.contact.specs.Contacts.{Mode, outside, since, contact, refused, contacts, contacts_from, from_start}
use Rattle.contact.specs.declared.Search.{Search}
use Rattle.contact.proofs.Latest.{heard}
use Rattle.contact_laws.specs.Zeroes.{zeroes_sent, Broken}
use Rattle.contact_laws.specs.Pass.{Pass}
use Rattle.contact_laws.specs.Heard.{AllShort}
use Rattle.contact_laws.proofs.Below.{same_zeroes, J, below_line, none_before, four_after}

module _ (o : OneBalise) (from to : ℕ) (pass : Pass o from to) (broken : Broken o) where
  abbrev b : List ℕ
  b = o.buffer

  -- The bits, counted from the first, with which there are four zeroes or fewer: one in every 64.
  abbrev Low : ℕ → Type 0
  Low k = (J o from to pass + k + 1) % 64 ≡ broken.0 % 64

  low_is : (k : ℕ) → from + k < to → Low k → zeroes (heard b from (suc k)) ≤ 4
  low_is k room low =
      let e : J o from to pass + suc k ≡ J o from to pass + k + 1 = omega arith in
      omega (arith, below_line o from to pass (suc k) (omega arith), ap (λ (x : ℕ). zeroes_sent o x 16) e, same_zeroes o (J o from to pass + k + 1) broken.0 16 low, broken.1)

  -- Inside a contact since the q-th bit none of those up to the k-th is such a one.
  abbrev Held : ℕ → ℕ → Type 0
  Held q k = (j : ℕ) → q ≤ j → j < k → Low j → ⊥

  -- So it is not long.
  not_long : (q k : ℕ) → Held q k → k - q ≤ 63
  not_long q k held = go (leb (k - q) 63) refl
    where
      go : (t : Bool) → leb (k - q) 63 ≡ t → k - q ≤ 63
      go true is = leb-true (k - q) 63 is
      go false is =
          let long = leb-false (k - q) 63 is in
          let g = broken.0 % 64 in
          let r = (J o from to pass + q + 1) % 64 in
          let d = (g + 64 - r) % 64 in
          let low : Low (q + d) = omega arith in
          absurd (held (q + d) (omega arith) (omega arith) low)

  -- What is known inside a contact since bit s, at the k-th bit: it is the q-th that opened it,
  -- inside the balise's bits, and the k-th is not far behind them.
  record Since (s k : ℕ) : Type 0 where
    pub q : ℕ
    pub opened : s ≡ from + q
    pub before : q < k
    pub held : Held q k
    pub not_behind : from + k ≤ o.start + o.len + 11
    pub not_ahead : o.start ≤ from + q

  -- What is known of where the detector stands, at the k-th bit.
  abbrev Stands : Mode → ℕ → Type 0
  Stands outside k = Unit
  Stands (since s) k = Since s k

  one_more : (k h i : ℕ) → i ≡ from + k → h ≡ heard b from k → after h (bit_at b i) ≡ heard b from (suc k)
  unfolding heard
  one_more k h i e same = ap₂ (λ (x y : ℕ). after x (bit_at b y)) same e

  within : (k : ℕ) → from + k < to → 4 < zeroes (heard b from (suc k)) → from + suc k ≤ o.start + o.len + 11
  within k room five = by (leb (o.start + o.len + 11) (from + k)) refl
    where
      by : (t : Bool) → leb (o.start + o.len + 11) (from + k) ≡ t → from + suc k ≤ o.start + o.len + 11
      by true q = absurd (omega (arith, five, four_after o from to pass k room (leb-true (o.start + o.len + 11) (from + k) q)))
      by false q = let less = leb-false (o.start + o.len + 11) (from + k) q in omega arith

  held_on : (q k : ℕ) → Held q k → (Low k → ⊥) → Held q (suc k)
  held_on q k held not-k j up down low = go (ltb j k) refl
    where
      go : (t : Bool) → ltb j k ≡ t → ⊥
      go true is = held j up (ltb-true j k is) low
      go false is =
          let at-k = ltb-false j k is in
          let same : j ≡ k = omega arith in
          not-k (subst Low same low)

  short : (n : ℕ) (m : Mode) (k h i : ℕ) → i ≡ from + k → h ≡ heard b from k → i + n ≡ to → Stands m k → AllShort o (contacts b m h i n)
  unfolding contacts opens closes
  short zero outside k h i e same end st = tt
  short zero (since s) k h i e same end st = tt
  short (suc n) outside k h i e same end st =
      go (leb 8 (zeroes now)) refl
      (λ not-k inside_it over. short n (since i) (suc k) now (i + 1) (omega arith) more (omega arith)
      (record { q = k; opened = e; before = omega arith; held = held_on k k (λ j up down low. omega arith) not-k; not_behind = inside_it; not_ahead = over }))
      (short n outside (suc k) now (i + 1) (omega arith) more (omega arith) tt)
    where
      now : ℕ
      now = after h (bit_at b i)

      more : now ≡ heard b from (suc k)
      more = one_more k h i e same

      not_after : 8 ≤ zeroes now → zeroes now ≡ zeroes (heard b from (suc k)) → from + suc k ≤ o.start + o.len + 11
      not_after eight count = within k (omega arith) (omega arith)

      not_ahead : 8 ≤ zeroes now → zeroes now ≡ zeroes (heard b from (suc k)) → o.start ≤ from + k
      not_ahead eight count = by (leb o.start (from + k)) refl
        where
          by : (t : Bool) → leb o.start (from + k) ≡ t → o.start ≤ from + k
          by true q = leb-true o.start (from + k) q
          by false q = absurd (omega (arith, eight, count, none_before o from to pass k (leb-false o.start (from + k) q)))

      go : (t : Bool) → leb 8 (zeroes now) ≡ t → ((Low k → ⊥) → from + suc k ≤ o.start + o.len + 11 → o.start ≤ from + k → AllShort o (contacts b (since i) now (i + 1) n)) → AllShort o (contacts b outside now (i + 1) n)
          → AllShort o (pick t (contacts b (since i) now (i + 1) n) (contacts b outside now (i + 1) n))
      go true q opened on =
          let eight = leb-true 8 (zeroes now) q in
          let same_count = ap zeroes more in
          opened (λ low. omega (arith, eight, low_is k (omega arith) low, same_count)) (not_after eight same_count) (not_ahead eight same_count)
      go false q opened on = on
  short (suc n) (since s) k h i e same end st =
      go (leb (zeroes now) 4) refl
      (short n outside (suc k) now (i + 1) (omega arith) more (omega arith) tt)
      (λ not-k inside_it. short n (since s) (suc k) now (i + 1) (omega arith) more (omega arith)
      (record { q = st.q; opened = st.opened; before = omega (arith, st.before); held = held_on st.q k st.held not-k; not_behind = inside_it; not_ahead = st.not_ahead }))
    where
      now : ℕ
      now = after h (bit_at b i)

      more : now ≡ heard b from (suc k)
      more = one_more k h i e same

      then : Search
      then = record { next = i + 1; left = n; history = now }

      go : (t : Bool) → leb (zeroes now) 4 ≡ t → AllShort o (contacts b outside now (i + 1) n) → ((Low k → ⊥) → from + suc k ≤ o.start + o.len + 11 → AllShort o (contacts b (since s) now (i + 1) n))
          → AllShort o (pick t (contact s (i - s) then (contacts b outside now (i + 1) n)) (contacts b (since s) now (i + 1) n))
      go true q rest on = (
        omega (arith, not_long st.q k st.held, st.opened),
        omega (arith, st.opened, st.not_ahead),
        omega (arith, st.opened, st.before, st.not_behind, e),
        rest,
      )
      go false q rest on =
          let five = leb-false (zeroes now) 4 q in
          let same_count = ap zeroes more in
          on (λ low. omega (arith, five, low_is k (omega arith) low, same_count)) (within k (omega arith) (omega (arith, five, same_count)))

  pub all_short : AllShort o (contacts_from b (from_start from (to - from)))
  unfolding contacts_from from_start heard
  all_short = go (inside b from (to - from))
    where
      go : (t : Bool) → AllShort o (pick t (contacts b outside sixteen_ones from (to - from)) (refused 5))
      go true = short (to - from) outside 0 sixteen_ones from (omega arith) refl (omega (arith, pass.from_low, pass.to_high)) tt
      go false = tt
