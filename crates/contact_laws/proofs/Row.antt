-- Balises and markers one after the other, with twelve ones or more after each, are heard one after
-- the other.
-- Assumes nothing.
use Prim.Native.Nat.{ℕ, ◌+◌, ◌-◌, ◌≤◌, ◌<◌}
use mathlib.Core.Path.{◌≡◌, sym, ap, ◌∙◌, subst}
use mathlib.Core.Bool.{Bool, true}
use mathlib.Core.List.{List, [], ◌∷◌}
use native.Mathlib.Omega.{arith}
use borrow.Author.Tests.{le-leb}
use Rattle.words.specs.Answer.{pick}
use Rattle.telegram.specs.Stretch.{bit_at, inside}
use Rattle.telegram.proofs.Taken.{part_taken}
use Rattle.balise_line.specs.Line.{OneBalise}
use Rattle.contact.specs.History.{sixteen_ones}
use Rattle.contact.specs.Contacts.{outside, Contacts, contact, contacts}
use Rattle.contact.specs.declared.Search.{Search}
use Rattle.contact.specs.declared.Judged.{Judged}
use Rattle.contact_laws.specs.Pass.{Ones, between}
use Rattle.contact_laws.specs.Heard.{OverIt, IsRead}
use Rattle.contact_laws.specs.Marker.{sixty, MarkerHeard}
use Rattle.contact_laws.specs.Row.{Thing, balise, marker, Long, Row, MarkersOwn, AsPassed, RowHeard}
use Rattle.contact_laws.proofs.Walk.{Still}
use Rattle.contact_laws.proofs.Over.{listened, from_taken, ones_still, ones_on, ones_last, cut_low, over_it}
use Rattle.contact_laws.proofs.Within.{is_read}
use Rattle.contact_laws.proofs.Marker.{marker_contact}
use Rattle.contact_laws.proofs.Sixty.{from_sixty}

-- The contact of a balise is a stretch that is taken, and is read.
pub read_there : (o : OneBalise) (from to : ℕ) → inside o.buffer from (to - from) ≡ true → Long o.buffer o → from ≤ o.start → o.start + o.len + between ≤ to
    → {w : Contacts} (c : OverIt o w) → IsRead o w c
read_there o from to taken long low high c =
    let skipped = c.skipped_low in
    let ones = c.ones_low in
    let cut = cut_low o in
    let length = long.long in
    is_read o long.proper long.clean c.skipped c.ones_in (omega arith)
    (part_taken o.buffer from (to - from) (o.start + c.skipped) (o.len + c.ones_in - c.skipped) taken (omega arith) (omega arith))
    ones long.fair skipped (omega arith)

-- Ones, zeroes, and twelve ones: the contact, and what comes after it.
first_zeroes : (b : List ℕ) (start len i to h : ℕ) → Still h → 8 ≤ len → ((k : ℕ) → k < len → bit_at b (start + k) ≡ 0) → i ≤ start → Ones b i start
    → start + len + between ≤ to → Ones b (start + len) (start + len + between)
    → (then : Search) × (h' : ℕ) × Still h'
    × (contacts b outside h i (to - i) ≡ contact (start + 7) (len + 4) then (contacts b outside h' (start + len + between) (to - (start + len + between))))
first_zeroes b start len i to h still long zeroes_there low ahead room after_it =
    let q = ones_on b h i to start still low (omega arith) ahead in
    let r = marker_contact b q.0 start len to q.1 zeroes_there long (λ k l. after_it (start + len + k) (omega arith) (omega arith)) (omega arith) in
    (r.0, r.1, r.2, q.2 ∙ r.3)

pub marker_heard : MarkerHeard
marker_heard b start len from to pass long w l =
    let high = pass.to_high in
    let low = pass.from_low in
    let end = start + len + between in
    let after_it : Ones b (start + len) end = λ k low high. pass.ones_after k low (omega arith) in
    let r = first_zeroes b start len from to sixteen_ones ones_still long pass.zeroes_there low pass.ones_before high after_it in
    let last = ones_last b r.1 end to r.2 high (λ k low high. pass.ones_after k (omega arith) high) in (
      (r.0, listened b from to w l ∙ from_taken b from to pass.taken ∙ r.3 ∙ ap (contact (start + 7) (len + 4) r.0) last),
      from_sixty b start len pass.zeroes_there long after_it
          (part_taken b from (to - from) (start + 7) (len + 4) pass.taken (omega arith) (omega arith)),
    )

module _ (b : List ℕ) (from to : ℕ) (taken : inside b from (to - from) ≡ true) where
  abbrev Onward : List Thing → Type 0
  Onward xs = (i h : ℕ) → from ≤ i → Still h → Row between b i to xs → AsPassed b xs (contacts b outside h i (to - i))

  -- A marker first,
  marker_first : (start len : ℕ) (xs : List Thing) → Onward xs → Onward (marker start len ∷ xs)
  marker_first start len xs on i h begin still row =
      let more : sixty ≤ len = row.0.0 in
      let zeroes_there = row.0.1 in
      let low : i ≤ start = row.1 in
      let room : start + len + between ≤ to = row.3 in
      let after_it = row.4 in
      let r = first_zeroes b start len i to h still (omega arith) zeroes_there low row.2 room after_it in
      let end = start + len + between in
      let own : MarkersOwn b start len (contacts b outside h i (to - i)) =
      record {
        then = r.0;
        rest = contacts b outside r.1 end (to - end);
        is = r.3;
        judged_so = λ s t good a called. from_sixty b start len zeroes_there (omega arith) after_it
            (part_taken b from (to - from) (start + 7) (len + 4) taken (omega arith) (omega arith)) s t good a called
            ∙ ap (λ (x : Bool). pick x Judged.Marker Judged.Neither) (le-leb sixty len more);
      } in
      (own, on end r.1 (omega arith) r.2 row.5)

  -- or a balise.
  balise_first : (o : OneBalise) → o.buffer ≡ b → (xs : List Thing) → Onward xs → Onward (balise o ∷ xs)
  balise_first o same xs on i h begin still row =
      let long = row.0 in
      let low : i ≤ o.start = row.1 in
      let room : o.start + o.len + between ≤ to = row.3 in
      let end = o.start + o.len + between in
      let cut = cut_low o in
      let length = long.long in
      let back = sym same in
      let g = over_it o long.proper long.audible long.clean (omega arith) i to h still low
      (subst (λ (v : List ℕ). Ones v i o.start) back row.2) room (subst (λ (v : List ℕ). Ones v (o.start + o.len) end) back row.4) in
      let rest : contacts b outside g.1 end (to - end) ≡ g.0.rest = ap (λ (v : List ℕ). contacts v outside g.1 end (to - end)) back ∙ sym g.3 in
      subst (λ (v : List ℕ). AsPassed b (balise o ∷ xs) (contacts v outside h i (to - i))) same (
        g.0,
        read_there o from to (subst (λ (v : List ℕ). inside v from (to - from) ≡ true) back taken) (subst (λ (v : List ℕ). Long v o) back long) (omega arith) room g.0,
        subst (AsPassed b xs) rest (on end g.1 (omega arith) g.2 row.5),
      )

  one_by_one : (xs : List Thing) → Onward xs
  one_by_one [] i h begin still row = ones_last b h i to still row.0 row.1
  one_by_one (balise o ∷ xs) i h begin still row = balise_first o row.0.buffer_is xs (one_by_one xs) i h begin still row
  one_by_one (marker start len ∷ xs) i h begin still row = marker_first start len xs (one_by_one xs) i h begin still row

pub row_heard : RowHeard
row_heard b from to xs taken row w l =
    subst (AsPassed b xs) (sym (listened b from to w l ∙ from_taken b from to taken)) (one_by_one b from to taken xs from sixteen_ones (omega arith) ones_still row)
