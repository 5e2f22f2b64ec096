-- Where every place has the words sent, `find` hands out nothing but the telegrams sent, and every
-- unflipped one.
-- Assumes nothing.
use mathlib.Core.Path.{◌≡◌, refl, sym, ap, ap₂, ◌∙◌, subst}
use mathlib.Core.Logic.{◌⊎◌, inl, inr}
use mathlib.Core.Bool.{true}
use mathlib.Core.List.{List, [], ◌∷◌, map, Memᴰ}
use Prim.Native.Nat.{ℕ, ◌+◌, ◌-◌, ◌≤◌}
use native.Mathlib.Omega.{arith}
use lib.Dec.{T, eqb}
use borrow.Author.Tests.{eqb-true, eq-eqb}
use Rattle.words.specs.Answer.{gives, refuses}
use Rattle.words.specs.Plain.{among}
use Rattle.std.specs.Prelude.{Result, Ok, Err}
use Rattle.telegram.specs.Telegram.{Received}
use Rattle.telegram.specs.Place.{words_at, places, Single, at, find}
use Rattle.telegram.specs.Says.{says_found}
use Rattle.telegram.specs.declared.Telegram.{Telegram}
use Rattle.telegram.specs.declared.Found.{Found}
use Rattle.telegram.specs.declared.NotFound.{NotFound}
use Rattle.telegram.proofs.Determined.{found_of, found_back}
use Rattle.telegram.proofs.Handed.{handed}
use Rattle.telegram.proofs.Law.{Comes as Listed, further as listed_further, ends as listed_ends, with_telegrams, Specified, law, only}
use Rattle.balise_line.specs.Line.{OneBalise, Proper, sent_at, flips_at, places_of}
use Rattle.demands.specs.ByContract.{Find}
use Rattle.demands.specs.Calls.{HandedOut, first, later, Comes, further, ends}
use Rattle.demands.specs.Demand2.{place_of}
use Rattle.demands.specs.Demand3.{TheSent, ComesOf}
use Rattle.balise_line.proofs.Places.{or_left, or_right, or_parts}
use Rattle.balise_line.proofs.Sent.{Sent, AllSent, read_as_sent}
use Rattle.balise_line.proofs.Unflipped.{unflipped_words, unflipped_among}
use Rattle.words.proofs.Never.{cannot_be}

-- A call answers as the specification says.
pub specified : (b : List ℕ) (start len s t : ℕ) (r : Result Found NotFound) → Find b start len s t r → find b start len s t ≡ says_found r
specified b start len s t r c = sym (c.4 ∙ ap (λ (v : List ℕ). find v start len s t) c.3)

-- What is handed out is a place of the stretch, with what is read there.
pub handed_place : {b : List ℕ} {s t start len p : ℕ} {m : Telegram} → HandedOut b s t start len p m
    → (among p (places b start len s t) ≡ true) × (gives m ≡ words_at b p)
handed_place {b} {s} {t} {start} {len} {p} {m} (first k) =
    let h = handed b start len s t p (gives m) (specified b start len s t (Ok (record { place = p; telegram = m })) k) in
    (ap (among p) h.list ∙ or_left (among p h.rest) (eq-eqb p p refl), h.says)
handed_place {b} {s} {t} {start} {len} (later {q = q} p m k on) =
    let h = handed b start len s t p (gives m) (specified b start len s t (Ok (record { place = p; telegram = m })) k) in
    let r = handed_place on in
    (ap (among q) h.list ∙ or_right (eqb q p) (ap (among q) h.first.others ∙ r.0), r.1)

-- ---- all that comes of calling until 6

-- A place with its telegram, as `find` answers it.
abbrev pub answer_of : Single → Result Found NotFound
answer_of s = found_of (gives s)

-- Its place.
abbrev pub single_place : Single → ℕ
single_place (at p m) = p

-- What comes is what the specification lists.
pub comes_listed : {b : List ℕ} {s t start len : ℕ} {w : List (Result Found NotFound)} → Comes b s t start len w
    → (v : List Single) × Listed (Specified b s t) start len v × (w ≡ map answer_of v) × (map place_of w ≡ map single_place v)
comes_listed {b} {s} {t} {start} {len} (further {p = p} {m = m} k c) =
    let r = comes_listed c in
    (at p (gives m) ∷ r.0, listed_further (specified b start len s t (Ok (record { place = p; telegram = m })) k) r.1, ap₂ ◌∷◌ (sym (found_back (Ok (record { place = p; telegram = m })))) r.2, ap (λ (ps : List ℕ). p ∷ ps) r.3)
comes_listed {b} {s} {t} {start} {len} (ends k) = ([], listed_ends (specified b start len s t (Err NotFound.NoPlace) k), refl, refl)

-- And what the specification lists comes, to one who is answered at every call that lies between
-- bit `low` and bit `high`.
listed_comes : {b : List ℕ} {s t start len : ℕ} {v : List Single} (low high : ℕ)
    → ((start len : ℕ) → low ≤ start → start + len ≤ high → (r : Result Found NotFound) × Find b start len s t r)
    → low ≤ start → start + len ≤ high → Listed (Specified b s t) start len v → (w : List (Result Found NotFound)) × Comes b s t start len w
listed_comes {b} {s} {t} {start} {len} low high ask from to (listed_further {p = p} {m = m} e c) =
    let a = ask start len from to in
    let f = (handed b start len s t p m e).first in
    let first : start ≤ p = f.from_start in
    let last : p + 40 ≤ start + len = f.to_end in
    go a.0 a.1 (sym (specified b start len s t a.0 a.1) ∙ e) (listed_comes low high ask (omega arith) (omega arith) c)
  where
    go : (r : Result Found NotFound) → Find b start len s t r → says_found r ≡ gives (at p m)
        → (w : List (Result Found NotFound)) × Comes b s t (p + 1) (start + len - (p + 1)) w → (w : List (Result Found NotFound)) × Comes b s t start len w
    go (Ok f) k is rest =
        let same : p ≡ f.place = cc in
        (Ok f ∷ rest.0, further k (subst (λ (v : ℕ). Comes b s t (v + 1) (start + len - (v + 1)) rest.0) same rest.1))
    go (Err NotFound.NotSeven) k is rest = cannot_be cc
    go (Err NotFound.Beyond) k is rest = cannot_be cc
    go (Err NotFound.NoPlace) k is rest = cannot_be cc
listed_comes {b} {s} {t} {start} {len} low high ask from to (listed_ends e) =
    let a = ask start len from to in
    go a.0 a.1 (sym (specified b start len s t a.0 a.1) ∙ e)
  where
    go : (r : Result Found NotFound) → Find b start len s t r → says_found r ≡ refuses 6 → (w : List (Result Found NotFound)) × Comes b s t start len w
    go (Ok f) k is = cannot_be cc
    go (Err NotFound.NotSeven) k is = absurd (let z : ◌≡◌ {A = ℕ} 4 6 = cc in omega arith)
    go (Err NotFound.Beyond) k is = absurd (let z : ◌≡◌ {A = ℕ} 5 6 = cc in omega arith)
    go (Err NotFound.NoPlace) k is = ([], ends k)

-- A place listed comes with its telegram.
pub listed_with : (b : List ℕ) (p : ℕ) (ps : List ℕ) → among p ps ≡ true → Memᴰ (at p (words_at b p)) (with_telegrams b ps)
listed_with b p [] e = absurd (subst T (sym e) tt)
listed_with b p (r ∷ ps) e = go (or_parts (eqb p r) (among p ps) e) (listed_with b p ps)
  where
    go : (eqb p r ≡ true) ⊎ (among p ps ≡ true) → (among p ps ≡ true → Memᴰ (at p (words_at b p)) (with_telegrams b ps))
        → Memᴰ (at p (words_at b p)) (with_telegrams b (r ∷ ps))
    go (inl same) ih = Memᴰ.head (ap (λ (k : ℕ). at k (words_at b k)) (eqb-true p r same))
    go (inr there) ih = Memᴰ.tail (ih there)

answered_with : (s : Single) (v : List Single) → Memᴰ s v → Memᴰ (answer_of s) (map answer_of v)
answered_with s [] m = elim m [ ]
answered_with s (x ∷ v) (Memᴰ.head e) = Memᴰ.head (ap answer_of e)
answered_with s (x ∷ v) (Memᴰ.tail m) = Memᴰ.tail (answered_with s v m)

-- A telegram is known by what is read.
same_telegram : (m n : Telegram) (r : Received) → gives m ≡ r → r ≡ gives n → m ≡ n
same_telegram m n r e f = cc

module _ (o : OneBalise) (proper : Proper o) where
  -- The list of all that come of calling `find` until 6.
  pub comes_is : (w : List (Result Found NotFound)) → ComesOf o w → w ≡ map answer_of (with_telegrams o.buffer (places_of o))
  comes_is w c =
      let r = comes_listed c in
      r.2 ∙ ap (map answer_of) (only o.buffer o.s o.t r.1 (law o.buffer o.s o.t proper.pair o.start o.len proper.taken))

  -- And there is one, for one who is answered at every call.
  pub asking_ends : ((start len : ℕ) → o.start ≤ start → start + len ≤ o.start + o.len → (r : Result Found NotFound) × Find o.buffer start len o.s o.t r)
      → (w : List (Result Found NotFound)) × ComesOf o w
  asking_ends ask =
      listed_comes o.start (o.start + o.len) ask (omega arith) (omega arith)
      (law o.buffer o.s o.t proper.pair o.start o.len proper.taken)

  pub the_sent : (p : ℕ) (m : Telegram) → Sent o p → gives m ≡ words_at o.buffer p → TheSent o p m
  the_sent p m there says = record { true_place = there.at_true; as_sent = same_telegram m o.telegram (words_at o.buffer p) says (read_as_sent o proper p there) }

  module _ (every-place : AllSent o) where
    pub every_sent : (p : ℕ) (m : Telegram) → HandedOut o.buffer o.s o.t o.start o.len p m → TheSent o p m
    every_sent p m given = let h = handed_place given in the_sent p m (every-place p h.0) h.1

    pub all_places_sent : (p : ℕ) → among p (places_of o) ≡ true → (sent_at o p ≡ true) × (words_at o.buffer p ≡ gives o.telegram)
    all_places_sent p there = let sent = every-place p there in (sent.at_true, read_as_sent o proper p sent)

  -- Of what is unflipped, whatever else is flipped.
  pub unflipped_comes : (w : List (Result Found NotFound)) → ComesOf o w → (p : ℕ) → sent_at o p ≡ true → flips_at o p ≡ 0 → Memᴰ (Ok (record { place = p; telegram = o.telegram })) w
  unflipped_comes w c p sent none =
      let b = o.buffer in
      let answer : answer_of (at p (words_at b p)) ≡ Ok (record { place = p; telegram = o.telegram }) =
      ap (λ (r : Received). answer_of (at p r)) (unflipped_words o proper p sent none) ∙ found_back (Ok (record { place = p; telegram = o.telegram })) in
      subst (λ (r : Result Found NotFound). Memᴰ r w) answer
      (subst (λ (l : List (Result Found NotFound)). Memᴰ (answer_of (at p (words_at b p))) l) (sym (comes_is w c))
      (answered_with (at p (words_at b p)) (with_telegrams b (places_of o)) (listed_with b p (places_of o) (unflipped_among o proper p sent none))))
