-- A feed stands at a frame of a lead: what it writes from there on are the lead's frames, as long
-- as no thing begins.
-- Assumes nothing.
use Prim.Native.Nat.{ℕ, zero, suc, ◌+◌, ◌-◌, ◌*◌, ◌/◌, ◌≤◌, ◌<◌, min}
use mathlib.Core.Path.{◌≡◌, refl, sym, ap, ap₂, ◌∙◌, subst}
use mathlib.Core.Bool.{Bool, true, false}
use mathlib.Core.List.{List, [], ◌++◌}
use native.Mathlib.Omega.{arith}
use native.Mathlib.Nat.{mul-add-div, div-eq_of_lt, lt_of_mul-lt-mul_left, mul-suc}
use lib.Dec.{ltb}
use borrow.Author.Tests.{ltb-true, ltb-false}
use Rattle.words.specs.Answer.{pick}
use Rattle.track_lead.specs.declared.Thing.{Thing}
use Rattle.track_lead.specs.declared.Feed.{Feed}
use Rattle.track_lead.specs.Sent.{twelve, line_in}
use Rattle.track_lead.specs.Feed.{frame_of, frame, after, Fed, frames}
use Rattle.track_lead.specs.Lead.{Over, odometer_at}
use Rattle.track_lead.proofs.Ones.{ones_there, balise_over}
use Rattle.track_lead.proofs.Blocks.{one}

-- From its third frame on a thing sends ones.
pub from_third : (s t : ℕ) (thing : Thing) (j : ℕ) → 3 ≤ j → line_in s t thing j ≡ twelve 255
from_third s t (Thing.Balise x y z) j late = ones_there s t (Thing.Balise x y z) j (balise_over s t x y z j late)
from_third s t Thing.Marker j late = ones_there s t Thing.Marker j (omega arith)
from_third s t Thing.Unreadable j late = ones_there s t Thing.Unreadable j (omega arith)
from_third s t Thing.Nothing j late = ones_there s t Thing.Nothing j (omega arith)

-- So frames are counted up to three.
counted : (s t : ℕ) (thing : Thing) (j : ℕ) → line_in s t thing (min 3 j) ≡ line_in s t thing j
counted s t thing j = go (ltb j 3) refl
  where
    go : (b : Bool) → ltb j 3 ≡ b → line_in s t thing (min 3 j) ≡ line_in s t thing j
    go true is =
        let l = ltb-true j 3 is in
        let e : min 3 j ≡ j = omega arith in
        ap (line_in s t thing) e
    go false is =
        let h = ltb-false j 3 is in
        let e : min 3 j ≡ 3 = omega arith in
        ap (line_in s t thing) e ∙ from_third s t thing 3 (omega arith) ∙ sym (from_third s t thing j h)

module _ (n s t begin : ℕ) (some : 0 < n) where
  -- The feed stands at frame k, the r-th of decimetre `begin + q`, with this thing begun.
  pub record Stands (feed : Feed) (over : Over) (k : ℕ) : Type 0 where
    pub q : ℕ
    pub r : ℕ
    pub n_is : feed.n ≡ n
    pub s_is : feed.s ≡ s
    pub t_is : feed.t ≡ t
    pub at : k ≡ n * q + r
    pub r_low : r < n
    pub place_is : feed.place ≡ begin + q
    pub nth_is : feed.nth ≡ r
    pub thing_is : feed.thing ≡ over.thing
    pub began : over.since ≤ k
    pub since_is : feed.since ≡ min 3 (k - over.since)

  -- Frame k with this thing begun.
  abbrev pub frame_with : Over → ℕ → List ℕ
  frame_with over k = frame_of (odometer_at n begin k) (line_in s t over.thing (k - over.since))

  module _ (feed : Feed) (over : Over) (k : ℕ) (here : Stands feed over k) where
    -- Its next frame,
    pub next_frame : frame feed ≡ frame_with over k
    unfolding frame
    next_frame =
        let whole : k / n ≡ here.q = ap (λ (x : ℕ). x / n) here.at ∙ mul-add-div some here.q here.r ∙ ap (λ (x : ℕ). here.q + x) (div-eq_of_lt here.r_low) ∙ omega arith in
        let place : feed.place ≡ begin + k / n = here.place_is ∙ ap (λ (x : ℕ). begin + x) (sym whole) in
        let line : line_in feed.s feed.t feed.thing feed.since ≡ line_in s t over.thing (k - over.since) =
        ap₂ (λ (a b : ℕ). line_in a b feed.thing feed.since) here.s_is here.t_is
        ∙ ap₂ (λ (x : Thing) (j : ℕ). line_in s t x j) here.thing_is here.since_is ∙ counted s t over.thing (k - over.since) in
        ap₂ frame_of place line

    -- and where it stands after it.
    since_next : (after feed).since ≡ min 3 (k + 1 - over.since)
    unfolding after
    since_next = go (ltb feed.since 3) refl
      where
        go : (b : Bool) → ltb feed.since 3 ≡ b → pick b (feed.since + 1) 3 ≡ min 3 (k + 1 - over.since)
        go true is = let l = ltb-true feed.since 3 is in omega (arith, here.since_is, here.began)
        go false is = let h = ltb-false feed.since 3 is in omega (arith, here.since_is, here.began)

    pub stands_after : Stands (after feed) over (k + 1)
    unfolding after
    stands_after = go (ltb (feed.nth + 1) feed.n) refl
      where
        go : (b : Bool) → ltb (feed.nth + 1) feed.n ≡ b → Stands (after feed) over (k + 1)
        go true is =
            let l = ltb-true (feed.nth + 1) feed.n is in
            record {
              q = here.q;
              r = here.r + 1;
              n_is = here.n_is;
              s_is = here.s_is;
              t_is = here.t_is;
              at = omega (arith, here.at);
              r_low = omega (arith, here.nth_is, here.n_is);
              place_is = ap (λ (b : Bool). pick b feed.place (feed.place + 1)) is ∙ here.place_is;
              nth_is = ap (λ (b : Bool). pick b (feed.nth + 1) 0) is ∙ ap (λ (x : ℕ). x + 1) here.nth_is;
              thing_is = here.thing_is;
              began = omega (arith, here.began);
              since_is = since_next;
            }
        go false is =
            let h = ltb-false (feed.nth + 1) feed.n is in
            let next : n * suc here.q ≡ n * here.q + n = mul-suc n here.q in
            let full : here.r + 1 ≡ n = omega (arith, here.nth_is, here.n_is, here.r_low) in
            let e : suc here.q ≡ here.q + 1 = omega arith in
            record {
              q = suc here.q;
              r = 0;
              n_is = here.n_is;
              s_is = here.s_is;
              t_is = here.t_is;
              at = omega (arith, here.at, next, full);
              r_low = some;
              place_is = ap (λ (b : Bool). pick b feed.place (feed.place + 1)) is ∙ ap (λ (x : ℕ). x + 1) here.place_is ∙ omega arith;
              nth_is = ap (λ (b : Bool). pick b (feed.nth + 1) 0) is;
              thing_is = here.thing_is;
              began = omega (arith, here.began);
              since_is = since_next;
            }

    -- It lies before a decimetre whose first frame is still to come.
    pub lies_before : (to : ℕ) → begin ≤ to → k < n * (to - begin) → feed.place < to
    lies_before to from_there soon =
        let less : n * here.q < n * (to - begin) = omega (arith, here.at) in
        omega (arith, lt_of_mul-lt-mul_left n less, here.place_is)

  -- So many frames with this thing begun, from frame k on.
  unfoldable pub frames_with : Over → ℕ → ℕ → List ℕ
  frames_with over k zero = []
  frames_with over k (suc m) = frame_with over k ++ frames_with over (k + 1) m

  -- They are what the feed writes, and it stands after them.
  pub runs : (m : ℕ) (feed : Feed) (over : Over) (k to : ℕ) → Stands feed over k → begin ≤ to → k + m ≤ n * (to - begin)
      → ((frames feed to m).bytes ≡ frames_with over k m) × Stands (frames feed to m).feed over (k + m)
  unfolding frames frames_with
  runs zero feed over k to here from_there room = (refl, subst (Stands feed over) (let e : k ≡ k + 0 = omega arith in e) here)
  runs (suc m) feed over k to here from_there room =
      let low = lies_before feed over k here to from_there (omega arith) in
      let is = one feed to m low in
      let rest = runs m (after feed) over (k + 1) to (stands_after feed over k here) from_there (omega arith) in
      let e : k + 1 + m ≡ k + suc m = omega arith in (
        ap (λ (f : Fed). f.bytes) is ∙ ap₂ ◌++◌ (next_frame feed over k here) rest.0,
        subst (λ (f : Feed). Stands f over (k + suc m)) (sym (ap (λ (f : Fed). f.feed) is)) (subst (Stands (frames (after feed) to m).feed over) e rest.1),
      )
