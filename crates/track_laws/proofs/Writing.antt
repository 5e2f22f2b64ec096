-- Asked on and on until nothing comes, `write` writes all frames before a decimetre: once the feed
-- has come to it, more room makes no difference.
-- Assumes nothing.
use Prim.Native.Nat.{ℕ, zero, suc, ◌+◌, ◌-◌, ◌*◌, ◌/◌, ◌≤◌, ◌<◌}
use mathlib.Core.Path.{◌≡◌, refl, sym, ap, ap₂, ◌∙◌, subst}
use mathlib.Core.Bool.{Bool, true, false}
use mathlib.Core.List.{List, [], ◌++◌, append-nil}
use native.Mathlib.Omega.{arith}
use native.Mathlib.Nat.{mul-suc}
use lib.Dec.{ltb}
use lib.ListN.{length, take, length-append}
use lib.Seq.{take_at}
use borrow.Author.Tests.{ltb-true, ltb-false}
use Rattle.words.specs.Answer.{pick}
use Rattle.track_lead.specs.declared.Feed.{Feed}
use Rattle.track_lead.specs.declared.Wrote.{Wrote}
use Rattle.track_lead.specs.Feed.{frame, after, Fed, frames, Writing, write}
use Rattle.track_lead.specs.Laws.{left, all_to}
use Rattle.track_lead.proofs.Blocks.{one, none, any_blocks, frame_long}
use Rattle.track_laws.specs.Calls.{WriteFrames}
use Rattle.track_laws.specs.ByCalls.{WritesTo, some, no_more}

-- A feed counts the frames of a decimetre below their number.
abbrev pub Counts : Feed → Type 0
Counts feed = feed.nth < feed.n

counts_after : (feed : Feed) → Counts feed → Counts (after feed)
unfolding after
counts_after feed h = by (ltb (feed.nth + 1) feed.n) refl
  where
    by : (b : Bool) → ltb (feed.nth + 1) feed.n ≡ b → pick b (feed.nth + 1) 0 < feed.n
    by true e = ltb-true (feed.nth + 1) feed.n e
    by false e = omega arith

by_room : (feed : Feed) (to room : ℕ) (P : Fed → Type 0) → P (record { feed = feed; bytes = [] })
    → (feed.place < to → P (record { feed = (frames (after feed) to room).feed; bytes = frame feed ++ (frames (after feed) to room).bytes })) → P (frames feed to (suc room))
by_room feed to room P stays goes = go (ltb feed.place to) refl
  where
    go : (b : Bool) → ltb feed.place to ≡ b → P (frames feed to (suc room))
    go true e = let low = ltb-true feed.place to e in subst P (sym (one feed to room low)) (goes low)
    go false e = subst P (sym (none feed to (suc room) (ltb-false feed.place to e))) stays

pub counts_on : (room : ℕ) (feed : Feed) (to : ℕ) → Counts feed → Counts (frames feed to room).feed
unfolding frames
counts_on zero feed to h = h
counts_on (suc room) feed to h = by_room feed to room (λ (f : Fed). Counts f.feed) h (λ low. counts_on room (after feed) to (counts_after feed h))

-- One frame less is left after each.
left_after : (feed : Feed) (to m : ℕ) → Counts feed → feed.place < to → left feed to ≡ suc m → left (after feed) to ≡ m
unfolding after
left_after feed to m h low is = by (ltb (feed.nth + 1) feed.n) refl
  where
    d : ℕ
    d = to - feed.place - 1

    by : (b : Bool) → ltb (feed.nth + 1) feed.n ≡ b → feed.n * (to - pick b feed.place (feed.place + 1)) - pick b (feed.nth + 1) 0 ≡ m
    by true e = omega arith
    by false e =
        let last = ltb-false (feed.nth + 1) feed.n e in
        let more : feed.n * suc d ≡ feed.n * d + feed.n = mul-suc feed.n d in
        let this : feed.n * (to - feed.place) ≡ feed.n * suc d = ap (λ (k : ℕ). feed.n * k) (let z : to - feed.place ≡ suc d = omega arith in z) in
        let next : feed.n * (to - (feed.place + 1)) ≡ feed.n * d = ap (λ (k : ℕ). feed.n * k) (let z : to - (feed.place + 1) ≡ d = omega arith in z) in
        omega (arith, more, this, next, is)

-- After all that are left the feed has come to the decimetre.
none_left : (feed : Feed) (to : ℕ) → Counts feed → left feed to ≡ 0 → to ≤ feed.place
none_left feed to h is = by (ltb feed.place to) refl
  where
    by : (b : Bool) → ltb feed.place to ≡ b → to ≤ feed.place
    by false e = ltb-false feed.place to e
    by true e =
        let low = ltb-true feed.place to e in
        let d : ℕ = to - feed.place - 1 in
        let more : feed.n * suc d ≡ feed.n * d + feed.n = mul-suc feed.n d in
        let this : feed.n * (to - feed.place) ≡ feed.n * suc d = ap (λ (k : ℕ). feed.n * k) (let z : to - feed.place ≡ suc d = omega arith in z) in
        omega (arith, more, this, is)

comes_to : (m : ℕ) (feed : Feed) (to : ℕ) → Counts feed → left feed to ≡ m → to ≤ (frames feed to m).feed.place
unfolding frames
comes_to zero feed to h is = none_left feed to h is
comes_to (suc m) feed to h is = go (ltb feed.place to) refl (λ low. comes_to m (after feed) to (counts_after feed h) (left_after feed to m h low is))
  where
    go : (b : Bool) → ltb feed.place to ≡ b → (feed.place < to → to ≤ (frames (after feed) to m).feed.place)
        → to ≤ (pick {A = Fed} b (record { feed = (frames (after feed) to m).feed; bytes = frame feed ++ (frames (after feed) to m).bytes }) (record { feed = feed; bytes = [] })).feed.place
    go false e next = ltb-false feed.place to e
    go true e next = next (ltb-true feed.place to e)

-- More room makes no difference then.
finished : (feed : Feed) (to a b : ℕ) → to ≤ (frames feed to a).feed.place → frames feed to (a + b) ≡ frames feed to a
finished feed to a b high =
    any_blocks feed to a b
    ∙ ap (λ (f : Fed). record { feed = f.feed; bytes = (frames feed to a).bytes ++ f.bytes }) (none (frames feed to a).feed to b high)
    ∙ ap (λ (l : List ℕ). record { feed = (frames feed to a).feed; bytes = l }) (append-nil (frames feed to a).bytes)

alike : (feed : Feed) (to a b : ℕ) → to ≤ (frames feed to a).feed.place → to ≤ (frames feed to b).feed.place → frames feed to a ≡ frames feed to b
alike feed to a b h k = by (ltb a b) refl
  where
    by : (t : Bool) → ltb a b ≡ t → frames feed to a ≡ frames feed to b
    by true e =
        let low = ltb-true a b e in
        let is : a + (b - a) ≡ b = omega arith in
        sym (finished feed to a (b - a) h) ∙ ap (frames feed to) is
    by false e =
        let high = ltb-false a b e in
        let is : b + (a - b) ≡ a = omega arith in
        sym (ap (frames feed to) is) ∙ finished feed to b (a - b) k

-- ---- the calls

-- What a call writes.
called : (feed : Feed) (to : ℕ) (before after : List ℕ) (r : Wrote) → WriteFrames feed to before r after
    → (r.feed ≡ (frames feed to (length before / 16)).feed) × (take r.count after ≡ (frames feed to (length before / 16)).bytes) × (r.count ≡ length (frames feed to (length before / 16)).bytes)
unfolding write
called feed to before after r c =
    let is : record { feed = r.feed; count = r.count; buffer = after } ≡ write feed to before =
    ap (λ (l : List ℕ). record { feed = r.feed; count = r.count; buffer = l }) (sym c.4) ∙ c.5 ∙ ap (write feed to) c.3 in
    let count : r.count ≡ length (frames feed to (length before / 16)).bytes = ap (λ (w : Writing). w.count) is in (
      ap (λ (w : Writing). w.feed) is,
      ap (take r.count) (ap (λ (w : Writing). w.buffer) is) ∙ take_at (frames feed to (length before / 16)).bytes _ r.count (sym count),
      count,
    )

-- Nothing comes only where the feed has come to the decimetre.
nothing_comes : (feed : Feed) (to room : ℕ) → length (frames feed to (suc room)).bytes ≡ 0 → to ≤ feed.place
nothing_comes feed to room is = by (ltb feed.place to) refl
  where
    by : (b : Bool) → ltb feed.place to ≡ b → to ≤ feed.place
    by false e = ltb-false feed.place to e
    by true e =
        let whole = one feed to room (ltb-true feed.place to e) in
        let long : length (frames feed to (suc room)).bytes ≡ length (frame feed) + length (frames (after feed) to room).bytes =
        ap (λ (f : Fed). length f.bytes) whole ∙ length-append (frame feed) (frames (after feed) to room).bytes in
        absurd (omega (arith, long, is, frame_long feed))

-- What was written, as frames.
record As (feed : Feed) (to : ℕ) (bytes : List ℕ) (last : Feed) : Type 0 where
  pub room : ℕ
  pub is : frames feed to room ≡ record { feed = last; bytes = bytes }
  pub there : to ≤ last.place

as_frames : (to : ℕ) (feed : Feed) (bytes : List ℕ) (last : Feed) → WritesTo to feed bytes last → As feed to bytes last
unfolding frames
as_frames to feed _ last (some {rest = rest} before after r room wrote more next) =
    let a : ℕ = length before / 16 in
    let c = called feed to before after r wrote in
    let later = as_frames to r.feed rest last next in
    record {
      room = a + later.room;
      is = any_blocks feed to a later.room
          ∙ ap₂ (λ (f : Feed) (l : List ℕ). record { feed = (frames f to later.room).feed; bytes = l ++ (frames f to later.room).bytes }) (sym c.0) (sym c.1)
          ∙ ap (λ (f : Fed). record { feed = f.feed; bytes = take r.count after ++ f.bytes }) later.is;
      there = later.there;
    }
as_frames to feed _ _ (no_more before after r room wrote none_came) =
    let a : ℕ = length before / 16 - 1 in
    let c = called feed to before after r wrote in
    let one_more : length before / 16 ≡ suc a = omega arith in
    let empty : length (frames feed to (suc a)).bytes ≡ 0 = ap (λ (k : ℕ). length (frames feed to k).bytes) (sym one_more) ∙ sym c.2 ∙ none_came in
    let high = nothing_comes feed to a empty in
    let same : r.feed ≡ feed = c.0 ∙ ap (λ (f : Fed). f.feed) (none feed to (length before / 16) high) in
    record {
      room = 0;
      is = ap (λ (f : Feed). record { feed = f; bytes = [] }) (sym same);
      there = subst (λ (f : Feed). to ≤ f.place) (sym same) high;
    }

-- They are all frames before the decimetre.
pub written : (to : ℕ) (feed : Feed) (bytes : List ℕ) (last : Feed) → Counts feed → WritesTo to feed bytes last → all_to feed to ≡ record { feed = last; bytes = bytes }
written to feed bytes last h w =
    let it = as_frames to feed bytes last w in
    alike feed to (left feed to) it.room (comes_to (left feed to) feed to h refl) (subst (λ (f : Fed). to ≤ f.feed.place) (sym it.is) it.there) ∙ it.is
