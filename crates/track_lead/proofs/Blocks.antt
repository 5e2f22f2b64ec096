-- How the frames are cut into blocks makes no difference; a frame is sixteen bytes.
-- Assumes nothing.
use Prim.Native.Nat.{ℕ, zero, suc, ◌+◌, ◌-◌, ◌*◌, ◌/◌, ◌≤◌, ◌<◌}
use mathlib.Core.Path.{◌≡◌, refl, sym, ap, ap₂, ◌∙◌, subst}
use mathlib.Core.Bool.{Bool, true, false}
use mathlib.Core.List.{List, [], ◌++◌, append_assoc, append-nil}
use native.Mathlib.Omega.{arith}
use lib.Dec.{ltb}
use lib.ListN.{length, drop, length-append}
use borrow.Author.Tests.{lt-ltb, le-ltb, ltb-true, ltb-false}
use Rattle.text.specs.Put.{placed, put, came}
use Rattle.text.proofs.Placing.{placed_length, placed_join, placed_none}
use Rattle.text.proofs.Standing.{stands}
use Rattle.track_lead.specs.declared.Feed.{Feed}
use Rattle.track_lead.specs.Feed.{frame, after, Fed, frames, onto, write}
use Rattle.track_lead.proofs.Ones.{line_long}
use Rattle.track_lead.specs.Laws.{and_then, AnyBlocks}

-- One frame, where there is room and it lies before the end; none where it does not.
pub one : (feed : Feed) (to room : ℕ) → feed.place < to
    → frames feed to (suc room) ≡ record { feed = (frames (after feed) to room).feed; bytes = frame feed ++ (frames (after feed) to room).bytes }
unfolding frames
one feed to room low = simp (lt-ltb _ _ low)

pub none : (feed : Feed) (to room : ℕ) → to ≤ feed.place → frames feed to room ≡ record { feed = feed; bytes = [] }
unfolding frames
none feed to zero high = refl
none feed to (suc room) high = simp (le-ltb _ _ high)

pub any_blocks : AnyBlocks
unfolding frames
any_blocks feed to zero b = let e : 0 + b ≡ b = omega arith in ap (frames feed to) e
any_blocks feed to (suc a) b = by (ltb feed.place to) refl (any_blocks (after feed) to a b)
  where
    e : suc a + b ≡ suc (a + b)
    e = omega arith

    by : (t : Bool) → ltb feed.place to ≡ t → frames (after feed) to (a + b) ≡ and_then (frames (after feed) to a) to b
        → frames feed to (suc a + b) ≡ and_then (frames feed to (suc a)) to b
    by true is rest =
        let low = ltb-true feed.place to is in
        ap (frames feed to) e ∙ one feed to (a + b) low
        ∙ ap (λ (f : Fed). record { feed = f.feed; bytes = frame feed ++ f.bytes }) rest
        ∙ ap (λ (l : List ℕ). record { feed = (frames (frames (after feed) to a).feed to b).feed; bytes = l })
        (sym (append_assoc (frame feed) (frames (after feed) to a).bytes (frames (frames (after feed) to a).feed to b).bytes))
        ∙ ap (λ (f : Fed). and_then f to b) (sym (one feed to a low))
    by false is rest =
        let high = ltb-false feed.place to is in
        none feed to (suc a + b) high ∙ sym (none feed to b high) ∙ ap (λ (f : Fed). and_then f to b) (sym (none feed to (suc a) high))

-- A frame is sixteen bytes.
pub frame_long : (feed : Feed) → length (frame feed) ≡ 16
unfolding frame
frame_long feed = ap (λ (k : ℕ). suc (suc (suc (suc k)))) (line_long feed.s feed.t feed.thing feed.since)

-- ---- frame after frame into a buffer

-- The buffer after k frames, none of them refused for the end.
pub record SoFar (feed : Feed) (to : ℕ) (old new : List ℕ) (here : Feed) (k : ℕ) : Type 0 where
  pub at : here ≡ (frames feed to k).feed
  pub long : length (frames feed to k).bytes ≡ 16 * k
  pub there : new ≡ placed (frames feed to k).bytes old 0
  pub kept : length new ≡ length old

pub at_first : (feed : Feed) (to : ℕ) (old : List ℕ) → SoFar feed to old old feed 0
unfolding frames
at_first feed to old = record { at = refl; long = refl; there = sym (placed_none old 0); kept = refl }

module _ (feed : Feed) (to : ℕ) (old new : List ℕ) (here : Feed) (k : ℕ) (so : SoFar feed to old new here k) where
  -- One frame more.
  one_more : here.place < to → frames feed to (suc k) ≡ record { feed = after here; bytes = (frames feed to k).bytes ++ frame here }
  unfolding frames
  one_more low =
      let e : suc k ≡ k + 1 = omega arith in
      ap (frames feed to) e ∙ any_blocks feed to k 1
      ∙ ap (λ (f : Feed). record { feed = (frames f to 1).feed; bytes = (frames feed to k).bytes ++ (frames f to 1).bytes }) (sym so.at)
      ∙ ap (λ (f : Fed). record { feed = f.feed; bytes = (frames feed to k).bytes ++ f.bytes }) (one here to 0 low)
      ∙ ap (λ (l : List ℕ). record { feed = after here; bytes = (frames feed to k).bytes ++ l }) (append-nil (frame here))

  next_suc : (then : Feed) (out : List ℕ) (r : ℕ) → here.place < to → k < length old / 16 → then ≡ after here
      → came r out ≡ put (frame here) new (16 * k) → SoFar feed to old out then (suc k)
  next_suc then out r low room is came_there =
      let before = (frames feed to k).bytes in
      let long = frame_long here in
      let fits : 16 * k + length (frame here) ≤ length new = omega (arith, so.kept) in
      let more = one_more low in
      let put_there : out ≡ placed (frame here) new (16 * k) = (stands fits came_there).put.1 in
      let at_end : 16 * k ≡ 0 + length before = omega (arith, so.long) in
      let joined : out ≡ placed (before ++ frame here) old 0 =
      put_there ∙ ap₂ (λ (l : List ℕ) (i : ℕ). placed (frame here) l i) so.there at_end
      ∙ placed_join before old 0 (omega (arith, so.long, so.kept)) (frame here) in
      record {
        at = is ∙ ap (λ (f : Fed). f.feed) (sym more);
        long = ap (λ (f : Fed). length f.bytes) more ∙ length-append before (frame here) ∙ omega (arith, so.long, long);
        there = joined ∙ ap (λ (f : Fed). placed f.bytes old 0) (sym more);
        kept = ap length joined ∙ placed_length (before ++ frame here) old 0 (omega (arith, length-append before (frame here), so.long, long, so.kept));
      }

  pub next : (then : Feed) (bytes out : List ℕ) (r : ℕ) → here.place < to → k < length old / 16 → then ≡ after here → bytes ≡ frame here
      → came r out ≡ put bytes new (16 * k) → SoFar feed to old out then (k + 1)
  next then bytes out r low room is same came-said =
      let came_there : came r out ≡ put (frame here) new (16 * k) = came-said ∙ ap (λ (l : List ℕ). put l new (16 * k)) same in
      let e : suc k ≡ k + 1 = omega arith in
      subst (SoFar feed to old out then) e (next_suc then out r low room is came_there)

  -- What was written after k frames, if all room is used or the end is reached.
  whole : frames feed to (length old / 16) ≡ record { feed = here; bytes = (frames feed to k).bytes }
      → record { feed = here; count = 16 * k; buffer = new } ≡ write feed to old
  unfolding write placed
  whole all =
      let bytes = (frames feed to k).bytes in
      let e : 0 + length bytes ≡ length bytes = omega arith in
      ap₂ (λ (c : ℕ) (l : List ℕ). record { feed = here; count = c; buffer = l }) (sym so.long) (so.there ∙ ap (λ (i : ℕ). bytes ++ drop i old) e)
      ∙ ap (onto old) (sym all)

  pub used_up : k ≡ length old / 16 → record { feed = here; count = 16 * k; buffer = new } ≡ write feed to old
  used_up all =
      whole (ap (frames feed to) (sym all) ∙ ap (λ (f : Feed). record { feed = f; bytes = (frames feed to k).bytes }) (sym so.at))

  pub reached : to ≤ here.place → k < length old / 16 → record { feed = here; count = 16 * k; buffer = new } ≡ write feed to old
  reached high room =
      let m = length old / 16 - k in
      let e : length old / 16 ≡ k + m = omega arith in
      whole
      (ap (frames feed to) e ∙ any_blocks feed to k m
      ∙ ap (λ (f : Feed). record { feed = (frames f to m).feed; bytes = (frames feed to k).bytes ++ (frames f to m).bytes }) (sym so.at)
      ∙ ap (λ (f : Fed). record { feed = f.feed; bytes = (frames feed to k).bytes ++ f.bytes }) (none here to m high)
      ∙ ap (λ (l : List ℕ). record { feed = here; bytes = l }) (append-nil (frames feed to k).bytes))
