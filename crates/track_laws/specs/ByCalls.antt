-- The whole way by calls: what `track` writes of a text, what `record` makes of that, and what
-- `trace` makes of the text, for any answers that the contracts of the functions that they call
-- allow (docs/LEAD.md). Shown in proofs/ByCalls.antt.
-- Assumes nothing.
use Rattle.std.specs.Prelude.{ℕ, ◌≤◌, ◌<◌, ◌≡◌, true, false, List, [], ◌∷◌, ◌++◌, length, take}
use Rattle.settings.specs.declared.Store.{Store}
use Rattle.lines.specs.declared.TextLine.{TextLine}
use Rattle.lines_laws.specs.Texts.{ReadOut, Enough}
use Rattle.lines_laws.specs.Texts as texts
use Rattle.trace_text_laws.specs.Texts.{Result, made, Taken}
use Rattle.track_text.specs.declared.Entry.{Entry}
use Rattle.track_lead.specs.declared.Thing.{Thing}
use Rattle.track_lead.specs.declared.TrackWay.{TrackWay}
use Rattle.track_lead.specs.declared.Taken.{Taken as OneTaken}
use Rattle.track_lead.specs.declared.Feed.{Feed}
use Rattle.track_lead.specs.declared.Wrote.{Wrote}
use Rattle.track_lead.specs.Way.{is_sent}
use Rattle.track_lead.specs.Lead.{Item}
use Rattle.recording.specs.Contacts.{without_positions}
use Rattle.recording_laws.specs.Recorded.{Recorded, WholeFrames, joined}
use Rattle.track_laws.specs.Calls.{ReadsAs, FreshWay, TakeLine, Until, BeginFeed, Passes, WriteFrames}
use Rattle.track_laws.specs.Sure.{Pair, Sure}
use Rattle.track_laws.specs.WholeWay.{Throughout}

-- ---- `track`

-- Each line read by `track_text::read`: what stands where, in order.
pub data Items : List TextLine → List Item → Type 0 where
  none : Items [] []
  nothing : {l : TextLine} {ls : List TextLine} {items : List Item} → ReadsAs l Entry.Nothing → Items ls items → Items (l ∷ ls) items
  thing : {l : TextLine} {ls : List TextLine} {items : List Item} (place : ℕ) (thing : Thing) → ReadsAs l (Entry.At place thing) → Items ls items
      → Items (l ∷ ls) (record { place = place; thing = thing } ∷ items)

-- The first pass: each is taken.
pub data Goes : TrackWay → List Item → TrackWay → Type 0 where
  none : {way : TrackWay} → Goes way [] way
  on : {way next last : TrackWay} {item : Item} {items : List Item} → TakeLine way item.place item.thing (OneTaken.On next) → Goes next items last → Goes way (item ∷ items) last

-- `write` is asked on and on, into buffers with room for a frame, until nothing comes: all frames
-- before the decimetre `to`.
pub data WritesTo (to : ℕ) : Feed → List ℕ → Feed → Type 0 where
  some : {feed last : Feed} {rest : List ℕ} (before after : List ℕ) (r : Wrote) → 16 ≤ length before → WriteFrames feed to before r after → (r.count ≡ 0 → ⊥)
      → WritesTo to r.feed rest last → WritesTo to feed (take r.count after ++ rest) last
  no_more : {feed : Feed} (before after : List ℕ) (r : Wrote) → 16 ≤ length before → WriteFrames feed to before r after → r.count ≡ 0 → WritesTo to feed [] r.feed

-- The second pass: the frames before each thing, then it passes; a position passes nothing; at last
-- the frames to the way's end.
pub data Feeds (to : ℕ) : Feed → List Item → List ℕ → Type 0 where
  end : {feed last : Feed} {bytes : List ℕ} → WritesTo to feed bytes last → Feeds to feed [] bytes
  position : {feed : Feed} {item : Item} {items : List Item} {bytes : List ℕ} → is_sent item.thing ≡ false → Feeds to feed items bytes → Feeds to feed (item ∷ items) bytes
  passing : {feed there next : Feed} {item : Item} {items : List Item} {bytes rest : List ℕ} → is_sent item.thing ≡ true
      → WritesTo item.place feed bytes there → Passes there item.thing next → Feeds to next items rest → Feeds to feed (item ∷ items) (bytes ++ rest)

-- `track` wrote this lead of a text, with n frames to each decimetre and this pair.
pub record Tracked (n s t : ℕ) (text lead : List ℕ) : Type 0 where
  pub first : List ℕ
  pub others : List (List ℕ)
  pub whole : first ++ texts.joined others ≡ text
  pub enough : Enough first others
  pub lines : List TextLine
  pub read : ReadOut first others lines
  pub items : List Item
  pub are : Items lines items
  pub fresh : TrackWay
  pub is_fresh : FreshWay fresh
  pub way : TrackWay
  pub goes : Goes fresh items way
  pub feed : Feed
  pub begins : BeginFeed way n s t feed
  pub to : ℕ
  pub ends : Until way to
  pub feeds : Feeds to feed items lead

-- ---- the law

-- "For every text of audible balises, markers and unreadables at least 4 dm apart, with a good pair
-- of which no word ends in four ones, the records of kinds 0 to 2 that `record` makes of `track`'s
-- lead are those that `trace` makes of the text, at the same places, in the same order." (That they
-- lie at least 4 dm apart is what `track` takes; `trace` refuses none of them.)
abbrev pub TheWholeWay : Type 0
TheWholeWay =
    (n s t : ℕ) (text lead : List ℕ) (store : Store) (pieces records : List (List ℕ)) (result : Result) (tracked : Tracked n s t text lead)
    → 0 < n → n ≤ 1000 → Pair s t → Sure s t tracked.items → Throughout store s t
    → WholeFrames pieces → joined pieces ≡ lead → Recorded store pieces records → Taken text result
    → (typed : List (List ℕ)) × (result ≡ made typed) × (without_positions records ≡ without_positions typed)
