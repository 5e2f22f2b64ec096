-- The whole way: by the contracts, `track` writes the lead of its text, `record` makes the records
-- of that lead, and `trace` those of the text.
-- Assumes nothing.
use Prim.Native.Nat.{ℕ, ◌<◌}
use mathlib.Core.Path.{◌≡◌, refl, sym, ap, ap₂, ◌∙◌, subst}
use mathlib.Core.Bool.{Bool, true, false}
use mathlib.Core.List.{List, [], ◌∷◌, ◌++◌}
use lib.Dec.{eqb}
use Rattle.words.specs.Answer.{Answer, Outcome, gives, refuses, then, pick}
use Rattle.words.proofs.Never.{cannot_be}
use Rattle.telegram.specs.Spelling.{Words, asked, spell}
use Rattle.lines.specs.declared.TextLine.{TextLine}
use Rattle.lines_laws.specs.Texts.{kept_of}
use Rattle.lines.specs.Text.{lines_in}
use Rattle.lines_laws.proofs.Texts.{all_lines}
use Rattle.trace_text_laws.proofs.Told.{says_nothing, split}
use Rattle.trace_text.specs.declared.What.{What}
use Rattle.trace_text.specs.declared.Said.{Said}
use Rattle.trace_text.specs.Said.{said}
use Rattle.trace_text.specs.Record.{record_of_meant, bytes_of}
use Rattle.trace_text_laws.specs.Texts.{Result, made, before, Comes, no_more}
use Rattle.track_text.specs.declared.Entry.{Entry}
use Rattle.track_text.specs.Read.{balise, thing_at, read_said, read}
use Rattle.track_lead.specs.declared.Thing.{Thing}
use Rattle.track_lead.specs.declared.TrackWay.{TrackWay}
use Rattle.track_lead.specs.declared.Feed.{Feed}
use Rattle.track_lead.specs.Way.{Bad}
use Rattle.track_lead.specs.Way as ways
use Rattle.track_lead.specs.Feed.{Fed, begin, passes}
use Rattle.track_lead.specs.Lead.{Item, way_from, way_of, lead_of}
use Rattle.track_lead.specs.Laws.{all_to, fed}
use Rattle.track_lead.proofs.TheLead.{feeds_the_lead}
use Rattle.recording.specs.Recording.{recorded}
use Rattle.recording.specs.Contacts.{without_positions}
use Rattle.recording_laws.proofs.Recorded.{as_a_whole}
use Rattle.track_laws.specs.Sure.{with_item, records_of}
use Rattle.track_laws.specs.ByCalls.{Items, Goes, on, Feeds, end, position, passing, TheWholeWay}
use Rattle.track_laws.specs.ByCalls as calls
use Rattle.track_laws.proofs.WholeWay.{whole_way}
use Rattle.track_laws.proofs.Writing.{Counts, written, counts_on}

-- ---- `track` takes the lines, and writes their lead

is_way : {way last : TrackWay} {items : List Item} → Goes way items last → way_from way items ≡ gives last
unfolding way_from
is_way calls.none = refl
is_way {way} {last} (on {next = next} {item = item} {items = items} taken rest) =
    ap (λ (a : Answer Bad TrackWay). then a (λ w. way_from w items)) (sym taken.1) ∙ is_way rest

counts_passes : (feed : Feed) (thing : Thing) → Counts feed → Counts (passes feed thing)
unfolding passes
counts_passes feed thing h = h

is_fed : (to : ℕ) (feed : Feed) (items : List Item) (bytes : List ℕ) → Counts feed → Feeds to feed items bytes → fed feed items to ≡ bytes
unfolding fed
is_fed to feed _ bytes h (end {last = last} all) = ap (λ (f : Fed). f.bytes) (written to feed bytes last h all)
is_fed to feed _ bytes h (position {item = item} {items = items} none rest) =
    ap (λ (b : Bool). pick b ((all_to feed item.place).bytes ++ fed (passes (all_to feed item.place).feed item.thing) items to) (fed feed items to)) none
    ∙ is_fed to feed items bytes h rest
is_fed to feed _ _ h (passing {there = there} {next = next} {item = item} {items = items} {bytes = bytes} {rest = more} sent before passed rest) =
    let first = written item.place feed bytes there h before in
    let counts : Counts there = subst (λ (f : Fed). Counts f.feed) first (counts_on _ feed item.place h) in
    let then_counts : Counts next = subst Counts (sym passed.1) (counts_passes there item.thing counts) in
    ap (λ (b : Bool). pick b ((all_to feed item.place).bytes ++ fed (passes (all_to feed item.place).feed item.thing) items to) (fed feed items to)) sent
    ∙ ap (λ (f : Fed). f.bytes ++ fed (passes f.feed item.thing) items to) first
    ∙ ap (λ (f : Feed). bytes ++ fed f items to) (sym passed.1)
    ∙ ap (λ (l : List ℕ). bytes ++ l) (is_fed to next items more then_counts rest)

-- ---- `trace` makes the records of the same lines

-- A thing that `track` takes has a record; that of a thing which is sent is no position.
record Same (place : ℕ) (what : What) (thing : Thing) : Type 0 where
  pub bytes : List ℕ
  pub has : record_of_meant place what ≡ gives bytes
  pub counted : (rs : List (List ℕ)) → without_positions (bytes ∷ rs) ≡ with_item place thing (without_positions rs)

same : (place : ℕ) (what : What) (at : ℕ) (thing : Thing) → thing_at place what ≡ Entry.At at thing → (at ≡ place) × Same place what thing
unfolding record_of_meant without_positions
same place (What.Balise x y z) at thing e = by (spell (asked x y z)) refl e
  where
    either : (b : Bool) → pick b Entry.TooLarge Entry.Fifteen ≡ Entry.At at thing → (at ≡ place) × Same place (What.Balise x y z) thing
    either true e = cannot_be cc
    either false e = cannot_be cc

    by : (o : Outcome Words) → spell (asked x y z) ≡ o → balise place o ≡ Entry.At at thing → (at ≡ place) × Same place (What.Balise x y z) thing
    by (gives w) is e =
        let p : at ≡ place = cc in
        let t : Thing.Balise w.x w.y w.z ≡ thing = cc in (
          p,
          record {
            bytes = bytes_of place 0 w.x w.y w.z;
            has = ap (λ (o : Outcome Words). then o (λ v. gives (bytes_of place 0 v.x v.y v.z))) is;
            counted = λ rs. ap (λ (v : Thing). with_item place v (without_positions rs)) t;
          },
        )
    by (refuses n) is e = either (eqb n 2) e
same place What.Marker at thing e =
    let p : at ≡ place = cc in
    let t : Thing.Marker ≡ thing = cc in
    (p, record { bytes = bytes_of place 1 0 0 0; has = refl; counted = λ rs. ap (λ (v : Thing). with_item place v (without_positions rs)) t })
same place What.Unreadable at thing e =
    let p : at ≡ place = cc in
    let t : Thing.Unreadable ≡ thing = cc in
    (p, record { bytes = bytes_of place 2 0 0 0; has = refl; counted = λ rs. ap (λ (v : Thing). with_item place v (without_positions rs)) t })
same place What.Position at thing e =
    let p : at ≡ place = cc in
    let t : Thing.Nothing ≡ thing = cc in
    (p, record { bytes = bytes_of place 3 0 0 0; has = refl; counted = λ rs. ap (λ (v : Thing). with_item place v (without_positions rs)) t })
same place (What.Raw kind x y z) at thing e = cannot_be cc

-- What `trace` makes of the lines that `track` takes.
abbrev Makes : List Item → Result → Type 0
Makes items r = (typed : List (List ℕ)) × (r ≡ made typed) × (without_positions typed ≡ records_of items)

no_nothing : (place : ℕ) (what : What) → thing_at place what ≡ Entry.Nothing → ⊥
no_nothing place (What.Balise x y z) e = by (spell (asked x y z)) e
  where
    either : (b : Bool) → pick b Entry.TooLarge Entry.Fifteen ≡ Entry.Nothing → ⊥
    either true e = cannot_be cc
    either false e = cannot_be cc

    by : (o : Outcome Words) → balise place o ≡ Entry.Nothing → ⊥
    by (gives w) e = cannot_be cc
    by (refuses n) e = either (eqb n 2) e
no_nothing place What.Marker e = cannot_be cc
no_nothing place What.Unreadable e = cannot_be cc
no_nothing place What.Position e = cannot_be cc
no_nothing place (What.Raw kind x y z) e = cannot_be cc

-- A line in which `track` sees nothing has nothing for `trace`,
nothing_said : (s : Said) → read_said s ≡ Entry.Nothing → s ≡ Said.Nothing
nothing_said Said.Nothing e = refl
nothing_said (Said.Thing place what) e = absurd (no_nothing place what e)
nothing_said Said.Unreadable e = cannot_be cc

-- and one in which it sees a thing has that thing.
record SaysSame (s : Said) (at : ℕ) (thing : Thing) : Type 0 where
  pub what : What
  pub is : s ≡ Said.Thing at what
  pub record_of : Same at what thing

thing_said : (s : Said) (at : ℕ) (thing : Thing) → read_said s ≡ Entry.At at thing → SaysSame s at thing
thing_said Said.Nothing at thing e = cannot_be cc
thing_said (Said.Thing place what) at thing e =
    let it = same place what at thing e in
    record { what = what; is = ap (λ (p : ℕ). Said.Thing p what) (sym it.0); record_of = subst (λ (p : ℕ). Same p what thing) (sym it.0) it.1 }
thing_said Said.Unreadable at thing e = cannot_be cc

read_said_law : (l : TextLine) → read l ≡ read_said (said l)
unfolding read
read_said_law l = refl

with_record : (bytes : List ℕ) (item : Item) (items : List Item) (r rest : Result) → r ≡ before bytes rest
    → ((rs : List (List ℕ)) → without_positions (bytes ∷ rs) ≡ with_item item.place item.thing (without_positions rs)) → Makes items rest → Makes (item ∷ items) r
unfolding records_of
with_record bytes item items r rest is counted (typed, Made-so, are) =
    (bytes ∷ typed, is ∙ ap (before bytes) Made-so, counted typed ∙ ap (with_item item.place item.thing) are)

no_lines : (r : Result) → Comes [] r → Makes [] r
unfolding without_positions records_of
no_lines _ no_more = ([], refl, refl)

of_lines : (lines : List TextLine) (items : List Item) → Items lines items → (r : Result) → Comes lines r → Makes items r
of_lines _ _ calls.none r comes = no_lines r comes
of_lines _ _ (calls.nothing {l = l} {ls = ls} {items = items} reads rest) r comes =
    of_lines ls items rest r (says_nothing l ls r (nothing_said (said l) (sym (reads.1 ∙ read_said_law l))) comes)
of_lines _ _ (calls.thing {l = l} {ls = ls} {items = items} place thing reads rest) r comes =
    let it = thing_said (said l) place thing (sym (reads.1 ∙ read_said_law l)) in
    let parts = split l ls place it.what it.record_of.bytes r it.is it.record_of.has comes in
    with_record it.record_of.bytes (record { place = place; thing = thing }) items r parts.0 parts.2 it.record_of.counted (of_lines ls items rest parts.0 parts.1)

-- ---- the whole way

begins_counting : (way : TrackWay) (n s t : ℕ) → 0 < n → Counts (begin way n s t)
unfolding begin
begins_counting way n s t some = some

pub the_whole_way : TheWholeWay
unfolding way_of
the_whole_way n s t text lead store pieces records result tracked some few pair sure held whole is recording taken =
    let items = tracked.items in
    let way = tracked.way in
    let goes : way_from ways.fresh items ≡ gives way = ap (λ (w : TrackWay). way_from w items) (sym tracked.is_fresh.1) ∙ is_way tracked.goes in
    let feed_is : tracked.feed ≡ begin way n s t = tracked.begins.1 in
    let counts : Counts tracked.feed = subst Counts (sym feed_is) (begins_counting way n s t some) in
    let its_lead : lead ≡ lead_of n s t way items =
    sym (is_fed tracked.to tracked.feed items lead counts tracked.feeds)
    ∙ ap₂ (λ (f : Feed) (e : ℕ). fed f items e) feed_is tracked.ends.1
    ∙ feeds_the_lead n s t items way some goes in
    let of_text = all_lines tracked.first tracked.others tracked.lines tracked.enough tracked.read ∙ ap (λ (l : List ℕ). kept_of (lines_in l)) tracked.whole in
    let same_text = all_lines taken.first taken.others taken.lines taken.enough taken.read ∙ ap (λ (l : List ℕ). kept_of (lines_in l)) taken.whole in
    let typed = of_lines tracked.lines items tracked.are result (subst (λ (ls : List TextLine). Comes ls result) (same_text ∙ sym of_text) taken.comes) in
    let recorded_so : without_positions records ≡ records_of items =
    ap without_positions (as_a_whole.of_the_lead store pieces records whole recording ∙ ap (recorded store) (is ∙ its_lead))
    ∙ whole_way n s t items way store some few goes pair sure held in
    (typed.0, typed.1, recorded_so ∙ sym typed.2)
