-- The text `0 marker`, tracked, recorded and traced with every call in full: the hypotheses of the
-- whole way are met.
-- Assumes nothing.
use Prim.Native.Nat.{ℕ}
use mathlib.Core.Path.{refl}
use mathlib.Core.Logic.{inr}
use mathlib.Core.List.{List, [], ◌∷◌, ◌++◌}
use native.Mathlib.Omega.{arith}
use lib.ListN.{take, replicate}
use Rattle.text.specs.Text.{codes}
use Rattle.lines.specs.Text.{beginning}
use Rattle.lines.specs.Words.{no_words, kept}
use Rattle.lines.specs.Reading as reads
use Rattle.lines.specs.Reading.{digit_on, number_on, letters_on, no_letters, letter_on, named, byte_of, done, character, whole, unfinished, line_from, next_line}
use Rattle.lines_laws.specs.Texts.{line, ReadOut}
use Rattle.figures.specs.Figures.{hex_digit, hex}
use Rattle.trace_text.specs.declared.What.{What}
use Rattle.trace_text.specs.declared.MakingWent.{MakingWent}
use Rattle.trace_text.specs.Said.{what_of, said}
use Rattle.trace_text.specs.Record.{record_of_meant}
use Rattle.trace_text_laws.specs.Texts.{made, Comes, no_more, nothing, thing, Taken}
use Rattle.trace_text_laws.proofs.OneLine.{lent, lent_out, first, last, read_out}
use Rattle.track_text.specs.Read.{read}
use Rattle.track_lead.specs.declared.Thing.{Thing}
use Rattle.track_lead.specs.declared.Place.{Place}
use Rattle.track_lead.specs.declared.TrackWay.{TrackWay}
use Rattle.track_lead.specs.declared.Feed.{Feed}
use Rattle.track_lead.specs.Way as ways
use Rattle.track_lead.specs.Feed.{begin, passes, frame, after, frames, write}
use Rattle.track_lead.specs.Sent.{line_in}
use Rattle.track_laws.specs.Sure.{Sure}
use Rattle.track_laws.specs.ByCalls.{Tracked}
use Rattle.track_laws.specs.ByCalls as calls

abbrev text : List ℕ
text = codes "0 marker\n"

-- ---- its lines

abbrev pub marker : List ℕ
marker = 0 ∷ 0 ∷ 0 ∷ 0 ∷ 1 ∷ 0 ∷ 0 ∷ 0 ∷ []

all_read : ReadOut text [] ((first text).line ∷ (last text).line ∷ [])
unfolding beginning next_line line_from character reads.fresh no_words no_letters letter_on number_on digit_on letters_on reads.closed kept done byte_of named whole unfinished
all_read = read_out text refl refl refl

comes : Comes ((first text).line ∷ (last text).line ∷ []) (made (marker ∷ []))
unfolding beginning next_line line_from character reads.fresh no_words no_letters letter_on number_on digit_on letters_on reads.closed kept done byte_of hex hex_digit named whole unfinished said what_of record_of_meant
comes =
    thing {place = 0} {what = What.Marker} (record { bytes = marker; how = MakingWent.Made }) (((first text).line, tt), refl) ((0, (What.Marker, tt)), refl) refl
    (nothing (((last text).line, tt), refl) no_more)

pub taken_met : Taken text (made (marker ∷ []))
taken_met = record { first = text; others = []; whole = refl; enough = inr refl; lines = (first text).line ∷ (last text).line ∷ []; read = all_read; comes = comes }

-- ---- its lead: a frame of zeroes, then ten of ones

abbrev frame_of : ℕ → ℕ → List ℕ
frame_of odometer a = 0 ∷ 0 ∷ 0 ∷ odometer ∷ a ∷ a ∷ a ∷ a ∷ a ∷ a ∷ a ∷ a ∷ a ∷ a ∷ a ∷ a ∷ []

abbrev pub lead : List ℕ
lead = frame_of 0 0 ++ frame_of 1 255 ++ frame_of 2 255 ++ frame_of 3 255 ++ frame_of 4 255 ++ frame_of 5 255 ++ frame_of 6 255 ++ frame_of 7 255 ++ frame_of 8 255 ++ frame_of 9 255 ++ frame_of 10 255

abbrev way : TrackWay
way = record { first = Place.At 0; last = 0; thing = Place.At 0 }

abbrev at_first : Feed
at_first = record { n = 1; s = 0x72; t = 0x0d; place = 0; nth = 0; thing = Thing.Nothing; since = 0 }

abbrev over_it : Feed
over_it = record { n = 1; s = 0x72; t = 0x0d; place = 0; nth = 0; thing = Thing.Marker; since = 0 }

abbrev at_last : Feed
at_last = record { n = 1; s = 0x72; t = 0x0d; place = 11; nth = 0; thing = Thing.Marker; since = 3 }

abbrev room : List ℕ
room = replicate 176 0

abbrev small : List ℕ
small = replicate 16 0

items_are : calls.Items ((first text).line ∷ (last text).line ∷ []) (record { place = 0; thing = Thing.Marker } ∷ [])
unfolding beginning next_line line_from character reads.fresh no_words no_letters letter_on number_on digit_on letters_on reads.closed kept done byte_of hex hex_digit named whole unfinished said what_of read
items_are = calls.thing 0 Thing.Marker (((first text).line, tt), refl) (calls.nothing (((last text).line, tt), refl) calls.none)

feeds : calls.Feeds 11 at_first (record { place = 0; thing = Thing.Marker } ∷ []) (lead ++ [])
unfolding write frames frame after line_in passes
feeds =
    calls.passing {there = at_first} {next = over_it} {bytes = []} {rest = lead ++ []} refl
    (calls.no_more small small (record { feed = at_first; count = 0 }) (omega arith) (([], tt), lent_out small, (at_first, (0, (lent_out small, tt))), refl, refl, refl) refl)
    ((at_first, (Thing.Marker, tt)), refl)
    (calls.end
    (calls.some {last = at_last} room lead (record { feed = at_last; count = 176 }) (omega arith) (([], tt), lent_out room, (over_it, (11, (lent_out lead, tt))), refl, refl, refl) (λ e. omega arith)
    (calls.no_more small small (record { feed = at_last; count = 0 }) (omega arith) (([], tt), lent_out small, (at_last, (11, (lent_out small, tt))), refl, refl, refl) refl)))

pub tracked_met : Tracked 1 0x72 0x0d text (lead ++ [])
unfolding ways.fresh ways.take ways.after ways.until ways.from begin
tracked_met =
    record {
      first = text;
      others = [];
      whole = refl;
      enough = inr refl;
      lines = (first text).line ∷ (last text).line ∷ [];
      read = all_read;
      items = record { place = 0; thing = Thing.Marker } ∷ [];
      are = items_are;
      fresh = ways.fresh;
      is_fresh = (tt, refl);
      way = way;
      goes = calls.on {next = way} ((ways.fresh, (0, (Thing.Marker, tt))), refl) calls.none;
      feed = at_first;
      begins = ((way, (1, (0x72, (0x0d, tt)))), refl);
      to = 11;
      ends = ((way, tt), refl);
      feeds = feeds;
    }

pub sure_met : Sure 0x72 0x0d tracked_met.items
unfolding tracked_met
sure_met = (omega arith, tt)
