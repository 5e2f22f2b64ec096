-- Balises and markers passed clean, one after the other (crates/contact_laws/specs/Row.antt), give
-- exactly their records, in order, at their places.
-- Assumes nothing.
use Rattle.std.specs.Prelude.{ℕ, ◌+◌, ◌/◌, ◌≤◌, ◌<◌, ◌≡◌, true, List, [], ◌∷◌}
use Rattle.telegram.specs.Sync.{is_good}
use Rattle.settings.specs.declared.Store.{Store}
use Rattle.contact.specs.Contacts.{Contacts}
use Rattle.contact_laws.specs.Calls.{Listened}
use Rattle.contact_laws.specs.Pass.{between, cut_bits}
use Rattle.contact_laws.specs.Row.{Thing, balise, marker, Row}
use Rattle.antenna.specs.Line.{Told}
use Rattle.recorder.specs.Record.{bytes_of, blank}
use Rattle.recording.specs.Recording.{recorded}
use Rattle.recording.specs.Contacts.{in_force, s_in, t_in, without_positions, bits_of}
use Rattle.recording.specs.Document.{whole_line}
use Rattle.recording_laws.specs.Hearing.{Judges}

-- The sync words of each balise are those in force while it is heard; a marker is heard with any
-- good pair.
abbrev pub PairsInForce : Store → List ℕ → List Thing → Type 0
PairsInForce store lead [] = Unit
PairsInForce store lead (balise o ∷ xs) =
    ((i : ℕ) → o.start ≤ i → i < o.start + o.len → (s_in store lead i ≡ o.s) × (t_in store lead i ≡ o.t)) × PairsInForce store lead xs
PairsInForce store lead (marker start len ∷ xs) = (is_good (s_in store lead (start + 7)) (t_in store lead (start + 7)) ≡ true) × PairsInForce store lead xs

-- One record for each, in order, and no other: of a balise the words that it sends, of a marker
-- that it is one. Its odometer is that of the frame in which the first bit of its contact lies: one
-- of the first 48 bits over the balise after those of a cut telegram, or before; the eighth of a
-- marker.
abbrev pub TheirRecords : List ℕ → List Thing → List (List ℕ) → Type 0
TheirRecords lead [] rs = rs ≡ []
TheirRecords lead (x ∷ xs) [] = ⊥
TheirRecords lead (balise o ∷ xs) (r ∷ rs) =
    ((skipped : ℕ) × (skipped ≤ cut_bits o + 47) × (r ≡ bytes_of (in_force lead ((o.start + skipped) / 96)) (record { kind = 0; x = o.x; y = o.y; z = o.z })))
    × TheirRecords lead xs rs
TheirRecords lead (marker start len ∷ xs) (r ∷ rs) = (r ≡ bytes_of (in_force lead ((start + 7) / 96)) (blank 1)) × TheirRecords lead xs rs

-- A lead whose line is such a row, with twelve ones or more after each, is recorded so; between
-- them are only positions.
abbrev pub RowRecorded : Type 0
RowRecorded =
    (store : Store) (lead : List ℕ) (xs : List Thing) → Row between (whole_line lead) 0 (bits_of lead) xs → PairsInForce store lead xs
    → (w : Contacts) (judged : List Told) → Listened (whole_line lead) 0 (bits_of lead) w → Judges (whole_line lead) (s_in store lead) (t_in store lead) w judged
    → TheirRecords lead xs (without_positions (recorded store lead))
