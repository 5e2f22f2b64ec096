-- The lines, and a lead of three frames of which two are refused, computed.
-- Assumes nothing.
use mathlib.Core.Path.{◌≡◌, refl}
use mathlib.Core.List.{List, [], ◌∷◌, ◌++◌}
use Prim.Native.Nat.{ℕ}
use Rattle.text.specs.Text.{codes, digits, decimal}
use Rattle.recording.specs.Frame.{odometer_of}
use Rattle.std.specs.Prelude.{Some, None}
use Rattle.recording_text.specs.Counts.{more, judge_frame, no_frames, over_frames, count_frames, no_records, count_record, count_records}
use Rattle.refusals.specs.Words.{table, worded, refused}
use Rattle.recording_text.specs.Lines.{refused_line, first_line, where_any, sum_line, end_lines}

pub first_line_law : (first_line None (Some (record { frame = 12; number = 17 })) ≡ codes "record: frame 12 refused 17: odometer below the last accepted one\n") × (first_line (Some (record { frame = 12; number = 17 })) (Some (record { frame = 12; number = 17 })) ≡ [])
unfolding first_line refused_line refused worded table decimal digits
first_line_law = (refl, refl)

pub the_end : end_lines (record { frames = 5200; refused = 3; first = Some (record { frame = 12; number = 17 }); odometer = 0 }) (record { contacts = 12; read = 10; markers = 1; unreadable = 1; records = 530 }) 5
    ≡ codes "record: frames refused 3\nrecord: bytes after the last frame 5\nrecord: frames 5200, contacts 12, read 10, markers 1, unreadable 1, records 530\n"
unfolding end_lines where_any sum_line decimal digits
the_end = refl

pub nothing_more : end_lines (record { frames = 0; refused = 0; first = None; odometer = 0 }) (record { contacts = 0; read = 0; markers = 0; unreadable = 0; records = 0 }) 0
    ≡ codes "record: frames 0, contacts 0, read 0, markers 0, unreadable 0, records 0\n"
unfolding end_lines where_any sum_line decimal digits
nothing_more = refl

-- A frame with its odometer's four bytes, and quiet line.
abbrev frame : ℕ → ℕ → ℕ → ℕ → List ℕ
frame a b c d = a ∷ b ∷ c ∷ d ∷ 255 ∷ 255 ∷ 255 ∷ 255 ∷ 255 ∷ 255 ∷ 255 ∷ 255 ∷ 255 ∷ 255 ∷ 255 ∷ 255 ∷ []

-- At 1,000, then above 4,000,000,000, then below 1,000: the first is refused with 18, and the last
-- accepted odometer stays.
pub two_refused : count_frames no_frames (frame 0 0 3 232 ++ frame 255 0 0 0 ++ frame 0 0 3 231) ≡ record { frames = 3; refused = 2; first = Some (record { frame = 2; number = 18 }); odometer = 1000 }
unfolding count_frames over_frames no_frames judge_frame odometer_of more
two_refused = refl

-- A balise that was read, a position, an unreadable one.
pub three_records : count_records no_records
    ((0 ∷ 0 ∷ 3 ∷ 232 ∷ 0 ∷ 23 ∷ 142 ∷ 90 ∷ []) ∷ (0 ∷ 0 ∷ 4 ∷ 6 ∷ 3 ∷ 0 ∷ 0 ∷ 0 ∷ []) ∷ (0 ∷ 0 ∷ 4 ∷ 6 ∷ 2 ∷ 0 ∷ 0 ∷ 0 ∷ []) ∷ [])
    ≡ record { contacts = 2; read = 1; markers = 0; unreadable = 1; records = 3 }
unfolding count_records no_records count_record more
three_records = refl
