-- What `record` says on standard error:
-- `record: frame 12 refused 17: odometer below the last accepted one` "when the first such frame
-- comes", and at the end "where it applies `record: frames refused 3` and
-- `record: bytes after the last frame 5`, then always
-- `record: frames 5200, contacts 12, read 10, markers 1, unreadable 1, records 530`".
-- Assumes nothing.
use Rattle.std.specs.Prelude.{ℕ, List, [], ◌++◌, eqb, Option, Some, None}
use Prim.Native.String.{String}
use Rattle.words.specs.Answer.{pick}
use Rattle.text.specs.Text.{codes, decimal}
use Rattle.refusals.specs.Words.{refused}
use Rattle.recording_text.specs.declared.RefusedFrame.{RefusedFrame}
use Rattle.recording_text.specs.declared.Frames.{Frames}
use Rattle.recording_text.specs.declared.Records.{Records}

-- The line of a refused frame.
unfoldable pub refused_line : ℕ → ℕ → List ℕ
refused_line frame number = codes "record: frame " ++ decimal frame ++ codes " " ++ refused number

-- What is said of the first refused frame after some frames: its line if it came among them, and
-- nothing else.
unfoldable pub first_line : Option RefusedFrame → Option RefusedFrame → List ℕ
first_line None (Some first) = refused_line first.frame first.number
first_line None None = []
first_line (Some first) now = []

-- A line of a number that is said where it is not 0.
unfoldable pub where_any : ℕ → List ℕ → List ℕ
where_any n words = pick (eqb n 0) [] (words ++ decimal n ++ codes "\n")

-- Words and a number after them.
abbrev pub counted : String → ℕ → List ℕ
counted words n = codes words ++ decimal n

-- The line that is always said: the frames and the contacts, and what these were.
unfoldable pub sum_line : ℕ → Records → List ℕ
sum_line frames c =
    (counted "record: frames " frames ++ counted ", contacts " c.contacts ++ counted ", read " c.read)
    ++ (counted ", markers " c.markers ++ counted ", unreadable " c.unreadable ++ counted ", records " c.records ++ codes "\n")

-- What is said at the end, with so many bytes after the last whole frame.
unfoldable pub end_lines : Frames → Records → ℕ → List ℕ
end_lines f c bytes =
    where_any f.refused (codes "record: frames refused ") ++ where_any bytes (codes "record: bytes after the last frame ") ++ sum_line f.frames c
