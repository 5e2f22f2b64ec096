-- The record of a contact has eight bytes, whatever was judged.
-- Assumes nothing.
use Prim.Native.Nat.{ℕ}
use mathlib.Core.Path.{◌≡◌, refl}
use mathlib.Core.Bool.{Bool, true, false}
use mathlib.Core.List.{List}
use lib.Dec.{ltb}
use lib.ListN.{length}
use Rattle.words.specs.Answer.{Outcome, gives, refuses, then, pick}
use Rattle.contact.specs.Judge.{Contact, read, marker}
use Rattle.contact.specs.declared.Judged.{Judged}
use Rattle.recorder.specs.Record.{Content, bytes_of, content_of, at_odometer, record_of_meant}
use Rattle.recording.specs.Kept.{or_unreadable, record_at}

made_by : (odometer : ℕ) (c : Content) (b : Bool) → length (or_unreadable odometer (pick {A = Outcome (List ℕ)} b (refuses 18) (gives (bytes_of odometer c)))) ≡ 8
made_by odometer c true = refl
made_by odometer c false = refl

made : (odometer : ℕ) (x : Outcome Content) → length (or_unreadable odometer (then x (at_odometer odometer))) ≡ 8
unfolding at_odometer
made odometer (gives c) = made_by odometer c (ltb 4000000000 odometer)
made odometer (refuses n) = refl

pub record_eight : (odometer : ℕ) (j : Outcome Contact) → length (record_at odometer j) ≡ 8
unfolding record_of_meant
record_eight odometer (gives (read (gives m) first count)) = made odometer (content_of (Judged.Read m first count))
record_eight odometer (gives (read (refuses bad) first count)) = refl
record_eight odometer (gives marker) = refl
record_eight odometer (refuses n) = refl
