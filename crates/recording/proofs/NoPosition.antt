-- The records of a trace that are not positions: they join as the trace does, and a contact's
-- record is one of them.
-- Assumes nothing.
use Prim.Native.Nat.{ℕ}
use mathlib.Core.Path.{◌≡◌, refl, ap}
use mathlib.Core.Bool.{Bool, true, false}
use mathlib.Core.List.{List, [], ◌∷◌, ◌++◌}
use lib.Dec.{ltb, eqb}
use Rattle.words.specs.Answer.{Outcome, gives, refuses, then, pick}
use Rattle.contact.specs.Judge.{Contact, read, marker}
use Rattle.telegram.specs.Spelling.{Words, spell}
use Rattle.antenna.specs.Line.{Told, placed}
use Rattle.recorder.specs.Record.{telegram_of, informed, content_of, bytes_of, at_odometer, record_of_meant}
use Rattle.ride.specs.Record.{kind_of}
use Rattle.recording.specs.Kept.{or_unreadable, record_at}
use Rattle.recording.specs.Contacts.{record_for, records_for, without_positions}

pub without_join : (a b : List (List ℕ)) → without_positions (a ++ b) ≡ without_positions a ++ without_positions b
unfolding without_positions
without_join [] b = refl
without_join (r ∷ rs) b = go (eqb (kind_of r) 3) (without_join rs b)
  where
    go : (p : Bool) → without_positions (rs ++ b) ≡ without_positions rs ++ without_positions b
        → pick p (without_positions (rs ++ b)) (r ∷ without_positions (rs ++ b)) ≡ pick p (without_positions rs) (r ∷ without_positions rs) ++ without_positions b
    go true e = e
    go false e = ap (λ (l : List (List ℕ)). r ∷ l) e

pub for_join : (lead : List ℕ) (a b : List Told) → records_for lead (a ++ b) ≡ records_for lead a ++ records_for lead b
unfolding records_for
for_join lead [] b = refl
for_join lead (c ∷ cs) b = ap (λ (l : List (List ℕ)). record_for lead c ∷ l) (for_join lead cs b)

pub no_records : (lead : List ℕ) → without_positions [] ≡ records_for lead []
unfolding without_positions records_for
no_records lead = refl

-- A contact's record is never a position.
at_odometer_law : (odometer x y z : ℕ) (b : Bool) → eqb (kind_of (or_unreadable odometer (pick b (refuses 18) (gives (bytes_of odometer (record { kind = 0; x = x; y = y; z = z })))))) 3 ≡ false
at_odometer_law odometer x y z true = refl
at_odometer_law odometer x y z false = refl

spelt : (odometer : ℕ) (w : Outcome Words) → eqb (kind_of (or_unreadable odometer (then (informed w) (at_odometer odometer)))) 3 ≡ false
unfolding at_odometer
spelt odometer (gives w) = at_odometer_law odometer w.x w.y w.z (ltb 4000000000 odometer)
spelt odometer (refuses n) = refl

pub no_position : (odometer : ℕ) (o : Outcome Contact) → eqb (kind_of (record_at odometer o)) 3 ≡ false
unfolding record_of_meant content_of
no_position odometer (gives (read (gives m) first count)) = spelt odometer (spell (telegram_of m))
no_position odometer (gives (read (refuses bad) first count)) = refl
no_position odometer (gives marker) = refl
no_position odometer (refuses n) = refl

-- It does not say where the first place is.
pub not_where : (odometer start : ℕ) (o : Outcome Contact) → record_at odometer (placed start o) ≡ record_at odometer o
unfolding record_of_meant content_of
not_where odometer start (gives (read (gives m) first count)) = refl
not_where odometer start (gives (read (refuses bad) first count)) = refl
not_where odometer start (gives marker) = refl
not_where odometer start (refuses n) = refl
