-- A record as it is made is accepted after any odometer not above its own.
-- Assumes nothing.
use Prim.Native.Nat.{ℕ, ◌+◌, ◌*◌, ◌/◌, ◌%◌, ◌≤◌}
use mathlib.Core.Path.{◌≡◌, refl, ap, ◌∙◌}
use mathlib.Core.Bool.{Bool, true, false}
use mathlib.Core.List.{List}
use native.Mathlib.Omega.{arith}
use lib.Dec.{ltb}
use borrow.Author.Tests.{le-ltb}
use Rattle.words.specs.Answer.{Outcome, gives, refuses, then, pick}
use Rattle.contact.specs.Judge.{Contact, read, marker}
use Rattle.telegram.specs.Spelling.{Words, spell}
use Rattle.recorder.specs.Record.{Content, telegram_of, informed, content_of, bytes_of, blank, at_odometer, record_of_meant}
use Rattle.ride.specs.Record.{odometer_of, in_order_meant, check_record}
use Rattle.recording.specs.Kept.{or_unreadable, record_at}
use Rattle.recording.specs.Rising.{Accepted}

four : (n : ℕ) → ((n / 16777216 * 256 + n / 65536 % 256) * 256 + n / 256 % 256) * 256 + n % 256 ≡ n
four n =
    let a : n / 16777216 * 256 + n / 65536 % 256 ≡ n / 65536 = omega arith in
    let b : n / 65536 * 256 + n / 256 % 256 ≡ n / 256 = omega arith in
    let c : n / 256 * 256 + n % 256 ≡ n = omega arith in
    ap (λ (x : ℕ). (x * 256 + n / 256 % 256) * 256 + n % 256) a ∙ ap (λ (x : ℕ). x * 256 + n % 256) b ∙ c

odometer_kept : (odometer : ℕ) (c : Content) → odometer_of (bytes_of odometer c) ≡ odometer
unfolding odometer_of
odometer_kept odometer c = four odometer

-- A record at an odometer, that is accepted after any odometer not above it.
pub record Made (odometer : ℕ) (r : List ℕ) : Type 0 where
  pub at : odometer_of r ≡ odometer
  pub order : in_order_meant r ≡ true

made : (odometer : ℕ) (c : Content) → in_order_meant (bytes_of odometer c) ≡ true → Made odometer (bytes_of odometer c)
made odometer c order = record { at = odometer_kept odometer c; order = order }

pub blank_made : (odometer : ℕ) → Made odometer (bytes_of odometer (blank 1)) × Made odometer (bytes_of odometer (blank 2)) × Made odometer (bytes_of odometer (blank 3))
unfolding in_order_meant
blank_made odometer = (made odometer (blank 1) refl, made odometer (blank 2) refl, made odometer (blank 3) refl)

words_made : (odometer x y z : ℕ) → Made odometer (bytes_of odometer (record { kind = 0; x = x; y = y; z = z }))
unfolding in_order_meant
words_made odometer x y z = made odometer (record { kind = 0; x = x; y = y; z = z }) refl

at_odometer_law : (odometer x y z : ℕ) (b : Bool) → Made odometer (or_unreadable odometer (pick b (refuses 18) (gives (bytes_of odometer (record { kind = 0; x = x; y = y; z = z })))))
at_odometer_law odometer x y z true = (blank_made odometer).1
at_odometer_law odometer x y z false = words_made odometer x y z

spelt_made : (odometer : ℕ) (w : Outcome Words) → Made odometer (or_unreadable odometer (then (informed w) (at_odometer odometer)))
unfolding at_odometer
spelt_made odometer (gives w) = at_odometer_law odometer w.x w.y w.z (ltb 4000000000 odometer)
spelt_made odometer (refuses n) = (blank_made odometer).1

pub contact_made : (odometer : ℕ) (o : Outcome Contact) → Made odometer (record_at odometer o)
unfolding record_of_meant content_of
contact_made odometer (gives (read (gives m) first count)) = spelt_made odometer (spell (telegram_of m))
contact_made odometer (gives (read (refuses bad) first count)) = (blank_made odometer).1
contact_made odometer (gives marker) = (blank_made odometer).0
contact_made odometer (refuses n) = (blank_made odometer).1

pub accepts : (last odometer : ℕ) (r : List ℕ) → Made odometer r → last ≤ odometer → odometer ≤ 4000000000 → Accepted last r
unfolding check_record
accepts last odometer r m low high =
    let e = m.at in
    let up : odometer_of r ≤ 4000000000 = omega arith in
    let down : last ≤ odometer_of r = omega arith in
    record { accepted = simp (m.order, le-ltb 4000000000 (odometer_of r) up, le-ltb (odometer_of r) last down); not_below = down; not_above = up }
