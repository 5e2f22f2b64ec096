-- A lead of three frames whose line is a marker and a balise, with twelve ones after each: the
-- hypotheses of a row are met.
-- Assumes nothing.
use Prim.Native.Nat.{ℕ, ◌/◌, ◌≤◌}
use mathlib.Core.Path.{◌≡◌, refl, sym, ap, ap₂, subst, ◌∙◌}
use mathlib.Core.Bool.{Bool, true}
use mathlib.Core.List.{List, [], ◌∷◌}
use native.Mathlib.Omega.{arith}
use borrow.Author.Tests.{le-ltb}
use lib.Dec.{ltb}
use Rattle.words.specs.Answer.{gives, refuses, pick}
use Rattle.words.specs.Bits.{word}
use Rattle.words.specs.Plain.{is_check, covers, count, even, is_code, onwards, figure}
use Rattle.words.specs.Code.{other, exchanged, read_word}
use Rattle.telegram.specs.Stretch.{bits_at, inside}
use Rattle.telegram.specs.Sync.{differing, is_good, good_pair}
use Rattle.telegram.specs.Telegram.{short_word, long_word, telegram}
use Rattle.telegram.specs.Place.{are_syncs, words_at, is_place}
use Rattle.telegram.specs.declared.Telegram.{Telegram}
use Rattle.balise_line.specs.Line.{OneBalise, sent_bit, line_bit}
use Rattle.settings.specs.declared.Held.{Held}
use Rattle.settings.specs.Versions.{settings_of, follows}
use Rattle.settings.specs.Store as stores
use Rattle.settings.specs.Store.{no_store_meant, versions_of, opened, begin, all_follow, in_order_meant}
use Rattle.settings.specs.At as at
use Rattle.settings.specs.At.{held_from, asked, hold, held_or}
use Rattle.contact_laws.specs.Zeroes.{zeroes_sent}
use Rattle.contact_laws.specs.Pass.{between}
use Rattle.contact_laws.specs.Row.{Thing, balise, marker, Long, Row}
use Rattle.contact_laws.proofs.Either.{fair_at}
use Rattle.contact_laws.proofs.Computed.{ones_computed, zeroes_computed, long_computed}
use Rattle.recording.specs.Frame.{line_of}
use Rattle.recording.specs.Recording.{none_held, held_at}
use Rattle.recording.specs.Contacts.{in_force, s_in, t_in, bits_of}
use Rattle.recording.specs.Document.{lines_of, whole_line}
use Rattle.recording.proofs.Document.{never_high}
use Rattle.recording_laws.specs.Row.{PairsInForce}
use Rattle.recording_laws.proofs.RecordedMet.{store}

-- The pair of the one version is in force everywhere.
pair_there : (odometer : ℕ) → odometer ≤ 4000000000 → ((held_at store odometer).s ≡ 0x72) × ((held_at store odometer).t ≡ 0x0d)
unfolding held_at hold asked stores.judged in_order_meant all_follow versions_of opened begin no_store_meant settings_of follows good_pair is_good differing held_from at.held_at
pair_there odometer high =
    let held : Held = record { gap = 40; s = 0x72; t = 0x0d; from = 0; until = 4000000001 } in
    let is : held_or none_held (pick (ltb 4000000000 odometer) (refuses 18) (gives held)) ≡ held = ap (λ (x : Bool). held_or none_held (pick x (refuses 18) (gives held))) (le-ltb 4000000000 odometer high) in
    (ap (λ (h : Held). h.s) is, ap (λ (h : Held). h.t) is)

-- Sixty zeroes, twelve ones, and 167 bits of the figures 1 8 5; the odometer stands at 5, 6 and 7.
abbrev lead : List ℕ
lead =
    0 ∷ 0 ∷ 0 ∷ 5 ∷ 255 ∷ 255 ∷ 0 ∷ 0 ∷ 0 ∷ 0 ∷ 0 ∷ 0 ∷ 0 ∷ 15 ∷ 255 ∷ 114 ∷ 0 ∷ 0 ∷ 0 ∷ 6 ∷ 23 ∷ 142 ∷ 90 ∷ 13 ∷ 23 ∷ 142 ∷ 90 ∷ 114 ∷ 23 ∷ 142 ∷ 90 ∷ 13 ∷ 0 ∷ 0 ∷ 0 ∷ 7 ∷ 23 ∷ 142 ∷ 90 ∷ 114 ∷ 23 ∷ 142 ∷ 90 ∷ 13 ∷ 255 ∷ 255 ∷ 255 ∷ 255 ∷ []

abbrev line : List ℕ
line =
    255 ∷ 255 ∷ 0 ∷ 0 ∷ 0 ∷ 0 ∷ 0 ∷ 0 ∷ 0 ∷ 15 ∷ 255 ∷ 114 ∷ 23 ∷ 142 ∷ 90 ∷ 13 ∷ 23 ∷ 142 ∷ 90 ∷ 114 ∷ 23 ∷ 142 ∷ 90 ∷ 13 ∷ 23 ∷ 142 ∷ 90 ∷ 114 ∷ 23 ∷ 142 ∷ 90 ∷ 13 ∷ 255 ∷ 255 ∷ 255 ∷ 255 ∷ []

abbrev second : OneBalise
second =
    record { buffer = line; start = 88; len = 167; s = 0x72; t = 0x0d; x = 0x17; y = 0x8e; z = 0x5a; telegram = Telegram.Figures 1 8 5; phase = 0 }

abbrev things : List Thing
things = marker 16 60 ∷ balise second ∷ []

second_long : Long line second
unfolding zeroes_sent sent_bit fair_at is_place are_syncs words_at bits_at line_bit is_good differing inside telegram short_word long_word read_word is_code even count covers exchanged other word figure onwards is_check
second_long = long_computed second tt refl refl refl tt tt tt tt

in_line : Row between line 0 288 things
in_line = (
  (omega arith, zeroes_computed line 16 60 tt),
  omega arith,
  ones_computed line 0 16 tt,
  omega arith,
  ones_computed line 76 88 tt,
  (second_long, omega arith, ones_computed line 88 88 tt, omega arith, ones_computed line 255 267 tt, (omega arith, ones_computed line 267 288 tt)),
)

is_line : whole_line lead ≡ line
unfolding lines_of line_of
is_line = refl

pub row_met : Row between (whole_line lead) 0 (bits_of lead) things
row_met = subst (λ (b : List ℕ). Row between b 0 288 things) (sym is_line) in_line

in_force_law : (i : ℕ) → (s_in store lead i ≡ 0x72) × (t_in store lead i ≡ 0x0d)
in_force_law i = pair_there (in_force lead (i / 96)) (never_high lead _)

good : is_good 0x72 0x0d ≡ true
unfolding is_good differing
good = refl

pub pairs_met : PairsInForce store lead things
pairs_met = (ap₂ is_good (in_force_law 23).0 (in_force_law 23).1 ∙ good, (λ i low high. in_force_law i, tt))
