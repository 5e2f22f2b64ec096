-- What the contracts of the functions for C allow: the number r that a call returns and, for each
-- array that it was lent to be written, what it held before and holds after. (`Post`, `MutBor` and
-- `Lfts`: see crates/demands/specs/ByContract.antt.)
-- Assumes nothing.
use denote.MutBor.{MutBor}
use Rattle.std.specs.Prelude.{ℕ, ◌≡◌, List, ℤ}
use Rattle.settings.specs.declared.Version.{Version}
use contract.Lifetimes.{Lfts}
use Rattle.std.specs.Borrow.{Bor}
use borrow.Fn.Kinds.{ended_of}
use denote.Triple.Clauses.{AtExit}
use Rattle.abi.proofs.codes.atc2_read_short.Kinds as read_short_kinds
use Rattle.abi.proofs.codes.atc2_read_short.Reads as read_short_reads
use Rattle.abi.proofs.codes.atc2_write_short.Kinds as write_short_kinds
use Rattle.abi.proofs.codes.atc2_write_short.Reads as write_short_reads
use Rattle.abi.proofs.codes.atc2_read_long.Kinds as read_long_kinds
use Rattle.abi.proofs.codes.atc2_read_long.Reads as read_long_reads
use Rattle.abi.proofs.codes.atc2_write_long.Kinds as write_long_kinds
use Rattle.abi.proofs.codes.atc2_write_long.Reads as write_long_reads
use Rattle.abi.proofs.telegrams.atc2_read_telegram.Kinds as read_telegram_kinds
use Rattle.abi.proofs.telegrams.atc2_read_telegram.Reads as read_telegram_reads
use Rattle.abi.proofs.why.atc2_why_telegram.Kinds as why_telegram_kinds
use Rattle.abi.proofs.why.atc2_why_telegram.Reads as why_telegram_reads
use Rattle.abi.proofs.telegrams.atc2_find.Kinds as find_kinds
use Rattle.abi.proofs.telegrams.atc2_find.Reads as find_reads
use Rattle.abi.proofs.contacts.atc2_begin.Kinds as begin_kinds
use Rattle.abi.proofs.contacts.atc2_begin.Reads as begin_reads
use Rattle.abi.proofs.contacts.atc2_next_contact.Kinds as next_kinds
use Rattle.abi.proofs.contacts.atc2_next_contact.Reads as next_reads
use Rattle.abi.proofs.contacts.atc2_judge.Kinds as judge_kinds
use Rattle.abi.proofs.contacts.atc2_judge.Reads as judge_reads
use Rattle.abi.proofs.balises.atc2_write_balise.Kinds as write_balise_kinds
use Rattle.abi.proofs.balises.atc2_write_balise.Reads as write_balise_reads
use Rattle.abi.proofs.traces.atc2_compact.Kinds as compact_kinds
use Rattle.abi.proofs.traces.atc2_compact.Reads as compact_reads
use Rattle.abi.proofs.why.atc2_why_word.Kinds as why_word_kinds
use Rattle.abi.proofs.why.atc2_why_word.Reads as why_word_reads
use Rattle.abi.proofs.stores.atc2_settings_begin.Kinds as settings_begin_kinds
use Rattle.abi.proofs.stores.atc2_settings_begin.Reads as settings_begin_reads
use Rattle.abi.proofs.stores.atc2_settings_add.Kinds as settings_add_kinds
use Rattle.abi.proofs.stores.atc2_settings_add.Reads as settings_add_reads
use Rattle.abi.proofs.stores.atc2_settings_read.Kinds as settings_read_kinds
use Rattle.abi.proofs.stores.atc2_settings_read.Reads as settings_read_reads
use Rattle.abi.proofs.distances.atc2_distance.Kinds as distance_kinds
use Rattle.abi.proofs.distances.atc2_distance.Reads as distance_reads

-- `atc2_read_short` may return r for the word w.
abbrev pub ReadShort : ℕ → ℤ → Type 0
ReadShort w r = (e : AtExit (ended_of 0 read_short_kinds.ps read_short_kinds.r) tt) × read_short_reads.Post tt (w, tt) r e

-- `atc2_write_short` may return r for the figure x.
abbrev pub WriteShort : ℕ → ℤ → Type 0
WriteShort x r = (e : AtExit (ended_of 0 write_short_kinds.ps write_short_kinds.r) tt) × write_short_reads.Post tt (x, tt) r e

-- `atc2_read_long` may return r for the word w.
abbrev pub ReadLong : ℕ → ℤ → Type 0
ReadLong w r = (e : AtExit (ended_of 0 read_long_kinds.ps read_long_kinds.r) tt) × read_long_reads.Post tt (w, tt) r e

-- `atc2_write_long` may return r for the figure x.
abbrev pub WriteLong : ℕ → ℤ → Type 0
WriteLong x r = (e : AtExit (ended_of 0 write_long_kinds.ps write_long_kinds.r) tt) × write_long_reads.Post tt (x, tt) r e

-- `atc2_read_telegram` may return r for the received words x, y and z.
abbrev pub ReadTelegram : ℕ → ℕ → ℕ → ℤ → Type 0
ReadTelegram x y z r =
    (e : AtExit (ended_of 0 read_telegram_kinds.ps read_telegram_kinds.r) tt) × read_telegram_reads.Post tt (x, (y, (z, tt))) r e

-- `atc2_why_telegram` may return r for the received words x, y and z.
abbrev pub WhyTelegram : ℕ → ℕ → ℕ → ℤ → Type 0
WhyTelegram x y z r =
    (e : AtExit (ended_of 0 why_telegram_kinds.ps why_telegram_kinds.r) tt) × why_telegram_reads.Post tt (x, (y, (z, tt))) r e

-- `atc2_distance` may return r for column BY and this figure.
abbrev pub Distance : ℕ → ℕ → ℤ → Type 0
Distance by figure r =
    (e : AtExit (ended_of 0 distance_kinds.ps distance_kinds.r) tt) × distance_reads.Post tt (by, (figure, tt)) r e

-- `atc2_find` may return r for this stretch of the buffer b and these sync words, and leave `after`
-- in `out`, which held `before`.
abbrev pub Find : List ℕ → ℕ → ℕ → ℕ → ℕ → List ℕ → ℤ → List ℕ → Type 0
Find b start len s t before r after =
    (κs : Lfts 2) × (buf : Bor (List ℕ)) × (out : MutBor (List ℕ)) × (e : AtExit (ended_of 2 find_kinds.ps find_kinds.r) κs)
    × (buf.now ≡ b) × (out.now ≡ before) × (e.1.1.1.1.1.0.now ≡ after)
    × find_reads.Post κs (buf, (start, (len, (s, (t, (out, tt)))))) r e

-- `atc2_begin` may return r for this stretch of the buffer b, and leave `after` in `search`, which
-- held `before`.
abbrev pub Begin : List ℕ → ℕ → ℕ → List ℕ → ℤ → List ℕ → Type 0
Begin b start len before r after =
    (κs : Lfts 2) × (buf : Bor (List ℕ)) × (search : MutBor (List ℕ)) × (e : AtExit (ended_of 2 begin_kinds.ps begin_kinds.r) κs)
    × (buf.now ≡ b) × (search.now ≡ before) × (e.1.1.1.0.now ≡ after)
    × begin_reads.Post κs (buf, (start, (len, (search, tt)))) r e

-- `atc2_next_contact` may return r for the search in `search` over the buffer b, leave `moved`
-- there, and `after` in `out`, which held `before`.
abbrev pub NextContact : List ℕ → List ℕ → List ℕ → ℤ → List ℕ → List ℕ → Type 0
NextContact b from before r moved after =
    (κs : Lfts 3) × (buf : Bor (List ℕ)) × (search : MutBor (List ℕ)) × (out : MutBor (List ℕ))
    × (e : AtExit (ended_of 3 next_kinds.ps next_kinds.r) κs)
    × (buf.now ≡ b) × (search.now ≡ from) × (out.now ≡ before) × (e.1.0.now ≡ moved) × (e.1.1.0.now ≡ after)
    × next_reads.Post κs (buf, (search, (out, tt))) r e

-- `atc2_judge` may return r for this stretch of the buffer b and these sync words, and leave
-- `after` in `out`, which held `before`.
abbrev pub Judge : List ℕ → ℕ → ℕ → ℕ → ℕ → List ℕ → ℤ → List ℕ → Type 0
Judge b start len s t before r after =
    (κs : Lfts 2) × (buf : Bor (List ℕ)) × (out : MutBor (List ℕ)) × (e : AtExit (ended_of 2 judge_kinds.ps judge_kinds.r) κs)
    × (buf.now ≡ b) × (out.now ≡ before) × (e.1.1.1.1.1.0.now ≡ after)
    × judge_reads.Post κs (buf, (start, (len, (s, (t, (out, tt)))))) r e

-- `atc2_write_balise` may return r for these figures, sync words and this number, and leave `after`
-- in `out`, which held `before`.
abbrev pub WriteBalise : ℕ → ℕ → ℕ → ℕ → ℕ → ℕ → List ℕ → ℤ → List ℕ → Type 0
WriteBalise x y z s t n before r after =
    (κs : Lfts 1) × (out : MutBor (List ℕ)) × (e : AtExit (ended_of 1 write_balise_kinds.ps write_balise_kinds.r) κs)
    × (out.now ≡ before) × (e.1.1.1.1.1.1.0.now ≡ after)
    × write_balise_reads.Post κs (x, (y, (z, (s, (t, (n, (out, tt))))))) r e

-- `atc2_compact` may return r for this gap, and leave `after` in `trace`, which held `before`.
abbrev pub Compact : ℕ → List ℕ → ℤ → List ℕ → Type 0
Compact gap before r after =
    (κs : Lfts 1) × (trace : MutBor (List ℕ)) × (e : AtExit (ended_of 1 compact_kinds.ps compact_kinds.r) κs)
    × (trace.now ≡ before) × (e.1.0.now ≡ after) × compact_reads.Post κs (gap, (trace, tt)) r e

-- `atc2_why_word` may return r for this word, short or long.
abbrev pub WhyWord : ℕ → ℕ → ℤ → Type 0
WhyWord word wide r = (e : AtExit (ended_of 0 why_word_kinds.ps why_word_kinds.r) tt) × why_word_reads.Post tt (word, (wide, tt)) r e

-- `atc2_settings_begin` may return r for these settings, and leave `after` in `store`, which held
-- `before`.
abbrev pub SettingsBegin : ℕ → ℕ → ℕ → List ℕ → ℤ → List ℕ → Type 0
SettingsBegin gap s t before r after =
    (κs : Lfts 1) × (store : MutBor (List ℕ)) × (e : AtExit (ended_of 1 settings_begin_kinds.ps settings_begin_kinds.r) κs)
    × (store.now ≡ before) × (e.1.1.1.0.now ≡ after) × settings_begin_reads.Post κs (gap, (s, (t, (store, tt)))) r e

-- `atc2_settings_add` may return r for this version, and leave `after` in `store`, which held
-- `before`.
abbrev pub SettingsAdd : Version → List ℕ → ℤ → List ℕ → Type 0
SettingsAdd v before r after =
    (κs : Lfts 1) × (store : MutBor (List ℕ)) × (e : AtExit (ended_of 1 settings_add_kinds.ps settings_add_kinds.r) κs)
    × (store.now ≡ before) × (e.0.now ≡ after) × settings_add_reads.Post κs (store, (v.place, (v.gap, (v.s, (v.t, tt))))) r e

-- `atc2_settings_read` may return r for this text, and leave `after` in `store`, which held
-- `before`.
abbrev pub SettingsRead : List ℕ → List ℕ → ℤ → List ℕ → Type 0
SettingsRead text before r after =
    (κs : Lfts 2) × (lent : Bor (List ℕ)) × (store : MutBor (List ℕ)) × (e : AtExit (ended_of 2 settings_read_kinds.ps settings_read_kinds.r) κs)
    × (lent.now ≡ text) × (store.now ≡ before) × (e.1.0.now ≡ after) × settings_read_reads.Post κs (lent, (store, tt)) r e
