-- Each contract fixes the number that its function returns and what it leaves in each array that it
-- was lent: any two that it allows are equal.
-- Assumes nothing.
use mathlib.Core.Path.{◌≡◌, sym, ◌∙◌}
use lib.IntN.{ℤ}
use contract.Lifetimes.{Lfts}
use borrow.Fn.Kinds.{Dens, ended_of}
use denote.Triple.Clauses.{AtExit}
use Rattle.abi.proofs.codes.atc2_read_short.Kinds as read_short_kinds
use Rattle.abi.proofs.codes.atc2_read_short.Reads as read_short_reads
use Rattle.abi.proofs.codes.atc2_write_short.Kinds as write_short_kinds
use Rattle.abi.proofs.codes.atc2_write_short.Reads as write_short_reads
use Rattle.abi.proofs.codes.atc2_read_long.Kinds as read_long_kinds
use Rattle.abi.proofs.codes.atc2_read_long.Reads as read_long_reads
use Rattle.abi.proofs.codes.atc2_write_long.Kinds as write_long_kinds
use Rattle.abi.proofs.codes.atc2_write_long.Reads as write_long_reads
use Rattle.abi.proofs.telegrams.atc2_read_telegram.Kinds as read_telegram_kinds
use Rattle.abi.proofs.telegrams.atc2_read_telegram.Reads as read_telegram_reads
use Rattle.abi.proofs.why.atc2_why_telegram.Kinds as why_telegram_kinds
use Rattle.abi.proofs.why.atc2_why_telegram.Reads as why_telegram_reads
use Rattle.abi.proofs.telegrams.atc2_find.Kinds as find_kinds
use Rattle.abi.proofs.telegrams.atc2_find.Reads as find_reads
use Rattle.abi.proofs.contacts.atc2_judge.Kinds as judge_kinds
use Rattle.abi.proofs.contacts.atc2_judge.Reads as judge_reads
use Rattle.abi.proofs.contacts.atc2_begin.Kinds as begin_kinds
use Rattle.abi.proofs.contacts.atc2_begin.Reads as begin_reads
use Rattle.abi.proofs.contacts.atc2_next_contact.Kinds as next_contact_kinds
use Rattle.abi.proofs.contacts.atc2_next_contact.Reads as next_contact_reads
use Rattle.abi.proofs.balises.atc2_write_balise.Kinds as write_balise_kinds
use Rattle.abi.proofs.balises.atc2_write_balise.Reads as write_balise_reads
use Rattle.abi.proofs.traces.atc2_compact.Kinds as compact_kinds
use Rattle.abi.proofs.traces.atc2_compact.Reads as compact_reads
use Rattle.abi.proofs.distances.atc2_distance.Kinds as distance_kinds
use Rattle.abi.proofs.distances.atc2_distance.Reads as distance_reads
use Rattle.abi.proofs.why.atc2_why_word.Kinds as why_word_kinds
use Rattle.abi.proofs.why.atc2_why_word.Reads as why_word_reads
use Rattle.abi.proofs.stores.atc2_settings_begin.Kinds as settings_begin_kinds
use Rattle.abi.proofs.stores.atc2_settings_begin.Reads as settings_begin_reads
use Rattle.abi.proofs.stores.atc2_settings_add.Kinds as settings_add_kinds
use Rattle.abi.proofs.stores.atc2_settings_add.Reads as settings_add_reads
use Rattle.abi.proofs.stores.atc2_settings_read.Kinds as settings_read_kinds
use Rattle.abi.proofs.stores.atc2_settings_read.Reads as settings_read_reads
use Rattle.abi.proofs.stores.atc2_settings_line.Kinds as settings_line_kinds
use Rattle.abi.proofs.stores.atc2_settings_line.Reads as settings_line_reads
use Rattle.abi.proofs.rides.atc2_ride_begin.Kinds as ride_begin_kinds
use Rattle.abi.proofs.rides.atc2_ride_begin.Reads as ride_begin_reads
use Rattle.abi.proofs.rides.atc2_ride_list.Kinds as ride_list_kinds
use Rattle.abi.proofs.rides.atc2_ride_list.Reads as ride_list_reads
use Rattle.abi.proofs.rides.atc2_ride_end.Kinds as ride_end_kinds
use Rattle.abi.proofs.rides.atc2_ride_end.Reads as ride_end_reads
use Rattle.abi.proofs.rides.atc2_ride_known.Kinds as ride_known_kinds
use Rattle.abi.proofs.rides.atc2_ride_known.Reads as ride_known_reads
use Rattle.abi.proofs.leads.atc2_record_begin.Kinds as record_begin_kinds
use Rattle.abi.proofs.leads.atc2_record_begin.Reads as record_begin_reads
use Rattle.abi.proofs.leads.atc2_record.Kinds as record_kinds
use Rattle.abi.proofs.leads.atc2_record.Reads as record_reads
use Rattle.abi.proofs.leads.atc2_record_end.Kinds as record_end_kinds
use Rattle.abi.proofs.leads.atc2_record_end.Reads as record_end_reads
use Rattle.words.proofs.Told.{Fixed}

pub atc2_read_short_determined : Fixed 0 read_short_kinds.ps read_short_kinds.r read_short_reads.Post
atc2_read_short_determined κs a r r' x x' p q = p ∙ sym q

pub atc2_write_short_determined : Fixed 0 write_short_kinds.ps write_short_kinds.r write_short_reads.Post
atc2_write_short_determined κs a r r' x x' p q = p ∙ sym q

pub atc2_read_long_determined : Fixed 0 read_long_kinds.ps read_long_kinds.r read_long_reads.Post
atc2_read_long_determined κs a r r' x x' p q = p ∙ sym q

pub atc2_write_long_determined : Fixed 0 write_long_kinds.ps write_long_kinds.r write_long_reads.Post
atc2_write_long_determined κs a r r' x x' p q = p ∙ sym q

pub atc2_read_telegram_determined : Fixed 0 read_telegram_kinds.ps read_telegram_kinds.r read_telegram_reads.Post
atc2_read_telegram_determined κs a r r' x x' p q = p ∙ sym q

pub atc2_why_telegram_determined : Fixed 0 why_telegram_kinds.ps why_telegram_kinds.r why_telegram_reads.Post
atc2_why_telegram_determined κs a r r' x x' p q = p ∙ sym q

-- `out` is the sixth of the arguments of `atc2_find` and of `atc2_judge`.
pub atc2_find_determined : (κs : Lfts 2) (a : Dens κs find_kinds.ps) (r r' : ℤ)
    (x x' : AtExit (ended_of 2 find_kinds.ps find_kinds.r) κs)
    → find_reads.Post κs a r x → find_reads.Post κs a r' x'
    → (r ≡ r') × (x.1.1.1.1.1.0.now ≡ x'.1.1.1.1.1.0.now)
atc2_find_determined κs a r r' x x' p q = (p.0 ∙ sym q.0, p.1 ∙ sym q.1)

pub atc2_judge_determined : (κs : Lfts 2) (a : Dens κs judge_kinds.ps) (r r' : ℤ)
    (x x' : AtExit (ended_of 2 judge_kinds.ps judge_kinds.r) κs)
    → judge_reads.Post κs a r x → judge_reads.Post κs a r' x'
    → (r ≡ r') × (x.1.1.1.1.1.0.now ≡ x'.1.1.1.1.1.0.now)
atc2_judge_determined κs a r r' x x' p q = (p.0 ∙ sym q.0, p.1 ∙ sym q.1)

-- `search` is the fourth of the arguments of `atc2_begin`.
pub atc2_begin_determined : (κs : Lfts 2) (a : Dens κs begin_kinds.ps) (r r' : ℤ)
    (x x' : AtExit (ended_of 2 begin_kinds.ps begin_kinds.r) κs)
    → begin_reads.Post κs a r x → begin_reads.Post κs a r' x'
    → (r ≡ r') × (x.1.1.1.0.now ≡ x'.1.1.1.0.now)
atc2_begin_determined κs a r r' x x' p q = (p.0 ∙ sym q.0, p.1 ∙ sym q.1)

-- `search` and `out` are the second and the third of the arguments of `atc2_next_contact`.
pub atc2_next_contact_determined : (κs : Lfts 3) (a : Dens κs next_contact_kinds.ps) (r r' : ℤ)
    (x x' : AtExit (ended_of 3 next_contact_kinds.ps next_contact_kinds.r) κs)
    → next_contact_reads.Post κs a r x → next_contact_reads.Post κs a r' x'
    → (r ≡ r') × (x.1.0.now ≡ x'.1.0.now) × (x.1.1.0.now ≡ x'.1.1.0.now)
atc2_next_contact_determined κs a r r' x x' p q = (p.0 ∙ sym q.0, p.1.0 ∙ sym q.1.0, p.1.1 ∙ sym q.1.1)

pub atc2_distance_determined : Fixed 0 distance_kinds.ps distance_kinds.r distance_reads.Post
atc2_distance_determined κs a r r' x x' p q = p ∙ sym q

-- `out` is the seventh of the arguments of `atc2_write_balise`.
pub atc2_write_balise_determined : (κs : Lfts 1) (a : Dens κs write_balise_kinds.ps) (r r' : ℤ)
    (x x' : AtExit (ended_of 1 write_balise_kinds.ps write_balise_kinds.r) κs)
    → write_balise_reads.Post κs a r x → write_balise_reads.Post κs a r' x'
    → (r ≡ r') × (x.1.1.1.1.1.1.0.now ≡ x'.1.1.1.1.1.1.0.now)
atc2_write_balise_determined κs a r r' x x' p q = (p.0 ∙ sym q.0, p.1 ∙ sym q.1)

-- `trace` is the second of the arguments of `atc2_compact`.
pub atc2_compact_determined : (κs : Lfts 1) (a : Dens κs compact_kinds.ps) (r r' : ℤ)
    (x x' : AtExit (ended_of 1 compact_kinds.ps compact_kinds.r) κs)
    → compact_reads.Post κs a r x → compact_reads.Post κs a r' x' → (r ≡ r') × (x.1.0.now ≡ x'.1.0.now)
atc2_compact_determined κs a r r' x x' p q = (p.0 ∙ sym q.0, p.1 ∙ sym q.1)

pub atc2_why_word_determined : Fixed 0 why_word_kinds.ps why_word_kinds.r why_word_reads.Post
atc2_why_word_determined κs a r r' x x' p q = p ∙ sym q

-- `store` is the fourth of the arguments of `atc2_settings_begin`, the first of
-- `atc2_settings_add`, the second of `atc2_settings_read`.
pub atc2_settings_begin_determined : (κs : Lfts 1) (a : Dens κs settings_begin_kinds.ps) (r r' : ℤ)
    (x x' : AtExit (ended_of 1 settings_begin_kinds.ps settings_begin_kinds.r) κs)
    → settings_begin_reads.Post κs a r x → settings_begin_reads.Post κs a r' x' → (r ≡ r') × (x.1.1.1.0.now ≡ x'.1.1.1.0.now)
atc2_settings_begin_determined κs a r r' x x' p q = (p.0 ∙ sym q.0, p.1.0 ∙ sym q.1.0)

pub atc2_settings_add_determined : (κs : Lfts 1) (a : Dens κs settings_add_kinds.ps) (r r' : ℤ)
    (x x' : AtExit (ended_of 1 settings_add_kinds.ps settings_add_kinds.r) κs)
    → settings_add_reads.Post κs a r x → settings_add_reads.Post κs a r' x' → (r ≡ r') × (x.0.now ≡ x'.0.now)
atc2_settings_add_determined κs a r r' x x' p q = (p.0 ∙ sym q.0, p.1.0 ∙ sym q.1.0)

pub atc2_settings_read_determined : (κs : Lfts 2) (a : Dens κs settings_read_kinds.ps) (r r' : ℤ)
    (x x' : AtExit (ended_of 2 settings_read_kinds.ps settings_read_kinds.r) κs)
    → settings_read_reads.Post κs a r x → settings_read_reads.Post κs a r' x' → (r ≡ r') × (x.1.0.now ≡ x'.1.0.now)
atc2_settings_read_determined κs a r r' x x' p q = (p.0 ∙ sym q.0, p.1.0 ∙ sym q.1.0)

pub atc2_settings_line_determined : Fixed 1 settings_line_kinds.ps settings_line_kinds.r settings_line_reads.Post
atc2_settings_line_determined κs a r r' x x' p q = p ∙ sym q

-- `state` is the first of the arguments of `atc2_ride_begin` and of `atc2_ride_list`, `text` and
-- `out` the sixth and the seventh of the latter.
pub atc2_ride_begin_determined : (κs : Lfts 1) (a : Dens κs ride_begin_kinds.ps) (r r' : ℤ)
    (x x' : AtExit (ended_of 1 ride_begin_kinds.ps ride_begin_kinds.r) κs)
    → ride_begin_reads.Post κs a r x → ride_begin_reads.Post κs a r' x' → (r ≡ r') × (x.0.now ≡ x'.0.now)
atc2_ride_begin_determined κs a r r' x x' p q = (p.0 ∙ sym q.0, p.1.0 ∙ sym q.1.0)

pub atc2_ride_list_determined : (κs : Lfts 5) (a : Dens κs ride_list_kinds.ps) (r r' : ℤ)
    (x x' : AtExit (ended_of 5 ride_list_kinds.ps ride_list_kinds.r) κs)
    → ride_list_reads.Post κs a r x → ride_list_reads.Post κs a r' x'
    → (r ≡ r') × (x.0.now ≡ x'.0.now) × (x.1.1.1.1.1.0.now ≡ x'.1.1.1.1.1.0.now) × (x.1.1.1.1.1.1.0.now ≡ x'.1.1.1.1.1.1.0.now)
atc2_ride_list_determined κs a r r' x x' p q = (p.0 ∙ sym q.0, p.1.0 ∙ sym q.1.0, p.1.1.1.0 ∙ sym q.1.1.1.0, p.1.1.1.1 ∙ sym q.1.1.1.1)

-- `text` is the third of the arguments of `atc2_ride_end`, `out` the second of `atc2_ride_known`.
pub atc2_ride_end_determined : (κs : Lfts 2) (a : Dens κs ride_end_kinds.ps) (r r' : ℤ)
    (x x' : AtExit (ended_of 2 ride_end_kinds.ps ride_end_kinds.r) κs)
    → ride_end_reads.Post κs a r x → ride_end_reads.Post κs a r' x' → (r ≡ r') × (x.1.1.0.now ≡ x'.1.1.0.now)
atc2_ride_end_determined κs a r r' x x' p q = (p.0 ∙ sym q.0, p.1 ∙ sym q.1)

pub atc2_ride_known_determined : (κs : Lfts 2) (a : Dens κs ride_known_kinds.ps) (r r' : ℤ)
    (x x' : AtExit (ended_of 2 ride_known_kinds.ps ride_known_kinds.r) κs)
    → ride_known_reads.Post κs a r x → ride_known_reads.Post κs a r' x' → (r ≡ r') × (x.1.0.now ≡ x'.1.0.now)
atc2_ride_known_determined κs a r r' x x' p q = (p.0 ∙ sym q.0, p.1 ∙ sym q.1)

-- `ear` is the first of the arguments, `records` the fourth of `atc2_record` and the second of
-- `atc2_record_end`, `out` comes after it.
pub atc2_record_begin_determined : (κs : Lfts 1) (a : Dens κs record_begin_kinds.ps) (r r' : ℤ)
    (x x' : AtExit (ended_of 1 record_begin_kinds.ps record_begin_kinds.r) κs)
    → record_begin_reads.Post κs a r x → record_begin_reads.Post κs a r' x' → (r ≡ r') × (x.0.now ≡ x'.0.now)
atc2_record_begin_determined κs a r r' x x' p q = (p.0 ∙ sym q.0, p.1.0 ∙ sym q.1.0)

pub atc2_record_determined : (κs : Lfts 5) (a : Dens κs record_kinds.ps) (r r' : ℤ)
    (x x' : AtExit (ended_of 5 record_kinds.ps record_kinds.r) κs)
    → record_reads.Post κs a r x → record_reads.Post κs a r' x'
    → (r ≡ r') × (x.0.now ≡ x'.0.now) × (x.1.1.1.0.now ≡ x'.1.1.1.0.now) × (x.1.1.1.1.0.now ≡ x'.1.1.1.1.0.now)
atc2_record_determined κs a r r' x x' p q =
    (p.0 ∙ sym q.0, p.1.0 ∙ sym q.1.0, p.1.1.0 ∙ sym q.1.1.0, p.1.1.1.0 ∙ sym q.1.1.1.0)

pub atc2_record_end_determined : (κs : Lfts 3) (a : Dens κs record_end_kinds.ps) (r r' : ℤ)
    (x x' : AtExit (ended_of 3 record_end_kinds.ps record_end_kinds.r) κs)
    → record_end_reads.Post κs a r x → record_end_reads.Post κs a r' x'
    → (r ≡ r') × (x.0.now ≡ x'.0.now) × (x.1.0.now ≡ x'.1.0.now) × (x.1.1.0.now ≡ x'.1.1.0.now)
atc2_record_end_determined κs a r r' x x' p q =
    (p.0 ∙ sym q.0, p.1.0 ∙ sym q.1.0, p.1.1.0 ∙ sym q.1.1.0, p.1.1.1.0 ∙ sym q.1.1.1.0)
