-- Each contract fixes its function's answer.
-- Assumes nothing.
use mathlib.Core.Path.{sym, ◌∙◌}
use Rattle.ride_bytes.proofs.ride_bytes.Kinds as bytes_kinds
use Rattle.ride_bytes.proofs.ride_bytes.Reads as bytes_reads
use Rattle.ride_bytes.proofs.ride_in.Kinds as in_kinds
use Rattle.ride_bytes.proofs.ride_in.Reads as in_reads
use Rattle.ride_bytes.proofs.known.known_figures.Kinds as known_kinds
use Rattle.ride_bytes.proofs.known.known_figures.Reads as known_reads
use Rattle.words.proofs.Told.{Fixed}

pub ride_bytes_determined : Fixed 0 bytes_kinds.ps bytes_kinds.r bytes_reads.Post
ride_bytes_determined κs a r r' x x' p q = p.0 ∙ sym q.0

pub ride_in_determined : Fixed 1 in_kinds.ps in_kinds.r in_reads.Post
ride_in_determined κs a r r' x x' p q = p ∙ sym q

pub known_figures_determined : Fixed 0 known_kinds.ps known_kinds.r known_reads.Post
known_figures_determined κs a r r' x x' p q = p.0 ∙ sym q.0
