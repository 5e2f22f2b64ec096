-- Each contract fixes the whole answer: any two that it allows are equal.
-- Assumes nothing.
use mathlib.Core.Path.{sym, ◌∙◌}
use Rattle.viewer_text.proofs.put_state.Kinds as put_state_kinds
use Rattle.viewer_text.proofs.put_state.Reads as put_state_reads
use Rattle.viewer_text.proofs.commands.read.Kinds as read_kinds
use Rattle.viewer_text.proofs.commands.read.Reads as read_reads
use Rattle.viewer_text.proofs.ahead.put_next.Kinds as put_next_kinds
use Rattle.viewer_text.proofs.ahead.put_next.Reads as put_next_reads
use Rattle.viewer_text.proofs.screen.put_beside.Kinds as put_beside_kinds
use Rattle.viewer_text.proofs.screen.put_beside.Reads as put_beside_reads
use Rattle.viewer_text.proofs.screen.last_lines.Kinds as last_lines_kinds
use Rattle.viewer_text.proofs.screen.last_lines.Reads as last_lines_reads
use Rattle.viewer_text.proofs.screen.first_around.Kinds as first_around_kinds
use Rattle.viewer_text.proofs.screen.first_around.Reads as first_around_reads
use Rattle.viewer_text.proofs.finding.has.Kinds as has_kinds
use Rattle.viewer_text.proofs.finding.has.Reads as has_reads
use Rattle.viewer_text.proofs.missing.put_no_line.Kinds as put_no_line_kinds
use Rattle.viewer_text.proofs.missing.put_no_line.Reads as put_no_line_reads
use Rattle.viewer_text.proofs.seeking.seek.Kinds as seek_kinds
use Rattle.viewer_text.proofs.seeking.seek.Reads as seek_reads
use Rattle.words.proofs.Told.{Fixed, FixedWith}
use Rattle.text.proofs.Putting.{same_put}

pub put_state_determined : FixedWith 1 put_state_kinds.ps put_state_kinds.r put_state_reads.Post (λ κs x. x.1.1.1.1.0.now)
put_state_determined κs a r r' x x' p q = same_put (p ∙ sym q)

pub read_determined : Fixed 1 read_kinds.ps read_kinds.r read_reads.Post
read_determined κs a r r' x x' p q = p ∙ sym q

pub last_lines_determined : Fixed 1 last_lines_kinds.ps last_lines_kinds.r last_lines_reads.Post
last_lines_determined κs a r r' x x' p q = p ∙ sym q

pub first_around_determined : Fixed 0 first_around_kinds.ps first_around_kinds.r first_around_reads.Post
first_around_determined κs a r r' x x' p q = p ∙ sym q

pub has_determined : Fixed 2 has_kinds.ps has_kinds.r has_reads.Post
has_determined κs a r r' x x' p q = p ∙ sym q

pub seek_determined : Fixed 2 seek_kinds.ps seek_kinds.r seek_reads.Post
seek_determined κs a r r' x x' p q = p ∙ sym q

pub put_next_determined : FixedWith 2 put_next_kinds.ps put_next_kinds.r put_next_reads.Post (λ κs x. x.1.1.0.now)
put_next_determined κs a r r' x x' p q = same_put (p ∙ sym q)

pub put_beside_determined : FixedWith 2 put_beside_kinds.ps put_beside_kinds.r put_beside_reads.Post (λ κs x. x.1.1.1.0.now)
put_beside_determined κs a r r' x x' p q = same_put (p ∙ sym q)

pub put_no_line_determined : FixedWith 2 put_no_line_kinds.ps put_no_line_kinds.r put_no_line_reads.Post (λ κs x. x.1.0.now)
put_no_line_determined κs a r r' x x' p q = same_put (p ∙ sym q)
