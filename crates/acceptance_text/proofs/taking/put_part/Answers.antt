-- By the line and its part.
-- Assumes nothing.
use Prim.Native.Nat.{ℕ}
use native.Mathlib.Omega.{arith}
use mathlib.Core.Path.{refl, ap, ◌∙◌}
use mathlib.Core.List.{List}
use Rattle.text.specs.Put.{put}
use Rattle.ride.specs.declared.Line.{Line}
use Rattle.acceptance.specs.declared.Role.{Role}
use Rattle.acceptance_text.specs.Taking.{part_line}
use Rattle.acceptance_text.proofs.Takings.{no_text, group_text}
use Rattle.acceptance_text.proofs.Pieces.{group_length}
use Rattle.acceptance_text.proofs.taking.put_part.Goals as goal

pub spell_group-requires : goal.spell_group-requires
spell_group-requires c =
    omega (arith, c.requires, group_length c.in-Group.seen.place c.in-Group.seen.kind c.args.part)

pub spell_group-requires-in-Wanted : goal.spell_group-requires-in-Wanted
spell_group-requires-in-Wanted c =
    omega (arith, c.requires, group_length c.in-Group.seen.place c.in-Group.seen.kind c.args.part)

pub returns-in-NoPart : goal.returns-in-NoPart
returns-in-NoPart c =
    let a = c.args in
    no_text a.line a.part a.buf.now a.at
    (ap (λ (l : Line). part_line l a.part) c.in-Group.is ∙ ap (part_line (Line.Group c.in-Group.seen)) c.in-NoPart.is)

pub returns-in-Extra : goal.returns-in-Extra
returns-in-Extra c =
    let a = c.args in
    c.spell_group.ensures
    ∙ ap (λ (u : List ℕ). put u a.buf.now a.at) (group_text a.line a.part c.in-Group.seen Role.Extra c.in-Group.is c.in-Extra.is refl)

pub returns-in-Wanted : goal.returns-in-Wanted
returns-in-Wanted c =
    let a = c.args in
    c.spell_group-in-Wanted.ensures
    ∙ ap (λ (u : List ℕ). put u a.buf.now a.at)
    (group_text a.line a.part c.in-Group.seen (Role.Wanted c.in-Wanted.field-0) c.in-Group.is c.in-Wanted.is refl)

pub returns-in-Fault : goal.returns-in-Fault
returns-in-Fault c =
    let a = c.args in
    no_text a.line a.part a.buf.now a.at (ap (λ (l : Line). part_line l a.part) c.in-Fault.is)

pub returns-in-Missed : goal.returns-in-Missed
returns-in-Missed c =
    let a = c.args in
    no_text a.line a.part a.buf.now a.at (ap (λ (l : Line). part_line l a.part) c.in-Missed.is)

pub returns-in-Record : goal.returns-in-Record
returns-in-Record c =
    let a = c.args in
    no_text a.line a.part a.buf.now a.at (ap (λ (l : Line). part_line l a.part) c.in-Record.is)

pub returns-in-Trace : goal.returns-in-Trace
returns-in-Trace c =
    let a = c.args in
    no_text a.line a.part a.buf.now a.at (ap (λ (l : Line). part_line l a.part) c.in-Trace.is)
