-- `put_how` goes by what is wrong.
use mathlib.Core.Path.{sym, ap, subst, ◌∙◌}
use mathlib.Core.List.{List}
use Prim.Native.Nat.{ℕ, ◌+◌, ◌≤◌}
use lib.ListN.{length}
use Rattle.text.specs.Text.{codes}
use Rattle.text.specs.Put.{put}
use Rattle.text.proofs.Standing.{join, numbered, room_as}
use Rattle.settings_text.specs.declared.Condition.{Condition}
use Rattle.settings_text.specs.Told.{told}
use Rattle.settings_text.proofs.Pieces.{unreadable_is, first_place_is}
use Rattle.settings_text.proofs.telling.put_how.Goals as goal

pub put_refusal-requires : goal.put_refusal-requires
unfolding told
put_refusal-requires c =
    subst (λ (h : Condition). c.args.at + length (told c.args.line h) ≤ length c.args.buf.now) c.in-Refused.is c.requires

pub returns-in-Fine : goal.returns-in-Fine
unfolding told
returns-in-Fine c =
    let a = c.args in
    c.put.ensures ∙ ap (λ (h : Condition). put (told a.line h) a.buf.now a.at) (sym c.in-Fine.is)

pub returns-in-Unreadable : goal.returns-in-Unreadable
returns-in-Unreadable c =
    let a = c.args in
    let is = unreadable_is a.line ∙ ap (told a.line) (sym c.in-Unreadable.is) in
    join a.buf.now a.at (numbered "settings line " a.line) (codes " unreadable\n") (room_as a.buf.now a.at is c.requires) c.put_number-a.ensures c.put-in-Unreadable.ensures
    ∙ ap (λ (t : List ℕ). put t a.buf.now a.at) is

pub returns-in-FirstPlace : goal.returns-in-FirstPlace
returns-in-FirstPlace c =
    let a = c.args in
    let is = first_place_is a.line ∙ ap (told a.line) (sym c.in-FirstPlace.is) in
    join a.buf.now a.at (numbered "settings line " a.line) (codes " unreadable: first place not 0\n") (room_as a.buf.now a.at is c.requires) c.put_number-a-in-FirstPlace.ensures c.put-in-FirstPlace.ensures
    ∙ ap (λ (t : List ℕ). put t a.buf.now a.at) is

pub returns-in-Refused : goal.returns-in-Refused
unfolding told
returns-in-Refused c =
    let a = c.args in
    c.put_refusal.ensures ∙ ap (λ (h : Condition). put (told a.line h) a.buf.now a.at) (sym c.in-Refused.is)

pub returns-in-TooLong : goal.returns-in-TooLong
unfolding told
returns-in-TooLong c =
    let a = c.args in
    c.put-in-TooLong.ensures ∙ ap (λ (h : Condition). put (told a.line h) a.buf.now a.at) (sym c.in-TooLong.is)
