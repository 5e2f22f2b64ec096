-- By the reason.
-- Assumes nothing.
use mathlib.Core.Path.{sym, ap, subst, ◌∙◌}
use mathlib.Core.List.{List, ◌++◌}
use Prim.Native.Nat.{ℕ, ◌+◌, ◌≤◌}
use lib.ListN.{length}
use Rattle.text.specs.Text.{codes}
use Rattle.text.specs.Put.{put}
use Rattle.text.proofs.Standing.{less, room_after, join, numbered, room_as}
use Rattle.group_reason.specs.declared.Reason.{Reason}
use Rattle.group_reason.specs.Says.{says_bad_balise, says_reason}
use Rattle.group_reason.specs.Text.{badly, balise_at, reason_text}
use Rattle.group_reason.proofs.Pieces.{one_is, unread_is}
use Rattle.group_reason.proofs.lines.put_text.Goals.{In-Unread}
use Rattle.group_reason.proofs.lines.put_text.Goals as goal

-- A bad balise has room, whole.
whole : (k : In-Unread) → k.args.at + length (balise_at k.in-Unread.balise k.in-Unread.place ++ badly (says_bad_balise k.in-Unread.bad)) ≤ length k.args.buf.now
whole k =
    room_as k.args.buf.now k.args.at (unread_is k.in-Unread.balise k.in-Unread.place (says_bad_balise k.in-Unread.bad) ∙ ap (λ (v : Reason). reason_text (says_reason v)) (sym k.in-Unread.is)) k.requires

pub put_many-requires : goal.put_many-requires
unfolding reason_text
put_many-requires c =
    subst (λ (v : Reason). c.args.at + length (reason_text (says_reason v)) ≤ length c.args.buf.now) c.in-Many.is c.requires

pub put_balise-a-requires : goal.put_balise-a-requires
put_balise-a-requires c =
    less c.args.buf.now c.args.at (balise_at c.in-Unread.balise c.in-Unread.place) (badly (says_bad_balise c.in-Unread.bad)) (whole (goal.at-put_balise-a-requires c).In-Unread)

pub put_bad-requires : goal.put_bad-requires
put_bad-requires c =
    room_after c.args.buf.now c.args.at (balise_at c.in-Unread.balise c.in-Unread.place) (badly (says_bad_balise c.in-Unread.bad)) (whole (goal.at-put_bad-requires c).In-Unread) c.put_balise-a.ensures

pub put_run-requires : goal.put_run-requires
unfolding reason_text
put_run-requires c =
    subst (λ (v : Reason). c.args.at + length (reason_text (says_reason v)) ≤ length c.args.buf.now) c.in-NoRow.is c.requires

pub put_balise-requires : goal.put_balise-requires
unfolding reason_text
put_balise-requires c =
    subst (λ (v : Reason). c.args.at + length (reason_text (says_reason v)) ≤ length c.args.buf.now) c.in-NoDistance.is c.requires

pub returns-in-None : goal.returns-in-None
unfolding reason_text
returns-in-None c =
    let a = c.args in
    c.put.ensures ∙ ap (λ (v : Reason). put (reason_text (says_reason v)) a.buf.now a.at) (sym c.in-None.is)

pub returns-in-One : goal.returns-in-One
returns-in-One c =
    let a = c.args in
    let is = one_is c.in-One.n ∙ ap (λ (v : Reason). reason_text (says_reason v)) (sym c.in-One.is) in
    join a.buf.now a.at (numbered "" c.in-One.n) (codes " balise") (room_as a.buf.now a.at is c.requires) c.put_number-a.ensures c.put-in-One.ensures
    ∙ ap (λ (t : List ℕ). put t a.buf.now a.at) is

pub returns-in-Many : goal.returns-in-Many
unfolding reason_text
returns-in-Many c =
    let a = c.args in
    c.put_many.ensures ∙ ap (λ (v : Reason). put (reason_text (says_reason v)) a.buf.now a.at) (sym c.in-Many.is)

pub returns-in-Unread : goal.returns-in-Unread
returns-in-Unread c =
    let a = c.args in
    join a.buf.now a.at (balise_at c.in-Unread.balise c.in-Unread.place) (badly (says_bad_balise c.in-Unread.bad)) (whole (goal.at-returns-in-Unread c).In-Unread) c.put_balise-a.ensures c.put_bad.ensures
    ∙ ap (λ (t : List ℕ). put t a.buf.now a.at) (unread_is c.in-Unread.balise c.in-Unread.place (says_bad_balise c.in-Unread.bad) ∙ ap (λ (v : Reason). reason_text (says_reason v)) (sym c.in-Unread.is))

pub returns-in-NoRow : goal.returns-in-NoRow
unfolding reason_text
returns-in-NoRow c =
    let a = c.args in
    c.put_run.ensures ∙ ap (λ (v : Reason). put (reason_text (says_reason v)) a.buf.now a.at) (sym c.in-NoRow.is)

pub returns-in-NoDistance : goal.returns-in-NoDistance
unfolding reason_text
returns-in-NoDistance c =
    let a = c.args in
    c.put_balise.ensures ∙ ap (λ (v : Reason). put (reason_text (says_reason v)) a.buf.now a.at) (sym c.in-NoDistance.is)
