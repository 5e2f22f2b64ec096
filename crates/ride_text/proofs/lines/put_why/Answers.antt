-- `put_why` puts nothing, or the colon and the explainer's reason.
use mathlib.Core.Path.{sym, ap, ◌∙◌}
use mathlib.Core.List.{List}
use Prim.Native.Nat.{ℕ}
use borrow.Author.Tests.{not-true, not-false}
use Rattle.text.specs.Text.{codes}
use Rattle.text.specs.Put.{put}
use Rattle.text.proofs.Standing.{join, room_as, by_case}
use Rattle.group_reason.specs.Reason.{Explained}
use Rattle.group_reason.specs.Explain.{explain}
use Rattle.group_reason.specs.Text.{reason_text}
use Rattle.ride_text.specs.Style.{Style}
use Rattle.ride_text.specs.Text.{why_text, behind}
use Rattle.ride_text.proofs.lines.put_why.Goals as goal

pub returns-then-not-reasons : goal.returns-then-not-reasons
returns-then-not-reasons c =
    let a = c.args in
    by_case (λ (reasons : Style). behind reasons a.closed) a.buf.now a.at (not-true a.reasons c.if-not-reasons.true-raw) c.put.ensures

pub returns : goal.returns
unfolding why_text
returns c =
    let a = c.args in
    let b = a.buf.now in
    let words : Style → List ℕ = λ (reasons : Style). behind reasons a.closed in
    let is = not-false a.reasons c.if-not-reasons.false-raw in
    let whole = room_as b a.at (sym (ap words is)) c.requires in
    by_case words b a.at is
    (join b a.at (codes ": ") (reason_text (explain a.closed)) whole c.put-a.ensures
    (c.put_reason.ensures ∙ ap (λ (e : Explained). put (reason_text e) c.put-a.new.buf c.put-a.result) c.explain.ensures))
