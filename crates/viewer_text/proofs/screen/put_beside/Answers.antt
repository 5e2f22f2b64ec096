-- `put_beside` asks whether there is such a record, then what it says.
use mathlib.Core.Path.{◌≡◌, sym, ap, ◌∙◌}
use mathlib.Core.Bool.{Bool}
use Prim.Native.Nat.{ℕ, ◌+◌, ◌*◌, ◌/◌, ◌<◌, ◌≤◌}
use mathlib.Core.List.{List, []}
use lib.Dec.{eqb}
use lib.ListN.{length}
use borrow.Author.Tests.{lt-ltb, le-ltb}
use Rattle.words.specs.Answer.{pick}
use Rattle.text.specs.Put.{put}
use Rattle.trace_text.specs.Thing.{thing_at}
use Rattle.viewer_text.specs.Screen.{said_beside, beside}
use Rattle.viewer_text.proofs.screen.put_beside.Goals as goal

none_there : (trace : List ℕ) (i n : ℕ) → length trace / 8 ≤ i → [] ≡ beside trace i n
unfolding beside
none_there trace i n h = ap (λ (b : Bool). pick b (said_beside (eqb i n) (i + 1) (thing_at trace (i * 8))) []) (sym (le-ltb i (length trace / 8) h))

one_there : (trace : List ℕ) (i n : ℕ) → i < length trace / 8 → said_beside (eqb i n) (i + 1) (thing_at trace (i * 8)) ≡ beside trace i n
unfolding beside
one_there trace i n h = ap (λ (b : Bool). pick b (said_beside (eqb i n) (i + 1) (thing_at trace (i * 8))) []) (sym (lt-ltb i (length trace / 8) h))

pub returns-then-i-trace : goal.returns-then-i-trace
returns-then-i-trace c =
    let a = c.args in
    c.put.ensures ∙ ap (λ (t : List ℕ). put t a.buf.now a.at) (none_there a.trace.now a.i a.number c.if-i-trace.true)

pub returns-in-Nothing : goal.returns-in-Nothing
returns-in-Nothing c =
    let a = c.args in
    c.put-in-Nothing.ensures
    ∙ ap (λ (x : List ℕ). put x a.buf.now a.at)
    (ap (said_beside (eqb a.i a.number) (a.i + 1)) (sym c.in-Nothing.is ∙ c.thing_at-said.ensures) ∙ one_there a.trace.now a.i a.number c.if-i-trace.false)

pub returns-in-Thing : goal.returns-in-Thing
returns-in-Thing c =
    let a = c.args in
    c.put_marked.ensures
    ∙ ap (λ (x : List ℕ). put x a.buf.now a.at)
    (ap (said_beside (eqb a.i a.number) (a.i + 1)) (sym c.in-Thing.is ∙ c.thing_at-said.ensures) ∙ one_there a.trace.now a.i a.number c.if-i-trace.false)

pub returns-in-Unreadable : goal.returns-in-Unreadable
returns-in-Unreadable c =
    let a = c.args in
    c.put-in-Unreadable.ensures
    ∙ ap (λ (x : List ℕ). put x a.buf.now a.at)
    (ap (said_beside (eqb a.i a.number) (a.i + 1)) (sym c.in-Unreadable.is ∙ c.thing_at-said.ensures) ∙ one_there a.trace.now a.i a.number c.if-i-trace.false)
