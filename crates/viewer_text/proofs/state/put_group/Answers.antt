-- `put_group` asks first whether a group is open.
use mathlib.Core.Path.{◌≡◌, refl, ap, ◌∙◌}
use mathlib.Core.List.{List, [], ◌∷◌, ◌++◌}
use Prim.Native.Nat.{ℕ, ◌<◌}
use lib.ListN.{get_or}
use Rattle.text.specs.Text.{codes, decimal}
use Rattle.text.specs.Put.{put}
use native.Mathlib.Omega.{arith}
use borrow.Author.Tests.{lt-ltb}
use Rattle.group.specs.declared.Group.{Group}
use Rattle.group.specs.declared.Balise.{Balise}
use Rattle.group.specs.declared.Heard.{Heard}
use Rattle.ride.specs.State.{no_balise}
use Rattle.ride.specs.Closing.{first_place}
use Rattle.text.proofs.Standing.{join_3, room_as}
use Rattle.viewer_text.specs.Pieces.{on_group}
use Rattle.viewer_text.proofs.state.put_group.Goals as goal

none_open : (g : Group) → g.count ≡ 0 → codes "\n  no group" ≡ on_group g
unfolding on_group
none_open g e = rw e

one_open : (g : Group) → (g.count ≡ 0 → ⊥)
    → (codes "\n  group of " ++ decimal g.count) ++ (codes " from " ++ decimal (first_place g)) ++ (codes " to " ++ decimal g.last) ≡ on_group g
unfolding on_group
one_open g e =
    let some : 0 < g.count = omega arith in
    rw (lt-ltb 0 g.count some)

-- the first place, whatever a group without places is read as
first_of : (l : List Balise) (d e : Balise) → d.place ≡ e.place → (get_or l 0 d).place ≡ (get_or l 0 e).place
first_of [] d e h = h
first_of (b ∷ l) d e h = refl

abbrev none_kept : Balise
none_kept = record { place = 0; heard = Heard.Words 0 0 0 }

pub returns-then-of-eq0 : goal.returns-then-of-eq0
returns-then-of-eq0 c =
    c.put.ensures ∙ ap (λ (t : List ℕ). put t c.args.buf.now c.args.at) (none_open c.args.of c.if-of-eq0.true)

pub returns : goal.returns
returns c =
    let first = (get_or c.args.of.kept 0 none_kept).place in
    let same : (codes "\n  group of " ++ decimal c.args.of.count) ++ (codes " from " ++ decimal first) ++ (codes " to " ++ decimal c.args.of.last)
    ≡ (codes "\n  group of " ++ decimal c.args.of.count) ++ (codes " from " ++ decimal (first_place c.args.of)) ++ (codes " to " ++ decimal c.args.of.last) =
    ap (λ (n : ℕ). (codes "\n  group of " ++ decimal c.args.of.count) ++ (codes " from " ++ decimal n) ++ (codes " to " ++ decimal c.args.of.last)) (first_of c.args.of.kept none_kept no_balise refl) in
    let is = same ∙ one_open c.args.of c.if-of-eq0.false in
    join_3 c.args.buf.now c.args.at (codes "\n  group of " ++ decimal c.args.of.count) (codes " from " ++ decimal first) (codes " to " ++ decimal c.args.of.last) (room_as c.args.buf.now c.args.at is c.requires)
    c.put_number-a.ensures c.put_number-b.ensures c.put_number.ensures
    ∙ ap (λ (t : List ℕ). put t c.args.buf.now c.args.at) is
