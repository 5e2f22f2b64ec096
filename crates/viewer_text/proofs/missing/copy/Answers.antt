-- `copy` makes one sign visible a turn: those that are left, put after those that stand, always
-- make the whole.
use native.Mathlib.Nat.{add-zero}
use mathlib.Core.Path.{◌≡◌, refl, sym, ap, ◌∙◌}
use mathlib.Core.List.{List, map}
use Prim.Native.Nat.{ℕ, ◌+◌, ◌<◌}
use native.Mathlib.Omega.{arith}
use lib.ListN.{length, get_or, set, drop, length-set}
use lib.Seq.{drop-length}
use Rattle.text.specs.Put.{placed}
use Rattle.text.proofs.Placing.{placed_none, placed_next}
use Rattle.text.proofs.Standing.{was_put}
use Rattle.viewer_text.specs.Missing.{visible}
use Rattle.viewer_text.proofs.Signs.{visible_at, as_many}
use Rattle.viewer_text.proofs.missing.copy.Goals.{At-loop-i}
use Rattle.viewer_text.proofs.missing.copy.Goals as goal

-- a sign has its place in the buffer
room : (l : At-loop-i) → let a = l.args in l.loop-i.i < length a.word.now → a.at + l.loop-i.i < length l.loop-i.buf
room l h = omega (arith, l.requires, l.loop-i.invariant.0)

pub loop-i-init : goal.loop-i-init
loop-i-init c =
    let a = c.args in
    (refl, ap (placed (map visible a.word.now) a.buf.now) (add-zero a.at))

pub loop-i-preserved : goal.loop-i-preserved
loop-i-preserved c =
    let a = c.args in
    let i = c.loop-i.i in
    let b = c.loop-i.buf in
    let s : List ℕ = map visible a.word.now in
    let less : i < length a.word.now = c.loop-i-test.true in
    let within : i < length s = omega (arith, as_many a.word.now) in
    let sign : c.visible.result ≡ get_or s i 0 = c.visible.ensures ∙ sym (visible_at a.word.now i less) in (
      length-set b (a.at + i) c.visible.result ∙ c.loop-i.invariant.0,
      ap (λ (d : ℕ). placed (drop (i + 1) s) (set b (a.at + i) d) (a.at + (i + 1))) sign
          ∙ placed_next s b a.at i within (room (goal.at-loop-i-preserved c).At-loop-i less)
          ∙ c.loop-i.invariant.1,
    )

pub shape_of-buf : goal.shape_of-buf
shape_of-buf c = c.loop-i.invariant.0

pub returns : goal.returns
returns c =
    let a = c.args in
    let s : List ℕ = map visible a.word.now in
    let all : c.loop-i.i ≡ length s = omega (arith, as_many a.word.now, c.loop-i-test.false) in
    was_put {t = s} (record {
      put = (
        ap (λ (k : ℕ). a.at + k) (sym (as_many a.word.now)),
        sym (placed_none c.loop-i.buf (a.at + c.loop-i.i))
            ∙ ap (λ (t : List ℕ). placed t c.loop-i.buf (a.at + c.loop-i.i)) (sym (ap (λ (k : ℕ). drop k s) all ∙ drop-length s))
            ∙ c.loop-i.invariant.1,
      );
      fits = omega (arith, as_many a.word.now, c.requires);
    })

pub overflow_add-buf : goal.overflow_add-buf
overflow_add-buf c = omega (arith, room (goal.at-overflow_add-buf c).At-loop-i c.loop-i-test.true)

pub bounds-buf-at : goal.bounds-buf-at
bounds-buf-at c = omega (arith, room (goal.at-bounds-buf-at c).At-loop-i c.loop-i-test.true)

pub overflow_add-result : goal.overflow_add-result
overflow_add-result c = omega (arith, c.requires)
