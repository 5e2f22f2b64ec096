-- `atc2_ride_end` puts the text of the end into a space of its own first, to know its length, and
-- then into the lent one, if it fits there.
-- Assumes nothing.
use Prim.Native.Nat.{ℕ, ◌≤◌, ◌<◌}
use mathlib.Core.Path.{◌≡◌, ap, ap₂, subst, ◌∙◌}
use mathlib.Core.List.{List}
use native.Mathlib.Omega.{arith}
use lib.ListN.{length, replicate, length-replicate}
use Rattle.text.specs.Put.{Put, put}
use Rattle.ride_text.specs.Told.{end_text}
use Rattle.ride_bytes.specs.Rides.{ride_in}
use Rattle.abi.specs.Rides.{style_of}
use Rattle.abi.proofs.Carried.{as_i32}
use Rattle.abi.proofs.Ends.{end_short, whole_put, no_room, told_so, untold_so}
use borrow.Author.Rules.{rules}
use Rattle.abi.proofs.rides.atc2_ride_end.Goals.{After-put_end, After-put_end-needed}
use Rattle.abi.proofs.rides.atc2_ride_end.Goals as goal

-- The text of the end.
ends : After-put_end-needed → List ℕ
ends w = let a = w.args in end_text (style_of a.style) (ride_in a.state.now)

-- It is what is put.
same : (w : After-put_end-needed) → end_text w.with_reasons-reasons.result w.ride_in-held.result ≡ ends w
unfolding ends
same w = ap₂ end_text w.with_reasons-reasons.ensures w.ride_in-held.ensures

-- What is needed is its length.
needed_is : (w : After-put_end-needed) → w.put_end-needed.result ≡ length (ends w)
needed_is w =
    let t = end_text w.with_reasons-reasons.result w.ride_in-held.result in
    let fits : length t ≤ length {A = ℕ} (replicate 160 0) =
    omega (arith, end_short w.with_reasons-reasons.result w.ride_in-held.result, length-replicate {A = ℕ} 160 0) in
    whole_put t (replicate 160 0) _ _ w.put_end-needed.ensures fits ∙ ap length (same w)

-- What the second put came to.
second : (p : After-put_end) → (p.put_end.result ≡ length (ends (goal.at-After-put_end p).After-put_end-needed)) × (length (ends (goal.at-After-put_end p).After-put_end-needed) ≤ length p.args.text.now)
unfolding ends
second p =
    let a = p.args in
    let t = end_text (style_of a.style) (ride_in a.state.now) in
    let fits : length t ≤ length a.text.now = subst (λ (n : ℕ). n ≤ length a.text.now) (needed_is (goal.at-After-put_end p).After-put_end-needed) p.if-needed-text.false in
    (whole_put t a.text.now _ _ (p.put_end.ensures ∙ ap (λ (x : List ℕ). put x a.text.now 0) (same (goal.at-After-put_end p).After-put_end-needed)) fits, fits)

small : (p : After-put_end) → p.put_end.result ≤ 160
unfolding ends
small p =
    let a = p.args in
    omega (arith, (second p).0, end_short (style_of a.style) (ride_in a.state.now))

pub returns-then-needed-text : goal.returns-then-needed-text
unfolding ends
returns-then-needed-text c =
    let a = c.args in
    let t = end_text (style_of a.style) (ride_in a.state.now) in
    let more : length a.text.now < length t = subst (λ (n : ℕ). length a.text.now < n) (needed_is (goal.at-returns-then-needed-text c).After-put_end-needed) c.if-needed-text.true in
    record { value = untold_so (style_of a.style) (ride_in a.state.now) a.text.now more; text_after = no_room t a.text.now more }

pub overflow_cast-result : goal.overflow_cast-result
overflow_cast-result c = let few : c.put_end.result ≤ 160 = small (goal.at-overflow_cast-result c).After-put_end in search rules

pub returns : goal.returns
unfolding ends
returns c =
    let a = c.args in
    let few : c.put_end.result ≤ 160 = small (goal.at-returns c).After-put_end in record { value = as_i32 (omega arith) ∙ told_so (style_of a.style) (ride_in a.state.now) a.text.now c.put_end.result (second (goal.at-returns c).After-put_end).0 (second (goal.at-returns c).After-put_end).1; text_after = ap (λ (x : Put). x.buffer) c.put_end.ensures ∙ ap (λ (x : List ℕ). (put x a.text.now 0).buffer) (same (goal.at-returns c).After-put_end-needed) }
