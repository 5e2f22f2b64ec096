-- `atc2_write_balise` returns the number of bytes, or the refusal, and leaves the buffer, as
-- `write` does.
-- Assumes nothing.
use mathlib.Core.Path.{◌≡◌, sym, ap, ◌∙◌}
use Prim.Native.Nat.{◌≤◌}
use native.Mathlib.Omega.{arith}
use borrow.Author.Rules.{rules}
use Rattle.balise_writer.specs.Write.{Writing, write}
use Rattle.balise_writer.specs.Says.{says_answer}
use Rattle.balise_writer.proofs.Accepted.{few_bytes}
use Rattle.abi.specs.Face.{returned, itself}
use Rattle.abi.proofs.Carried.{carried, as_i32}
use Rattle.abi.proofs.balises.atc2_write_balise.Goals.{After-write, In-Bytes}
use Rattle.abi.proofs.balises.atc2_write_balise.Goals as goal

-- What the call of `write` came to.
came : After-write → Writing
came w =
    let a = w.args in
    write a.x a.y a.z a.s a.t a.n a.out.now

answered : (w : After-write) → says_answer w.write.result ≡ (came w).answer
unfolding came
answered w = ap (λ (v : Writing). v.answer) w.write.ensures

left_there : (w : After-write) → w.write.new.out ≡ (came w).buffer
unfolding came
left_there w = ap (λ (v : Writing). v.buffer) w.write.ensures

-- at most 4,001
few : (c : In-Bytes) → c.in-Bytes.bytes ≤ 4001
unfolding came
few c =
    let a = c.args in
    few_bytes a.x a.y a.z a.s a.t a.n a.out.now c.in-Bytes.bytes (ap says_answer (sym c.in-Bytes.is) ∙ answered (goal.at-In-Bytes c).After-write)

pub overflow_cast-result : goal.overflow_cast-result
overflow_cast-result c = let small : c.in-Bytes.bytes ≤ 4001 = few c in search rules

pub returns-in-Bytes : goal.returns-in-Bytes
unfolding came
returns-in-Bytes c =
    let small : c.in-Bytes.bytes ≤ 4001 = few c in
    record { value = as_i32 (omega arith) ∙ carried (returned itself) says_answer c.in-Bytes.is (answered (goal.at-returns-in-Bytes c).After-write); out_after = left_there (goal.at-returns-in-Bytes c).After-write }

pub returns-in-TooLarge : goal.returns-in-TooLarge
unfolding came
returns-in-TooLarge c =
    record { value = carried (returned itself) says_answer c.in-TooLarge.is (answered (goal.at-returns-in-TooLarge c).After-write); out_after = left_there (goal.at-returns-in-TooLarge c).After-write }

pub returns-in-Fifteen : goal.returns-in-Fifteen
unfolding came
returns-in-Fifteen c =
    record { value = carried (returned itself) says_answer c.in-Fifteen.is (answered (goal.at-returns-in-Fifteen c).After-write); out_after = left_there (goal.at-returns-in-Fifteen c).After-write }

pub returns-in-NotSeven : goal.returns-in-NotSeven
unfolding came
returns-in-NotSeven c =
    record { value = carried (returned itself) says_answer c.in-NotSeven.is (answered (goal.at-returns-in-NotSeven c).After-write); out_after = left_there (goal.at-returns-in-NotSeven c).After-write }

pub returns-in-Count : goal.returns-in-Count
unfolding came
returns-in-Count c =
    record { value = carried (returned itself) says_answer c.in-Count.is (answered (goal.at-returns-in-Count c).After-write); out_after = left_there (goal.at-returns-in-Count c).After-write }

pub returns-in-Short : goal.returns-in-Short
unfolding came
returns-in-Short c =
    record { value = carried (returned itself) says_answer c.in-Short.is (answered (goal.at-returns-in-Short c).After-write); out_after = left_there (goal.at-returns-in-Short c).After-write }
