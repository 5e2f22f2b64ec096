-- One bit, then two, four, eight, sixteen.
-- Assumes nothing.
use lib.Bits.{bit_xor}
use Rattle.contact.proofs.Adders.{single, twice}
use Rattle.contact.proofs.count.counted.Goals as goal

pub returns : goal.returns
returns c =
    let w = c.args.w in
    let t = c.doubled-two.result in
    let f = c.doubled-four.result in
    let g = c.doubled-eight.result in
    let r = c.doubled.result in
    let tells =
    twice w 8 g.a g.b g.c g.d r.a r.b r.c r.d
    (twice w 4 f.a f.b f.c f.d g.a g.b g.c g.d
    (twice w 2 t.a t.b t.c t.d f.a f.b f.c f.d
    (twice w 1 (bit_xor w 18446744073709551615) 0 0 0 t.a t.b t.c t.d (single w) c.doubled-two.ensures.by_index c.doubled-two.ensures.by_index_2)
    c.doubled-four.ensures.by_index c.doubled-four.ensures.by_index_2)
    c.doubled-eight.ensures.by_index c.doubled-eight.ensures.by_index_2)
    c.doubled.ensures.by_index c.doubled.ensures.by_index_2 in
    record { by_index = λ k room. (tells k room).0; by_index_2 = λ k room. (tells k room).1 }
