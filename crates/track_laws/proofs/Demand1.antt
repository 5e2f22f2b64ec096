-- The figures are judged as the table says, and a line as the way does, test after test.
-- Assumes nothing.
use mathlib.Core.Path.{◌≡◌, refl, sym, ap, subst, ◌∙◌}
use mathlib.Core.Bool.{Bool, true, false, ◌&&◌}
use mathlib.Core.List.{List, [], ◌∷◌}
use Prim.Native.Nat.{ℕ}
use lib.Dec.{ltb}
use Rattle.words.specs.Answer.{Answer, Outcome, gives, refuses, then, pick}
use Rattle.words.proofs.Told.{told}
use Rattle.words.proofs.Never.{cannot_be}
use Rattle.telegram.specs.Spelling.{Words, asked, has_fifteen, words_of, spell}
use Rattle.telegram.specs.Says.{says_spelt}
use Rattle.telegram.proofs.Determined.{spelt_of, spelt_back}
use Rattle.trace_text.specs.declared.What.{What}
use Rattle.trace_text.specs.Record.{Recording, recording, record_of_meant, bytes_of}
use Rattle.trace_text.specs.Record as recorded
use Rattle.track_lead.specs.declared.Thing.{Thing}
use Rattle.track_lead.specs.declared.TrackWay.{TrackWay}
use Rattle.track_lead.specs.Way.{Bad, refused, too_near, is_sent, is_near, after, take}
use Rattle.track_lead.specs.Says.{says_taken}
use Rattle.track_lead.proofs.Determined.{taken_of, taken_back}
use Rattle.demands.specs.Rules.{row_of, row, Decided, Given}
use Rattle.demands.specs.Table02.{some_above, some_fifteen, too_high}
use Rattle.demands.proofs.Common.Rules.{if_so}
use Rattle.demands.proofs.Demand1.Writes.{above_is, fifteen_is}
use Rattle.track_laws.specs.Demand1.{figure_rules, what_rules, take_rules, Demand1, Untouched}

by_figures : {A : Type 0} (x y z : ℕ) (given : A) → Decided {A = Outcome A} Given (figure_rules x y z) (pick (some_above x y z) (refuses 2) (pick (some_fifteen x y z) (refuses 3) (gives given)))
by_figures x y z given =
    if_so Given (row 3 (some_fifteen x y z) ∷ []) (refuses 2) (pick (some_fifteen x y z) (refuses 3) (gives given))
    (if_so Given [] (refuses 3) (gives given) (given, refl) (some_fifteen x y z)) (some_above x y z)

spelt_so : (x y z : ℕ) → spell (asked x y z) ≡ pick (some_above x y z) (refuses 2) (pick (some_fifteen x y z) (refuses 3) (gives (words_of (asked x y z))))
unfolding spell
spelt_so x y z =
    ap (λ (t : Bool). pick t (refuses 2) (pick (has_fifteen (asked x y z)) (refuses 3) (gives (words_of (asked x y z))))) (sym (above_is x y z))
    ∙ ap (λ (t : Bool). pick (some_above x y z) (refuses 2) (pick t (refuses 3) (gives (words_of (asked x y z))))) (sym (fifteen_is x y z))

-- Whether a record is made.
answer_of : (place x y z : ℕ) → (recording (record_of_meant place (What.Balise x y z))).answer ≡ pick (some_above x y z) (refuses 2) (pick (some_fifteen x y z) (refuses 3) (gives recorded.made))
unfolding record_of_meant
answer_of place x y z = ap (λ (o : Outcome Words). (recording (then o (λ w. gives (bytes_of place 0 w.x w.y w.z)))).answer) (spelt_so x y z) ∙ go (some_above x y z) (some_fifteen x y z)
  where
    go : (a f : Bool) → (recording (then (pick {A = Outcome Words} a (refuses 2) (pick f (refuses 3) (gives (words_of (asked x y z))))) (λ w. gives (bytes_of place 0 w.x w.y w.z)))).answer
        ≡ pick a (refuses 2) (pick f (refuses 3) (gives recorded.made))
    go true f = refl
    go false true = refl
    go false false = refl

recorded_so : (place : ℕ) (what : What) → Decided Given (what_rules what) (recording (record_of_meant place what)).answer
unfolding record_of_meant
recorded_so place (What.Balise x y z) = subst (Decided Given (figure_rules x y z)) (sym (answer_of place x y z)) (by_figures x y z recorded.made)
recorded_so place What.Marker = (recorded.made, refl)
recorded_so place What.Unreadable = (recorded.made, refl)
recorded_so place What.Position = (recorded.made, refl)
recorded_so place (What.Raw kind x y z) = (recorded.made, refl)

taken_so : (way : TrackWay) (place : ℕ) (thing : Thing)
    → Decided Given (take_rules way place thing) (take way place thing)
unfolding take too_high
taken_so way place thing =
    let near : Bool = is_sent thing && is_near way.thing place in
    let last : Answer Bad TrackWay = pick near (refuses too_near) (gives (after way place thing)) in
    if_so Given (row_of (refused 17) (ltb place way.last) ∷ row_of too_near near ∷ []) (refuses (refused 18)) (pick (ltb place way.last) (refuses (refused 17)) last)
    (if_so Given (row_of too_near near ∷ []) (refuses (refused 17)) last
    (if_so Given [] (refuses too_near) (gives (after way place thing)) (after way place thing, refl) near)
    (ltb place way.last)) (ltb 4000000000 place)

pub demand1 : Demand1
demand1 =
    record {
      spell = λ x y z r c. subst (Decided Given (figure_rules x y z)) (sym (c.1 ∙ spelt_so x y z)) (by_figures x y z (words_of (asked x y z)));
      record_of = λ place what r c. subst (Decided Given (what_rules what)) (sym (ap (λ (x : Recording). x.answer) c.1)) (recorded_so place what);
      take = λ way place thing r c. subst (Decided Given (take_rules way place thing)) (sym c.1) (taken_so way place thing);
    }

-- ---- a refusal hands out nothing

no_bytes : (o : Outcome (List ℕ)) (n : ℕ) → (recording o).answer ≡ refuses n → (recording o).bytes ≡ recorded.eight_zeroes
no_bytes (gives bytes) n e = cannot_be cc
no_bytes (refuses m) n e = refl

pub untouched : Untouched
untouched =
    record {
      spell = λ n r r' p q. told says_spelt spelt_of spelt_back r r' p q;
      record_of = λ place what r n c e.
          ap (λ (x : Recording). x.bytes) c.1 ∙ no_bytes (record_of_meant place what) n (sym (ap (λ (x : Recording). x.answer) c.1) ∙ e);
      take = λ n r r' p q. told says_taken taken_of taken_back r r' p q;
    }
