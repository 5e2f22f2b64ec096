-- Demand 1 holds for the face for C: each contract hands over what is returned of a specification,
-- and demands has how that one is decided.
-- Assumes nothing.
use mathlib.Core.Path.{◌≡◌, refl, sym, ap, ap₂, subst, ◌∙◌}
use mathlib.Core.Bool.{false}
use mathlib.Core.List.{List, [], ◌∷◌}
use Prim.Native.Nat.{ℕ, ◌+◌, ◌*◌}
use lib.IntN.{ℤ, pos}
use Rattle.words.specs.Answer.{Answer, Outcome, refuses}
use Rattle.words.specs.Why.{Why, numbered, not_code_word}
use Rattle.words.specs.Plain.{figure}
use Rattle.words.specs.Code.{exchanged, sent, read_word, write_word}
use Rattle.telegram.specs.Telegram.{Received, telegram}
use Rattle.telegram.specs.Place.{find}
use Rattle.contact.specs.Contacts.{Handed, begin, from_start, next_contact}
use Rattle.contact.specs.Judge.{judge}
use Rattle.group.specs.Distance.{distance}
use Rattle.balise_writer.specs.Write.{write}
use Rattle.abi.specs.Face.{returned, left, itself, as_one, told, why_number, found_number, found_put}
use Rattle.abi.specs.Contacts.{search_in, begun_number, begun_put, next_number, next_put, next_moved, judged_number, judged_put}
use Rattle.telegram.specs.Sync.{differing, is_good}
use Rattle.settings.specs.Store.{plain}
use Rattle.ride.specs.State.{fresh_ride}
use Rattle.compaction.specs.Compact.{compact}
use Rattle.demands.specs.Rules.{Rule, row_of, row, Decided, Given, Is}
use Rattle.demands.specs.Table.{not_code, above, beyond, no_distance, not_seven, bad_length}
use Rattle.demands.specs.Lists.{telegram_rules, find_rules, write_rules, next_rules, judge_rules, run_rules, find_reads, JudgeReads, NextReads}
use Rattle.demands.proofs.Common.OneVersion.{nineteen_of}
use Rattle.demands.proofs.Demand1.Compacting.{compacting, compact_untouched}
use Rattle.demands.proofs.Demand1.Refusals.{reading, writing, wording, finding}
use Rattle.demands.proofs.Demand1.Writes.{writing_test, write_untouched}
use Rattle.demands.proofs.Demand1.Contacts.{beginning, nexting, judging}
use Rattle.demands.proofs.Demand1.Distances.{measuring}
use Rattle.abi_laws.specs.Demand1.{Demand1, Untouched, DecidedAs, Refused}
use Rattle.abi_laws.proofs.Carried.{decided_told, left_as_it_was, is_refusal}

-- What is returned of a specification is decided as that is.
pub decided_of : {A : Type 0} (tell : A → ℤ) (Reading : A → Type 0) (rules : List (Rule A)) (o : A) {r : ℤ} → r ≡ tell o → Decided Reading rules o
    → DecidedAs tell Reading rules r
decided_of tell Reading rules o {r} e d = subst (DecidedAs tell Reading rules) (sym e) (decided_told tell Reading rules o d)

-- the pair of a plain gap
pair_so : not_seven 0x00 0x7F ≡ false
unfolding not_seven is_good differing
pair_so = refl

pub demand1 : Demand1
demand1 = record {
  read_short = λ w r c.
      decided_of (λ (o : Answer Why ℕ). returned itself (numbered o)) (Is (figure 8 (exchanged 8 w))) (row_of (not_code_word 8 w) (not_code 8 w) ∷ []) (read_word 8 w) c.1
      (reading 8 w);
  write_short = λ x r c. decided_of (returned itself) (Is (sent 8 x)) (row 2 (above 15 x) ∷ []) (write_word 8 15 x) c.1 (writing 8 15 x);
  read_long = λ w r c.
      decided_of (λ (o : Answer Why ℕ). returned itself (numbered o)) (Is (figure 16 (exchanged 16 w))) (row_of (not_code_word 16 w) (not_code 16 w) ∷ []) (read_word 16 w)
      c.1 (reading 16 w);
  write_long = λ x r c. decided_of (returned itself) (Is (sent 16 x)) (row 2 (above 2047 x) ∷ []) (write_word 16 2047 x) c.1 (writing 16 2047 x);
  read_telegram = λ x y z r c.
      decided_of (λ (o : Received). returned as_one (told o)) Given (telegram_rules x y z) (telegram x y z) c.1 (wording x y z);
  why_telegram = λ x y z r c. decided_of (λ (o : Received). pos (why_number o)) Given (telegram_rules x y z) (telegram x y z) c.1 (wording x y z);
  distance = λ by f r c. decided_of (returned itself) Given (row 15 (no_distance by f) ∷ []) (distance by f) c.1 (measuring by f);
  find = λ b start len s t before r after c.
      let e : r ≡ returned found_number (find b start len s t) =
      c.7.0 ∙ ap (λ (v : List ℕ). returned found_number (find v start len s t)) c.4 in
      decided_of (returned found_number) (Is (find_reads b start len s t)) (find_rules b start len s t) (find b start len s t) e (finding b start len s t);
  begin = λ b start len before r after c.
      let e : r ≡ returned begun_number (begin b start len) = c.7.0 ∙ ap (λ (v : List ℕ). returned begun_number (begin v start len)) c.4 in
      decided_of (returned begun_number) (Is (from_start start len)) (row 5 (beyond b start len) ∷ []) (begin b start len) e (beginning b start len);
  next_contact_law = λ b from before r moved after c.
      let e : r ≡ returned next_number (next_contact b (search_in from)) =
      c.10.0 ∙ ap₂ (λ (v w : List ℕ). returned next_number (next_contact v (search_in w))) c.5 c.6 in
      decided_of (returned next_number) (NextReads b (search_in from)) (next_rules b (search_in from)) (next_contact b (search_in from)) e (nexting b (search_in from));
  judge = λ b start len s t before r after c.
      let e : r ≡ returned judged_number (judge b start len s t) = c.7.0 ∙ ap (λ (v : List ℕ). returned judged_number (judge v start len s t)) c.4 in
      decided_of (returned judged_number) (JudgeReads b start len s t) (judge_rules b start len s t) (judge b start len s t) e (judging b start len s t);
  write_balise = λ x y z s t n before r after c.
      let e : r ≡ returned itself (write x y z s t n before).answer =
      c.5.0 ∙ ap (λ (v : List ℕ). returned itself (write x y z s t n v).answer) c.3 in
      decided_of (returned itself) (Is (4 * n + 1)) (write_rules x y z s t n before) (write x y z s t n before).answer e (writing_test x y z s t n before);
  compact = λ gap before r after c.
      let e : r ≡ returned itself (compact fresh_ride (plain gap) before).answer = c.5.0 ∙ ap (λ (v : List ℕ). returned itself (compact fresh_ride (plain gap) v).answer) c.3 in
      decided_of (returned itself) Given (run_rules gap before) (compact fresh_ride (plain gap) before).answer e (nineteen_of gap 0x00 0x7F pair_so Given (row 16 (bad_length before) ∷ []) (compact fresh_ride (plain gap) before).answer (compacting fresh_ride (plain gap) before));
}

-- A lent array after a call that refuses, from what the contract leaves in it.
pub kept_there : {A : Type 0} (number_of : A → ℕ) (put : A → List ℕ → List ℕ) (o : Outcome A) {before after : List ℕ} {r : ℤ} → r ≡ returned number_of o
    → after ≡ left put o before → Refused r → after ≡ before
kept_there number_of put o {before} e l refused = l ∙ left_as_it_was number_of put o before (subst Refused e refused)

pub untouched : Untouched
untouched = record {
  find = λ b start len s t before r after c refused.
      kept_there found_number found_put (find b start len s t) (c.7.0 ∙ ap (λ (v : List ℕ). returned found_number (find v start len s t)) c.4)
      (sym c.6 ∙ c.7.1 ∙ ap₂ (λ (v w : List ℕ). left found_put (find v start len s t) w) c.4 c.5) refused;
  begin = λ b start len before r after c refused.
      kept_there begun_number begun_put (begin b start len) (c.7.0 ∙ ap (λ (v : List ℕ). returned begun_number (begin v start len)) c.4)
      (sym c.6 ∙ c.7.1 ∙ ap₂ (λ (v w : List ℕ). left begun_put (begin v start len) w) c.4 c.5) refused;
  next_contact_law = λ b from before r moved after c refused.
      let o : Outcome Handed = next_contact b (search_in from) in
      let e : r ≡ returned next_number o = c.10.0 ∙ ap₂ (λ (v w : List ℕ). returned next_number (next_contact v (search_in w))) c.5 c.6 in
      let m : moved ≡ left next_moved o from =
      sym c.8 ∙ c.10.1.0 ∙ ap₂ (λ (v w : List ℕ). left next_moved (next_contact v (search_in w)) w) c.5 c.6 in
      let l : after ≡ left next_put o before =
      sym c.9 ∙ c.10.1.1
      ∙ ap₂ (λ (v w : List ℕ). left next_put (next_contact v (search_in w)) c.3.now) c.5 c.6 ∙ ap (λ (w : List ℕ). left next_put o w) c.7 in
      (kept_there next_number next_moved o e m refused, kept_there next_number next_put o e l refused);
  judge = λ b start len s t before r after c refused.
      kept_there judged_number judged_put (judge b start len s t) (c.7.0 ∙ ap (λ (v : List ℕ). returned judged_number (judge v start len s t)) c.4)
      (sym c.6 ∙ c.7.1 ∙ ap₂ (λ (v w : List ℕ). left judged_put (judge v start len s t) w) c.4 c.5) refused;
  write_balise = λ x y z s t n before r after c refused.
      let e : r ≡ returned itself (write x y z s t n before).answer =
      c.5.0 ∙ ap (λ (v : List ℕ). returned itself (write x y z s t n v).answer) c.3 in
      let l : after ≡ (write x y z s t n before).buffer = sym c.4 ∙ c.5.1 ∙ ap (λ (v : List ℕ). (write x y z s t n v).buffer) c.3 in
      let q : (k : ℕ) × ((write x y z s t n before).answer ≡ refuses k) = is_refusal itself (write x y z s t n before).answer (subst Refused e refused) in
      l ∙ write_untouched x y z s t n before q.0 q.1;
  compact = λ gap before r after c refused.
      let e : r ≡ returned itself (compact fresh_ride (plain gap) before).answer = c.5.0 ∙ ap (λ (v : List ℕ). returned itself (compact fresh_ride (plain gap) v).answer) c.3 in
      let l : after ≡ (compact fresh_ride (plain gap) before).buffer = sym c.4 ∙ c.5.1 ∙ ap (λ (v : List ℕ). (compact fresh_ride (plain gap) v).buffer) c.3 in
      let q : (k : ℕ) × ((compact fresh_ride (plain gap) before).answer ≡ refuses k) = is_refusal itself (compact fresh_ride (plain gap) before).answer (subst Refused e refused) in
      l ∙ (compact_untouched fresh_ride (plain gap) before q.0 q.1).1;
}
