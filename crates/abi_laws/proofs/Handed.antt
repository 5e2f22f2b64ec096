-- What is handed out is what the specification gives: the contracts hand it over, and a place that
-- is given is put.
-- Assumes nothing.
use mathlib.Core.Path.{sym, ap, ap₂, ◌∙◌}
use mathlib.Core.List.{List}
use Prim.Native.Nat.{ℕ}
use Rattle.words.specs.Answer.{Outcome}
use Rattle.telegram.specs.Place.{Single, find}
use Rattle.contact.specs.declared.Search.{Search}
use Rattle.contact.specs.Contacts.{Handed, begin, next_contact}
use Rattle.contact.specs.Judge.{Contact, judge}
use Rattle.abi.specs.Face.{returned, left, found_number, found_put}
use Rattle.abi.specs.Contacts.{search_in, begun_number, begun_put, next_number, next_put, next_moved, judged_number, judged_put}
use Rattle.abi_laws.specs.Handed.{HandedOut}

pub handed_out : HandedOut
handed_out = record {
  find = λ b start len s t before r after x c is. (
    c.7.0 ∙ ap (λ (v : List ℕ). returned found_number (find v start len s t)) c.4 ∙ ap (returned found_number) is,
    sym c.6 ∙ c.7.1 ∙ ap₂ (λ (v w : List ℕ). left found_put (find v start len s t) w) c.4 c.5
        ∙ ap (λ (o : Outcome Single). left found_put o before) is,
  );
  judge = λ b start len s t before r after x c is. (
    c.7.0 ∙ ap (λ (v : List ℕ). returned judged_number (judge v start len s t)) c.4 ∙ ap (returned judged_number) is,
    sym c.6 ∙ c.7.1 ∙ ap₂ (λ (v w : List ℕ). left judged_put (judge v start len s t) w) c.4 c.5
        ∙ ap (λ (o : Outcome Contact). left judged_put o before) is,
  );
  begin = λ b start len before r after x c is. (
    c.7.0 ∙ ap (λ (v : List ℕ). returned begun_number (begin v start len)) c.4 ∙ ap (returned begun_number) is,
    sym c.6 ∙ c.7.1 ∙ ap₂ (λ (v w : List ℕ). left begun_put (begin v start len) w) c.4 c.5 ∙ ap (λ (o : Outcome Search). left begun_put o before) is,
  );
  next_contact_law = λ b from before r moved after x c is. (
    c.10.0 ∙ ap₂ (λ (v w : List ℕ). returned next_number (next_contact v (search_in w))) c.5 c.6 ∙ ap (returned next_number) is,
    sym c.8 ∙ c.10.1.0 ∙ ap₂ (λ (v w : List ℕ). left next_moved (next_contact v (search_in w)) w) c.5 c.6
        ∙ ap (λ (o : Outcome Handed). left next_moved o from) is,
    sym c.9 ∙ c.10.1.1 ∙ ap₂ (λ (v w : List ℕ). left next_put (next_contact v (search_in w)) c.3.now) c.5 c.6
        ∙ ap₂ (λ (o : Outcome Handed) (w : List ℕ). left next_put o w) is c.7,
  );
}
