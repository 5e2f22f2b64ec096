-- Rides in sections: the laws hold, and the program's blocks, card after card, are one listing.
-- Assumes nothing.
use Prim.Native.Nat.{ℕ}
use mathlib.Core.Path.{◌≡◌, ap, ap₂, ◌∙◌}
use mathlib.Core.Bool.{Bool}
use mathlib.Core.List.{List, [], ◌∷◌, ◌++◌, append-nil}
use Rattle.words.specs.Answer.{pick}
use Rattle.ride.specs.Step.{end}
use Rattle.ride.specs.declared.Line.{Line}
use Rattle.ride_text.specs.Text.{text, text_of}
use Rattle.ride_text.proofs.Texts.{text_one}
use Rattle.demands.specs.Table.{bad_length}
use Rattle.demands.specs.Output.{ridden, output}
use Rattle.demands.specs.Sections.{output_by, output_of, Blocks, Sections}
use Rattle.demands.proofs.Common.OneVersion.{forty_so}
use Rattle.demands.proofs.Demand1.Answers.{or_false}
use Rattle.demands.proofs.Demand2.Runs.{runs_nowhere}
use Rattle.demands.proofs.Beside.Cards.{two_by_run, three_by_run, two_by_step, three_by_step, empty_by_step}
use Rattle.demands.proofs.Beside.Blocks.{comes, two_by_calls, three_by_calls, empty_by_calls, goes_on_by, at_once_by, program_by}

-- the lines of the records and of the end, as text
abbrev whole : List ℕ → List ℕ
whole trace = text_of ((ridden trace).lines ++ (end (ridden trace).ride).lines)

one_card_so : (card : List ℕ) → output_of (card ∷ []) ≡ output card
unfolding output_by output
one_card_so card =
    ap₂ (λ (b : Bool) (t : List ℕ). pick b (text (Line.Trace 16)) (whole t)) (or_false (bad_length card)) (append-nil card)
    ∙ ap (λ (t : List ℕ). pick (bad_length card) t (whole card)) (text_one (Line.Trace 16))

blocks : Blocks
blocks = record {
  whole = λ ride store number trace calls good. comes store good ride number trace calls;
  goes_on = λ ride store number c good. goes_on_by store good ride number c;
  all_at_once = λ ride store number c good. at_once_by store good ride number c;
  program = λ store f cards calls before n after good. program_by store good f cards calls before n after;
  forty = λ store cards f. let gap = forty_so store f in (gap.0, ap (λ (gaps : ℕ → ℕ). output_by gaps cards) gap.1);
  one_card = one_card_so;
}

pub sections : Sections
sections = record {
  two = record {
    by_run = two_by_run;
    by_step = two_by_step;
    by_list = λ ride store number a b p q both good. two_by_calls store good ride number a b p q both;
  };
  three = record {
    by_run = three_by_run;
    by_step = three_by_step;
    by_list = λ ride store number a b c ab last a' bc good. three_by_calls store good ride number a b c ab last a' bc;
  };
  empty = record {
    by_run = runs_nowhere;
    by_step = empty_by_step;
    by_list = λ ride store number q good. empty_by_calls store good ride number q;
  };
  blocks = blocks;
}
