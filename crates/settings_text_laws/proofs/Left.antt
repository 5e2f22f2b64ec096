-- What is not fine leaves the store as it was, and a text none.
-- Assumes nothing.
use mathlib.Core.Path.{◌≡◌, refl, sym, ap, subst, ◌∙◌}
use mathlib.Core.Bool.{Bool, true, false}
use lib.Dec.{eqb}
use Rattle.words.specs.Answer.{Answer, Outcome, gives, refuses, pick}
use Rattle.words.proofs.Never.{cannot_be}
use Rattle.settings.specs.declared.Version.{Version}
use Rattle.settings.specs.declared.Store.{Store}
use Rattle.settings.specs.Versions.{Kept}
use Rattle.settings.specs.Store.{Change, begin, add}
use Rattle.settings_text.specs.declared.line.Stated.{Stated}
use Rattle.settings_text.specs.declared.Condition.{Condition}
use Rattle.settings_text.specs.declared.Taken.{Taken}
use Rattle.settings_text.specs.declared.Sheet.{Sheet}
use Rattle.settings_text.specs.Line.{stated}
use Rattle.settings_text.specs.Taking.{after_it, changed, given, stated_to, take_line}
use Rattle.settings_text.specs.Sheet.{is_fine, bad}
use Rattle.settings_text.proofs.Good.{Bad, sheet_bad}
use Rattle.demands.proofs.Common.Rules.{true_not_false}
use Rattle.settings_text_laws.specs.Demand1.{Fault, fault, Untouched}
use Rattle.settings_text_laws.proofs.Text.{read_is}

after_leaves : (o : Outcome Kept) (before after : Store) → is_fine (after_it o before after).how ≡ false → (after_it o before after).store ≡ before
after_leaves (gives k) before after e = absurd (true_not_false e)
after_leaves (refuses n) before after e = refl

given_by : (a b : Bool) (store : Store) (first next : Change)
    → let t : Taken = pick a (pick b (changed store first) (record { store = store; how = Condition.FirstPlace })) (changed store next) in
    is_fine t.how ≡ false → t.store ≡ store
given_by true true store first next e = after_leaves first.answer store first.store e
given_by true false store first next e = refl
given_by false b store first next e = after_leaves next.answer store next.store e

stated_leaves : (store : Store) (s : Stated) → is_fine (stated_to store s).how ≡ false → (stated_to store s).store ≡ store
unfolding given
stated_leaves store Stated.Nothing e = refl
stated_leaves store (Stated.Version place gap s t) e =
    given_by (eqb store.count 0) (eqb place 0) store (begin gap s t) (add store (record { place = place; gap = gap; s = s; t = t })) e
stated_leaves store Stated.Unreadable e = refl

refused_by : (b : Bool) (s : Sheet) (f : Fault) → is_fine s.how ≡ b → Bad s
    → pick {A = Answer Fault Store} b (gives s.store) (refuses (fault s.line s.how)) ≡ refuses f → s ≡ bad f.line f.how
refused_by true s f e whole r = cannot_be cc
refused_by false s f e whole r =
    let same : fault s.line s.how ≡ f = cc in
    whole e ∙ ap (λ (x : Fault). bad x.line x.how) same

pub untouched : Untouched
unfolding take_line
untouched = record {
  take = λ store line r c e.
      ap (λ (x : Taken). x.store) c.1 ∙ stated_leaves store (stated line) (sym (ap (λ (x : Taken). is_fine x.how) c.1) ∙ e);
  read = λ text r f c e. refused_by (is_fine r.how) r f refl (subst Bad (sym (read_is text r c)) (sheet_bad text)) e;
}
