-- The first bad line of a text decides it.
-- Assumes nothing.
use Prim.Native.Nat.{ℕ, ◌+◌}
use mathlib.Core.Path.{◌≡◌, refl, sym, ap, subst, ◌∙◌}
use mathlib.Core.Bool.{Bool, true, false, not}
use mathlib.Core.List.{List, [], ◌∷◌}
use lib.Dec.{eqb, leb, ltb}
use lib.ListN.{length}
use borrow.Author.Tests.{leb-true, leb-false, lt-ltb, le-ltb}
use Rattle.words.specs.Answer.{Answer, gives, refuses, pick}
use Rattle.settings.specs.declared.Store.{Store}
use Rattle.settings.specs.Store.{no_store_meant}
use Rattle.lines.specs.Text.{lines_in}
use Rattle.lines.specs.Words.{line_of}
use Rattle.settings_text.specs.declared.Condition.{Condition}
use Rattle.settings_text.specs.declared.Taken.{Taken}
use Rattle.settings_text.specs.declared.Sheet.{Sheet}
use Rattle.settings_text.specs.Taking.{take_line}
use Rattle.settings_text.specs.Sheet.{is_fine, bad, ended, lines_from, longest, sheet}
use Rattle.demands.specs.Rules.{Rule, row_of, Decided, Is}
use Rattle.demands.proofs.Common.Rules.{true_not_false}
use Rattle.settings_text_laws.specs.Demand1.{Reads, Fault, fault, says, line_rules, leaves, text_rules, ReadDecided}

bad_says : (n : ℕ) (how : Condition) → is_fine how ≡ false → says (bad n how) ≡ refuses (fault n how)
unfolding bad
bad_says n how e = ap (λ (b : Bool). pick {A = Answer Fault Store} b (gives no_store_meant) (refuses (fault n how))) e

line_so : (b : Bool) (how : Condition) (n : ℕ) (rest : Sheet) (Reading : Answer Fault Store → Type 0) (rules : List (Rule (Answer Fault Store))) → is_fine how ≡ b
    → Decided Reading rules (says rest) → Decided Reading (row_of (fault n how) (not b) ∷ rules) (says (pick b rest (bad n how)))
line_so true how n rest Reading rules e next = (λ f. absurd (true_not_false (sym f)), λ f. next)
line_so false how n rest Reading rules e next = (λ f. bad_says n how e, λ f. absurd (true_not_false f))

end_so : (b : Bool) (store : Store)
    → Decided (Is store) (row_of (fault 0 (Condition.Refused 19)) b ∷ []) (says (pick b (bad 0 (Condition.Refused 19)) (record { store = store; line = 0; how = Condition.Fine })))
end_so true store = (λ f. bad_says 0 (Condition.Refused 19) refl, λ f. absurd (true_not_false f))
end_so false store = (λ f. absurd (true_not_false (sym f)), λ f. refl)

lines_so : (ls : List (List ℕ)) (store : Store) (n : ℕ) → Decided (Is (leaves store ls)) (line_rules store n ls) (says (lines_from store n ls))
unfolding line_rules leaves lines_from ended
lines_so [] store n = end_so (eqb store.count 0) store
lines_so (line ∷ ls) store n =
    let t : Taken = take_line store (line_of line) in
    line_so (is_fine t.how) t.how n (lines_from t.store (n + 1) ls) (Is (leaves t.store ls)) (line_rules t.store (n + 1) ls) refl (lines_so ls t.store (n + 1))

long_so : (b : Bool) (text : List ℕ) → leb (length text) longest ≡ b
    → Decided (Is (leaves no_store_meant (lines_in text))) (text_rules text) (says (pick b (lines_from no_store_meant 1 (lines_in text)) (bad 0 Condition.TooLong)))
long_so true text e =
    let short : ltb longest (length text) ≡ false = le-ltb longest (length text) (leb-true (length text) longest e) in
    (λ f. absurd (true_not_false (sym f ∙ short)), λ f. lines_so (lines_in text) no_store_meant 1)
long_so false text e =
    let long : ltb longest (length text) ≡ true = lt-ltb longest (length text) (leb-false (length text) longest e) in
    (λ f. bad_says 0 Condition.TooLong refl, λ f. absurd (true_not_false (sym long ∙ f)))

pub sheet_so : (text : List ℕ) → Decided (Is (leaves no_store_meant (lines_in text))) (text_rules text) (says (sheet text))
unfolding sheet
sheet_so text = long_so (leb (length text) longest) text refl

-- The answer of a call.
pub read_is : (text : List ℕ) (r : Sheet) → Reads text r → r ≡ sheet text
read_is text r c = c.4 ∙ ap sheet c.3

pub read_decided : ReadDecided
read_decided text r c =
    subst (λ (x : Sheet). Decided (Is (leaves no_store_meant (lines_in text))) (text_rules text) (says x)) (sym (read_is text r c)) (sheet_so text)
