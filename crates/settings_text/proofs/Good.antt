-- The store of a text that is fine is good, and of one that is not fine there is none: every line
-- that is taken leaves a good store, or none.
-- Assumes nothing.
use mathlib.Core.Path.{◌≡◌, refl, ◌∙◌}
use mathlib.Core.Bool.{Bool, true, false}
use mathlib.Core.List.{List, [], ◌∷◌}
use Prim.Native.Nat.{ℕ, ◌+◌}
use lib.Dec.{eqb, leb}
use lib.ListN.{length, length-set}
use borrow.Author.Tests.{eqb-false}
use Rattle.words.specs.Answer.{Outcome, gives, refuses, pick}
use Rattle.words.proofs.Never.{cannot_be}
use Rattle.settings.specs.declared.Version.{Version}
use Rattle.settings.specs.declared.Store.{Store}
use Rattle.settings.specs.Versions.{Kept, kept, settings_of}
use Rattle.settings.specs.Store.{no_store_meant, Change, first_of, opened, opened_if, begin, judged, with_one, may_add, added_if, add}
use Rattle.settings.proofs.Laws.{settings}
use Rattle.lines.specs.declared.TextLine.{TextLine}
use Rattle.lines.specs.Text.{lines_in}
use Rattle.lines.specs.Words.{line_of}
use Rattle.settings_text.specs.declared.Condition.{Condition}
use Rattle.settings_text.specs.declared.Taken.{Taken}
use Rattle.settings_text.specs.declared.Sheet.{Sheet}
use Rattle.settings_text.specs.declared.line.Stated.{Stated}
use Rattle.settings_text.specs.Line.{stated}
use Rattle.settings_text.specs.Taking.{after_it, changed, given, stated_to, take_line}
use Rattle.settings_text.specs.Sheet.{is_fine, bad, ended, lines_from, longest, sheet}

-- A store on the way: of 32 places, and good or not opened yet.
record Sound (store : Store) : Type 0 where
  places : length store.versions ≡ 32
  opens : (store.count ≡ 0 → ⊥) → judged store ≡ gives kept

none_yet : Sound no_store_meant
unfolding no_store_meant
none_yet = record { places = refl; opens = λ some. absurd (some refl) }

-- ---- a version

opened_long : (v : Version) (o : Outcome Kept) → length (opened_if v o).store.versions ≡ 32
unfolding opened no_store_meant
opened_long v (gives k) = refl
opened_long v (refuses n) = refl

begun : (gap s t : ℕ) → (begin gap s t).answer ≡ gives kept → Sound (begin gap s t).store
unfolding begin
begun gap s t e = record { places = opened_long (first_of gap s t) (settings_of gap s t); opens = λ some. settings.opened_good gap s t e }

added_long : (store : Store) (v : Version) (o : Outcome Kept) → length store.versions ≡ 32 → length (added_if store v o).store.versions ≡ 32
unfolding with_one
added_long store v (gives k) h = length-set store.versions store.count v ∙ h
added_long store v (refuses n) h = h

one_more : (store : Store) (v : Version) → Sound store → (add store v).answer ≡ gives kept → Sound (add store v).store
unfolding add
one_more store v h e = record { places = added_long store v (may_add store v) h.places; opens = λ some. settings.added_good store v h.places e }

changed_by : (o : Outcome Kept) (before after : Store) → Sound before → (o ≡ gives kept → Sound after) → Sound (after_it o before after).store
changed_by (gives kept) before after h next = next refl
changed_by (refuses n) before after h next = h

first_by : (b : Bool) (store : Store) (change : Change) → Sound store → (change.answer ≡ gives kept → Sound change.store)
    → Sound (pick b (changed store change) (record { store = store; how = Condition.FirstPlace })).store
first_by true store change h next = changed_by change.answer store change.store h next
first_by false store change h next = h

given_by : (b : Bool) (store : Store) (first : Taken) (change : Change) → Sound first.store → Sound store → (change.answer ≡ gives kept → Sound change.store)
    → Sound (pick b first (changed store change)).store
given_by true store first change f h next = f
given_by false store first change f h next = changed_by change.answer store change.store h next

given_sound : (store : Store) (v : Version) → Sound store → Sound (given store v).store
unfolding given
given_sound store v h =
    given_by (eqb store.count 0) store
    (pick (eqb v.place 0) (changed store (begin v.gap v.s v.t)) (record { store = store; how = Condition.FirstPlace })) (add store v)
    (first_by (eqb v.place 0) store (begin v.gap v.s v.t) h (begun v.gap v.s v.t))
    h (one_more store v h)

-- ---- a line, and a text

stated_sound : (store : Store) (s : Stated) → Sound store → Sound (stated_to store s).store
stated_sound store Stated.Nothing h = h
stated_sound store (Stated.Version place gap s t) h = given_sound store (record { place = place; gap = gap; s = s; t = t }) h
stated_sound store Stated.Unreadable h = h

taken_sound : (store : Store) (line : TextLine) → Sound store → Sound (take_line store line).store
unfolding take_line
taken_sound store line h = stated_sound store (stated line) h

not_fine : (how : Condition) → is_fine how ≡ false → how ≡ Condition.Fine → {A : Type 0} → A
not_fine how e f = cannot_be (cc)

ended_by : (b : Bool) (store : Store) → eqb store.count 0 ≡ b → Sound store
    → (pick b (bad 0 (Condition.Refused 19)) (record { store = store; line = 0; how = Condition.Fine })).how ≡ Condition.Fine
    → judged (pick b (bad 0 (Condition.Refused 19)) (record { store = store; line = 0; how = Condition.Fine })).store ≡ gives kept
unfolding bad
ended_by true store e h f = not_fine (Condition.Refused 19) refl f
ended_by false store e h f = h.opens (eqb-false store.count 0 e)

line_by : (b : Bool) (how : Condition) (n : ℕ) (rest : Sheet) → is_fine how ≡ b → (rest.how ≡ Condition.Fine → judged rest.store ≡ gives kept)
    → (pick b rest (bad n how)).how ≡ Condition.Fine → judged (pick b rest (bad n how)).store ≡ gives kept
unfolding bad
line_by true how n rest e next f = next f
line_by false how n rest e next f = not_fine how e f

lines_good : (ls : List (List ℕ)) (store : Store) (n : ℕ) → Sound store → (lines_from store n ls).how ≡ Condition.Fine → judged (lines_from store n ls).store ≡ gives kept
unfolding lines_from ended
lines_good [] store n h f = ended_by (eqb store.count 0) store refl h f
lines_good (line ∷ ls) store n h f =
    let t : Taken = take_line store (line_of line) in
    line_by (is_fine t.how) t.how n (lines_from t.store (n + 1) ls) refl (lines_good ls t.store (n + 1) (taken_sound store (line_of line) h)) f

-- The store of a text that is fine is good.
long_by : (b : Bool) (s : Sheet) → (s.how ≡ Condition.Fine → judged s.store ≡ gives kept)
    → (pick b s (bad 0 Condition.TooLong)).how ≡ Condition.Fine → judged (pick b s (bad 0 Condition.TooLong)).store ≡ gives kept
unfolding bad
long_by true s next f = next f
long_by false s next f = not_fine Condition.TooLong refl f

pub fine_is_good : (text : List ℕ) → (sheet text).how ≡ Condition.Fine → judged (sheet text).store ≡ gives kept
unfolding sheet
fine_is_good text f = long_by (leb (length text) longest) (lines_from no_store_meant 1 (lines_in text)) (lines_good (lines_in text) no_store_meant 1 none_yet) f

-- A text that is not fine has no store: it is nothing but what is wrong with it.
abbrev pub Bad : Sheet → Type 0
Bad s = is_fine s.how ≡ false → s ≡ bad s.line s.how

bad_is : (n : ℕ) (how : Condition) → Bad (bad n how)
unfolding bad
bad_is n how e = refl

line_bad : (b : Bool) (how : Condition) (n : ℕ) (rest : Sheet) → Bad rest → Bad (pick b rest (bad n how))
line_bad true how n rest next = next
line_bad false how n rest next = bad_is n how

end_bad : (b : Bool) (store : Store) → Bad (pick b (bad 0 (Condition.Refused 19)) (record { store = store; line = 0; how = Condition.Fine }))
end_bad true store = bad_is 0 (Condition.Refused 19)
end_bad false store = λ e. cannot_be cc

lines_bad : (ls : List (List ℕ)) (store : Store) (n : ℕ) → Bad (lines_from store n ls)
unfolding lines_from ended
lines_bad [] store n = end_bad (eqb store.count 0) store
lines_bad (line ∷ ls) store n =
    let t : Taken = take_line store (line_of line) in
    line_bad (is_fine t.how) t.how n (lines_from t.store (n + 1) ls) (lines_bad ls t.store (n + 1))

pub sheet_bad : (text : List ℕ) → Bad (sheet text)
unfolding sheet
sheet_bad text = line_bad (leb (length text) longest) Condition.TooLong 0 (lines_from no_store_meant 1 (lines_in text)) (lines_bad (lines_in text) no_store_meant 1)
