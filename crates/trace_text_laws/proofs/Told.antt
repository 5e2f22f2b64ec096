-- A text that tells a trace, line by line: whatever is read of it comes to that trace.
-- Assumes nothing.
use mathlib.Core.Path.{◌≡◌, refl, sym, ap, ap₂, subst, ◌∙◌}
use mathlib.Core.Bool.{Bool, true, false, ◌&&◌}
use mathlib.Core.List.{List, [], ◌∷◌, ◌++◌, append_assoc}
use Prim.Native.Nat.{ℕ, ◌+◌, ◌%◌, ◌≤◌}
use native.Mathlib.Omega.{arith}
use lib.Dec.{eqb, leb}
use lib.ListN.{length, get_or, drop, length-append}
use borrow.Author.Tests.{ne_eqb}
use Rattle.words.specs.Answer.{Outcome, gives, refuses, then, pick}
use Rattle.words.proofs.Never.{cannot_be}
use Rattle.telegram.specs.Spelling.{Words, asked, spell}
use Rattle.lines.specs.declared.TextLine.{TextLine}
use Rattle.lines.specs.Text.{up_to, cut, some, words_of, lines_of, beginning, lines_in}
use Rattle.lines.specs.Words.{line_of, no_words, kept_all}
use Rattle.lines_laws.specs.Laws.{OneLine}
use Rattle.lines_laws.specs.Texts.{kept_of, joined}
use Rattle.lines_laws.proofs.Laws.{first_line_law}
use Rattle.lines_laws.proofs.Texts.{all_lines}
use Rattle.trace_text.specs.declared.What.{What}
use Rattle.trace_text.specs.declared.Said.{Said}
use Rattle.trace_text.specs.declared.MakingWent.{MakingWent}
use Rattle.trace_text.specs.declared.Recorded.{Recorded}
use Rattle.trace_text.specs.Said.{said}
use Rattle.trace_text.specs.Record.{Made, Recording, recording, record_of_meant, bytes_of}
use Rattle.trace_text.specs.Record as recorded
use Rattle.trace_text.specs.Says.{says_making_went, says_recorded}
use Rattle.trace_text_laws.specs.Calls.{RecordOf}
use Rattle.trace_text_laws.specs.Texts.{Result, made, unreadable, refused, before, Writes, Comes, no_more, nothing, thing, wrong, bad, Taken}

-- Line after line: each says a thing, and the trace is their records.
pub data Tells : List ℕ → List ℕ → Type 0 where
  none : Tells [] []
  one : {text trace bytes : List ℕ} (line : List ℕ) (place : ℕ) (what : What) (c : ℕ) (cs : List ℕ) → line ≡ c ∷ cs → c ≤ 57 → OneLine line
      → said (line_of line) ≡ Said.Thing place what → record_of_meant place what ≡ gives bytes → Tells text trace → Tells (line ++ 10 ∷ text) (bytes ++ trace)

pub joined_tells : {t u a b : List ℕ} → Tells t a → Tells u b → Tells (t ++ u) (a ++ b)
joined_tells none more = more
joined_tells {u = u} {b = b} (one {text} {trace} {bytes} line place what c cs starts digit is_line says is rest) more =
    subst₂ (sym (append_assoc line (10 ∷ text) u)) (sym (append_assoc bytes trace b)) (one line place what c cs starts digit is_line says is (joined_tells rest more))
  where
    subst₂ : {x y v w : List ℕ} → x ≡ y → v ≡ w → Tells x v → Tells y w
    subst₂ {x} {y} {v} {w} e f t = subst (λ (l : List ℕ). Tells l w) e (subst (Tells x) f t)

-- ---- what comes of it

no_lines : (r : Result) → Comes [] r → Writes r []
no_lines _ no_more = refl

one_more : (r bytes trace : List ℕ) (rest : Result) → r ≡ bytes → Writes rest trace → Writes (before r rest) (bytes ++ trace)
one_more r bytes trace (made rs) is e = ap₂ (λ (a b : List ℕ). a ++ b) is e
one_more r bytes trace unreadable is e = e
one_more r bytes trace (refused n) is e = e

-- A line that says nothing.
pub says_nothing : (l : TextLine) (ls : List TextLine) (r : Result) → said l ≡ Said.Nothing → Comes (l ∷ ls) r → Comes ls r
says_nothing l ls r is (nothing reads rest) = rest
says_nothing l ls _ is (thing {place = place} {what = what} r reads records how rest) = cannot_be (let e : Said.Thing place what ≡ Said.Nothing = reads.1 ∙ is in cc)
says_nothing l ls _ is (wrong reads) = cannot_be (let e : Said.Unreadable ≡ Said.Nothing = reads.1 ∙ is in cc)
says_nothing l ls _ is (bad {place = place} {what = what} r reads records how) = cannot_be (let e : Said.Thing place what ≡ Said.Nothing = reads.1 ∙ is in cc)

-- A line that says a thing with a record.
same_thing : (place place' : ℕ) (what what' : What) (l : TextLine) → Said.Thing place' what' ≡ said l → said l ≡ Said.Thing place what → record_of_meant place' what' ≡ record_of_meant place what
same_thing place place' what what' l e f =
    let same : Said.Thing place' what' ≡ Said.Thing place what = e ∙ f in
    let p : place' ≡ place = cc in
    let w : what' ≡ what = cc in
    ap₂ record_of_meant p w

pub split : (l : TextLine) (ls : List TextLine) (place : ℕ) (what : What) (bytes : List ℕ) (r : Result) → said l ≡ Said.Thing place what → record_of_meant place what ≡ gives bytes → Comes (l ∷ ls) r
    → (rest : Result) × Comes ls rest × (r ≡ before bytes rest)
split l ls place what bytes r is has (nothing reads rest) = cannot_be (let e : Said.Nothing ≡ Said.Thing place what = reads.1 ∙ is in cc)
split l ls place what bytes _ is has (thing {rest = rest} {place = p} {what = w} r reads records how more) =
    let told : says_recorded r ≡ recording (gives bytes) = records.1 ∙ ap recording (same_thing place p what w l reads.1 is ∙ has) in
    (rest, more, ap (λ (b : List ℕ). before b rest) (ap (λ (x : Recording). x.bytes) told))
split l ls place what bytes _ is has (wrong reads) = cannot_be (let e : Said.Unreadable ≡ Said.Thing place what = reads.1 ∙ is in cc)
split l ls place what bytes _ is has (bad {place = p} {n = n} {what = w} r reads records how) =
    let told : says_recorded r ≡ recording (gives bytes) = records.1 ∙ ap recording (same_thing place p what w l reads.1 is ∙ has) in
    cannot_be (let e : ◌≡◌ {A = Outcome Made} (refuses n) (gives recorded.made) = sym how ∙ ap (λ (x : Recording). x.answer) told in cc)

says_thing : (l : TextLine) (ls : List TextLine) (place : ℕ) (what : What) (bytes trace : List ℕ) (r : Result) → said l ≡ Said.Thing place what → record_of_meant place what ≡ gives bytes
    → ((s : Result) → Comes ls s → Writes s trace) → Comes (l ∷ ls) r → Writes r (bytes ++ trace)
says_thing l ls place what bytes trace r is has others comes =
    let parts = split l ls place what bytes r is has comes in
    subst (λ (x : Result). Writes x (bytes ++ trace)) (sym parts.2) (one_more bytes bytes trace parts.0 refl (others parts.0 parts.1))

-- An empty line says nothing.
empty_line : said (line_of []) ≡ Said.Nothing
unfolding said line_of words_of up_to cut some kept_all no_words
empty_line = refl

of_lines : {text trace : List ℕ} → Tells text trace → (r : Result) → Comes (kept_of (lines_of text)) r → Writes r trace
unfolding cut
of_lines none r comes = no_lines r (says_nothing (line_of []) [] r empty_line comes)
of_lines (one {text} {trace} {bytes} line place what c cs starts digit is_line says is rest) r comes =
    says_thing (line_of line) (kept_of (lines_of text)) place what bytes trace r says is (λ s more. of_lines rest s more)
    (subst (λ (ls : List (List ℕ)). Comes (kept_of ls) r) (first_line_law line text is_line) comes)

-- It has no byte order mark.
no_mark : {text trace : List ℕ} → Tells text trace → beginning text ≡ 0
unfolding beginning
no_mark none = refl
no_mark (one {text} line place what c cs starts digit is_line says is rest) =
    ap (λ (l : List ℕ). beginning (l ++ 10 ∷ text)) starts ∙ by (cs ++ 10 ∷ text)
  where
    by : (t : List ℕ) → beginning (c ∷ t) ≡ 0
    by t = let other : c ≡ 0xEF → ⊥ = λ e. omega arith in go (leb 3 (length (c ∷ t))) (eqb c 0xEF) (ne_eqb c 0xEF other)
      where
        go : (a b : Bool) → b ≡ false → ◌≡◌ {A = ℕ} (pick (a && (b && eqb (get_or (c ∷ t) 1 0) 0xBB && eqb (get_or (c ∷ t) 2 0) 0xBF)) 3 0) 0
        go true false e = refl
        go false false e = refl
        go a true e = cannot_be cc

-- So what is taken of it is the trace.
pub comes_back : {text trace : List ℕ} (r : Result) → Tells text trace → Taken text r → Writes r trace
unfolding lines_in
comes_back {text} {trace} r tells taken =
    let lines = all_lines taken.first taken.others taken.lines taken.enough taken.read in
    let of_text : taken.lines ≡ kept_of (lines_of text) = lines ∙ ap (λ (t : List ℕ). kept_of (lines_in t)) taken.whole ∙ ap (λ (n : ℕ). kept_of (lines_of (drop n text))) (no_mark tells) in
    of_lines tells r (subst (λ (ls : List TextLine). Comes ls r) of_text taken.comes)

-- ---- whole records

eight_bytes : (place : ℕ) (what : What) (bytes : List ℕ) → record_of_meant place what ≡ gives bytes → length bytes ≡ 8
unfolding record_of_meant
eight_bytes place (What.Balise x y z) bytes e = by (spell (asked x y z)) e
  where
    by : (o : Outcome Words) → then o (λ w. gives (bytes_of place 0 w.x w.y w.z)) ≡ gives bytes → length bytes ≡ 8
    by (gives w) e = let is : bytes ≡ bytes_of place 0 w.x w.y w.z = cc in ap length is
    by (refuses n) e = cannot_be cc
eight_bytes place What.Marker bytes e = let is : bytes ≡ bytes_of place 1 0 0 0 = cc in ap length is
eight_bytes place What.Unreadable bytes e = let is : bytes ≡ bytes_of place 2 0 0 0 = cc in ap length is
eight_bytes place What.Position bytes e = let is : bytes ≡ bytes_of place 3 0 0 0 = cc in ap length is
eight_bytes place (What.Raw kind x y z) bytes e = let is : bytes ≡ bytes_of place kind x y z = cc in ap length is

made_eight : (place : ℕ) (what : What) (r : Recorded) → RecordOf place what r → r.how ≡ MakingWent.Made → length r.bytes ≡ 8
made_eight place what r records how = by (record_of_meant place what) refl records.1
  where
    by : (o : Outcome (List ℕ)) → record_of_meant place what ≡ o → says_recorded r ≡ recording o → length r.bytes ≡ 8
    by (gives bytes) is e = ap (λ (x : Recording). length x.bytes) e ∙ eight_bytes place what bytes is
    by (refuses n) is e = cannot_be (let z : ◌≡◌ {A = Outcome Made} (gives recorded.made) (refuses n) = sym (ap says_making_went how) ∙ ap (λ (x : Recording). x.answer) e in cc)

Whole : Result → Type 0
Whole r = (records : List (List ℕ)) → r ≡ made records → length (joined records) % 8 ≡ 0

more_whole : (eight : List ℕ) (rest : Result) → length eight ≡ 8 → Whole rest → Whole (before eight rest)
unfolding Whole
more_whole eight (made rs) is others records e =
    let same : records ≡ eight ∷ rs = cc in
    let left = others rs refl in
    ap (λ (l : List (List ℕ)). length (joined l) % 8) same ∙ ap (λ (n : ℕ). n % 8) (length-append eight (joined rs)) ∙ (let z : (length eight + length (joined rs)) % 8 ≡ 0 = omega arith in z)
more_whole eight unreadable is others records e = cannot_be cc
more_whole eight (refused n) is others records e = cannot_be cc

pub all_whole : (ls : List TextLine) (r : Result) → Comes ls r → (records : List (List ℕ)) → r ≡ made records → length (joined records) % 8 ≡ 0
unfolding Whole
all_whole _ _ no_more rs e = let same : rs ≡ [] = cc in ap (λ (l : List (List ℕ)). length (joined l) % 8) same
all_whole _ r (nothing {ls = ls} reads rest) rs e = all_whole ls r rest rs e
all_whole _ _ (thing {ls = ls} {rest = rest} {place = place} {what = what} r reads records how more) rs e =
    more_whole r.bytes rest (made_eight place what r records how) (λ others f. all_whole ls rest more others f) rs e
all_whole _ _ (wrong reads) rs e = cannot_be cc
all_whole _ _ (bad r reads records how) rs e = cannot_be cc
