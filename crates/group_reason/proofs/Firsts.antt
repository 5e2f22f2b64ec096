-- The balise named for 12 is the first bad one, and reading with its name says what reading without
-- it says.
-- Assumes nothing.
use Prim.Native.Nat.{ℕ, suc, ◌+◌}
use mathlib.Core.Path.{◌≡◌, refl, sym, ap, ◌∙◌}
use mathlib.Core.List.Memᴰ
use mathlib.Core.List.{List, [], ◌∷◌}
use mathlib.Core.Logic.{⊎_elim}
use native.Mathlib.Omega.{arith}
use Rattle.words.specs.Answer.{Answer, Outcome, gives, refuses, then}
use Rattle.telegram.specs.Telegram.{Received, telegram}
use Rattle.group_rows.specs.declared.Part.{Part}
use Rattle.group_rows.specs.declared.Placed.{Placed}
use Rattle.group.specs.declared.Heard.{Heard}
use Rattle.group.specs.declared.Balise.{Balise}
use Rattle.group.specs.Balise.{part_of, part_heard, read_all}
use Rattle.group_reason.specs.Reason.{Amiss, unreadable, word, Cause, bad}
use Rattle.group_reason.specs.Explain.{part_or_word, part_or_bad, named, read_from}
use Rattle.group_reason.specs.Truths.{BadAs, was_unreadable, bad_word, FirstBad}

-- An answer without its name: refused with 12.
abbrev pub unnamed : {R A : Type 0} → Answer R A → Outcome A
unnamed (gives x) = gives x
unnamed (refuses r) = refuses 12

pub part_unnamed : (h : Heard) → unnamed (part_or_bad h) ≡ part_heard h
part_unnamed (Heard.Words x y z) = go (telegram x y z)
  where
    go : (t : Received) → unnamed (part_or_word t) ≡ part_of t
    go (gives t) = refl
    go (refuses w) = refl
part_unnamed Heard.Marker = refl
part_unnamed Heard.Unreadable = refl

pub read_unnamed : (i : ℕ) (bs : List Balise) → unnamed (read_from i bs) ≡ read_all bs
unfolding read_from read_all
read_unnamed i [] = refl
read_unnamed i (b ∷ bs) = rw (← part_unnamed b.heard) (go (part_or_bad b.heard) (read_from (suc i) bs) (read_all bs) (read_unnamed (suc i) bs))
  where
    go : (o : Answer Amiss Part) (l : Answer Cause (List Placed)) (m : Outcome (List Placed)) → unnamed l ≡ m
        → unnamed (then (named i b.place o) λ p. then l λ ps. gives (record { place = b.place; part = p } ∷ ps))
        ≡ (then (unnamed o) λ p. then m λ ps. gives (record { place = b.place; part = p } ∷ ps))
    go (refuses w) l m e = refl
    go (gives p) (gives ps) m e = rw (sym e)
    go (gives p) (refuses c) m e = rw (sym e)

bad_as : (h : Heard) (w : Amiss) → part_or_bad h ≡ refuses w → BadAs h w
bad_as (Heard.Words x y z) w e = go (telegram x y z) refl e
  where
    go : (t : Received) → telegram x y z ≡ t → part_or_word t ≡ refuses w → BadAs (Heard.Words x y z) w
    go (gives t) q r = absurd (let n : ◌≡◌ {A = ℕ} 0 1 = cc in omega arith)
    go (refuses v) q r = let same : word v ≡ w = cc in rw (← same) (bad_word x y z v q)
bad_as Heard.Marker w e = absurd (let n : ◌≡◌ {A = ℕ} 0 1 = cc in omega arith)
bad_as Heard.Unreadable w e = let same : unreadable ≡ w = cc in rw (← same) was_unreadable

-- What is named of balises the first of which has the index i.
pub record Names (i : ℕ) (bs : List Balise) (c : Cause) : Type 0 where
  pub index : ℕ
  pub place : ℕ
  pub what : Amiss
  pub is : c ≡ bad (i + index) place what
  pub first : FirstBad bs index place what

-- The bad balise is the first.
here : (i : ℕ) (b : Balise) (bs : List Balise) (w : Amiss) (c : Cause) → part_or_bad b.heard ≡ refuses w → bad i b.place w ≡ c → Names i (b ∷ bs) c
here i b bs w c e q =
    record {
      index = 0;
      place = b.place;
      what = w;
      is = let z : i ≡ i + 0 = omega arith in sym q ∙ ap (λ (k : ℕ). bad k b.place w) z;
      first =
          record {
            balise = b;
            at = record { before = []; later = bs; stands = refl; index = refl };
            place_is = refl;
            is_bad = sym (part_unnamed b.heard) ∙ ap unnamed e;
            bad_as = bad_as b.heard w e;
            none_before = λ x m. absurd (Memᴰ.not-nil m);
          };
    }

-- The bad balise comes later, and this one reads.
later : (i : ℕ) (b : Balise) (bs : List Balise) (p : Part) (c : Cause) → part_or_bad b.heard ≡ gives p → Names (suc i) bs c → Names i (b ∷ bs) c
later i b bs p c e n =
    let f = n.first in
    record {
      index = suc n.index;
      place = n.place;
      what = n.what;
      is = let z : suc i + n.index ≡ i + suc n.index = omega arith in n.is ∙ ap (λ (k : ℕ). bad k n.place n.what) z;
      first =
          record {
            balise = f.balise;
            at =
                record {
                  before = b ∷ f.at.before;
                  later = f.at.later;
                  stands = ap (λ (l : List Balise). b ∷ l) f.at.stands;
                  index = ap suc f.at.index;
                };
            place_is = f.place_is;
            is_bad = f.is_bad;
            bad_as = f.bad_as;
            none_before = λ x m. ⊎_elim (λ same. (p, ap (λ (v : Balise). part_heard v.heard) same ∙ sym (part_unnamed b.heard) ∙ ap unnamed e)) (f.none_before x) (Memᴰ.cases_cons m);
          };
    }

-- The first bad balise is named.
pub names_first : (i : ℕ) (bs : List Balise) (c : Cause) → read_from i bs ≡ refuses c → Names i bs c
unfolding read_from
names_first i [] c e = absurd (let n : ◌≡◌ {A = ℕ} 0 1 = cc in omega arith)
names_first i (b ∷ bs) c e = go (part_or_bad b.heard) refl (read_from (suc i) bs) refl e (names_first (suc i) bs)
  where
    go : (o : Answer Amiss Part) → part_or_bad b.heard ≡ o → (l : Answer Cause (List Placed)) → read_from (suc i) bs ≡ l
        → (then (named i b.place o) λ p. then l λ ps. gives (record { place = b.place; part = p } ∷ ps)) ≡ refuses c
        → ((d : Cause) → read_from (suc i) bs ≡ refuses d → Names (suc i) bs d) → Names i (b ∷ bs) c
    go (refuses w) q l s r on = here i b bs w c q (let same : bad i b.place w ≡ c = cc in same)
    go (gives p) q (gives ps) s r on = absurd (let n : ◌≡◌ {A = ℕ} 0 1 = cc in omega arith)
    go (gives p) q (refuses d) s r on = let same : d ≡ c = cc in later i b bs p c q (on c (s ∙ ap refuses same))
