-- Where every place has the words sent, the places are alike: `survey` and `judge` never answer 7,
-- and read what was sent.
-- Assumes nothing.
use mathlib.Core.Path.{◌≡◌, refl, sym, ap, ap₂, ◌∙◌, subst}
use mathlib.Core.Logic.{◌⊎◌, inl, inr}
use mathlib.Core.Bool.{Bool, true}
use mathlib.Core.List.{List, [], ◌∷◌}
use Prim.Native.Nat.{ℕ, ◌≤◌}
use native.Mathlib.Omega.{arith}
use lib.Dec.{eqb}
use lib.ListN.{length}
use borrow.Author.Tests.{eq-eqb}
use Rattle.words.specs.Answer.{Outcome, gives, refuses, pick}
use Rattle.words.specs.Plain.{among}
use Rattle.std.specs.Prelude.{Result}
use Rattle.telegram.specs.Telegram.{Received}
use Rattle.telegram.specs.Place.{words_at}
use Rattle.telegram.specs.Survey.{all_as, Alike, alike, together, survey}
use Rattle.telegram.specs.Says.{says_surveyed}
use Rattle.telegram.specs.declared.Telegram.{Telegram}
use Rattle.telegram.specs.declared.Surveyed.{Surveyed}
use Rattle.telegram.specs.declared.NotAlike.{NotAlike}
use Rattle.balise_line.specs.Line.{OneBalise, Proper, places_of}
use Rattle.demands.specs.ByContract.{Survey as SurveyAllows}
use Rattle.demands.specs.Demand3.{TheSent, SurveyedTheSent}
use Rattle.balise_line.proofs.Places.{or_left, or_right}
use Rattle.balise_line.proofs.Sent.{Sent, AllSent, read_as_sent, all_alike}
use Rattle.demands.proofs.Demand3.Handed.{the_sent}
use Rattle.words.proofs.Never.{cannot_be}

module _ (o : OneBalise) (proper : Proper o) (every-place : AllSent o) where
  abbrev pub b : List ℕ
  b = o.buffer

  -- What is known of a reading with its first place and their number.
  pub record Known (m : Received) (first count : ℕ) : Type 0 where
    pub first_is : Sent o first
    pub read_there : m ≡ words_at b first
    pub as_many : count ≡ length (places_of o)

  -- An answer that all places are alike.
  pub record AllAlike (a : Outcome Alike) : Type 0 where
    pub message : Received
    pub first : ℕ
    pub count : ℕ
    pub is : a ≡ gives (alike message first count)
    pub known : Known message first count

  -- The survey of the stretch finds no place, or all places alike.
  abbrev pub Survey : Outcome Alike → Type 0
  Survey a = ((a ≡ refuses 6) × (places_of o ≡ [])) ⊎ AllAlike a

  survey_of : (ps : List ℕ) → places_of o ≡ ps → Survey (together b ps)
  survey_of [] list = inl (refl, list)
  survey_of (p ∷ ps) list =
      inr record {
        message = words_at b p;
        first = p;
        count = length (p ∷ ps);
        is = ap (λ (t : Bool). pick t (gives (alike (words_at b p) p (length (p ∷ ps)))) (refuses 7)) alike_all;
        known = record {
          first_is = here;
          read_there = refl;
          as_many = ap length (sym list);
        };
      }
    where
      sent : (q : ℕ) → among q (p ∷ ps) ≡ true → Sent o q
      sent q there = every-place q (ap (among q) list ∙ there)

      here : Sent o p
      here = sent p (or_left (among p ps) (eq-eqb p p refl))

      alike_all : all_as b p ps ≡ true
      alike_all = all_alike o p here ps (λ q there. sent q (or_right (eqb q p) there))

  pub the_survey : Survey (survey b o.start o.len o.s o.t)
  unfolding survey
  the_survey =
      subst Survey
      (sym (ap₂ (λ (g i : Bool). pick g (pick i (together b (places_of o)) (refuses 5)) (refuses 4)) proper.pair proper.taken))
      (survey_of (places_of o) refl)

  pub known_sent : (m : Telegram) (first count : ℕ) → Known (gives m) first count → TheSent o first m
  known_sent m first count known = the_sent o proper first m known.first_is known.read_there

  pub same_known : {m n : Received} {p q k l : ℕ} → m ≡ n → p ≡ q → k ≡ l → Known m p k → Known n q l
  same_known {m} {n} {p} {q} {k} {l} e f g known =
      subst (λ (v : ℕ). Known n q v) g (subst (λ (v : ℕ). Known n v k) f (subst (λ (v : Received). Known v p k) e known))

  -- Where there is a place, they are alike.
  alike_so : {a : Outcome Alike} → Survey a → 1 ≤ length (places_of o) → AllAlike a
  alike_so (inl none) many = absurd (let e = ap length none.1 in omega arith)
  alike_so (inr r) many = r

  -- What is read is the telegram sent.
  pub sent_there : {a : Outcome Alike} (r : AllAlike a) → r.message ≡ gives o.telegram
  sent_there r = r.known.read_there ∙ read_as_sent o proper r.first r.known.first_is

  survey_told : SurveyedTheSent o (survey b o.start o.len o.s o.t)
  survey_told =
      record {
        never_7 = never the_survey;
        first_sent = λ m first count e. known_sent m first count (known the_survey (gives m) first count e);
        counted = λ m first count e. (known the_survey (gives m) first count e).as_many;
        enough = λ many.
            let all = alike_so the_survey many in
            (o.telegram, all.first, all.count, all.is ∙ ap (λ (m : Received). gives (alike m all.first all.count)) (sent_there all));
      }
    where
      never : {a : Outcome Alike} → Survey a → a ≡ refuses 7 → ⊥
      never (inl none) e = let f = none.0 in let z : ◌≡◌ {A = ℕ} 6 7 = cc in omega arith
      never (inr r) e = let f = r.is in cannot_be cc

      known : {a : Outcome Alike} → Survey a → (m : Received) (first count : ℕ) → a ≡ gives (alike m first count) → Known m first count
      known (inl none) m first count e = absurd (let f = none.0 in cannot_be cc)
      known (inr r) m first count e =
          let f = r.is in
          let same_m : r.message ≡ m = cc in
          let same_p : r.first ≡ first = cc in
          let same_k : r.count ≡ count = cc in
          same_known same_m same_p same_k r.known

  pub survey_sent : (r : Result Surveyed NotAlike) → SurveyAllows b o.start o.len o.s o.t r → SurveyedTheSent o (says_surveyed r)
  survey_sent r c = subst (SurveyedTheSent o) (sym (c.4 ∙ ap (λ (v : List ℕ). survey v o.start o.len o.s o.t) c.3)) survey_told
