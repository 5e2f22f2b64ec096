-- Where every place has the words sent, judging never answers 7, reads what was sent, and reads
-- where there are two places.
-- Assumes nothing.
use mathlib.Core.Path.{◌≡◌, sym, ap, ap₂, ◌∙◌, subst}
use mathlib.Core.Logic.{inl, inr}
use mathlib.Core.Bool.{Bool, true, false}
use mathlib.Core.List.{List}
use Prim.Native.Nat.{ℕ, ◌≤◌}
use native.Mathlib.Omega.{arith}
use lib.Dec.{leb}
use lib.ListN.{length}
use borrow.Author.Tests.{le-leb}
use Rattle.words.specs.Answer.{Outcome, gives, refuses, then, pick}
use Rattle.telegram.specs.Telegram.{Received}
use Rattle.telegram.specs.Survey.{Alike, survey}
use Rattle.telegram.specs.declared.Telegram.{Telegram}
use Rattle.contact.specs.Judge.{Contact, read, marker, is_marker, judge}
use Rattle.settings.specs.declared.Store.{Store}
use Rattle.settings.specs.declared.Held.{Held}
use Rattle.std.specs.Prelude.{Ok}
use Rattle.settings.specs.At.{asked}
use Rattle.contact.specs.Under.{judge_under}
use Rattle.contact.specs.Says.{says_judged, says_judged_under}
use Rattle.contact.specs.declared.Judged.{Judged}
use Rattle.contact.specs.declared.JudgedUnder.{JudgedUnder}
use Rattle.contact.proofs.Judging.{marker_or, from_survey, by_survey}
use Rattle.balise_line.specs.Line.{OneBalise, Proper, places_of}
use Rattle.demands.specs.ByContract.{JudgeContact}
use Rattle.demands.specs.Stores.{AskAt, JudgeUnder}
use Rattle.demands.specs.Demand3.{JudgedTheSent}
use Rattle.balise_line.proofs.Sent.{AllSent}
use Rattle.demands.proofs.Demand3.Together.{Known, Survey, the_survey, known_sent, same_known, sent_there}
use Rattle.words.proofs.Never.{cannot_be}

-- An answer that reads is the case that reads.
pub is_read : (r : Judged) (m : Telegram) (first count : ℕ) → says_judged r ≡ gives (read (gives m) first count) → r ≡ Judged.Read m first count
is_read (Judged.Read n p k) m first count e =
    let same_m : n ≡ m = cc in
    let same_p : p ≡ first = cc in
    let same_k : k ≡ count = cc in
    cc
is_read Judged.Marker m first count e = cannot_be cc
is_read Judged.NotSeven m first count e = cannot_be cc
is_read Judged.Beyond m first count e = cannot_be cc
is_read Judged.Differ m first count e = cannot_be cc
is_read Judged.Neither m first count e = cannot_be cc

module _ (o : OneBalise) (proper : Proper o) (every-place : AllSent o) where
  abbrev said : Outcome Contact
  said = judge o.buffer o.start o.len o.s o.t

  judged_sent : JudgedTheSent o said
  judged_sent =
      record {
        never_7 = λ e. never (the_survey o proper every-place) (sym by ∙ e);
        first_sent = λ m first count e. known_sent o proper every-place m first count (of m first count e);
        counted = λ m first count e. (of m first count e).as_many;
        enough = λ many. reads_so many (the_survey o proper every-place) by;
      }
    where
      by : said ≡ from_survey (marker_or o.buffer o.start o.len) (survey o.buffer o.start o.len o.s o.t)
      by = by_survey o.buffer o.start o.len o.s o.t

      never_left : (t : Bool) → pick {A = Outcome Contact} t (gives marker) (refuses 8) ≡ refuses 7 → ⊥
      never_left true e = cannot_be cc
      never_left false e = let z : ◌≡◌ {A = ℕ} 8 7 = cc in omega arith

      never_several : (t u : Bool) (m : Received) (first count : ℕ) → pick {A = Outcome Contact} t (gives (read m first count)) (pick u (gives marker) (refuses 8)) ≡ refuses 7 → ⊥
      never_several true u m first count e = cannot_be cc
      never_several false u m first count e = never_left u e

      never : {a : Outcome Alike} → Survey o proper every-place a → from_survey (marker_or o.buffer o.start o.len) a ≡ refuses 7 → ⊥
      never (inl none) e = never_left (is_marker o.buffer o.start o.len) (sym (ap (from_survey (marker_or o.buffer o.start o.len)) none.0) ∙ e)
      never (inr r) e =
          never_several (leb 2 r.count) (is_marker o.buffer o.start o.len) r.message r.first r.count
          (sym (ap (from_survey (marker_or o.buffer o.start o.len)) r.is) ∙ e)

      known_left : (t : Bool) (m : Received) (first count : ℕ) → pick {A = Outcome Contact} t (gives marker) (refuses 8) ≡ gives (read m first count) → Known o proper every-place m first count
      known_left true m first count e = cannot_be cc
      known_left false m first count e = cannot_be cc

      known_several : (t u : Bool) (n m : Received) (p q k l : ℕ) → Known o proper every-place n p k
          → pick {A = Outcome Contact} t (gives (read n p k)) (pick u (gives marker) (refuses 8)) ≡ gives (read m q l) → Known o proper every-place m q l
      known_several true u n m p q k l it e =
          let same_m : n ≡ m = cc in
          let same_p : p ≡ q = cc in
          let same_k : k ≡ l = cc in
          same_known o proper every-place same_m same_p same_k it
      known_several false u n m p q k l it e = known_left u m q l e

      known : {a : Outcome Alike} → Survey o proper every-place a → (m : Received) (first count : ℕ)
          → from_survey (marker_or o.buffer o.start o.len) a ≡ gives (read m first count) → Known o proper every-place m first count
      known (inl none) m first count e =
          known_left (is_marker o.buffer o.start o.len) m first count (sym (ap (from_survey (marker_or o.buffer o.start o.len)) none.0) ∙ e)
      known (inr r) m first count e =
          known_several (leb 2 r.count) (is_marker o.buffer o.start o.len) r.message m r.first first r.count count r.known
          (sym (ap (from_survey (marker_or o.buffer o.start o.len)) r.is) ∙ e)

      of : (m : Telegram) (first count : ℕ) → said ≡ gives (read (gives m) first count) → Known o proper every-place (gives m) first count
      of m first count e = known (the_survey o proper every-place) (gives m) first count (sym by ∙ e)

      -- where there are two places, they are read
      reads_so : 2 ≤ length (places_of o) → {a : Outcome Alike} → Survey o proper every-place a → said ≡ from_survey (marker_or o.buffer o.start o.len) a
          → (m : Telegram) × (first : ℕ) × (count : ℕ) × (said ≡ gives (read (gives m) first count))
      reads_so many (inl none) e = absurd (let f = ap length none.1 in omega arith)
      reads_so many (inr all) e =
          let two : leb 2 all.count ≡ true = le-leb 2 all.count (subst (λ (k : ℕ). 2 ≤ k) (sym all.known.as_many) many) in (
            o.telegram,
            all.first,
            all.count,
            e ∙ ap (from_survey (marker_or o.buffer o.start o.len)) all.is
                ∙ ap (λ (t : Bool). pick t (gives (read all.message all.first all.count)) (marker_or o.buffer o.start o.len)) two
                ∙ ap (λ (m : Received). gives (read m all.first all.count)) (sent_there o proper every-place all),
          )

  pub judge_sent : (r : Judged) → JudgeContact o.buffer o.start o.len o.s o.t r → JudgedTheSent o (says_judged r)
  judge_sent r c = subst (JudgedTheSent o) (sym (c.4 ∙ ap (λ (v : List ℕ). judge v o.start o.len o.s o.t) c.3)) judged_sent

  -- Under a store the contact is judged with the pair in force.
  with_pair : (store : Store) (odometer : ℕ) (held : Held) → asked store odometer ≡ gives held → held.s ≡ o.s → held.t ≡ o.t
      → judge_under store odometer o.buffer o.start o.len ≡ said
  unfolding judge_under
  with_pair store odometer held e s t =
      ap (λ (a : Outcome Held). then a (λ h. judge o.buffer o.start o.len h.s h.t)) e ∙ ap₂ (judge o.buffer o.start o.len) s t

  pub under_sent : (store : Store) (odometer : ℕ) (held : Held) (r : JudgedUnder) → AskAt store odometer (Ok held) → held.s ≡ o.s → held.t ≡ o.t
      → JudgeUnder store odometer o.buffer o.start o.len r → JudgedTheSent o (says_judged_under r)
  under_sent store odometer held r a s t c =
      subst (JudgedTheSent o)
      (sym (c.4 ∙ ap (λ (v : List ℕ). judge_under store odometer v o.start o.len) c.3 ∙ with_pair store odometer held (sym a.1) s t))
      judged_sent
