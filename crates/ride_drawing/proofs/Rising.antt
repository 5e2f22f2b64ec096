-- The entries of a good plan lie in rising order: so they are judged, and an entry that is met
-- keeps its place.
-- Assumes nothing.
use Prim.Native.Nat.{ℕ, zero, suc, ◌-◌}
use mathlib.Core.Path.{◌≡◌, refl, ap, ap₂, ◌∙◌}
use mathlib.Core.Bool.{Bool, true, false, ◌&&◌}
use mathlib.Core.List.{List, [], ◌∷◌}
use lib.Dec.{leb, ltb}
use lib.ListN.{length, take, get_or, set, replicate}
use lib.Seq.{take_at}
use Rattle.words.specs.Answer.{gives, refuses, pick}
use Rattle.words.proofs.Never.{cannot_be}
use Rattle.words.proofs.Linear.{and_parts}
use Rattle.group_rows.specs.declared.Kind.{Kind}
use Rattle.ride.specs.declared.Line.{Line}
use Rattle.acceptance.specs.declared.Entry.{Entry}
use Rattle.acceptance.specs.declared.Acceptance.{Acceptance}
use Rattle.acceptance.specs.declared.Took.{Took}
use Rattle.acceptance.specs.declared.Role.{Role}
use Rattle.acceptance.specs.Plan.{no_entry, is_beyond, apart, entries_of, well_formed, plan_with, empty_plan, good, Planning, plan}
use Rattle.acceptance.specs.Taking.{planned, is_present, waiting, met_at, after_wanted, after_extra, take_group, no_part, take_line}
use Rattle.ride_drawing.specs.Places.{Rising}

-- ---- the first entries of some that rise

beyond_first : (n t q : ℕ) (es : List Entry) → is_beyond t q es ≡ true → is_beyond t q (take n es) ≡ true
beyond_first zero t q es h = refl
beyond_first (suc n) t q [] h = refl
beyond_first (suc n) t q (e ∷ es) h = h

pub first_rise : (n t : ℕ) (es : List Entry) → apart t es ≡ true → apart t (take n es) ≡ true
unfolding apart
first_rise zero t es h = refl
first_rise (suc n) t [] h = refl
first_rise (suc n) t (e ∷ es) h =
    let parts = and_parts (is_beyond t e.place es) (apart t es) h in
    ap₂ (λ (x y : Bool). x && y) (beyond_first n t e.place es parts.0) (first_rise n t es parts.1)

-- ---- a good plan

read_rises : (tolerance : ℕ) (es : List Entry) → apart tolerance es ≡ true → Rising (plan_with tolerance es)
unfolding plan_with
read_rises tolerance es h = ap (apart tolerance) (take_at es (replicate (64 - length es) no_entry) (length es) refl) ∙ h

pub begins : (bytes : List ℕ) (tolerance : ℕ) → (plan bytes tolerance).answer ≡ gives good → Rising (plan bytes tolerance).plan
unfolding plan
begins bytes tolerance = go (leb tolerance 500) (well_formed bytes) (apart tolerance (entries_of bytes)) refl
  where
    read : Planning
    read = record { answer = gives good; plan = plan_with tolerance (entries_of bytes) }

    no : ℕ → Planning
    no n = record { answer = refuses n; plan = empty_plan }

    go : (a b c : Bool) → apart tolerance (entries_of bytes) ≡ c →
        let p = pick a (pick b (pick c read (no 27)) (no 26)) (no 28) in
        p.answer ≡ gives good → Rising p.plan
    go true true true is e = read_rises tolerance (entries_of bytes) is
    go true true false is e = cannot_be cc
    go true false c is e = cannot_be cc
    go false b c is e = cannot_be cc

-- ---- whatever lines are taken

module _ (t place : ℕ) where
  -- the entry with an index, met
  abbrev met : List Entry → ℕ → List Entry
  met es i = set es i (met_at place (get_or es i no_entry))

  beyond_met : (n q : ℕ) (es : List Entry) (i : ℕ) → is_beyond t q (take n (met es i)) ≡ is_beyond t q (take n es)
  beyond_met zero q es i = refl
  beyond_met (suc n) q [] i = refl
  beyond_met (suc n) q (e ∷ es) zero = refl
  beyond_met (suc n) q (e ∷ es) (suc i) = refl

  apart_met : (n : ℕ) (es : List Entry) (i : ℕ) → apart t (take n (met es i)) ≡ apart t (take n es)
  unfolding apart
  apart_met zero es i = refl
  apart_met (suc n) [] i = refl
  apart_met (suc n) (e ∷ es) zero = refl
  apart_met (suc n) (e ∷ es) (suc i) = ap₂ (λ (x y : Bool). x && y) (beyond_met n e.place es i) (apart_met n es i)

group_rises : (run : Acceptance) (place : ℕ) (kind : Kind) → Rising run → Rising (take_group run place kind).state
unfolding take_group after_wanted after_extra
group_rises run place kind h = go (ltb i (length (planned run)))
  where
    i : ℕ
    i = waiting run.tolerance place kind (planned run)

    wanted : Took
    wanted = record { state = after_wanted run i place; answer = Role.Wanted i }

    spare : Took
    spare = record { state = after_extra run; answer = Role.Extra }

    go : (b : Bool) → Rising (pick b wanted spare).state
    go true = apart_met run.tolerance place run.count run.entries i ∙ h
    go false = h

pub goes_on : (run : Acceptance) (line : Line) → Rising run → Rising (take_line run line).state
unfolding take_line
goes_on run (Line.Group g) h = go (is_present g.direction)
  where
    go : (b : Bool) → Rising (pick b (take_group run g.place g.kind) (no_part run)).state
    go true = group_rises run g.place g.kind h
    go false = h
goes_on run (Line.Fault place n) h = h
goes_on run (Line.Missed place) h = h
goes_on run (Line.Record number n) h = h
goes_on run (Line.Trace n) h = h
