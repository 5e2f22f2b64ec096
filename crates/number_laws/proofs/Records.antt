-- A record is refused for what was judged, then for its odometer; a frame for its odometer alone.
-- Assumes nothing.
use Prim.Native.Nat.{ℕ, ◌/◌, ◌<◌}
use native.Mathlib.Omega.{arith}
use mathlib.Core.Path.{◌≡◌, refl, sym, ap, subst, ◌∙◌}
use mathlib.Core.Bool.{Bool, true, false}
use mathlib.Core.List.{List, [], ◌∷◌}
use lib.Dec.{ltb}
use lib.ListN.{length}
use Rattle.words.specs.Answer.{Outcome, gives, refuses, then, pick}
use Rattle.words.proofs.Told.{told as once}
use Rattle.words.proofs.Never.{cannot_be}
use Rattle.telegram.specs.declared.Telegram.{Telegram}
use Rattle.contact.specs.declared.Judged.{Judged}
use Rattle.antenna.specs.Says.{says_until}
use Rattle.antenna.proofs.Determined.{until_of, until_back}
use Rattle.telegram.specs.Spelling.{asked, too_large, has_fifteen, words_of, spell}
use Rattle.recorder.specs.Record.{Content, Made, made, whether, informed, bytes_of, content_of, at_odometer, record_of_meant}
use Rattle.recorder.specs.Says.{says_recorded}
use Rattle.std.specs.Prelude.{Result, Ok}
use Rattle.recorder.specs.declared.RecordRefused.{RecordRefused}
use Rattle.recorder.proofs.Determined.{recorded_of, recorded_back}
use Rattle.recording.specs.Frame.{odometer_of}
use Rattle.recording_text.specs.Counts.{judge_frame, with_frame, over_frames, count_frames}
use Rattle.recording_text.specs.declared.Frames.{Frames}
use Rattle.recording_text.proofs.FrameLaws.{any_pieces}
use Rattle.demands.specs.Rules.{Rule, row, Decided, Is}
use Rattle.demands.specs.Table.{above}
use Rattle.demands.specs.Table02.{too_high}
use Rattle.demands.proofs.Common.Rules.{true_not_false, if_so}
use Rattle.demands.proofs.Demand1.Writes.{above_is, fifteen_is}
use Rattle.number_laws.specs.Records.{making_rules, RecordsDecided, frame_rules, FramesDecided}

-- ---- a record

-- A rule whose condition does not hold decides nothing.
skip : {A : Type 0} (Reading : Outcome A → Type 0) (n : ℕ) (rules : List (Rule (Outcome A))) (o : Outcome A)
    → Decided Reading rules o → Decided Reading (row n false ∷ rules) o
skip Reading n rules o rest = (λ e. absurd (true_not_false (sym e)), λ e. rest)

abbrev far : ℕ → Outcome Made
far odometer = pick (too_high odometer) (refuses 18) (gives made)

at_so : (odometer : ℕ) (c : Content) → (whether (at_odometer odometer c)) ≡ far odometer
unfolding at_odometer too_high
at_so odometer c = go (ltb 4000000000 odometer)
  where
    go : (t : Bool) → (whether (pick t (refuses 18) (gives (bytes_of odometer c)))) ≡ pick t (refuses 18) (gives made)
    go true = refl
    go false = refl

far_so : (odometer : ℕ) → Decided (Is made) (row 18 (too_high odometer) ∷ []) (far odometer)
far_so odometer = if_so (Is made) [] (refuses 18) (gives made) refl (too_high odometer)

-- Without figures, and not refused with 4 or 5, the odometer alone decides.
abbrev before_far : ℕ → List (Rule (Outcome Made))
before_far odometer = row 4 false ∷ row 5 false ∷ row 18 (too_high odometer) ∷ []

before_far_law : (odometer : ℕ) → Decided (Is made) (before_far odometer) (far odometer)
before_far_law odometer =
    skip (Is made) 4 (row 5 false ∷ row 18 (too_high odometer) ∷ []) (far odometer)
    (skip (Is made) 5 (row 18 (too_high odometer) ∷ []) (far odometer) (far_so odometer))

blank_so : (odometer : ℕ) (c : Content) → Decided (Is made) (row 2 false ∷ row 3 false ∷ before_far odometer) (whether (at_odometer odometer c))
blank_so odometer c =
    subst (λ (o : Outcome Made). Decided (Is made) (row 2 false ∷ row 3 false ∷ before_far odometer) o) (sym (at_so odometer c))
    (skip (Is made) 2 (row 3 false ∷ before_far odometer) (far odometer) (skip (Is made) 3 (before_far odometer) (far odometer) (before_far_law odometer)))

-- A reading: its figures first.
read_told : (odometer : ℕ) (m : Telegram)
    → (whether (then (informed (spell m)) (at_odometer odometer))) ≡ pick (too_large m) (refuses 2) (pick (has_fifteen m) (refuses 3) (far odometer))
unfolding spell
read_told odometer m = go (too_large m) (has_fifteen m)
  where
    go : (a f : Bool) → (whether (then (informed (pick a (refuses 2) (pick f (refuses 3) (gives (words_of m))))) (at_odometer odometer)))
        ≡ pick a (refuses 2) (pick f (refuses 3) (far odometer))
    go true f = refl
    go false true = refl
    go false false = at_so odometer (record { kind = 0; x = (words_of m).x; y = (words_of m).y; z = (words_of m).z })

read_so : (odometer : ℕ) (m : Telegram)
    → Decided (Is made) (row 2 (too_large m) ∷ row 3 (has_fifteen m) ∷ before_far odometer) (whether (then (informed (spell m)) (at_odometer odometer)))
read_so odometer m =
    subst (λ (o : Outcome Made). Decided (Is made) (row 2 (too_large m) ∷ row 3 (has_fifteen m) ∷ before_far odometer) o) (sym (read_told odometer m))
    (if_so (Is made) (row 3 (has_fifteen m) ∷ before_far odometer) (refuses 2) (pick (has_fifteen m) (refuses 3) (far odometer))
    (if_so (Is made) (before_far odometer) (refuses 3) (far odometer) (before_far_law odometer) (has_fifteen m)) (too_large m))

number_is : (m : ℕ) → (above 2047 m ≡ too_large (Telegram.Number m)) × (false ≡ has_fifteen (Telegram.Number m))
unfolding above too_large has_fifteen
number_is m = (refl, refl)

record_so : (odometer : ℕ) (j : Judged) → Decided (Is made) (making_rules odometer j) (whether (record_of_meant odometer j))
unfolding record_of_meant content_of
record_so odometer (Judged.Read (Telegram.Figures x y z) first count) = rw (above_is x y z, fifteen_is x y z) (read_so odometer (asked x y z))
record_so odometer (Judged.Read (Telegram.Number m) first count) =
    subst (λ (t : Bool). Decided (Is made) (row 2 t ∷ row 3 false ∷ before_far odometer) (whether (then (informed (spell (Telegram.Number m))) (at_odometer odometer))))
    (sym (number_is m).0)
    (subst
    (λ (t : Bool). Decided (Is made) (row 2 (too_large (Telegram.Number m)) ∷ row 3 t ∷ before_far odometer) (whether (then (informed (spell (Telegram.Number m))) (at_odometer odometer))))
    (sym (number_is m).1) (read_so odometer (Telegram.Number m)))
record_so odometer Judged.Marker = blank_so odometer (record { kind = 1; x = 0; y = 0; z = 0 })
record_so odometer Judged.Differ = blank_so odometer (record { kind = 2; x = 0; y = 0; z = 0 })
record_so odometer Judged.Neither = blank_so odometer (record { kind = 2; x = 0; y = 0; z = 0 })
record_so odometer Judged.NotSeven =
    (λ e. absurd (true_not_false (sym e)), λ e. (λ e. absurd (true_not_false (sym e)), λ e. (λ e. refl, λ e. absurd (true_not_false e))))
record_so odometer Judged.Beyond =
    (λ e. absurd (true_not_false (sym e)), λ e. (λ e. absurd (true_not_false (sym e)), λ e. (λ e. absurd (true_not_false (sym e)), λ e. (λ e. refl, λ e. absurd (true_not_false e)))))

-- A refusal has no bytes.
no_bytes : (r : Result (List ℕ) RecordRefused) (n : ℕ) (bytes : List ℕ) → says_recorded r ≡ refuses n → r ≡ Ok bytes → ⊥
no_bytes r n bytes e is = let made : gives bytes ≡ refuses n = sym (ap says_recorded is) ∙ e in cannot_be cc

pub records_decided : RecordsDecided
records_decided = record {
  record_of = λ odometer j r c. let e = ap whether c.1 in rw e (record_so odometer j);
  went = λ n r r' p q. once says_recorded recorded_of recorded_back r r' p q;
  heard = λ n r r' p q. once says_until until_of until_back r r' p q;
  no_bytes = λ odometer j r n bytes c e is. no_bytes r n bytes e is;
}

-- ---- frames

frame_so : (last given : ℕ) → Decided (Is given) (frame_rules last given) (judge_frame last given)
unfolding judge_frame too_high
frame_so last given =
    if_so (Is given) (row 17 (ltb given last) ∷ []) (refuses 18) (pick (ltb given last) (refuses 17) (gives given))
    (if_so (Is given) [] (refuses 17) (gives given) refl (ltb given last)) (ltb 4000000000 given)

single : (f : Frames) (piece : List ℕ) → length piece ≡ 16 → count_frames f piece ≡ with_frame f (judge_frame f.odometer (odometer_of piece 0))
unfolding count_frames over_frames
single f piece h = let n : length piece / 16 ≡ 1 = omega arith in ap (over_frames piece f 0) n

too_few : (f : Frames) (piece : List ℕ) → length piece < 16 → count_frames f piece ≡ f
unfolding count_frames over_frames
too_few f piece h = let n : length piece / 16 ≡ 0 = omega arith in ap (over_frames piece f 0) n

pub frames_decided : FramesDecided
frames_decided = record {
  one = λ f piece r c h.
      (judge_frame f.odometer (odometer_of piece 0), frame_so f.odometer (odometer_of piece 0), c.4 ∙ ap (count_frames f) c.3 ∙ single f piece h);
  less = λ f piece r c h. c.4 ∙ ap (count_frames f) c.3 ∙ too_few f piece h;
  joined = λ f a b m p q both h first second whole.
      let is_p : p ≡ count_frames f a = first.4 ∙ ap (count_frames f) first.3 in
      let is_q : q ≡ count_frames p b = second.4 ∙ ap (count_frames p) second.3 in
      whole.4 ∙ ap (count_frames f) whole.3 ∙ any_pieces f a b m h ∙ ap (λ (x : Frames). count_frames x b) (sym is_p) ∙ sym is_q;
}
