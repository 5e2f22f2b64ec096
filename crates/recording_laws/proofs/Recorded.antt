-- What comes of asking on and on over a piece is what comes of its frames, and pieces of whole
-- frames join.
-- Assumes nothing.
use Prim.Native.Nat.{ℕ, ◌*◌, ◌/◌, ◌%◌, ◌<◌}
use mathlib.Core.Path.{◌≡◌, refl, sym, ap, ◌∙◌}
use mathlib.Core.List.{List, [], ◌∷◌, ◌++◌}
use native.Mathlib.Omega.{arith}
use lib.ListN.{length}
use Rattle.settings.specs.declared.Store.{Store}
use Rattle.antenna.specs.Hearing as hearing
use Rattle.recording.specs.declared.Tape.{Tape}
use Rattle.std.specs.Prelude.{Option}
use Rattle.recording.specs.declared.Taken.{Taken}
use Rattle.recording.specs.declared.Ended.{Ended}
use Rattle.recording.specs.Recording.{fresh, Taped, silent, and_then, over_frames, frames_of, over_lead, last_position, the_end_meant, recorded}
use Rattle.recording.specs.Asking.{go_on, finish}
use Rattle.recording.specs.Says.{says_came, end_came}
use Rattle.recording.specs.Laws.{Asked, over, more, then_ended}
use Rattle.recording.proofs.Asking.{asked_all, end_asked}
use Rattle.recording.proofs.Pieces.{any_pieces}
use Rattle.recording_laws.specs.Calls.{GoOn, EndOf}
use Rattle.recording_laws.specs.Recorded.{Through, came, used, ThroughAll, none, piece, ToTheEnd, came as came_last, no_more, joined, WholeFrames, Recorded, AsAWhole}

-- ---- a piece

-- What an answer that is allowed says.
goes : (tape : Tape) (store : Store) (frames : List ℕ) (k i : ℕ) (r : Taken) → GoOn tape store frames k i r
    → go_on store frames tape k i ≡ says_came r.came r.tape r.frame r.bit
goes tape store frames k i r call =
    sym (call.4 ∙ ap (λ (v : List ℕ). go_on store v tape k i) call.3)

asked : {store : Store} {frames : List ℕ} {tape last : Tape} {k i : ℕ} {rs : List (List ℕ)} → Through store frames tape k i rs last → Asked store frames tape k i rs last
asked {store} {frames} {tape} {last} {k} {i} (came r call is rest) =
    more (goes tape store frames k i r call ∙ ap (λ (c : Option (List ℕ)). says_came c r.tape r.frame r.bit) is) (asked rest)
asked {store} {frames} {tape} {last} {k} {i} (used r call is) =
    over (goes tape store frames k i r call ∙ ap (λ (c : Option (List ℕ)). says_came c r.tape r.frame r.bit) is)

a_piece : {store : Store} {frames : List ℕ} {tape last : Tape} {rs : List (List ℕ)} → Through store frames tape 0 0 rs last
    → over_lead store frames tape ≡ record { tape = last; records = rs }
a_piece {store} {frames} {tape} {last} {rs} calls = asked_all store frames tape last rs (asked calls)

-- ---- pieces

no_bytes : {A : Type 0} (l : List A) → l ++ [] ≡ l
no_bytes [] = refl
no_bytes (x ∷ l) = ap (λ (m : List _). x ∷ m) (no_bytes l)

no_lead : (store : Store) (tape : Tape) → over_lead store [] tape ≡ silent tape
unfolding over_frames
no_lead store tape = refl

two : (store : Store) (tape next last : Tape) (b c : List ℕ) (rs qs : List (List ℕ)) → length b % 16 ≡ 0
    → over_lead store b tape ≡ record { tape = next; records = rs } → over_lead store c next ≡ record { tape = last; records = qs }
    → over_lead store (b ++ c) tape ≡ record { tape = last; records = rs ++ qs }
two store tape next last b c rs qs whole first rest =
    let frames : length b ≡ 16 * (length b / 16) = omega arith in
    any_pieces store b c (length b / 16) tape frames
    ∙ ap (λ (x : Taped). and_then x (λ t. over_lead store c t)) first
    ∙ ap (λ (x : Taped). record { tape = x.tape; records = rs ++ x.records }) rest

all_pieces : {store : Store} {tape last : Tape} {bs rs : List (List ℕ)} → WholeFrames bs → ThroughAll store tape bs rs last
    → over_lead store (joined bs) tape ≡ record { tape = last; records = rs }
all_pieces {store} {tape} whole none = no_lead store tape
all_pieces {store} {tape} {last} {bs = b ∷ []} whole (piece {rs = rs} first none) =
    ap (λ (l : List ℕ). over_lead store l tape) (no_bytes b) ∙ a_piece first ∙ ap (λ (l : List (List ℕ)). record { tape = last; records = l }) (sym (no_bytes rs))
all_pieces {store} {tape} {last} {bs = b ∷ c ∷ cs} whole (piece {next = next} {rs = rs} {qs = qs} first rest) =
    two store tape next last b (joined (c ∷ cs)) rs qs whole.0 (a_piece first) (all_pieces whole.1 rest)

-- ---- the end

ends_so : (tape : Tape) (r : Ended) → EndOf tape r → finish tape ≡ end_came r.came r.tape
ends_so tape r call = sym call.1

to_the_end : {tape : Tape} {qs : List (List ℕ)} → ToTheEnd tape qs → (the_end_meant tape).records ≡ qs
to_the_end {tape} (came_last {bytes = bytes} r call is rest) =
    ap (λ (x : Taped). x.records)
    (end_asked tape ∙ ap then_ended (ends_so tape r call ∙ ap (λ (c : Option (List ℕ)). end_came c r.tape) is))
    ∙ ap (λ (l : List (List ℕ)). bytes ∷ l) (to_the_end rest)
to_the_end {tape} (no_more r call is) =
    ap (λ (x : Taped). x.records) (end_asked tape ∙ ap then_ended (ends_so tape r call ∙ ap (λ (c : Option (List ℕ)). end_came c r.tape) is))

-- ---- the lead

of_the_lead : (store : Store) (pieces records : List (List ℕ)) → WholeFrames pieces → Recorded store pieces records → records ≡ recorded store (joined pieces)
unfolding recorded
of_the_lead store pieces records whole r =
    let start : r.fresh ≡ fresh = r.begins.1 in
    let over_it = ap (λ (t : Tape). over_lead store (joined pieces) t) (sym start) ∙ all_pieces whole r.through in
    r.all
    ∙ sym (ap (λ (l : List (List ℕ)). r.before_the_end ++ l) (to_the_end r.ends))
    ∙ sym (ap (λ (x : Taped). x.records ++ (the_end_meant x.tape).records) over_it)

no_frame : (store : Store) (lead : List ℕ) → length lead < 16 → recorded store lead ≡ []
unfolding recorded over_frames the_end_meant last_position fresh hearing.fresh
no_frame store lead few = let e : frames_of lead ≡ 0 = omega arith in ap (λ (n : ℕ). (and_then (over_frames store lead fresh 0 0 n) the_end_meant).records) e

pub as_a_whole : AsAWhole
as_a_whole =
    record {
      of_the_lead = of_the_lead;
      any_pieces = λ store pieces others records those whole also same r q.
          of_the_lead store pieces records whole r ∙ ap (recorded store) same ∙ sym (of_the_lead store others those also q);
      no_frame = no_frame;
    }
