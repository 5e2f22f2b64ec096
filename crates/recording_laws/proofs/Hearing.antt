-- What is heard of the line bit by bit is its contacts, each judged, whatever the pieces.
-- Assumes nothing.
use Prim.Native.Nat.{ℕ, ◌+◌, ◌-◌, ◌<◌, ◌^◌}
use mathlib.Core.Path.{◌≡◌, refl, sym, ap, ap₂, ◌∙◌}
use mathlib.Core.Bool.{Bool, true, false}
use mathlib.Core.List.{List, [], ◌∷◌}
use native.Mathlib.Omega.{arith}
use Rattle.words.specs.Answer.{Outcome, gives, refuses, pick}
use Rattle.words.proofs.Never.{cannot_be}
use Rattle.telegram.specs.Stretch.{bit_at, inside}
use Rattle.telegram.proofs.Taken.{taken}
use Rattle.contact.specs.History.{sixteen_ones}
use Rattle.contact.specs.Contacts.{Contacts, outside, contacts, from_start, begin}
use Rattle.contact.specs.Judge.{Contact, judge}
use Rattle.contact.specs.Says.{says_judged}
use Rattle.contact.specs.declared.Search.{Search}
use Rattle.contact_laws.specs.Calls.{Listened}
use Rattle.contact_laws.proofs.Over.{listened, from_taken}
use Rattle.antenna.specs.declared.Ear.{Ear}
use Rattle.antenna.specs.Hearing as hearing
use Rattle.antenna.specs.Line.{Told, told, heard, after, judged_all, cut, is_inside}
use Rattle.antenna.proofs.Law.{hears_all}
use Rattle.recording_laws.specs.Calls.{FreshEar}
use Rattle.recording_laws.specs.Hearing.{Piece, bits_in, line_bit, line_s, line_t, Heard, none, Judges, each, no_more, refused_with, InOne, AsInOneBuffer, AnyPieces}
use Rattle.recording_laws.proofs.Through.{all}

-- ---- the whole line in one buffer

fresh_is : (r : Ear) → FreshEar r → r ≡ hearing.fresh
fresh_is r call = call.1

by_definition : (fresh last : Ear) (ps : List Piece) (l : List Told) (b : List ℕ) → FreshEar fresh → Heard fresh 0 ps l last
    → InOne b ps → bits_in ps < 2 ^ 64
    → (l ≡ judged_all b (line_s ps) (line_t ps) (contacts b outside sixteen_ones 0 (bits_in ps)))
    × (is_inside last.stand ≡ cut (contacts b outside sixteen_ones 0 (bits_in ps)))
by_definition fresh last ps l b begins calls in_one small =
    let heard_is = all (bit_at b) (line_s ps) (line_t ps) calls
    (λ k low. let zero_plus : 0 + k ≡ k = omega arith in (ap (bit_at b) zero_plus ∙ in_one.bits k low, ap (line_s ps) zero_plus, ap (line_t ps) zero_plus)) in
    let law = hears_all b (line_s ps) (line_t ps) (bits_in ps) in_one.long small in
    let start = fresh_is fresh begins in (
      sym heard_is.0 ∙ ap (λ (e : Ear). heard (bit_at b) (line_s ps) (line_t ps) e 0 (bits_in ps)) start ∙ law.0,
      ap (λ (e : Ear). is_inside e.stand) (sym heard_is.1 ∙ ap (λ (e : Ear). after (bit_at b) (line_s ps) (line_t ps) e 0 (bits_in ps)) start) ∙ law.1,
    )

-- What is judged call by call is what is judged.
all_judged : (b : List ℕ) (s t : ℕ → ℕ) {w : Contacts} {l : List Told} → Judges b s t w l → judged_all b s t w ≡ l
unfolding judged_all
all_judged b s t (each {start = start} {len = len} {l = l} j call rest) =
    let is : judge b start len (s start) (t start) ≡ says_judged j = sym (call.4 ∙ ap (λ (v : List ℕ). judge v start len (s start) (t start)) call.3) in
    ap₂ (λ (o : Outcome Contact) (m : List Told). told start len o ∷ m) is (all_judged b s t rest)
all_judged b s t no_more = refl
all_judged b s t refused_with = refl

-- A search that begins is over a stretch that is taken.
taken_then : (b : List ℕ) (start len : ℕ) (search : Search) → begin b start len ≡ gives search → inside b start len ≡ true
unfolding begin
taken_then b start len search e = go (inside b start len) e
  where
    go : (x : Bool) → pick {A = Outcome Search} x (gives (from_start start len)) (refuses 5) ≡ gives search → x ≡ true
    go true e = refl
    go false e = cannot_be cc

pub is_taken : (b : List ℕ) (from to : ℕ) (w : Contacts) → Listened b from to w → inside b from (to - from) ≡ true
is_taken b from to w l =
    let k = l.begins in
    let same : begin k.given.0.now k.given.1.0 k.given.1.1.0 ≡ begin b from (to - from) = simp (k.buffer, k.first, k.bits) in
    taken_then b from (to - from) l.search (sym same ∙ sym k.kept)

-- The contacts that the calls hand out of a buffer's first bits are those of document 01.
pub contacts_are : (b : List ℕ) (n : ℕ) (w : Contacts) → Listened b 0 n w → w ≡ contacts b outside sixteen_ones 0 n
contacts_are b n w l =
    let whole : n - 0 ≡ n = omega arith in
    listened b 0 n w l ∙ from_taken b 0 n (is_taken b 0 n w l) ∙ ap (contacts b outside sixteen_ones 0) whole

pub small_enough : (b : List ℕ) (n : ℕ) → inside b 0 (n - 0) ≡ true → n < 2 ^ 64
small_enough b n e = omega (arith, taken b 0 (n - 0) e)

pub as_in_one_buffer : AsInOneBuffer
as_in_one_buffer =
    record {
      by_calls = λ fresh last ps l judged b w begins calls in_one listened-to judges.
          let is = contacts_are b (bits_in ps) w listened-to in
          let law = by_definition fresh last ps l b begins calls in_one (small_enough b (bits_in ps) (is_taken b 0 (bits_in ps) w listened-to)) in (
            law.0 ∙ ap (judged_all b (line_s ps) (line_t ps)) (sym is) ∙ all_judged b (line_s ps) (line_t ps) judges,
            law.1 ∙ ap cut (sym is),
          );
      by_definition = by_definition;
    }

-- ---- other pieces

alike : (ear last last' : Ear) (o : ℕ) (ps qs : List Piece) (l m : List Told) → Heard ear o ps l last → Heard ear o qs m last' → bits_in ps ≡ bits_in qs
    → ((k : ℕ) → k < bits_in ps → (line_bit ps k ≡ line_bit qs k) × (line_s ps k ≡ line_s qs k) × (line_t ps k ≡ line_t qs k))
    → (l ≡ m) × (last ≡ last')
alike ear last last' o ps qs l m one other long same =
    let line : ℕ → ℕ = λ k. line_bit ps (k - o) in
    let s : ℕ → ℕ = λ k. line_s ps (k - o) in
    let t : ℕ → ℕ = λ k. line_t ps (k - o) in
    let a = all line s t one (λ k low. let back : o + k - o ≡ k = omega arith in (ap (line_bit ps) back, ap (line_s ps) back, ap (line_t ps) back)) in
    let b = all line s t other
    (λ k low. let back : o + k - o ≡ k = omega arith in let there = same k (omega arith) in
    (ap (line_bit ps) back ∙ there.0, ap (line_s ps) back ∙ there.1, ap (line_t ps) back ∙ there.2)) in (
      sym a.0 ∙ ap (heard line s t ear o) long ∙ b.0,
      sym a.1 ∙ ap (after line s t ear o) long ∙ b.1,
    )

nothing : (ear last : Ear) (o : ℕ) (p : Piece) (l : List Told) → p.len ≡ 0 → Heard ear o (p ∷ []) l last → (l ≡ []) × (last ≡ ear)
nothing ear last o p l none_there calls = alike ear last ear o (p ∷ []) [] l [] calls none (omega arith) (λ k low. absurd (omega arith))

pub any_pieces_do : AnyPieces
any_pieces_do = record { alike = alike; nothing = nothing }
