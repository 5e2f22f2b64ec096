-- Cut into pieces of whole frames, a lead gives the same records.
-- Assumes nothing.
use Prim.Native.Nat.{ℕ, zero, suc, ◌+◌, ◌-◌, ◌*◌, ◌≤◌, ◌<◌}
use mathlib.Core.Path.{◌≡◌, refl, sym, ap, ◌∙◌, subst}
use mathlib.Core.List.{List, ◌++◌, append_assoc}
use native.Mathlib.Omega.{arith}
use lib.ListN.{length, take, drop, get_or, length-append, length-drop, get_or-append}
use lib.Seq.{take-append-le, drop-append-le, drop-append-add, drop-drop, get_or-drop}
use Rattle.settings.specs.declared.Store.{Store}
use Rattle.recording.specs.declared.Tape.{Tape}
use Rattle.recording.specs.Frame.{line_of, odometer_of, accepted_after}
use Rattle.recording.specs.Recording.{Taped, and_then, with_odometer, over_bits, after_frame_meant, held_at, its_bits, over_frames, frames_of, over_lead}
use Rattle.recording.specs.Laws.{AnyPieces}

-- ---- one thing after another

pub then_then : (x : Taped) (f g : Tape → Taped) → and_then (and_then x f) g ≡ and_then x (λ t. and_then (f t) g)
then_then x f g =
    ap (λ (r : List (List ℕ)). record { tape = (g (f x.tape).tape).tape; records = r })
    (append_assoc x.records (f x.tape).records (g (f x.tape).tape).records)

module _ (store : Store) (lead : List ℕ) where
  -- What comes of a frame from bit i on, and then of another thing.
  abbrev one_frame : ℕ → ℕ → Tape → (Tape → Taped) → Taped
  one_frame k i tape on = and_then (its_bits store lead k i tape) λ next. and_then (after_frame_meant next) on

  after_frame : (k i : ℕ) (tape : Tape) (f g : Tape → Taped) → and_then (one_frame k i tape f) g ≡ one_frame k i tape (λ t. and_then (f t) g)
  after_frame k i tape f g =
      let x = its_bits store lead k i tape in
      then_then x (λ next. and_then (after_frame_meant next) f) g
      ∙ ap (λ (y : Taped). record { tape = y.tape; records = x.records ++ y.records }) (then_then (after_frame_meant x.tape) f g)

  same_after : (k i : ℕ) (tape : Tape) (f g : Tape → Taped) → ((t : Tape) → f t ≡ g t) → one_frame k i tape f ≡ one_frame k i tape g
  same_after k i tape f g e =
      let x = its_bits store lead k i tape in
      let y = after_frame_meant x.tape in
      ap (λ (z : Taped). record { tape = z.tape; records = x.records ++ (y.records ++ z.records) }) (e y.tape)

  -- m frames, and then n more.
  pub split : (m : ℕ) (tape : Tape) (k n : ℕ) → over_frames store lead tape k 0 (m + n) ≡ and_then (over_frames store lead tape k 0 m) (λ next. over_frames store lead next (k + m) 0 n)
  unfolding over_frames
  split zero tape k n =
      let e : zero + n ≡ n = omega arith in
      let f : k ≡ k + zero = omega arith in
      ap (λ (z : ℕ). over_frames store lead tape k 0 z) e ∙ ap (λ (z : ℕ). over_frames store lead tape z 0 n) f
  split (suc m) tape k n =
      let e : suc m + n ≡ suc (m + n) = omega arith in
      let f : k + 1 + m ≡ k + suc m = omega arith in
      ap (λ (z : ℕ). over_frames store lead tape k 0 z) e
      ∙ same_after k 0 tape (λ t. over_frames store lead t (k + 1) 0 (m + n)) (λ t. and_then (over_frames store lead t (k + 1) 0 m) (λ next. over_frames store lead next (k + 1 + m) 0 n))
      (λ t. split m t (k + 1) n)
      ∙ sym (after_frame k 0 tape (λ t. over_frames store lead t (k + 1) 0 m) (λ next. over_frames store lead next (k + 1 + m) 0 n))
      ∙ ap (λ (z : ℕ). and_then (over_frames store lead tape k 0 (suc m)) (λ next. over_frames store lead next z 0 n)) f

-- ---- the same frames in another lead

-- Frame k of one is frame m of the other.
pub record Same (a b : List ℕ) (k m : ℕ) : Type 0 where
  pub line : line_of a k ≡ line_of b m
  pub odometer : odometer_of a k ≡ odometer_of b m

module _ (store : Store) (a b : List ℕ) where
  same_bits : (k m i : ℕ) (tape : Tape) → Same a b k m → its_bits store a k i tape ≡ its_bits store b m i tape
  unfolding its_bits
  same_bits k m i tape h =
      ap (λ (o : ℕ). bits_with o (line_of a k)) h.odometer ∙ ap (λ (l : List ℕ). bits_with (odometer_of b m) l) h.line
    where
      bits_with : ℕ → List ℕ → Taped
      bits_with own line =
          let here = with_odometer tape (accepted_after tape.odometer own) in
          let held = held_at store here.odometer in
          over_bits line held.s held.t here i (96 - i)

  pub same_frames : (n k m i : ℕ) (tape : Tape) → ((j : ℕ) → j < n → Same a b (k + j) (m + j)) → over_frames store a tape k i n ≡ over_frames store b tape m i n
  unfolding over_frames
  same_frames zero k m i tape h = refl
  same_frames (suc n) k m i tape h =
      let first = same_bits k m i tape (here_of (h 0 (omega arith))) in
      ap (λ (x : Taped). and_then x λ next. and_then (after_frame_meant next) λ then. over_frames store a then (k + 1) 0 n) first
      ∙ same_after store b m i tape (λ t. over_frames store a t (k + 1) 0 n) (λ t. over_frames store b t (m + 1) 0 n) (λ t. same_frames n (k + 1) (m + 1) 0 t (λ j low. next_of j (h (j + 1) (omega arith))))
    where
      here_of : Same a b (k + 0) (m + 0) → Same a b k m
      here_of s = let x : k + 0 ≡ k = omega arith in let y : m + 0 ≡ m = omega arith in subst (λ (z : ℕ). Same a b z m) x (subst (λ (z : ℕ). Same a b (k + 0) z) y s)

      next_of : (j : ℕ) → Same a b (k + (j + 1)) (m + (j + 1)) → Same a b (k + 1 + j) (m + 1 + j)
      next_of j s =
          let x : k + (j + 1) ≡ k + 1 + j = omega arith in let y : m + (j + 1) ≡ m + 1 + j = omega arith in
          subst (λ (z : ℕ). Same a b z (m + 1 + j)) x (subst (λ (z : ℕ). Same a b (k + (j + 1)) z) y s)

-- The frames of a lead from frame d on are those of its rest.
pub in_rest : (l : List ℕ) (d k : ℕ) → Same l (drop (16 * d) l) (d + k) k
unfolding line_of odometer_of
in_rest l d k =
    let at : (j : ℕ) → get_or l (16 * (d + k) + j) 0 ≡ get_or (drop (16 * d) l) (16 * k + j) 0 = λ j.
    let e : 16 * (d + k) + j ≡ 16 * d + (16 * k + j) = omega arith in
    ap (λ (z : ℕ). get_or l z 0) e ∙ sym (get_or-drop (16 * d) l (16 * k + j) 0) in
    let first : get_or l (16 * (d + k)) 0 ≡ get_or (drop (16 * d) l) (16 * k) 0 =
    let e : 16 * (d + k) ≡ 16 * d + 16 * k = omega arith in
    ap (λ (z : ℕ). get_or l z 0) e ∙ sym (get_or-drop (16 * d) l (16 * k) 0) in
    let sum : 16 * (d + k) + 4 ≡ 16 * d + (16 * k + 4) = omega arith in
    record {
      line = ap (λ (z : ℕ). take 12 (drop z l)) sum ∙ sym (ap (take 12) (drop-drop (16 * k + 4) (16 * d) l));
      odometer = rw (first, at 1, at 2, at 3);
    }

-- ---- two pieces as one

module _ (a b : List ℕ) where
  -- Those of the first,
  pub in_first : (k : ℕ) → 16 * k + 16 ≤ length a → Same (a ++ b) a k k
  unfolding line_of odometer_of
  in_first k fits =
      let d : 16 * k + 4 ≤ length a = omega arith in
      let t : 12 ≤ length (drop (16 * k + 4) a) = simp length-drop (omega arith) in
      record {
        line = ap (take 12) (drop-append-le (16 * k + 4) a b d) ∙ take-append-le 12 (drop (16 * k + 4) a) b t;
        odometer = rw (get_or-append a b 0 (16 * k) (omega arith), get_or-append a b 0 (16 * k + 1) (omega arith), get_or-append a b 0 (16 * k + 2) (omega arith), get_or-append a b 0 (16 * k + 3) (omega arith));
      }

  -- and of the second.
  pub in_second : (m k : ℕ) → length a ≡ 16 * m → Same (a ++ b) b (m + k) k
  in_second m k e =
      let long : 16 * m ≡ length a + 0 = omega arith in
      subst (λ (l : List ℕ). Same (a ++ b) l (m + k) k) (ap (λ (z : ℕ). drop z (a ++ b)) long ∙ drop-append-add a b 0) (in_rest (a ++ b) m k)

pub any_pieces : AnyPieces
any_pieces store a b m tape e =
    let n : frames_of (a ++ b) ≡ m + frames_of b = omega (arith, length-append a b) in
    let own : m ≡ frames_of a = omega arith in
    let zero_m : 0 + m ≡ m = omega arith in
    ap (λ (z : ℕ). over_frames store (a ++ b) tape 0 0 z) n
    ∙ split store (a ++ b) m tape 0 (frames_of b)
    ∙ ap (λ (x : Taped). and_then x λ next. over_frames store (a ++ b) next (0 + m) 0 (frames_of b))
    (same_frames store (a ++ b) a m 0 0 0 tape (λ j low. in_first a b (0 + j) (omega arith)))
    ∙ second
    ∙ ap (λ (z : ℕ). and_then (over_frames store a tape 0 0 z) λ next. over_lead store b next) own
  where
    zero_plus : (j : ℕ) → Same (a ++ b) b (m + j) j → Same (a ++ b) b (0 + m + j) (0 + j)
    zero_plus j s =
        let x : m + j ≡ 0 + m + j = omega arith in let y : j ≡ 0 + j = omega arith in
        subst (λ (z : ℕ). Same (a ++ b) b z (0 + j)) x (subst (λ (z : ℕ). Same (a ++ b) b (m + j) z) y s)

    second : and_then (over_frames store a tape 0 0 m) (λ next. over_frames store (a ++ b) next (0 + m) 0 (frames_of b)) ≡ and_then (over_frames store a tape 0 0 m) (λ next. over_lead store b next)
    second =
        let x = over_frames store a tape 0 0 m in
        ap (λ (y : Taped). record { tape = y.tape; records = x.records ++ y.records })
        (same_frames store (a ++ b) b (frames_of b) (0 + m) 0 0 x.tape (λ j low. zero_plus j (in_second a b m j e)))
