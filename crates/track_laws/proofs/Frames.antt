-- The frames of a track's lead, as a recorder takes them apart: frame k has its line and its
-- odometer.
-- Assumes nothing.
use Prim.Native.Nat.{ℕ, zero, suc, ◌+◌, ◌-◌, ◌*◌, ◌/◌, ◌%◌, ◌≤◌, ◌<◌}
use mathlib.Core.Path.{◌≡◌, refl, sym, ap, ap₂, ◌∙◌}
use mathlib.Core.List.{List, ◌++◌}
use native.Mathlib.Omega.{arith}
use lib.ListN.{length, take, drop, get_or, length-append}
use lib.Seq.{take_at, drop_at, drop-drop, get_or-drop}
use Rattle.recording.specs.Frame.{line_of, odometer_of}
use Rattle.track_lead.specs.Lead.{Item, latest, nothing, line_at, odometer_at, frame_at, frames_at}
use Rattle.track_lead.proofs.Ones.{line_long}

-- A number below 2^32 from its four bytes.
whole_again : (o : ℕ) → o < 4294967296 → ((o / 16777216 % 256 * 256 + o / 65536 % 256) * 256 + o / 256 % 256) * 256 + o % 256 ≡ o
whole_again o small =
    let a = o / 256 in
    let b = o / 65536 in
    let first : o / 16777216 % 256 * 256 + b % 256 ≡ b = omega arith in
    let second : b * 256 + a % 256 ≡ a = omega arith in
    let third : a * 256 + o % 256 ≡ o = omega arith in
    ap (λ (v : ℕ). (v * 256 + a % 256) * 256 + o % 256) first ∙ ap (λ (v : ℕ). v * 256 + o % 256) second ∙ third

module _ (n s t begin : ℕ) (items : List Item) where
  pub line_is_long : (k : ℕ) → length (line_at n s t begin items k) ≡ 12
  unfolding line_at
  line_is_long k = let over = latest n begin items k nothing in line_long s t over.thing (k - over.since)

  frame_is_long : (k : ℕ) → length (frame_at n s t begin items k) ≡ 16
  unfolding frame_at
  frame_is_long k = ap (λ (i : ℕ). suc (suc (suc (suc i)))) (line_is_long k)

  pub frames_long : (m k : ℕ) → length (frames_at n s t begin items k m) ≡ 16 * m
  unfolding frames_at
  frames_long zero k = refl
  frames_long (suc m) k =
      length-append (frame_at n s t begin items k) (frames_at n s t begin items (k + 1) m) ∙ omega (arith, frame_is_long k, frames_long m (k + 1))

  pub from_frame : (j m k : ℕ) → j ≤ m → drop (16 * j) (frames_at n s t begin items k m) ≡ frames_at n s t begin items (k + j) (m - j)
  unfolding frames_at
  from_frame zero m k low =
      let e : k ≡ k + 0 = omega arith in
      let f : m ≡ m - 0 = omega arith in
      ap₂ (frames_at n s t begin items) e f
  from_frame (suc j) zero k low = absurd (omega arith)
  from_frame (suc j) (suc m) k low =
      let e : 16 * suc j ≡ 16 + 16 * j = omega arith in
      let here = frame_at n s t begin items k in
      let rest = frames_at n s t begin items (k + 1) m in
      let f : k + 1 + j ≡ k + suc j = omega arith in
      let g : m - j ≡ suc m - suc j = omega arith in
      ap (λ (i : ℕ). drop i (here ++ rest)) e ∙ sym (drop-drop (16 * j) 16 (here ++ rest)) ∙ ap (drop (16 * j)) (drop_at here rest 16 (frame_is_long k))
      ∙ from_frame j m (k + 1) (omega arith) ∙ ap₂ (frames_at n s t begin items) f g

  -- From frame k on: its four bytes, its line, and the frames after it.
  opened : (m k : ℕ) → k < m → drop (16 * k) (frames_at n s t begin items 0 m)
      ≡ frame_at n s t begin items k ++ frames_at n s t begin items (k + 1) (m - k - 1)
  unfolding frames_at
  opened m k low =
      let e : 0 + k ≡ k = omega arith in
      let f : m - k ≡ suc (m - k - 1) = omega arith in
      from_frame k m 0 (omega arith) ∙ ap₂ (frames_at n s t begin items) e f

  pub the_line : (m k : ℕ) → k < m → line_of (frames_at n s t begin items 0 m) k ≡ line_at n s t begin items k
  unfolding line_of frame_at
  the_line m k low =
      let line = line_at n s t begin items k in
      let rest = frames_at n s t begin items (k + 1) (m - k - 1) in
      ap (take 12) (sym (drop-drop 4 (16 * k) (frames_at n s t begin items 0 m)) ∙ ap (drop 4) (opened m k low)) ∙ take_at line rest 12 (line_is_long k)

  -- Byte j of frame k.
  byte_at : (m k j : ℕ) → k < m → get_or (frames_at n s t begin items 0 m) (16 * k + j) 0 ≡ get_or (frame_at n s t begin items k ++ frames_at n s t begin items (k + 1) (m - k - 1)) j 0
  byte_at m k j low = sym (get_or-drop (16 * k) (frames_at n s t begin items 0 m) j 0) ∙ ap (λ (l : List ℕ). get_or l j 0) (opened m k low)

  pub the_odometer : (m k : ℕ) → k < m → odometer_at n begin k < 4294967296 → odometer_of (frames_at n s t begin items 0 m) k ≡ odometer_at n begin k
  unfolding odometer_of frame_at
  the_odometer m k low small =
      let e : 16 * k ≡ 16 * k + 0 = omega arith in
      let lead = frames_at n s t begin items 0 m in
      let o = odometer_at n begin k in
      let zeroth : get_or lead (16 * k) 0 ≡ o / 16777216 % 256 = ap (λ (i : ℕ). get_or lead i 0) e ∙ byte_at m k 0 low in
      let first : get_or lead (16 * k + 1) 0 ≡ o / 65536 % 256 = byte_at m k 1 low in
      let second : get_or lead (16 * k + 2) 0 ≡ o / 256 % 256 = byte_at m k 2 low in
      let third : get_or lead (16 * k + 3) 0 ≡ o % 256 = byte_at m k 3 low in
      ap₂ (λ (a b : ℕ). ((a * 256 + b) * 256 + get_or lead (16 * k + 2) 0) * 256 + get_or lead (16 * k + 3) 0) zeroth first
      ∙ ap₂ (λ (a b : ℕ). ((o / 16777216 % 256 * 256 + o / 65536 % 256) * 256 + a) * 256 + b) second third
      ∙ whole_again o small
