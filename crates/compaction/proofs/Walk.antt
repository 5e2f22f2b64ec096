-- The records of a block one after the other: what is kept stands at the block's start, and
-- everything after it is as it was.
-- Assumes nothing.
use Prim.Native.Nat.{ℕ, ◌+◌, ◌-◌, ◌*◌, ◌/◌, ◌≤◌, ◌<◌}
use native.Mathlib.Omega.{arith}
use mathlib.Core.Path.{◌≡◌, refl, sym, ap, ap₂, ◌∙◌}
use mathlib.Core.List.{List, [], ◌∷◌, ◌++◌, append_assoc, append-nil}
use lib.ListN.{length, take, drop, length-append, length-drop}
use lib.Seq.{take_at, drop-append-add, drop-drop}
use Rattle.text.specs.Put.{placed}
use Rattle.ride.specs.Over.{first_records}
use Rattle.ride.proofs.Cutting.{more_records}
use Rattle.compaction.specs.declared.Waiting.{Waiting}
use Rattle.compaction.specs.Blocks.{settled, waits_next, kept_over, waits_after}
use Rattle.compaction.specs.Compact.{bytes_of, onto}

-- ---- records joined

pub bytes_join : (ks ms : List (List ℕ)) → bytes_of (ks ++ ms) ≡ bytes_of ks ++ bytes_of ms
bytes_join [] ms = refl
bytes_join (k ∷ ks) ms = ap (λ (l : List ℕ). k ++ l) (bytes_join ks ms) ∙ sym (append_assoc k (bytes_of ks) (bytes_of ms))

pub kept_on : (gaps : ℕ → ℕ) (w : Waiting) (rs qs : List (List ℕ)) → kept_over gaps w (rs ++ qs) ≡ kept_over gaps w rs ++ kept_over gaps (waits_after gaps w rs) qs
unfolding kept_over waits_after
kept_on gaps w [] qs = refl
kept_on gaps w (r ∷ rs) qs =
    ap (λ (ks : List (List ℕ)). settled gaps w r ++ ks) (kept_on gaps (waits_next gaps w r) rs qs)
    ∙ sym (append_assoc (settled gaps w r) (kept_over gaps (waits_next gaps w r) rs) (kept_over gaps (waits_after gaps (waits_next gaps w r) rs) qs))

pub waits_on : (gaps : ℕ → ℕ) (w : Waiting) (rs qs : List (List ℕ)) → waits_after gaps w (rs ++ qs) ≡ waits_after gaps (waits_after gaps w rs) qs
unfolding waits_after
waits_on gaps w [] qs = refl
waits_on gaps w (r ∷ rs) qs = waits_on gaps (waits_next gaps w r) rs qs

-- ---- bytes at the start of a buffer

-- what lies beyond them is as it was
pub beyond : (k b : List ℕ) (n : ℕ) → length k ≤ n → drop n (onto k b) ≡ drop n b
beyond k b n h =
    let m : ℕ = n - length k in
    let same : n ≡ length k + m = omega arith in
    ap (λ (j : ℕ). drop j (onto k b)) same
    ∙ drop-append-add k (drop (length k) b) m
    ∙ drop-drop m (length k) b
    ∙ ap (λ (j : ℕ). drop j b) (sym same)

pub onto_length : (k b : List ℕ) → length k ≤ length b → length (onto k b) ≡ length b
onto_length k b h = omega (arith, length-append k (drop (length k) b), length-drop (length k) b)

-- more bytes put after them
pub onto_more : (k x b : List ℕ) → placed x (onto k b) (length k) ≡ onto (k ++ x) b
unfolding placed
onto_more k x b =
    let long : length k + length x ≡ length (k ++ x) = sym (length-append k x) in
    let far : length k ≤ length k + length x = omega arith in
    ap₂ (λ (p q : List ℕ). p ++ x ++ q) (take_at k (drop (length k) b) (length k) refl) (beyond k b (length k + length x) far)
    ∙ ap (λ (j : ℕ). (k ++ x) ++ drop j b) long

-- ---- the walk

-- After the first i records of a block: what waits, where the next kept record goes, and the block
-- then.
pub record Walk (gaps : ℕ → ℕ) (w₀ : Waiting) (b₀ : List ℕ) (i : ℕ) (w : Waiting) (at : ℕ) (b : List ℕ) : Type 0 where
  pub waits : w ≡ waits_after gaps w₀ (first_records i b₀)
  pub bytes : at ≡ length (bytes_of (kept_over gaps w₀ (first_records i b₀)))
  pub buffer : b ≡ onto (bytes_of (kept_over gaps w₀ (first_records i b₀))) b₀
  pub below : at ≤ i * 8

pub walk_first : (gaps : ℕ → ℕ) (w : Waiting) (b : List ℕ) → Walk gaps w b 0 w 0 b
unfolding first_records kept_over waits_after
walk_first gaps w b = record { waits = refl; bytes = refl; buffer = refl; below = omega arith }

-- the block keeps its length
pub walk_length : (gaps : ℕ → ℕ) (w₀ : Waiting) (b₀ : List ℕ) (i : ℕ) (w : Waiting) (at : ℕ) (b : List ℕ) → Walk gaps w₀ b₀ i w at b → i ≤ length b₀ / 8
    → length b ≡ length b₀
walk_length gaps w₀ b₀ i w at b so h =
    let kept : List ℕ = bytes_of (kept_over gaps w₀ (first_records i b₀)) in
    let fits : length kept ≤ length b₀ = omega (arith, so.bytes, so.below) in
    ap length so.buffer ∙ onto_length kept b₀ fits

pub walk_same : (gaps : ℕ → ℕ) (w₀ : Waiting) (b₀ : List ℕ) (i : ℕ) (w : Waiting) (at at' : ℕ) (b b' : List ℕ) → Walk gaps w₀ b₀ i w at b → at' ≡ at → b' ≡ b
    → Walk gaps w₀ b₀ i w at' b'
walk_same gaps w₀ b₀ i w at at' b b' so e f =
    record { waits = so.waits; bytes = e ∙ so.bytes; buffer = f ∙ so.buffer; below = omega (arith, so.below) }

module _ (gaps : ℕ → ℕ) (w₀ : Waiting) (b₀ : List ℕ) (i : ℕ) (w : Waiting) (at : ℕ) (b : List ℕ) (so : Walk gaps w₀ b₀ i w at b) (there : i < length b₀ / 8) where
  abbrev kept : List ℕ
  kept = bytes_of (kept_over gaps w₀ (first_records i b₀))

  -- the record that is read is the block's own
  same_record : take 8 (drop (i * 8) b) ≡ take 8 (drop (i * 8) b₀)
  same_record =
      let h : length kept ≤ i * 8 = omega (arith, so.bytes, so.below) in
      ap (λ (l : List ℕ). take 8 (drop (i * 8) l)) so.buffer ∙ ap (take 8) (beyond kept b₀ (i * 8) h)

  -- one record more
  records_next : first_records (i + 1) b₀ ≡ first_records i b₀ ++ (take 8 (drop (i * 8) b) ∷ [])
  unfolding first_records
  records_next =
      more_records i 1 b₀ ∙ ap (λ (r : List ℕ). first_records i b₀ ++ (r ∷ [])) (sym same_record)

  module _ (next : List ℕ) (w' : Waiting) (read : next ≡ take 8 (drop (i * 8) b)) (waits : w' ≡ waits_next gaps w next) where
    all_next : first_records (i + 1) b₀ ≡ first_records i b₀ ++ (next ∷ [])
    all_next = records_next ∙ ap (λ (r : List ℕ). first_records i b₀ ++ (r ∷ [])) (sym read)

    waits_next_law : w' ≡ waits_after gaps w₀ (first_records (i + 1) b₀)
    unfolding waits_after
    waits_next_law =
        waits ∙ ap (λ (v : Waiting). waits_next gaps v next) so.waits
        ∙ sym (waits_on gaps w₀ (first_records i b₀) (next ∷ []))
        ∙ ap (waits_after gaps w₀) (sym all_next)

    kept_next : bytes_of (kept_over gaps w₀ (first_records (i + 1) b₀)) ≡ kept ++ bytes_of (settled gaps w next)
    unfolding kept_over
    kept_next =
        ap (λ (rs : List (List ℕ)). bytes_of (kept_over gaps w₀ rs)) all_next
        ∙ ap bytes_of (kept_on gaps w₀ (first_records i b₀) (next ∷ []))
        ∙ bytes_join (kept_over gaps w₀ (first_records i b₀)) (settled gaps (waits_after gaps w₀ (first_records i b₀)) next ++ [])
        ∙ ap (λ (ks : List (List ℕ)). kept ++ bytes_of ks) (append-nil (settled gaps (waits_after gaps w₀ (first_records i b₀)) next))
        ∙ ap (λ (v : Waiting). kept ++ bytes_of (settled gaps v next)) (sym so.waits)

    -- the waiting record is kept
    pub walk_kept : length w.bytes ≡ 8 → w.bytes ∷ [] ≡ settled gaps w next → Walk gaps w₀ b₀ (i + 1) w' (at + 8) (placed w.bytes b at)
    walk_kept eight e =
        let more : bytes_of (kept_over gaps w₀ (first_records (i + 1) b₀)) ≡ kept ++ w.bytes =
        kept_next ∙ ap (λ (ks : List (List ℕ)). kept ++ bytes_of ks) (sym e) ∙ ap (λ (x : List ℕ). kept ++ x) (append-nil w.bytes) in
        record {
          waits = waits_next_law;
          bytes = sym (ap length more ∙ length-append kept w.bytes ∙ ap₂ ◌+◌ (sym so.bytes) eight);
          buffer =
              ap₂ (λ (l : List ℕ) (n : ℕ). placed w.bytes l n) so.buffer so.bytes
              ∙ onto_more kept w.bytes b₀
              ∙ ap (λ (x : List ℕ). onto x b₀) (sym more);
          below = omega (arith, so.below);
        }

    -- it is dropped, or none waited
    pub walk_dropped : [] ≡ settled gaps w next → Walk gaps w₀ b₀ (i + 1) w' at b
    walk_dropped e =
        let same : bytes_of (kept_over gaps w₀ (first_records (i + 1) b₀)) ≡ kept =
        kept_next ∙ ap (λ (ks : List (List ℕ)). kept ++ bytes_of ks) (sym e) ∙ append-nil kept in
        record {
          waits = waits_next_law;
          bytes = so.bytes ∙ ap length (sym same);
          buffer = so.buffer ∙ ap (λ (x : List ℕ). onto x b₀) (sym same);
          below = omega (arith, so.below);
        }
