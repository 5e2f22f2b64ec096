-- The blocks of a trace are its compaction: each settles what the fold over its records settles,
-- and the folds join.
-- Assumes nothing.
use Prim.Native.Nat.{ℕ, ◌%◌, ◌≤◌}
use native.Mathlib.Omega.{arith}
use mathlib.Core.Path.{◌≡◌, refl, sym, ap, ap₂, ◌∙◌}
use mathlib.Core.Bool.{Bool, true, false}
use mathlib.Core.List.{List, [], ◌∷◌, ◌++◌}
use lib.Dec.{eqb}
use lib.ListN.{length, take, drop}
use lib.Seq.{take_at, take_all}
use borrow.Author.Tests.{eq-eqb}
use Rattle.words.specs.Answer.{gives, pick}
use Rattle.settings.specs.declared.Store.{Store}
use Rattle.settings.specs.Versions.{kept}
use Rattle.settings.specs.Store.{judged}
use Rattle.settings.specs.At.{gap_at}
use Rattle.ride.specs.Over.{records}
use Rattle.ride.proofs.Cutting.{records_length}
use Rattle.compaction.specs.Dropped.{compact_over}
use Rattle.compaction.specs.Blocks.{waiting_record, kept_over, waits_after}
use Rattle.compaction.specs.Compact.{bytes_of, Settling, settled_block, compact_block}
use Rattle.compaction.specs.Says.{says_size, says_block}
use Rattle.ride.specs.declared.TraceRefused.{TraceRefused}
use Rattle.std.specs.Prelude.{Result, Ok, Err}
use Rattle.compaction.specs.declared.Block.{Block}
use Rattle.compaction.specs.declared.Compacted.{Compacted}
use Rattle.compaction.specs.declared.Waiting.{Waiting}
use Rattle.compaction.proofs.Walk.{bytes_join, kept_on, waits_on}
use Rattle.compaction.proofs.Blocks.{whole}
use Rattle.compaction.proofs.Determined as compaction_is
use Rattle.demands.specs.Compacting.{CompactIn}
use Rattle.demands.specs.Output.{records_in}
use Rattle.demands.specs.TraceCalls.{Whole, Call}
use Rattle.demands.proofs.Beside.Cards.{eights}
use Rattle.demands.proofs.Beside.TraceCalls.{Gone, gone, on_from, TakesFront, comes}
use Rattle.compaction_laws.specs.Blocks.{bytes_in, BlockCall, ByBlocks, written, waits_last, InBlocks}
use Rattle.compaction_laws.proofs.Trace.{under_made}

in_bytes : (s : Result ℕ TraceRefused) (n : ℕ) → says_size s ≡ gives n → bytes_in s ≡ n
in_bytes s n e = ap bytes_in (sym (compaction_is.size_back s) ∙ ap compaction_is.size_of e)

module _ (store : Store) (good : judged store ≡ gives kept) where
  abbrev gaps : ℕ → ℕ
  gaps = gap_at store

  -- some records settled, after what waits
  abbrev over : Waiting → List (List ℕ) → Gone Waiting
  over w rs = gone (bytes_of (kept_over gaps w rs)) (waits_after gaps w rs)

  none : (w : Waiting) → gone [] w ≡ over w []
  unfolding kept_over waits_after
  none w = refl

  on : (w : Waiting) (xs ys : List (List ℕ)) → over w (xs ++ ys) ≡ on_from (over w xs) (λ (v : Waiting). over v ys)
  on w xs ys =
      ap₂ (λ (rs : List (List ℕ)) (v : Waiting). gone (bytes_of rs) v) (kept_on gaps w xs ys) (waits_on gaps w xs ys)
      ∙ ap (λ (t : List ℕ). gone t (waits_after gaps (waits_after gaps w xs) ys)) (bytes_join (kept_over gaps w xs) (kept_over gaps (waits_after gaps w xs) ys))

  takes : (w : Waiting) (c : Call Block) → Whole c.block → BlockCall store w c
      → TakesFront over (λ c. records_in c.block) (λ c. bytes_in c.answer.size) (λ b. b.waiting) w c
  unfolding compact_block settled_block
  takes w c whole (in_place, call) =
      let bytes : List ℕ = bytes_of (kept_over gaps w (records c.block)) in
      let ok : eqb (length c.block % 8) 0 ≡ true = eq-eqb (length c.block % 8) 0 (eights c.block whole) in
      let is : compact_block w store c.block ≡ settled_block gaps w c.block = rw (good, ok) in
      let says : says_block c.answer c.after ≡ settled_block gaps w c.block =
      ap (λ (b : List ℕ). says_block c.answer b) (sym call.4) ∙ call.5 ∙ ap (compact_block w store) (call.3 ∙ in_place) ∙ is in
      let many : bytes_in c.answer.size ≡ length bytes = in_bytes c.answer.size (length bytes) (ap (λ (s : Settling). s.answer) says) in
      let keeps : take (bytes_in c.answer.size) c.after ≡ bytes =
      ap₂ (λ (n : ℕ) (b : List ℕ). take n b) many (ap (λ (s : Settling). s.buffer) says) ∙ take_at bytes (drop (length bytes) c.block) (length bytes) refl in
      let long : length (records c.block) ≤ records_in c.block = omega (arith, records_length (records_in c.block) c.block) in
      record {
        of_these = omega arith;
        goes =
            ap₂ (λ (t : List ℕ) (v : Waiting). gone t v) keeps (ap (λ (s : Settling). s.waiting) says)
            ∙ ap (over w) (sym (take_all (records_in c.block) (records c.block) long));
      }

  all_blocks : (w : Waiting) (trace : List ℕ) (calls : List (Call Block)) → ByBlocks store w trace calls → gone (written calls) (waits_last w calls) ≡ over w (records trace)
  all_blocks = comes (λ c. records_in c.block) (λ c. bytes_in c.answer.size) (λ b. b.waiting) over on (BlockCall store) none takes

whole_so : (store : Store) (w : Waiting) (trace : List ℕ) (calls : List (Call Block)) (c : Compacted) (after : List ℕ) (n : ℕ) → w.waits ≡ false
    → ByBlocks store w trace calls → CompactIn w.ride store trace c after → c.size ≡ Ok n
    → written calls ++ bytes_of (waiting_record (waits_last w calls)) ≡ take n after
whole_so store w trace calls c after n none b h e =
    let gaps : ℕ → ℕ = gap_at store in
    let x = under_made w.ride store trace c after n h e in
    let all = all_blocks store x.judged_so w trace calls b in
    let first : waiting_record w ++ records trace ≡ records trace = ap (λ (t : Bool). pick t (w.bytes ∷ []) [] ++ records trace) none in
    ap (λ (g : Gone Waiting). g.text ++ bytes_of (waiting_record g.state)) all
    ∙ sym (bytes_join (kept_over gaps w (records trace)) (waiting_record (waits_after gaps w (records trace))))
    ∙ ap bytes_of (sym (whole gaps w (records trace)))
    ∙ ap (λ (rs : List (List ℕ)). bytes_of (compact_over gaps w.ride rs)) first
    ∙ sym x.made.small

pub in_blocks : InBlocks
in_blocks = record { whole = whole_so }
