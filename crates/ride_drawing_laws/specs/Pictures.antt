-- Demand 1 for the picture of a ride: `ride_drawing::draw` refuses as a listing does, with the
-- store's own refusals and then 16; then drawing and lent buffer stay, and no figure is handed out.
-- Assumes nothing.
use denote.MutBor.{MutBor}
use Rattle.std.specs.Prelude.{ℕ, ◌≡◌, true, List}
use contract.Lifetimes.{Lfts}
use Rattle.std.specs.Borrow.{Bor}
use borrow.Fn.Kinds.{ended_of}
use denote.Triple.Clauses.{AtExit}
use Rattle.words.specs.Answer.{refuses}
use Rattle.settings.specs.declared.Store.{Store}
use Rattle.ride_text.specs.Says.{says_done}
use Rattle.ride_drawing.specs.declared.Plan.{Plan}
use Rattle.ride_drawing.specs.declared.Drawing.{Drawing}
use Rattle.ride_drawing.specs.declared.Drawn.{Drawn}
use Rattle.ride_drawing.proofs.draw.Kinds as draw_kinds
use Rattle.ride_drawing.proofs.draw.Reads as draw_reads
use Rattle.demands.specs.Rules.{Decided, Given}
use Rattle.demands.specs.Table.{bad_length}
use Rattle.demands.specs.Stores.{Good, trace_rules}

-- The contract of `draw` allows the answer r for this block of records, and that the lent buffer,
-- which held `before`, holds `after` then.
abbrev pub DrawInto : Plan → Drawing → Store → List ℕ → List ℕ → Drawn → List ℕ → Type 0
DrawInto plan drawing store block before r after =
    (κs : Lfts 2) × (lent : Bor (List ℕ)) × (out : MutBor (List ℕ)) × (e : AtExit (ended_of 2 draw_kinds.ps draw_kinds.r) κs)
    × (lent.now ≡ block) × (out.now ≡ before) × (e.1.1.1.1.0.now ≡ after)
    × draw_reads.Post κs (plan, (drawing, (store, (lent, (out, tt))))) r e

pub record PicturesDecided : Type 0 where
  pub draw : (plan : Plan) (drawing : Drawing) (store : Store) (block before : List ℕ) (r : Drawn) (after : List ℕ) → DrawInto plan drawing store block before r after
      → Decided Given (trace_rules store block) (says_done r.done)
  -- what is refused stays as it was
  pub untouched : (plan : Plan) (drawing : Drawing) (store : Store) (block before : List ℕ) (r : Drawn) (after : List ℕ) (n : ℕ) → DrawInto plan drawing store block before r after
      → says_done r.done ≡ refuses n → (r.drawing ≡ drawing) × (after ≡ before)
  -- and such a refusal there is: under a good store, 16 for any block that is no whole number of
  -- records
  pub such_call : (plan : Plan) (drawing : Drawing) (store : Store) (block before : List ℕ) → Good store → bad_length block ≡ true
      → (r : Drawn) × DrawInto plan drawing store block before r before × (says_done r.done ≡ refuses 16)
