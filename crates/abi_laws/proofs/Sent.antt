-- What C is handed out is what `find` and `judge` hand out, which demands shows to be the telegram
-- sent.
-- Assumes nothing.
use Prim.Native.Nat.{ℕ}
use mathlib.Core.Path.{◌≡◌, refl, sym, ap, ◌∙◌}
use mathlib.Core.List.{List, [], ◌∷◌}
use Rattle.std.specs.Prelude.{Ok}
use Rattle.words.specs.Answer.{gives}
use Rattle.telegram.specs.declared.Telegram.{Telegram}
use Rattle.telegram.specs.Place.{at}
use Rattle.telegram.specs.Place as place
use Rattle.contact.specs.declared.Judged.{Judged}
use Rattle.contact.specs.Judge.{read}
use Rattle.contact.specs.Judge as contact
use Rattle.balise_line.specs.Line.{OneBalise}
use Rattle.demands.specs.ByContract.{Find, JudgeContact}
use Rattle.demands.specs.Calls.{first}
use Rattle.demands.specs.Demand3.{OnlyTheSent, TheSent}
use Rattle.demands.proofs.Witness.CallsMet.{lent}
use Rattle.demands.proofs.Demand3.{demand_3}
use Rattle.demands.proofs.Beside.SyncNoise.{sync_noise}
use Rattle.abi.specs.Face.{as_one}
use Rattle.abi_laws.specs.Sent.{SentFromC, Demand3FromC}
use Rattle.abi_laws.proofs.Handed.{handed_out}

-- A call that answers what is specified is one that the contract allows.
found : (b : List ℕ) (start len s t p : ℕ) (m : Telegram) → place.find b start len s t ≡ gives (at p (gives m)) → Find b start len s t (Ok (record { place = p; telegram = m }))
found b start len s t p m e = (([], tt), lent b, (lent b, (start, (len, (s, (t, tt))))), refl, sym e)

judged : (b : List ℕ) (start len s t : ℕ) (m : Telegram) (p n : ℕ) → contact.judge b start len s t ≡ gives (read (gives m) p n)
    → JudgeContact b start len s t (Judged.Read m p n)
judged b start len s t m p n e = (([], tt), lent b, (lent b, (start, (len, (s, (t, tt))))), refl, sym e)

sent : (o : OneBalise) → OnlyTheSent o → SentFromC o
sent o only = record {
  find = λ before r after p m c e.
      let so : TheSent o p m = only.every p m (first (found o.buffer o.start o.len o.s o.t p m e)) in (
        (handed_out.find o.buffer o.start o.len o.s o.t before r after (at p (gives m)) c e).1 ∙ ap (λ (x : Telegram). p ∷ as_one x ∷ []) so.as_sent,
        so.true_place,
      );
  judge = λ before r after m p n c e.
      let so : TheSent o p m =
      (only.judge (Judged.Read m p n) (judged o.buffer o.start o.len o.s o.t m p n e)).first_sent m p n refl in (
        (handed_out.judge o.buffer o.start o.len o.s o.t before r after (read (gives m) p n) c e).1
            ∙ ap (λ (x : Telegram). as_one x ∷ p ∷ n ∷ []) so.as_sent,
        so.true_place,
      );
}

pub demand3_from_c : Demand3FromC
demand3_from_c = record {
  few_flips = λ o proper few. sent o (demand_3.stretch o proper few);
  middle_pair = λ o proper k mid equal few. sent o (sync_noise.stretch o proper k mid equal few);
}
