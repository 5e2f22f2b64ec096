-- On a clean stretch `find` hands out the telegram sent, at each true place and nowhere else.
-- Assumes nothing.
use mathlib.Core.Path.{◌≡◌, refl, ap, ap₂, ◌∙◌}
use mathlib.Core.Bool.{true}
use mathlib.Core.List.{List, [], ◌∷◌, map}
use Prim.Native.Nat.{ℕ}
use lib.Dec.{eqb}
use borrow.Author.Tests.{eq-eqb}
use Rattle.words.specs.Answer.{gives}
use Rattle.words.specs.Plain.{among}
use Rattle.std.specs.Prelude.{Result, Ok}
use Rattle.telegram.specs.Place.{words_at, from, those, at}
use Rattle.telegram.specs.declared.Telegram.{Telegram}
use Rattle.telegram.specs.declared.Found.{Found}
use Rattle.telegram.specs.declared.NotFound.{NotFound}
use Rattle.telegram.proofs.Determined.{found_back}
use Rattle.telegram.proofs.Law.{with_telegrams}
use Rattle.balise_line.specs.Line.{OneBalise, Proper, Clean, sent_at, places_of}
use Rattle.demands.specs.Demand3.{ComesOf, all_sent}
use Rattle.balise_line.proofs.Places.{or_left, or_right}
use Rattle.balise_line.proofs.Sent.{read_as_sent}
use Rattle.balise_line.proofs.TooFew.{few_flips_few}
use Rattle.balise_line.proofs.Stretch.{all_sent_law}
use Rattle.balise_line.proofs.Clean.{clean_few, true_places}
use Rattle.demands.proofs.Demand3.Handed.{answer_of, comes_is}

-- The places listed read alike, each m.
with_message : (b : List ℕ) (m : Telegram) (ps : List ℕ) → ((p : ℕ) → among p ps ≡ true → words_at b p ≡ gives m) → with_telegrams b ps ≡ map (λ p. at p (gives m)) ps
with_message b m [] all = refl
with_message b m (p ∷ ps) all =
    ap₂ ◌∷◌ (ap (at p) (all p (or_left (among p ps) (eq-eqb p p refl)))) (with_message b m ps (λ r there. all r (or_right (eqb r p) there)))

-- The places listed, as `find` answers them.
answers : (m : Telegram) (ps : List ℕ) → map answer_of (map (λ p. at p (gives m)) ps) ≡ map (λ p. Ok (record { place = p; telegram = m })) ps
answers m [] = refl
answers m (p ∷ ps) = ap₂ ◌∷◌ (found_back (Ok (record { place = p; telegram = m }))) (answers m ps)

pub comes_all_sent : (o : OneBalise) → Clean o → Proper o → (w : List (Result Found NotFound)) → ComesOf o w → w ≡ all_sent o
comes_all_sent o clean proper w c =
    comes_is o proper w c
    ∙ ap (map answer_of)
    (with_message o.buffer o.telegram (places_of o)
    (λ p there. read_as_sent o proper p (all_sent_law o proper (few_flips_few o (clean_few o clean)) p there))
    ∙ ap (map (λ p. at p (gives o.telegram))) (true_places o clean proper))
    ∙ answers o.telegram (those (sent_at o) (from o.start o.len))
