-- What a record says, recorded, is that record: words that read as a telegram are those that are
-- written for it.
-- Assumes nothing.
use mathlib.Core.Path.{◌≡◌, refl, sym, ap, ◌∙◌}
use mathlib.Core.Bool.{Bool, true, false, ◌&&◌}
use Prim.Native.Nat.{ℕ, ◌<◌}
use lib.Dec.{eqb}
use borrow.Author.Tests.{eqb-true}
use Rattle.words.specs.Answer.{gives, refuses, pick}
use Rattle.words.proofs.Linear.{and_parts}
use Rattle.telegram.specs.Telegram.{Received, telegram}
use Rattle.telegram.specs.declared.Telegram.{Telegram}
use Rattle.telegram.specs.Spelling.{asked}
use Rattle.recorder.proofs.Received.{spelt_back}
use Rattle.trace_text.specs.declared.What.{What}
use Rattle.trace_text.specs.Record.{bytes_of, record_of_meant}
use Rattle.trace_text.specs.Thing.{informed, blank, thing_of}
use Rattle.trace_text_laws.specs.Laws.{RecordsBack}

module _ (place x y z : ℕ) (hx : x < 256) (hy : y < 256) (hz : z < 256) where
  -- Information: the words of the telegram, or the words as they are.
  told : (o : Received) → telegram x y z ≡ o → record_of_meant place (informed x y z o) ≡ gives (bytes_of place 0 x y z)
  unfolding record_of_meant asked
  told (refuses bad) is = refl
  told (gives (Telegram.Figures a b c)) is = simp (spelt_back x y z hx hy hz (Telegram.Figures a b c) is)
  told (gives (Telegram.Number m)) is = simp (spelt_back x y z hx hy hz (Telegram.Number m) is)

  -- A marker, what is unreadable, a position, or any other kind with no words.
  bare : (kind : ℕ) (a b c : Bool) → eqb kind 1 ≡ a → eqb kind 2 ≡ b → eqb kind 3 ≡ c → x ≡ 0 → y ≡ 0 → z ≡ 0
      → record_of_meant place (pick a What.Marker (pick b What.Unreadable (pick c What.Position (What.Raw kind 0 0 0)))) ≡ gives (bytes_of place kind x y z)
  unfolding record_of_meant
  bare kind true b c ea eb ec ex ey ez = let is : kind ≡ 1 = eqb-true kind 1 ea in rw (is, ex, ey, ez)
  bare kind false true c ea eb ec ex ey ez = let is : kind ≡ 2 = eqb-true kind 2 eb in rw (is, ex, ey, ez)
  bare kind false false true ea eb ec ex ey ez = let is : kind ≡ 3 = eqb-true kind 3 ec in rw (is, ex, ey, ez)
  bare kind false false false ea eb ec ex ey ez = rw (ex, ey, ez)

  by_words : (kind : ℕ) (b : Bool) → (eqb x 0 && eqb y 0 && eqb z 0) ≡ b → record_of_meant place (pick b (blank kind) (What.Raw kind x y z)) ≡ gives (bytes_of place kind x y z)
  unfolding record_of_meant blank
  by_words kind true e =
      let p = and_parts (eqb x 0 && eqb y 0) (eqb z 0) e in
      let q = and_parts (eqb x 0) (eqb y 0) p.0 in
      bare kind (eqb kind 1) (eqb kind 2) (eqb kind 3) refl refl refl (eqb-true x 0 q.0) (eqb-true y 0 q.1) (eqb-true z 0 p.1)
  by_words kind false e = refl

  by_kind : (kind : ℕ) (b : Bool) → eqb kind 0 ≡ b
      → record_of_meant place (pick b (informed x y z (telegram x y z)) (pick (eqb x 0 && eqb y 0 && eqb z 0) (blank kind) (What.Raw kind x y z))) ≡ gives (bytes_of place kind x y z)
  by_kind kind true e = told (telegram x y z) refl ∙ ap (λ (k : ℕ). gives (bytes_of place k x y z)) (sym (eqb-true kind 0 e))
  by_kind kind false e = by_words kind (eqb x 0 && eqb y 0 && eqb z 0) refl

pub records_back : RecordsBack
unfolding thing_of
records_back place kind x y z hx hy hz = by_kind place x y z hx hy hz kind (eqb kind 0) refl
