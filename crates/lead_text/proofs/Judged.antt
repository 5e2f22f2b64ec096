-- The listings from what the store's judgement says.
-- Assumes nothing.
use Prim.Native.Nat.{ℕ}
use mathlib.Core.Path.{◌≡◌}
use mathlib.Core.List.{List}
use Rattle.words.specs.Answer.{gives, refuses}
use Rattle.settings.specs.declared.Store.{Store}
use Rattle.settings.specs.Versions.{kept}
use Rattle.settings.specs.Store.{judged}
use Rattle.lead_text.specs.declared.Underway.{Underway}
use Rattle.lead_text.specs.List.{Telling, of_frames, of_end, list_frames, list_end}

-- A refusal, and a listing that is none.
abbrev pub unlisted : Underway → List ℕ → ℕ → Telling
unlisted u out n = record { answer = refuses n; underway = u; out = out }

module _ (u : Underway) (store : Store) (frames out : List ℕ) where
  pub frames_refused : (n : ℕ) → judged store ≡ refuses n → unlisted u out n ≡ list_frames u store frames out
  unfolding list_frames
  frames_refused n e = rw e

  pub frames_listed : judged store ≡ gives kept → of_frames store u frames out ≡ list_frames u store frames out
  unfolding list_frames
  frames_listed e = rw e

module _ (u : Underway) (store : Store) (out : List ℕ) where
  pub end_refused : (n : ℕ) → judged store ≡ refuses n → unlisted u out n ≡ list_end u store out
  unfolding list_end
  end_refused n e = rw e

  pub end_listed : judged store ≡ gives kept → of_end store u out ≡ list_end u store out
  unfolding list_end
  end_listed e = rw e
