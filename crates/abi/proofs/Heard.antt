-- What a call on a lent ear returns, leaves and lets be read back, by how it went.
-- Assumes nothing.
use Prim.Native.Nat.{ℕ, ◌*◌}
use mathlib.Core.Path.{◌≡◌, refl, sym, ap, ap₂, ◌∙◌}
use mathlib.Core.List.{List, [], ◌∷◌}
use lib.IntN.{ℤ, pos, neg_ℤ}
use Rattle.words.specs.Answer.{Outcome, gives, refuses}
use Rattle.settings.specs.declared.Store.{Store}
use Rattle.settings.specs.Versions.{Kept, kept}
use Rattle.settings.specs.Store.{judged}
use Rattle.state_bytes.specs.Stores.{store_in}
use Rattle.ear_bytes.specs.declared.Hearing.{Hearing}
use Rattle.ear_bytes.specs.declared.Wrote.{Wrote}
use Rattle.ear_bytes.specs.Ears.{ear_bytes, ear_in}
use Rattle.ear_bytes.specs.Hearing.{Written, hear, end}
use Rattle.ear_bytes.specs.Says.{says}
use Rattle.abi.specs.Face.{returned}
use Rattle.abi.specs.Stores.{kept_number}
use Rattle.abi.specs.Leads.{Heard, heard, ear_left, records_left, used_left, ear_after_meant}

abbrev with_answer : Written → Outcome Kept → Heard
with_answer w q = record { answer = q; written = w }

-- What is returned, left and read back of a hearing.
abbrev pub AsHeard : Heard → List ℕ → List ℕ → List ℕ → ℤ → List ℕ → List ℕ → List ℕ → Type 0
AsHeard h ear records out r ear' records' out' =
    (r ≡ returned kept_number h.answer)
    × ((ear' ≡ ear_left h ear) × ((records' ≡ records_left h records) × ((out' ≡ used_left h out) × (ear_in ear' ≡ ear_after_meant h (ear_in ear)))))

module _ (ear store lead records out : List ℕ) where
  abbrev w : Written
  w = hear (ear_in ear) (store_in store) lead records

  -- The store is refused.
  pub unheard : (held : Store) (n : ℕ) (r : ℤ) → held ≡ store_in store → judged held ≡ refuses n → r ≡ neg_ℤ (pos n) → AsHeard (heard ear store lead records) ear records out r ear records out
  unheard held n r is bad e =
      let so : refuses n ≡ judged (store_in store) = sym bad ∙ ap judged is in (
        e ∙ ap (returned kept_number) so,
        (
          ap (λ (q : Outcome Kept). ear_left (with_answer w q) ear) so,
          (
            ap (λ (q : Outcome Kept). records_left (with_answer w q) records) so,
            (
              ap (λ (q : Outcome Kept). used_left (with_answer w q) out) so,
              ap (λ (q : Outcome Kept). ear_after_meant (with_answer w q) (ear_in ear)) so,
            ),
          ),
        ),
      )

  -- It is in order.
  pub was_heard : (held : Store) (from : Hearing) (wrote : Wrote) (records' bytes : List ℕ) → held ≡ store_in store → judged held ≡ gives kept → from ≡ ear_in ear
      → says wrote records' ≡ hear from held lead records → bytes ≡ ear_bytes wrote.hearing → ear_in bytes ≡ wrote.hearing
      → AsHeard (heard ear store lead records) ear records out (pos 0) bytes records' (wrote.frames * 16 ∷ wrote.bytes ∷ [])
  was_heard held from wrote records' bytes is good at said b back =
      let so : gives kept ≡ judged (store_in store) = sym good ∙ ap judged is in
      let there : says wrote records' ≡ w = said ∙ ap₂ (λ (h : Hearing) (s : Store). hear h s lead records) at is in (
        ap (returned kept_number) so,
        (
          b ∙ ap (λ (x : Written). ear_bytes x.wrote.hearing) there ∙ ap (λ (q : Outcome Kept). ear_left (with_answer w q) ear) so,
          (
            ap (λ (x : Written). x.buffer) there ∙ ap (λ (q : Outcome Kept). records_left (with_answer w q) records) so,
            (
              ap (λ (x : Written). x.wrote.frames * 16 ∷ x.wrote.bytes ∷ []) there ∙ ap (λ (q : Outcome Kept). used_left (with_answer w q) out) so,
              back ∙ ap (λ (x : Written). x.wrote.hearing) there ∙ ap (λ (q : Outcome Kept). ear_after_meant (with_answer w q) (ear_in ear)) so,
            ),
          ),
        ),
      )

-- The lead's end.
pub was_ended : (ear records : List ℕ) (from : Hearing) (wrote : Wrote) (records' bytes : List ℕ) → from ≡ ear_in ear → says wrote records' ≡ end from records
    → bytes ≡ ear_bytes wrote.hearing → ear_in bytes ≡ wrote.hearing
    → ◌≡◌ {A = ℤ} (pos 0) (pos 0) × ((bytes ≡ ear_bytes (end (ear_in ear) records).wrote.hearing) × ((records' ≡ (end (ear_in ear) records).buffer)
    × ((wrote.bytes ∷ [] ≡ (end (ear_in ear) records).wrote.bytes ∷ []) × (ear_in bytes ≡ (end (ear_in ear) records).wrote.hearing))))
was_ended ear records from wrote records' bytes at said b back =
    let there : says wrote records' ≡ end (ear_in ear) records = said ∙ ap (λ (h : Hearing). end h records) at in (
      refl,
      (
        b ∙ ap (λ (x : Written). ear_bytes x.wrote.hearing) there,
        (
          ap (λ (x : Written). x.buffer) there,
          (
            ap (λ (x : Written). x.wrote.bytes ∷ []) there,
            back ∙ ap (λ (x : Written). x.wrote.hearing) there,
          ),
        ),
      ),
    )
