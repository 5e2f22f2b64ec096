-- What a call that was not refused shows: which conditions held, and what was written.
-- Assumes nothing.
use mathlib.Core.Path.{◌≡◌, refl, ap, ◌∙◌}
use mathlib.Core.Bool.{Bool, true, false, not, ◌&&◌}
use mathlib.Core.List.{List, ◌++◌}
use Prim.Native.Nat.{ℕ, ◌+◌, ◌*◌, ◌≤◌}
use native.Mathlib.Omega.{arith}
use lib.Dec.{leb, ltb}
use lib.ListN.{length, drop}
use borrow.Author.Tests.{leb-true, ltb-false}
use Rattle.words.specs.Answer.{Outcome, gives, refuses, then, pick}
use Rattle.telegram.specs.Sync.{is_good}
use Rattle.telegram.specs.declared.Telegram.{Telegram}
use Rattle.balise_line.proofs.Places.{and_parts}
use Rattle.telegram.specs.Spelling.{asked, too_large, has_fifteen, words_of, spell}
use Rattle.balise_writer.specs.Write.{telegrams, in_range, bytes_of, Writing, onto, write}
use Rattle.balise_writer.proofs.Bytes.{telegrams_length}
use Rattle.words.proofs.Never.{cannot_be}

pub record Accepted (m : Telegram) (s t n : ℕ) (before : List ℕ) (bytes : ℕ) (after : List ℕ) : Type 0 where
  pub figures : (too_large m ≡ false) × (has_fifteen m ≡ false)
  pub pair : is_good s t ≡ true
  pub count : (2 ≤ n) × (n ≤ 1000)
  pub room : 4 * n + 1 ≤ length before
  pub bytes_are : bytes ≡ 4 * n + 1
  pub written : after ≡ telegrams s t (words_of m) n ++ drop (length (telegrams s t (words_of m) n)) before

-- what gives does not refuse
no : {A : Type 0} {k bytes : ℕ} → gives bytes ≡ refuses k → A
no e = cannot_be cc

pub accepted : (x y z s t n : ℕ) (before : List ℕ) (bytes : ℕ) (after : List ℕ)
    → record { answer = gives bytes; buffer = after } ≡ write x y z s t n before → Accepted (asked x y z) s t n before bytes after
unfolding write spell bytes_of in_range
accepted x y z s t n before bytes after e =
    go (too_large m) (has_fifteen m) (is_good s t) (leb 2 n && leb n 1000) (ltb (length before) (4 * n + 1)) refl refl refl refl refl e
  where
    m : Telegram
    m = asked x y z

    go : (a f g r l : Bool) → too_large m ≡ a → has_fifteen m ≡ f → is_good s t ≡ g → (leb 2 n && leb n 1000) ≡ r → ltb (length before) (4 * n + 1) ≡ l
        → record { answer = gives bytes; buffer = after }
        ≡ onto before (then (pick a (refuses 2) (pick f (refuses 3) (gives (words_of m))))
        (λ w. pick (not g) (refuses 4) (pick (not r) (refuses 20) (pick l (refuses 21) (gives (telegrams s t w n))))))
        → Accepted m s t n before bytes after
    go true f g r l ia ifs ig ir il e = no (ap (λ (w : Writing). w.answer) e)
    go false true g r l ia ifs ig ir il e = no (ap (λ (w : Writing). w.answer) e)
    go false false false r l ia ifs ig ir il e = no (ap (λ (w : Writing). w.answer) e)
    go false false true false l ia ifs ig ir il e = no (ap (λ (w : Writing). w.answer) e)
    go false false true true true ia ifs ig ir il e = no (ap (λ (w : Writing). w.answer) e)
    go false false true true false ia ifs ig ir il e =
        let given : gives bytes ≡ gives (length (telegrams s t (words_of m) n)) = ap (λ (w : Writing). w.answer) e in
        let many : bytes ≡ length (telegrams s t (words_of m) n) = cc in
        let range = and_parts (leb 2 n) (leb n 1000) ir in
        record {
          figures = (ia, ifs);
          pair = ig;
          count = (leb-true 2 n range.0, leb-true n 1000 range.1);
          room = ltb-false (length before) (4 * n + 1) il;
          bytes_are = many ∙ telegrams_length s t (words_of m) n;
          written = ap (λ (w : Writing). w.buffer) e;
        }

-- No more than 4,001 bytes.
pub few_bytes : (x y z s t n : ℕ) (before : List ℕ) (bytes : ℕ) → gives bytes ≡ (write x y z s t n before).answer → bytes ≤ 4001
few_bytes x y z s t n before bytes e =
    let is : record { answer = gives bytes; buffer = (write x y z s t n before).buffer } ≡ write x y z s t n before =
    ap (λ (o : Outcome ℕ). record { answer = o; buffer = (write x y z s t n before).buffer }) e in
    let a = accepted x y z s t n before bytes (write x y z s t n before).buffer is in
    let k : bytes ≡ 4 * n + 1 = a.bytes_are in
    let most : n ≤ 1000 = a.count.1 in
    omega arith
