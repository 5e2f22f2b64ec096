-- What `write` wrote is read back: it is a clean line of one balise, whose places are 0, 32, ..
-- Assumes nothing.
use mathlib.Core.Path.{◌≡◌, refl, sym, ap, ap₂, ◌∙◌, subst}
use mathlib.Core.Bool.{Bool, true, false, not, ◌&&◌}
use mathlib.Core.List.{List, ◌++◌, map, map-map}
use Prim.Native.Nat.{ℕ, zero, suc, ◌+◌, ◌*◌, ◌≤◌}
use native.Mathlib.Omega.{arith}
use lib.Dec.{leb}
use lib.ListN.{length, drop, length-append, length-map}
use Rattle.words.specs.Answer.{Outcome, gives, refuses, pick}
use Rattle.std.specs.Prelude.{Result, Ok}
use Rattle.telegram.specs.Telegram.{Received}
use Rattle.telegram.specs.Place.{from, words_at}
use Rattle.telegram.specs.declared.Telegram.{Telegram}
use Rattle.telegram.specs.declared.Found.{Found}
use Rattle.telegram.specs.declared.NotFound.{NotFound}
use Rattle.contact.specs.Judge.{Contact, all_alike, first_place, is_marker, read, marker, judgement, judge}
use Rattle.contact.specs.Says.{says_judged}
use Rattle.contact.specs.declared.Judged.{Judged}
use Rattle.balise_line.specs.Line.{OneBalise, Proper, places_of}
use Rattle.balise_line.proofs.TooFew.{few_flips_few}
use Rattle.balise_line.proofs.Stretch.{all_sent_law}
use Rattle.balise_line.proofs.Clean.{clean_few, true_places}
use Rattle.telegram.specs.Spelling.{words_of}
use Rattle.balise_writer.specs.Write.{telegrams, write}
use Rattle.balise_writer.specs.Sender.{sender}
use Rattle.balise_writer.proofs.Bytes.{telegrams_length}
use Rattle.balise_writer.proofs.Accepted.{accepted}
use Rattle.balise_writer.proofs.Heard.{is_clean, places_are}
use Rattle.balise_writer.proofs.Valid.{is_proper}
use Rattle.demands.specs.ByContract.{JudgeContact}
use Rattle.demands.specs.Calls.{Comes}
use Rattle.demands.specs.Writing.{telegram_of, WrittenIsRead}
use Rattle.demands.proofs.Demand3.JudgedAlike.{is_read, judge_sent}
use Rattle.demands.proofs.Demand3.Clean.{comes_all_sent}

-- A judgement that reads has the first of the places.
first_of : (b : List ℕ) (start len : ℕ) (ps : List ℕ) (m : Received) (first count : ℕ) → judgement b start len ps ≡ gives (read m first count) → first ≡ first_place ps
unfolding judgement
first_of b start len ps m first count = go (leb 2 (length ps) && all_alike b ps) (not (all_alike b ps)) (is_marker b start len)
  where
    go : (u v w : Bool) → pick {A = Outcome Contact} u (gives (read (words_at b (first_place ps)) (first_place ps) (length ps))) (pick v (refuses 7) (pick w (gives marker) (refuses 8))) ≡ gives (read m first count)
        → first ≡ first_place ps
    go true v w e = cc
    go false true w e = cc
    go false false true e = cc
    go false false false e = cc

-- As many as were asked for.
length_from : (p n : ℕ) → length (from p n) ≡ n
unfolding from
length_from p zero = refl
length_from p (suc n) = ap suc (length_from (p + 1) n)

-- The first of them.
first_from : (n : ℕ) → 2 ≤ n → first_place (map (λ k. 32 * k) (from 0 n)) ≡ 0
unfolding from
first_from zero h = absurd (omega arith)
first_from (suc n) h = refl

-- What stands at the start of a buffer.
module _ (m : Telegram) (s t n : ℕ) (rest : List ℕ) (most : 2 ≤ n) where
  abbrev b : List ℕ
  b = telegrams s t (words_of m) n ++ rest

  abbrev o : OneBalise
  o = sender m s t n b

  module _ (proper : Proper o) where
    as_many : length (places_of o) ≡ n
    as_many = ap length (places_are m s t n rest proper) ∙ length-map (from 0 n) (λ k. 32 * k) ∙ length_from 0 n

    judgement_is : judge b 0 (8 * (4 * n + 1)) s t ≡ judgement b 0 (8 * (4 * n + 1)) (places_of o)
    unfolding judge
    judgement_is =
        ap₂ (λ (g i : Bool). pick g (pick i (judgement b 0 (8 * (4 * n + 1)) (places_of o)) (refuses 5)) (refuses 4)) proper.pair proper.taken

    judge_back : (r : Judged) → JudgeContact b 0 (8 * (4 * n + 1)) s t r → r ≡ Judged.Read m 0 n
    judge_back r k =
        let sent = judge_sent o proper (all_sent_law o proper (few_flips_few o (clean_few o (is_clean m s t n rest)))) r k in
        let q = sent.enough (subst (λ (v : ℕ). 2 ≤ v) (sym as_many) most) in
        let is : r ≡ Judged.Read q.0 q.1 q.2 = is_read r q.0 q.1 q.2 q.3 in
        let k' : JudgeContact b 0 (8 * (4 * n + 1)) s t (Judged.Read q.0 q.1 q.2) = subst (JudgeContact b 0 (8 * (4 * n + 1)) s t) is k in
        let says : judgement b 0 (8 * (4 * n + 1)) (places_of o) ≡ says_judged (Judged.Read q.0 q.1 q.2) =
        sym judgement_is ∙ sym (k'.4 ∙ ap (λ (v : List ℕ). judge v 0 (8 * (4 * n + 1)) s t) k'.3) in
        let same : q.0 ≡ m = (sent.first_sent q.0 q.1 q.2 q.3).as_sent in
        let first : q.1 ≡ 0 =
        first_of b 0 (8 * (4 * n + 1)) (places_of o) (gives q.0) q.1 q.2 says ∙ ap first_place (places_are m s t n rest proper) ∙ first_from n most in
        let count : q.2 ≡ n = sent.counted q.0 q.1 q.2 q.3 ∙ as_many in
        cc

    find_back : (w : List (Result Found NotFound)) → Comes b s t 0 (8 * (4 * n + 1)) w → w ≡ map (λ k. Ok (record { place = 32 * k; telegram = m })) (from 0 n)
    find_back w k =
        comes_all_sent o (is_clean m s t n rest) proper w k
        ∙ ap (map (λ p. Ok (record { place = p; telegram = m }))) (sym (true_places o (is_clean m s t n rest) proper) ∙ places_are m s t n rest proper)
        ∙ map-map (λ p. Ok (record { place = p; telegram = m })) (λ k. 32 * k) (from 0 n)

pub written_is_read : WrittenIsRead
written_is_read c =
    let k = c.call in
    let is : record { answer = gives c.bytes; buffer = c.after } ≡ write c.x c.y c.z c.s c.t c.n c.before =
    ap (λ (v : List ℕ). record { answer = gives c.bytes; buffer = v }) (sym k.4) ∙ k.5 ∙ ap (write c.x c.y c.z c.s c.t c.n) k.3 in
    let a = accepted c.x c.y c.z c.s c.t c.n c.before c.bytes c.after is in
    let m = telegram_of c in
    let rest = drop (length (telegrams c.s c.t (words_of m) c.n)) c.before in
    let long : 4 * c.n + 1 ≤ length (telegrams c.s c.t (words_of m) c.n ++ rest) =
    omega (arith, length-append (telegrams c.s c.t (words_of m) c.n) rest, telegrams_length c.s c.t (words_of m) c.n) in
    let proper = is_proper c.x c.y c.z c.s c.t c.n (telegrams c.s c.t (words_of m) c.n ++ rest)
    c.sync_words.0 c.sync_words.1 a.figures.0 a.figures.1 a.pair a.count.1 long in
    record {
      bytes = a.bytes_are;
      judge = λ r k. judge_back m c.s c.t c.n rest a.count.0 proper r
          (subst (λ (v : List ℕ). JudgeContact v 0 (8 * (4 * c.n + 1)) c.s c.t r) a.written
          (subst (λ (v : ℕ). JudgeContact c.after 0 (8 * v) c.s c.t r) a.bytes_are k));
      find = λ w k. find_back m c.s c.t c.n rest a.count.0 proper w
          (subst (λ (v : List ℕ). Comes v c.s c.t 0 (8 * (4 * c.n + 1)) w) a.written
          (subst (λ (v : ℕ). Comes c.after c.s c.t 0 (8 * v) w) a.bytes_are k));
    }
