-- The records of a plan one by one: the bytes of one of them, and the entries that are filled in.
-- Assumes nothing.
use Rattle.std.proofs.Common.{None}
use Prim.Native.Nat.{ℕ, suc, ◌+◌, ◌-◌, ◌*◌, ◌/◌, ◌≤◌, ◌<◌}
use native.Mathlib.Omega.{arith}
use mathlib.Core.Path.{◌≡◌, refl, sym, ap, ap₂, ◌∙◌}
use mathlib.Core.Bool.{Bool, true, false, ◌&&◌}
use mathlib.Core.List.{List, [], ◌∷◌, ◌++◌, map, append_assoc}
use lib.ListN.{length, take, drop, get_or, set, replicate, length-map}
use lib.Seq.{drop-drop, get_or-take, get_or-drop, set_at}
use native.Mathlib.Nat.{add-zero}
use Rattle.group_rows.specs.declared.Kind.{Kind}
use Rattle.ride.specs.Record.{byte}
use Rattle.ride.specs.Over.{first_records}
use Rattle.ride.proofs.Cutting.{records_length, more_records}
use Rattle.acceptance.specs.declared.Entry.{Entry}
use Rattle.acceptance.specs.Plan.{place_of, kind_of, is_good, all_good, entry_of, entries_of, no_entry}

-- Byte k of the record from `at` on.
pub byte_at : (b : List ℕ) (at k : ℕ) → k < 8 → byte (take 8 (drop at b)) k ≡ get_or b (at + k) 0
byte_at b at k h = get_or-take 8 (drop at b) k 0 h ∙ get_or-drop at b k 0

-- The entry of the record from `at` on, by its bytes.
pub entry_is : (b : List ℕ) (at : ℕ) (kind : Kind) → kind ≡ kind_of (get_or b (at + 4) 0)
    → ◌≡◌ {A = Entry}
    (record {
      place = (get_or b at 0 * 256 + get_or b (at + 1) 0) * 65536 + (get_or b (at + 2) 0 * 256 + get_or b (at + 3) 0);
      kind = kind;
      met = None;
    })
    (entry_of (take 8 (drop at b)))
unfolding entry_of place_of
entry_is b at kind e =
    let first : get_or b (at + 0) 0 ≡ get_or b at 0 = ap (λ (i : ℕ). get_or b i 0) (add-zero at) in
    let bytes : place_of (take 8 (drop at b)) ≡ (get_or b at 0 * 256 + get_or b (at + 1) 0) * 65536 + (get_or b (at + 2) 0 * 256 + get_or b (at + 3) 0) =
    omega (arith, byte_at b at 0 (omega arith), byte_at b at 1 (omega arith), byte_at b at 2 (omega arith), byte_at b at 3 (omega arith)) in
    ap₂ (λ (p : ℕ) (k : Kind). record { place = p; kind = k; met = None }) (sym bytes) (e ∙ ap kind_of (sym (byte_at b at 4 (omega arith))))

-- The records from i on begin with record i.
pub next_record : (b : List ℕ) (n i : ℕ) → i < n
    → first_records (n - i) (drop (i * 8) b) ≡ take 8 (drop (i * 8) b) ∷ first_records (n - (i + 1)) (drop ((i + 1) * 8) b)
unfolding first_records
next_record b n i h =
    let one : n - i ≡ suc (n - (i + 1)) = omega arith in
    let far : i * 8 + 8 ≡ (i + 1) * 8 = omega arith in
    ap (λ (m : ℕ). first_records m (drop (i * 8) b)) one
    ∙ ap (λ (t : List ℕ). take 8 (drop (i * 8) b) ∷ first_records (n - (i + 1)) t) (drop-drop 8 (i * 8) b ∙ ap (λ (m : ℕ). drop m b) far)

-- ---- whether all are good

abbrev pub good_from : List ℕ → ℕ → ℕ → Bool
good_from b n i = all_good (first_records (n - i) (drop (i * 8) b))

pub good_on : (b : List ℕ) (n i : ℕ) → i < n → is_good (take 8 (drop (i * 8) b)) ≡ true → good_from b n i ≡ good_from b n (i + 1)
unfolding all_good
good_on b n i h e = ap all_good (next_record b n i h) ∙ ap (λ (g : Bool). g && good_from b n (i + 1)) e

pub good_not : (b : List ℕ) (n i : ℕ) → i < n → is_good (take 8 (drop (i * 8) b)) ≡ false → good_from b n i ≡ false
unfolding all_good
good_not b n i h e = ap all_good (next_record b n i h) ∙ ap (λ (g : Bool). g && good_from b n (i + 1)) e

pub good_end : (b : List ℕ) (n i : ℕ) → n ≤ i → good_from b n i ≡ true
unfolding all_good first_records
good_end b n i h =
    let none : n - i ≡ 0 = omega arith in
    ap (λ (m : ℕ). all_good (first_records m (drop (i * 8) b))) none

-- ---- the entries filled in

-- The entries of the first i records, and room after them.
abbrev pub filled : List ℕ → ℕ → List Entry
filled b i = map entry_of (first_records i b) ++ replicate (64 - i) no_entry

map_join : (xs ys : List (List ℕ)) → map entry_of (xs ++ ys) ≡ map entry_of xs ++ map entry_of ys
map_join [] ys = refl
map_join (x ∷ xs) ys = ap (λ (l : List Entry). entry_of x ∷ l) (map_join xs ys)

pub entries_length : (i : ℕ) (b : List ℕ) → length (map entry_of (first_records i b)) ≡ i
entries_length i b = length-map (first_records i b) entry_of ∙ records_length i b

-- One more.
pub fill_next : (b : List ℕ) (i : ℕ) → i < 64 → set (filled b i) i (entry_of (take 8 (drop (i * 8) b))) ≡ filled b (i + 1)
unfolding first_records
fill_next b i h =
    let one : 64 - i ≡ suc (64 - (i + 1)) = omega arith in
    let e : Entry = entry_of (take 8 (drop (i * 8) b)) in
    let rest : List Entry = replicate (64 - (i + 1)) no_entry in
    let front : List Entry = map entry_of (first_records i b) in
    let more : map entry_of (first_records (i + 1) b) ≡ front ++ (e ∷ []) = ap (map entry_of) (more_records i 1 b) ∙ map_join (first_records i b) (take 8 (drop (i * 8) b) ∷ []) in
    ap (λ (m : ℕ). set (front ++ replicate m no_entry) i e) one
    ∙ set_at front no_entry rest e i (entries_length i b)
    ∙ sym (append_assoc front (e ∷ []) rest)
    ∙ ap (λ (l : List Entry). l ++ rest) (sym more)

-- The entries of all records.
pub fill_end : (b : List ℕ) → filled b (length b / 8) ≡ entries_of b ++ replicate (64 - length (entries_of b)) no_entry
fill_end b = ap (λ (m : ℕ). entries_of b ++ replicate (64 - m) no_entry) (sym (entries_length (length b / 8) b))
