-- A text that stands in a buffer, and how it grows: what is put after it makes a longer one.
-- Assumes nothing.
use mathlib.Core.Path.{◌≡◌, sym, ap, ap₂, subst, ◌∙◌}
use mathlib.Core.List.{List, ◌++◌}
use Prim.Native.Nat.{ℕ, ◌+◌, ◌≤◌, ◌<◌}
use Prim.Native.String.{String}
use native.Mathlib.Omega.{arith}
use native.Mathlib.Nat.{add_assoc}
use lib.ListN.{length, take, replicate, length-append, length-replicate}
use lib.Seq.{length-take-le}
use borrow.Author.Tests.{le-leb, lt-leb}
use Rattle.text.specs.Text.{codes, decimal}
use Rattle.text.specs.Put.{placed, Put, put, came}
use Rattle.text.proofs.Placing.{placed_length, placed_join, placed_start}

-- what a call that puts a text says
abbrev pub PutAt : List ℕ → List ℕ → ℕ → ℕ → List ℕ → Type 0
PutAt b x at m t = (m ≡ at + length t) × (x ≡ placed t b at)

-- b was the buffer; x is it with the text t from `at` on, up to m
pub record Stands (b x : List ℕ) (at m : ℕ) (t : List ℕ) : Type 0 where
  pub put : PutAt b x at m t
  pub fits : at + length t ≤ length b

-- What has room has room for its beginning.
pub less : (b : List ℕ) (at : ℕ) (t u : List ℕ) → at + length (t ++ u) ≤ length b → at + length t ≤ length b
less b at t u h = omega (arith, length-append t u)

pub keeps : {b x : List ℕ} {at m : ℕ} {t : List ℕ} → Stands b x at m t → length x ≡ length b
keeps {b} {at = at} {t = t} s = ap length s.put.1 ∙ placed_length t b at s.fits

-- Room for what comes next.
pub room : {b x : List ℕ} {at m : ℕ} {t : List ℕ} (u : List ℕ) → Stands b x at m t → at + length (t ++ u) ≤ length b → m + length u ≤ length x
room {t = t} u s h = omega (arith, length-append t u, keeps s, s.put.0)

-- What comes next.
pub behind : {b x y : List ℕ} {at m r : ℕ} {t : List ℕ} (u : List ℕ) → Stands b x at m t → at + length (t ++ u) ≤ length b → PutAt x y m r u → Stands b y at r (t ++ u)
behind {b} {x} {y} {at} {m} {r} {t} u s h p =
    record {
      put = (
        p.0 ∙ ap (λ (k : ℕ). k + length u) s.put.0 ∙ simp (length-append, add_assoc),
        p.1
            ∙ ap (λ (l : List ℕ). placed u l m) s.put.1
            ∙ ap (placed u (placed t b at)) s.put.0
            ∙ placed_join t b at s.fits u,
      );
      fits = h;
    }

-- ---- what putting a text comes to

-- Without room everything stays.
pub no_room : (t b : List ℕ) (at : ℕ) → length b < at + length t → came at b ≡ put t b at
unfolding put
no_room t b at h = simp (lt-leb _ _ h)

-- A text that stands was put,
pub was_put : {b x : List ℕ} {at m : ℕ} {t : List ℕ} → Stands b x at m t → came m x ≡ put t b at
unfolding put
was_put {b} {x} {at} {m} {t} s =
    let whole : put t b at ≡ came (at + length t) (placed t b at) = simp (le-leb _ _ s.fits) in
    ap₂ came s.put.0 s.put.1 ∙ sym whole

-- and one that was put, and has room, stands.
pub stands : {b x : List ℕ} {at m : ℕ} {t : List ℕ} → at + length t ≤ length b → came m x ≡ put t b at → Stands b x at m t
unfolding put
stands {b} {x} {at} {m} {t} h e =
    let whole : put t b at ≡ came (at + length t) (placed t b at) = simp (le-leb _ _ h) in
    let is : came m x ≡ came (at + length t) (placed t b at) = e ∙ whole in
    record { put = (ap (λ (p : Put). p.next) is, ap (λ (p : Put). p.buffer) is); fits = h }

-- Room for what is put next, where the whole has room.
pub room_after : {x : List ℕ} {m : ℕ} (b : List ℕ) (at : ℕ) (t u : List ℕ) → at + length (t ++ u) ≤ length b → came m x ≡ put t b at → m + length u ≤ length x
room_after b at t u h e = room u (stands (less b at t u h) e) h

-- Two texts put one after the other, where the whole has room, are one text put;
pub join : {x y : List ℕ} {m r : ℕ} (b : List ℕ) (at : ℕ) (t u : List ℕ) → at + length (t ++ u) ≤ length b → came m x ≡ put t b at → came r y ≡ put u x m → came r y ≡ put (t ++ u) b at
join b at t u h e f =
    let s = stands (less b at t u h) e in
    was_put (behind u s h (stands (room u s h) f).put)

-- so are three,
pub join_3 : {x y z : List ℕ} {m n r : ℕ} (b : List ℕ) (at : ℕ) (t u v : List ℕ) → at + length (t ++ u ++ v) ≤ length b
    → came m x ≡ put t b at → came n y ≡ put u x m → came r z ≡ put v y n → came r z ≡ put (t ++ u ++ v) b at
join_3 b at t u v h e f g = join b at (t ++ u) v h (join b at t u (less b at (t ++ u) v h) e f) g

-- and four.
pub join_4 : {x y z w : List ℕ} {m n o r : ℕ} (b : List ℕ) (at : ℕ) (t u v s : List ℕ) → at + length (t ++ u ++ v ++ s) ≤ length b
    → came m x ≡ put t b at → came n y ≡ put u x m → came o z ≡ put v y n → came r w ≡ put s z o → came r w ≡ put (t ++ u ++ v ++ s) b at
join_4 b at t u v s h e f g k = join b at (t ++ u ++ v) s h (join_3 b at t u v (less b at (t ++ u ++ v) s h) e f g) k

-- Words and a number.
abbrev pub numbered : String → ℕ → List ℕ
numbered words n = codes words ++ decimal n

-- The same text in other words has the same room.
pub room_as : {t u : List ℕ} (b : List ℕ) (at : ℕ) → t ≡ u → at + length u ≤ length b → at + length t ≤ length b
room_as b at e h = rw e h

-- Two texts put one after the other are the one that they read as.
pub join_as : {x y : List ℕ} {m r : ℕ} {w : List ℕ} (b : List ℕ) (at : ℕ) (t u : List ℕ) → t ++ u ≡ w → at + length w ≤ length b
    → came m x ≡ put t b at → came r y ≡ put u x m → came r y ≡ put w b at
join_as b at t u is h e f = join b at t u (room_as b at is h) e f ∙ ap (λ (v : List ℕ). put v b at) is

-- A text chosen by a case: what is put for the case is put for the value.
pub by_case : {A : Type 0} {x y : A} {p : Put} (words : A → List ℕ) (b : List ℕ) (at : ℕ) → x ≡ y → p ≡ put (words y) b at → p ≡ put (words x) b at
by_case {A} {p = p} words b at is e = subst (λ (z : A). p ≡ put (words z) b at) (sym is) e

-- A text put at the start of a buffer is the buffer's beginning.
pub spelled : {x : List ℕ} {m : ℕ} (b t : List ℕ) → length t ≤ length b → came m x ≡ put t b 0 → (take m x ≡ t) × (m ≤ length x)
spelled {x} {m} b t h e =
    let s = stands (omega arith) e in
    let ends : m ≡ 0 + length t = s.put.0 in
    (ap (λ (n : ℕ). take n x) ends ∙ ap (take (0 + length t)) s.put.1 ∙ placed_start t b, omega (arith, keeps s))

-- A space that begins with a text, m bytes long.
pub record Begins (t x : List ℕ) (m : ℕ) : Type 0 where
  pub is : take m x ≡ t
  pub within : m ≤ length x

-- So does one of n zeroes after the text was put at its start;
pub begins : {x : List ℕ} {m : ℕ} (n : ℕ) (t : List ℕ) → length t ≤ n → came m x ≡ put t (replicate n 0) 0 → Begins t x m
begins n t h e =
    let both = spelled (replicate n 0) t (omega (arith, length-replicate {A = ℕ} n 0)) e in
    record { is = both.0; within = both.1 }

-- the bytes that are shared of it are as many;
pub as_long : {t x : List ℕ} {m : ℕ} → Begins t x m → m ≡ length (take m x)
as_long {x = x} {m} h = sym (length-take-le m x h.within)

-- and where they are put, the text is.
pub put_as : {p : Put} {t x : List ℕ} {m : ℕ} (b : List ℕ) (at : ℕ) → Begins t x m → p ≡ put (take m x) b at → p ≡ put t b at
put_as b at h e = e ∙ ap (λ (u : List ℕ). put u b at) h.is
