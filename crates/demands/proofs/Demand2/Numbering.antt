-- An accepted group holds the figure of its number balise or none, and the line of a signal shows
-- it.
-- Assumes nothing.
use mathlib.Core.Path.{◌≡◌, refl, ap, subst}
use mathlib.Core.Logic.{◌⊎◌, inl, inr}
use mathlib.Core.List.Memᴰ
use mathlib.Core.List.{List, [], ◌∷◌, Memᴰ}
use Prim.Native.Nat.{ℕ}
use Rattle.words.specs.Answer.{Outcome, gives, refuses}
use Rattle.group.specs.Balise.{then}
use Rattle.group_rows.specs.Row.{Y, Z}
use Rattle.group_rows.specs.Fitting.{fitting}
use Rattle.group.specs.declared.Content.{Content}
use Rattle.group.specs.declared.Message.{Message}
use Rattle.group.specs.Numbers.{number_or, number_of}
use Rattle.group.specs.Judge.{content_of, message_of, judge_as, judge_read, judge}
use Rattle.group_rows.specs.declared.Direction.{Direction}
use Rattle.group.specs.declared.Group.{Group}
use Rattle.group_rows.specs.declared.Kind.{Kind}
use Rattle.group.specs.declared.Number.{Number}
use Rattle.group_rows.specs.declared.Part.{Part}
use Rattle.group_rows.specs.declared.Picked.{Picked}
use Rattle.group_rows.specs.declared.Placed.{Placed}
use Rattle.ride.specs.Closing.{number_on}
use Rattle.demands.specs.Table.{parts_of}
use Rattle.demands.specs.Said.{Its-number, figure, no_figure}
use Rattle.demands.specs.Ride.{IsNumbered, of_signal, of_other}
use Rattle.demands.proofs.Common.Rules.{never}
use Rattle.demands.proofs.Demand2.Messages.{of_group}
use Rattle.words.proofs.Never.{cannot_be}

-- ---- the number of a group

-- The number found among some balises is one of theirs, or they have none.
among : (bs : List Placed) → Its-number bs (number_of bs)
unfolding number_of
among [] = no_figure (λ b n m e. Memᴰ.not-nil m)
among (b ∷ bs) = go b.part refl (among bs)
  where
    -- a balise that is none leaves what is found after it
    passes : (number : Number) → ((n : ℕ) → b.part ≡ Part.Number n → ⊥) → Its-number bs number → Its-number (b ∷ bs) number
    passes number other (figure c n m e) = figure c n (Memᴰ.tail m) e
    passes number other (no_figure none) =
        no_figure (λ c n m e. either c n e (Memᴰ.cases_cons m))
      where
        either : (c : Placed) (n : ℕ) → c.part ≡ Part.Number n → (c ≡ b) ⊎ Memᴰ c bs → ⊥
        either c n e (inl same) = other n (subst (λ (x : Placed). x.part ≡ Part.Number n) same e)
        either c n e (inr m) = none c n m e

    go : (p : Part) → b.part ≡ p → Its-number bs (number_of bs) → Its-number (b ∷ bs) (number_or p (number_of bs))
    go (Part.Number n) e rest = figure b n (Memᴰ.head refl) e
    go (Part.Figures x y z) e rest = passes (number_of bs) (λ n f. cannot_be cc) rest
    go Part.Marker e rest = passes (number_of bs) (λ n f. cannot_be cc) rest

-- The number of a message is that of its balises.
as_number : (direction : Direction) (row : Picked) (bs : List Placed) (m : Message) → judge_as direction row bs ≡ gives m → number_of bs ≡ m.number
as_number Direction.Opposite row bs m e =
    let is : message_of row (number_of bs) Content.Nothing ≡ m = cc in
    ap (λ (v : Message). v.number) is
as_number Direction.Present row bs m e = go (content_of row.kind row.speed (Y row.a.part) (Z row.a.part) bs) e
  where
    go : (c : Outcome Content) → then c (λ more. gives (message_of row (number_of bs) more)) ≡ gives m → number_of bs ≡ m.number
    go (refuses n) q = absurd (never n q)
    go (gives c) q =
        let is : message_of row (number_of bs) c ≡ m = cc in
        ap (λ (v : Message). v.number) is

read_number : (bs : List Placed) (m : Message) → judge_read bs ≡ gives m → number_of bs ≡ m.number
unfolding judge_read
read_number bs m e = go (fitting bs) e
  where
    go : (o : Outcome Picked) → then o (λ row. judge_as row.direction row bs) ≡ gives m → number_of bs ≡ m.number
    go (refuses n) q = absurd (never n q)
    go (gives row) q = as_number row.direction row bs m q

-- Every accepted group holds the figure of its number balise, or none.
pub has_number : (g : Group) (m : Message) → judge g ≡ gives m → Its-number (parts_of g) m.number
has_number = of_group (λ bs m. Its-number bs m.number) (λ bs m e. subst (Its-number bs) (read_number bs m e) (among bs))

-- ---- the number on its line

-- The number on a line is the one that the sentence gives.
pub number_so : (m : Message) (number : Number) → IsNumbered m number → number_on m.kind m.number ≡ number
number_so m number (of_signal is) = ap (λ (k : Kind). number_on k m.number) is
number_so m number (of_other other) = go m.kind refl
  where
    go : (k : Kind) → m.kind ≡ k → number_on k m.number ≡ Number.None
    go Kind.Signal e = absurd (other e)
    go Kind.Warning e = refl
    go Kind.Annulled e = refl
    go Kind.Line e = refl
    go Kind.Route e = refl

-- Every line has a number, or none.
pub number_on_law : (m : Message) → (number : Number) × IsNumbered m number
number_on_law m = go m.kind refl
  where
    go : (k : Kind) → m.kind ≡ k → (number : Number) × IsNumbered m number
    go Kind.Signal e = (m.number, of_signal e)
    go Kind.Warning e = (Number.None, of_other (λ is. cannot_be cc))
    go Kind.Annulled e = (Number.None, of_other (λ is. cannot_be cc))
    go Kind.Line e = (Number.None, of_other (λ is. cannot_be cc))
    go Kind.Route e = (Number.None, of_other (λ is. cannot_be cc))
