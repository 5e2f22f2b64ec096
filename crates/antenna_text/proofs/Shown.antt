-- The answer that says a judgement is the answer that was judged, with its place on the line.
-- Assumes nothing.
use Prim.Native.Nat.{ℕ, ◌+◌, ◌-◌, ◌≤◌, ◌<◌}
use mathlib.Core.Path.{◌≡◌, refl}
use borrow.Author.Tests.{lt-ltb, le-ltb}
use Rattle.words.specs.Limits.{largest64}
use Rattle.telegram.specs.declared.Telegram.{Telegram}
use Rattle.contact.specs.declared.Judged.{Judged}
use Rattle.contact.specs.Says.{says_judged}
use Rattle.antenna.specs.Line.{placed}
use Rattle.contact_text.specs.Lines.{heard}
use Rattle.antenna_text.specs.Lines.{shown, refused_as, judged_as, told_line, closed_before}

pub shown_whole : (n : ℕ) → n ≤ largest64 → shown n ≡ n
unfolding shown
shown_whole n h = simp (le-ltb _ _ h)

pub shown_most : (n : ℕ) → largest64 < n → shown n ≡ largest64
unfolding shown
shown_most n h = simp (lt-ltb _ _ h)

-- One answer for each case.
abbrev placed_by : ℕ → Judged → Judged
placed_by start judged = judged_as (placed start (says_judged judged))

pub is_read : {judged : Judged} (start : ℕ) {telegram : Telegram} {first count p : ℕ} → judged ≡ Judged.Read telegram first count → p ≡ shown (start + first)
    → Judged.Read telegram p count ≡ placed_by start judged
is_read start is place = rw (is, place) refl

pub is_marker_law : {judged : Judged} (start : ℕ) → judged ≡ Judged.Marker → Judged.Marker ≡ placed_by start judged
is_marker_law start is = rw is refl

pub is_not_seven : {judged : Judged} (start : ℕ) → judged ≡ Judged.NotSeven → Judged.NotSeven ≡ placed_by start judged
unfolding refused_as
is_not_seven start is = rw is refl

pub is_beyond : {judged : Judged} (start : ℕ) → judged ≡ Judged.Beyond → Judged.Beyond ≡ placed_by start judged
unfolding refused_as
is_beyond start is = rw is refl

pub is_differ : {judged : Judged} (start : ℕ) → judged ≡ Judged.Differ → Judged.Differ ≡ placed_by start judged
unfolding refused_as
is_differ start is = rw is refl

pub is_neither : {judged : Judged} (start : ℕ) → judged ≡ Judged.Neither → Judged.Neither ≡ placed_by start judged
unfolding refused_as
is_neither start is = rw is refl

-- The line that is put is that of the contact.
pub closed_is : {start : ℕ} {placed_one : Judged} (end bits : ℕ) (judged : Judged) → start ≡ end - bits → placed_one ≡ placed_by start judged
    → heard start bits placed_one ≡ told_line (closed_before end bits judged)
unfolding told_line
closed_is end bits judged from is = rw (is, from) refl
