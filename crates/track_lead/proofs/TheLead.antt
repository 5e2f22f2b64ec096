-- Block by block and thing by thing, what is written is the lead of the text.
-- Assumes nothing.
use Prim.Native.Nat.{ℕ, zero, suc, ◌+◌, ◌-◌, ◌*◌, ◌≤◌, ◌<◌}
use mathlib.Core.Path.{◌≡◌, refl, sym, ap, ap₂, ◌∙◌, subst}
use mathlib.Core.Bool.{Bool, true, false}
use mathlib.Core.List.{List, [], ◌∷◌, ◌++◌, append_assoc}
use native.Mathlib.Omega.{arith}
use native.Mathlib.Nat.{mul-sub, mul-le-mul_left}
use Rattle.words.specs.Answer.{gives, pick}
use Rattle.track_lead.specs.declared.Thing.{Thing}
use Rattle.track_lead.specs.declared.TrackWay.{TrackWay}
use Rattle.track_lead.specs.declared.Feed.{Feed}
use Rattle.track_lead.specs.Way.{is_sent, from, until, fresh}
use Rattle.track_lead.specs.Feed.{begin, passes, frames}
use Rattle.track_lead.specs.Lead.{Item, way_from, way_of, Over, first_frame, latest, nothing, line_at, frame_at, frames_at, lead_of}
use Rattle.track_lead.specs.Laws.{left, all_to, fed, FeedsTheLead}
use Rattle.track_lead.proofs.Latest.{Rising, rises, reaches, not_yet, begun, position, soon}
use Rattle.track_lead.proofs.Run.{Stands, frame_with, frames_with, runs}

module _ (n s t first : ℕ) (some : 0 < n) where
  -- No line is to come.
  not_yet_any : (j : ℕ) (over : Over) → latest n first [] j over ≡ over
  unfolding latest
  not_yet_any j over = refl

  -- Frames from frame k on, with a thing begun and these lines still to come.
  unfoldable pub frames_from : Over → List Item → ℕ → ℕ → List ℕ
  frames_from over items k zero = []
  frames_from over items k (suc m) = frame_with n s t first some (latest n first items k over) k ++ frames_from over items (k + 1) m

  split : (a b : ℕ) (over : Over) (items : List Item) (k : ℕ) → frames_from over items k (a + b) ≡ frames_from over items k a ++ frames_from over items (k + a) b
  unfolding frames_from
  split zero b over items k =
      let e : 0 + b ≡ b = omega arith in
      let f : k ≡ k + 0 = omega arith in
      ap₂ (λ (i m : ℕ). frames_from over items i m) f e
  split (suc a) b over items k =
      let e : suc a + b ≡ suc (a + b) = omega arith in
      let f : k + 1 + a ≡ k + suc a = omega arith in
      let here = frame_with n s t first some (latest n first items k over) k in
      ap (frames_from over items k) e
      ∙ ap (λ (l : List ℕ). here ++ l) (split a b over items (k + 1) ∙ ap (λ (i : ℕ). frames_from over items (k + 1) a ++ frames_from over items i b) f)
      ∙ sym (append_assoc here (frames_from over items (k + 1) a) (frames_from over items (k + suc a) b))

  -- They depend on what has begun in each of them.
  alike : (m : ℕ) (over other : Over) (items others : List Item) (k : ℕ) → ((j : ℕ) → k ≤ j → j < k + m → latest n first items j over ≡ latest n first others j other)
      → frames_from over items k m ≡ frames_from other others k m
  unfolding frames_from
  alike zero over other items others k same = refl
  alike (suc m) over other items others k same =
      ap₂ (λ (o : Over) (l : List ℕ). frame_with n s t first some o k ++ l) (same k (omega arith) (omega arith))
      (alike m over other items others (k + 1) (λ j low high. same j (omega arith) (omega arith)))

  as_with : (m : ℕ) (over : Over) (items : List Item) (k : ℕ) → ((j : ℕ) → k ≤ j → j < k + m → latest n first items j over ≡ over)
      → frames_from over items k m ≡ frames_with n s t first some over k m
  unfolding frames_from frames_with
  as_with zero over items k same = refl
  as_with (suc m) over items k same =
      ap₂ (λ (o : Over) (l : List ℕ). frame_with n s t first some o k ++ l) (same k (omega arith) (omega arith))
      (as_with m over items (k + 1) (λ j low high. same j (omega arith) (omega arith)))

  -- How many frames a feed has left before a decimetre.
  lefts : (feed : Feed) (over : Over) (k to : ℕ) → Stands n s t first some feed over k → first ≤ to → left feed to ≡ first_frame n first to - k
  lefts feed over k to here low =
      let e : to - (first + here.q) ≡ to - first - here.q = omega arith in
      ap₂ (λ (a b : ℕ). a * (to - b) - feed.nth) here.n_is here.place_is
      ∙ ap (λ (x : ℕ). n * x - feed.nth) e ∙ ap₂ ◌-◌ (mul-sub n (to - first) here.q) here.nth_is ∙ omega (arith, here.at)

  -- All of them.
  all_of_them : (feed : Feed) (over : Over) (k to : ℕ) → Stands n s t first some feed over k → first ≤ to → k ≤ first_frame n first to
      → ((all_to feed to).bytes ≡ frames_with n s t first some over k (first_frame n first to - k)) × Stands n s t first some (all_to feed to).feed over (first_frame n first to)
  all_of_them feed over k to here low room =
      let m = first_frame n first to - k in
      let r = runs n s t first some m feed over k to here low (omega arith) in
      let e : k + m ≡ first_frame n first to = omega arith in
      let is = lefts feed over k to here low in (
        ap (λ (i : ℕ). (frames feed to i).bytes) is ∙ r.0,
        subst (λ (i : ℕ). Stands n s t first some (frames feed to i).feed over (first_frame n first to)) (sym is) (subst (Stands n s t first some (frames feed to m).feed over) e r.1),
      )

  -- At the first frame of a decimetre a thing begins.
  begins : (feed : Feed) (over : Over) (place : ℕ) (thing : Thing) → Stands n s t first some feed over (first_frame n first place)
      → Stands n s t first some (passes feed thing) (record { thing = thing; since = first_frame n first place }) (first_frame n first place)
  unfolding passes
  begins feed over place thing here =
      record {
        q = here.q;
        r = here.r;
        n_is = here.n_is;
        s_is = here.s_is;
        t_is = here.t_is;
        at = here.at;
        r_low = here.r_low;
        place_is = here.place_is;
        nth_is = here.nth_is;
        thing_is = refl;
        began = omega arith;
        since_is = omega arith;
      }

  -- The lines from here on.
  pub onward : (items : List Item) (low last to k : ℕ) (feed : Feed) (over : Over) → Rising low last items → first ≤ low → last ≤ to
      → k ≤ first_frame n first low → Stands n s t first some feed over k → fed feed items to ≡ frames_from over items k (first_frame n first to - k)
  unfolding fed
  onward [] low last to k feed over rising from_there high soon-there here =
      let end : first_frame n first low ≤ first_frame n first to = mul-le-mul_left n (omega (arith, rising)) in
      (all_of_them feed over k to here (omega (arith, rising)) (omega (arith, end))).0
      ∙ sym (as_with (first_frame n first to - k) over [] k (λ j l h. not_yet_any j over))
  onward (item ∷ items) low last to k feed over rising from_there high soon-there here =
      by (is_sent item.thing) refl
      (λ feed' over' k' near stands. onward items item.place last to k' feed' over' rising.1 (omega (arith, rising.0)) high near stands)
    where
      f : ℕ
      f = first_frame n first item.place

      total : ℕ
      total = first_frame n first to

      later : first_frame n first low ≤ f
      later = mul-le-mul_left n (omega (arith, rising.0))

      within : f ≤ total
      within = mul-le-mul_left n (let l = rises item.place last items rising.1 in omega arith)

      by : (b : Bool) → is_sent item.thing ≡ b
          → ((feed' : Feed) (over' : Over) (k' : ℕ) → k' ≤ f → Stands n s t first some feed' over' k' → fed feed' items to ≡ frames_from over' items k' (total - k'))
          → pick b ((all_to feed item.place).bytes ++ fed (passes (all_to feed item.place).feed item.thing) items to) (fed feed items to)
          ≡ frames_from over (item ∷ items) k (total - k)
      by false is rest = rest feed over k (omega (arith, later)) here ∙ alike (total - k) over over items (item ∷ items) k (λ j l h. sym (position n first item items j over is))
      by true is rest =
          let there = all_of_them feed over k item.place here (omega (arith, rising.0)) (omega (arith, later)) in
          let now : Over = record { thing = item.thing; since = f } in
          let after_it = rest (passes (all_to feed item.place).feed item.thing) now f (omega arith) (begins (all_to feed item.place).feed over item.place item.thing there.1) in
          let first_part : frames_with n s t first some over k (f - k) ≡ frames_from over (item ∷ items) k (f - k) =
          sym (as_with (f - k) over (item ∷ items) k
          (λ j l h. soon n first item items j over (omega (arith, later)) ∙ not_yet n first items item.place last j over rising.1 (omega (arith, rising.0)) (omega (arith, later)))) in
          let second_part : frames_from now items f (total - f) ≡ frames_from over (item ∷ items) f (total - f) =
          alike (total - f) now over items (item ∷ items) f (λ j l h. sym (begun n first item items j over is l)) in
          let e : total - k ≡ f - k + (total - f) = omega (arith, later, within) in
          let g : k + (f - k) ≡ f = omega (arith, later) in
          ap₂ ◌++◌ (there.0 ∙ first_part) (after_it ∙ second_part)
          ∙ sym (ap (frames_from over (item ∷ items) k) e ∙ split (f - k) (total - f) over (item ∷ items) k
          ∙ ap (λ (i : ℕ). frames_from over (item ∷ items) k (f - k) ++ frames_from over (item ∷ items) i (total - f)) g)

  -- With no thing begun they are the lead's frames.
  pub as_lead : (m : ℕ) (items : List Item) (k : ℕ) → frames_from nothing items k m ≡ frames_at n s t first items k m
  unfolding frames_from frames_at frame_at line_at
  as_lead zero items k = refl
  as_lead (suc m) items k = ap (λ (l : List ℕ). frame_with n s t first some (latest n first items k nothing) k ++ l) (as_lead m items (k + 1))

-- A feed at its beginning stands at frame 0.
at_the_first : (n s t : ℕ) (way : TrackWay) (some : 0 < n) → Stands n s t (from way) some (begin way n s t) nothing 0
unfolding begin
at_the_first n s t way some =
    record {
      q = 0;
      r = 0;
      n_is = refl;
      s_is = refl;
      t_is = refl;
      at = omega arith;
      r_low = some;
      place_is = omega arith;
      nth_is = refl;
      thing_is = refl;
      began = omega arith;
      since_is = refl;
    }

-- A text without a line has no frame.
nothing_fed : (n s t : ℕ) (way : TrackWay) → 0 < n → way_of [] ≡ gives way → fed (begin way n s t) [] (until way) ≡ frames_at n s t (from way) [] 0 (n * (until way - from way))
unfolding way_of way_from fed fresh begin from until frames frames_at
nothing_fed n s t way some is =
    let same : fresh ≡ way = cc in
    let none : n * (0 - 0) ≡ 0 = omega arith in
    subst (λ (w : TrackWay). fed (begin w n s t) [] (until w) ≡ frames_at n s t (from w) [] 0 (n * (until w - from w))) same
    (ap (λ (m : ℕ). (frames (begin fresh n s t) 0 m).bytes) (let e : n * (0 - 0) - 0 ≡ 0 = omega arith in e) ∙ ap (λ (m : ℕ). frames_at n s t 0 [] 0 m) (sym none))

pub feeds_the_lead : FeedsTheLead
unfolding lead_of
feeds_the_lead n s t [] way some is = nothing_fed n s t way some is
feeds_the_lead n s t (item ∷ items) way some is =
    let r = reaches item items way is in
    let m = first_frame n (from way) (until way) in
    let e : m - 0 ≡ m = omega arith in
    onward n s t (from way) some (item ∷ items) (from way) way.last (until way) 0 (begin way n s t) nothing r.rising (omega arith) r.ends (omega arith)
    (at_the_first n s t way some)
    ∙ ap (frames_from n s t (from way) some nothing (item ∷ items) 0) e ∙ as_lead n s t (from way) some m (item ∷ items) 0
