-- Thing after thing: the contacts of the whole line are those of the things, and their records the
-- text's.
-- Assumes nothing.
use Prim.Native.Nat.{ℕ, ◌+◌, ◌-◌, ◌*◌, ◌/◌, ◌%◌, ◌^◌, ◌≤◌, ◌<◌}
use mathlib.Core.Path.{◌≡◌, refl, sym, ap, ap₂, ◌∙◌}
use mathlib.Core.Bool.{Bool, true, false}
use mathlib.Core.List.{List, [], ◌∷◌}
use native.Mathlib.Omega.{arith}
use native.Mathlib.Nat.{mul-le-mul_left, mul-add}
use lib.ListN.{length}
use Rattle.words.specs.Answer.{gives}
use Rattle.words.proofs.Never.{cannot_be}
use Rattle.telegram.specs.Stretch.{bit_at}
use Rattle.settings.specs.declared.Store.{Store}
use Rattle.contact.specs.Contacts.{outside, Contacts, contacts}
use Rattle.contact_laws.specs.Pass.{Ones}
use Rattle.contact_laws.proofs.Walk.{Still}
use Rattle.contact_laws.proofs.Over.{ones_last}
use Rattle.antenna.specs.Line.{judged_all, cut}
use Rattle.recording.specs.Recording.{frames_of}
use Rattle.recording.specs.Contacts.{line_in, s_in, t_in, records_for}
use Rattle.recording.specs.Document.{whole_line}
use Rattle.recording.proofs.Document.{all_length, bit_of}
use Rattle.track_lead.specs.declared.Thing.{Thing}
use Rattle.track_lead.specs.declared.TrackWay.{TrackWay}
use Rattle.track_lead.specs.Way.{highest, is_sent, take}
use Rattle.track_lead.specs.Sent.{sends}
use Rattle.track_lead.specs.Sent as sent_specs
use Rattle.track_lead.specs.Lead.{Item, way_from, Over, first_frame, latest, nothing, line_at, odometer_at, frames_at}
use Rattle.track_lead.proofs.Latest.{given_then, TakenSo, taken_so, begun, position, soon}
use Rattle.track_laws.specs.Sure.{Pair, SureThing, Sure, with_item, records_of}
use Rattle.track_laws.specs.WholeWay.{Throughout}
use Rattle.track_laws.proofs.Apart.{SentFrom, weaker, apart, thing_then, none_yet, Fit}
use Rattle.track_laws.proofs.Frames.{the_line, frames_long}
use Rattle.track_laws.proofs.InForce.{kept_there}
use Rattle.track_laws.proofs.Stream.{bit_or, in_frame, ones_after}
use Rattle.track_laws.proofs.Steps.{Step, thing_step}

module _ (n s t begin : ℕ) (all : List Item) (some : 0 < n) (m : ℕ) (store : Store) (pair : Pair s t) (held : Throughout store s t)
    (low : (k : ℕ) → k < m → odometer_at n begin k ≤ highest) (small : 96 * m < 2 ^ 64) where
  abbrev lead : List ℕ
  lead = frames_at n s t begin all 0 m

  abbrev b : List ℕ
  b = whole_line lead

  abbrev end : ℕ
  end = 96 * m

  frames_are : frames_of lead ≡ m
  frames_are = omega (arith, frames_long n s t begin all m 0)

  pub fits : end ≤ 8 * length b
  fits = omega (arith, frames_are, all_length lead (frames_of lead) (omega (arith, frames_long n s t begin all m 0)))

  -- A bit of it, by the thing begun in its frame.
  bit_is : (over : Over) (j : ℕ) → 96 * over.since ≤ j → j < end → latest n begin all (j / 96) nothing ≡ over → bit_at b j ≡ bit_or (sends s t over.thing) (j - 96 * over.since)
  unfolding line_at
  bit_is over j since soon-there is =
      let k = j / 96 in
      let e : 96 * (k - over.since) + j % 96 ≡ j - 96 * over.since = omega arith in
      sym (bit_of lead (frames_of lead) j (omega (arith, frames_long n s t begin all m 0)) (omega (arith, frames_are)))
      ∙ ap (λ (l : List ℕ). bit_at l (j % 96)) (the_line n s t begin all m k (omega arith))
      ∙ ap (λ (o : Over). bit_at (sent_specs.line_in s t o.thing (k - o.since)) (j % 96)) is
      ∙ in_frame s t over.thing (k - over.since) (j % 96) (omega arith) ∙ ap (bit_or (sends s t over.thing)) e

  -- Where the chain stands: these lines are to come, this thing has begun, and from bit i on it
  -- sends ones.
  pub record Here (rest : List Item) (over : Over) (i : ℕ) : Type 0 where
    pub same : (k : ℕ) → over.since ≤ k → latest n begin all k nothing ≡ latest n begin rest k over
    pub began : 96 * over.since ≤ i
    pub ones : (j : ℕ) → i ≤ j → bit_or (sends s t over.thing) (j - 96 * over.since) ≡ 1

  quiet_until : (rest : List Item) (over : Over) (i stop : ℕ) → Here rest over i → stop ≤ end
      → ((k : ℕ) → over.since ≤ k → 96 * k < stop → latest n begin rest k over ≡ over) → Ones b i stop
  quiet_until rest over i stop here within none j l h =
      let since : over.since ≤ j / 96 = omega (arith, here.began) in
      bit_is over j (omega (arith, here.began)) (omega arith) (here.same (j / 96) since ∙ none (j / 96) since (omega arith)) ∙ here.ones j l

  -- What comes of the line from bit i on.
  abbrev pub Done : List Item → ℕ → ℕ → Type 0
  Done rest i h =
      (records_for lead (judged_all b (s_in store lead) (t_in store lead) (contacts b outside h i (end - i))) ≡ records_of rest) × (cut (contacts b outside h i (end - i)) ≡ false)

  pub nothing_more : (over : Over) (i h : ℕ) → Here [] over i → Still h → i ≤ end → Done [] i h
  unfolding records_for judged_all records_of latest
  nothing_more over i h here still within =
      let is = ones_last b h i end still within (quiet_until [] over i end here (omega arith) (λ k l e. refl)) in
      (ap (λ (w : Contacts). records_for lead (judged_all b (s_in store lead) (t_in store lead) w)) is, ap cut is)

  -- A thing's contact, and then the others.
  pub with_step : (item : Item) (rest : List Item) (i h long : ℕ) (bytes : List ℕ) → begin ≤ item.place → first_frame n begin item.place + 4 ≤ m
      → (st : Step b s t h i (96 * first_frame n begin item.place) long end item.place bytes) → Done rest st.next st.later → records_of (item ∷ rest) ≡ bytes ∷ records_of rest
      → Done (item ∷ rest) i h
  unfolding records_for judged_all
  with_step item rest i h long bytes after-begin room st on is = (
    ap (λ (w : Contacts). records_for lead (judged_all b (s_in store lead) (t_in store lead) w)) st.is
        ∙ ap₂ (λ (r : List ℕ) (rs : List (List ℕ)). r ∷ rs) (kept_there n s t begin all some m low store held item.place st.skipped st.len bytes after-begin (omega arith) st.in_first st.kept) on.0 ∙ sym is,
    ap cut st.is ∙ on.1,
  )

  -- Where the chain stands after a thing.
  module _ (item : Item) (rest : List Item) (over : Over) (i : ℕ) (here : Here (item ∷ rest) over i) (is-sent : is_sent item.thing ≡ true)
      (after-begin : begin ≤ item.place) (room : first_frame n begin item.place + 4 ≤ m) (reach : i ≤ 96 * first_frame n begin item.place) (others : SentFrom (item.place + 4) rest) where
    -- Its first frame.
    abbrev f : ℕ
    f = first_frame n begin item.place

    abbrev now : Over
    now = record { thing = item.thing; since = f }

    four_on : f + 4 ≤ first_frame n begin (item.place + 4)
    four_on =
        let e : item.place + 4 - begin ≡ item.place - begin + 4 = omega arith in
        let more : n * (item.place - begin + 4) ≡ n * (item.place - begin) + n * 4 = mul-add n (item.place - begin) 4 in
        let is : first_frame n begin (item.place + 4) ≡ n * (item.place - begin + 4) = ap (λ (x : ℕ). n * x) e in
        omega (arith, more, is)

    then_same : (k : ℕ) → f ≤ k → latest n begin all k nothing ≡ latest n begin rest k now
    then_same k late = here.same k (omega (arith, here.began)) ∙ begun n begin item rest k over is-sent late

    its_bits : (j : ℕ) → j < 384 → bit_at b (96 * f + j) ≡ bit_or (sends s t item.thing) j
    its_bits j less =
        let at = 96 * f + j in
        let e : at - 96 * f ≡ j = omega arith in
        bit_is now at (omega arith) (omega arith)
        (then_same (at / 96) (omega arith) ∙ none_yet n begin rest (item.place + 4) (at / 96) now others (omega (arith, four_on)))
        ∙ ap (bit_or (sends s t item.thing)) e

    ones_before : Ones b i (96 * f)
    ones_before =
        quiet_until (item ∷ rest) over i (96 * f) here (omega arith)
        (λ k l e. soon n begin item rest k over (omega arith) ∙ none_yet n begin rest item.place k over (weaker item.place (item.place + 4) rest (omega arith) others) (omega arith))

    stands_then : (next : ℕ) → 96 * f + 8 * length (sends s t item.thing) ≤ next
        → Here rest now next
    stands_then next past =
        record {
          same = then_same;
          began = omega arith;
          ones = λ j l. ones_after (sends s t item.thing) (j - 96 * f) (omega arith);
        }

    reaches_next : (next : ℕ) → next ≤ 96 * f + 300 → next ≤ 96 * first_frame n begin (item.place + 4)
    reaches_next next near = omega (arith, four_on)

    -- Its contact, and then the others.
    sent_one : (h : ℕ) → Still h → item.place ≤ highest → SureThing s t item.place item.thing
        → ((i' h' : ℕ) → Here rest now i' → Still h' → i' ≤ 96 * first_frame n begin (item.place + 4) → i' ≤ end → Done rest i' h')
        → Done (item ∷ rest) i h
    unfolding records_of
    sent_one h still high sure on =
        let left = thing_step b s t pair h i (96 * f) end item.place still reach ones_before (omega arith) fits small high item.thing is-sent sure its_bits in
        let st = left.step in
        with_step item rest i h (8 * length (sends s t item.thing)) left.bytes after-begin room st
        (on st.next st.later (stands_then st.next st.past) st.still (reaches_next st.next st.near) (let near = st.near in omega arith))
        (left.recorded (records_of rest))

  -- A position changes nothing.
  passed_position : (item : Item) (rest : List Item) (over : Over) (i : ℕ) → Here (item ∷ rest) over i → is_sent item.thing ≡ false → Here rest over i
  passed_position item rest over i here is = record { same = λ k l. here.same k l ∙ position n begin item rest k over is; began = here.began; ones = here.ones }

  no_record : (item : Item) (rest : List Item) (x : Thing) → item.thing ≡ x → is_sent item.thing ≡ false → records_of rest ≡ records_of (item ∷ rest)
  unfolding records_of
  no_record item rest (Thing.Balise x y z) e is = cannot_be (let z : ◌≡◌ {A = Bool} true false = sym (ap is_sent e) ∙ is in cc)
  no_record item rest Thing.Marker e is = cannot_be (let z : ◌≡◌ {A = Bool} true false = sym (ap is_sent e) ∙ is in cc)
  no_record item rest Thing.Unreadable e is = cannot_be (let z : ◌≡◌ {A = Bool} true false = sym (ap is_sent e) ∙ is in cc)
  no_record item rest Thing.Nothing e is = ap (λ (v : Thing). with_item item.place v (records_of rest)) (sym e)

  position_one : (item : Item) (rest : List Item) (over : Over) (i h : ℕ) → Here (item ∷ rest) over i → is_sent item.thing ≡ false → Done rest i h → Done (item ∷ rest) i h
  position_one item rest over i h here is on = (on.0 ∙ no_record item rest item.thing refl is, on.1)

  -- Line after line.
  pub chain : (rest : List Item) (way last : TrackWay) (over : Over) (i h q : ℕ) → way_from way rest ≡ gives last → Here rest over i → Still h → i ≤ end
      → SentFrom q rest → i ≤ 96 * first_frame n begin q → Fit n begin m rest → Sure s t rest → Done rest i h
  unfolding way_from
  chain [] way last over i h q is here still within from_there reach fit sure = nothing_more over i h here still within
  chain (item ∷ rest) way last over i h q is here still within from_there reach fit sure =
      let g = given_then (take way item.place item.thing) (λ next. way_from next rest) last is in
      let taken = taken_so way item.place item.thing g.0 g.1 in
      by (is_sent item.thing) refl g.0 taken g.2
      (λ over' i' h' q' here' still' within' from' reach'. chain rest g.0 last over' i' h' q' g.2 here' still' within' from' reach' fit.1 sure.1)
    where
      by : (c : Bool) → is_sent item.thing ≡ c → (next : TrackWay) → TakenSo way item.place item.thing next → way_from next rest ≡ gives last
          → ((over' : Over) (i' h' q' : ℕ) → Here rest over' i' → Still h' → i' ≤ end → SentFrom q' rest → i' ≤ 96 * first_frame n begin q' → Done rest i' h')
          → Done (item ∷ rest) i h
      by false e next taken goes on = position_one item rest over i h here e (on over i h q (passed_position item rest over i here e) still within from_there.1 reach)
      by true e next taken goes on =
          let room = fit.0 e in
          let p = from_there.0 e in
          let nearer : first_frame n begin q ≤ first_frame n begin item.place = mul-le-mul_left n (omega arith) in
          let others = apart next rest last item.place goes (thing_then way item next true taken e) in
          sent_one item rest over i here e room.0 room.1 (omega (arith, nearer)) others h still taken.low sure.0
          (λ i' h' here' still' reach' within'. on (record { thing = item.thing; since = first_frame n begin item.place }) i' h' (item.place + 4) here' still' within' others reach')
