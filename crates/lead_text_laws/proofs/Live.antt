-- The lines of `live`: each call's text is that of the records that it took, and those records are
-- the lead's, one after the other.
-- Assumes nothing.
use Rattle.std.specs.Prelude.{Ok}
use Prim.Native.Nat.{ℕ, ◌+◌, ◌≤◌, ◌<◌}
use native.Mathlib.Omega.{arith}
use mathlib.Core.Path.{◌≡◌, refl, sym, ap, ap₂, ◌∙◌, subst}
use mathlib.Core.List.{List, ◌++◌, append_assoc}
use lib.ListN.{length, take, drop, take-append-drop, length-append}
use Rattle.words.specs.Limits.{largest64}
use Rattle.settings.specs.declared.Store.{Store}
use Rattle.settings.specs.At.{gap_at}
use Rattle.ride.specs.declared.Ride.{Ride}
use Rattle.recording.specs.declared.Tape.{Tape}
use Rattle.recording.specs.Recording as recording
use Rattle.recording.specs.Recording.{Taped, over_lead, the_end_meant, recorded}
use Rattle.ride_text.specs.Style.{with_reasons}
use Rattle.ride_text.specs.Told.{Told, tell_over, end_text}
use Rattle.lead_text.specs.declared.HowFar.{HowFar}
use Rattle.lead_text.specs.declared.Underway.{Underway}
use Rattle.lead_text.specs.declared.Written.{Written}
use Rattle.lead_text.specs.Places.{Place, to_come, after, after_ends}
use Rattle.lead_text.specs.List as listing
use Rattle.lead_text.specs.List.{place_of, of_frames, of_end, list_frames, list_end, at_tape}
use Rattle.lead_text.specs.Says.{says_written}
use Rattle.lead_text.proofs.Judged.{frames_listed, end_listed}
use Rattle.lead_text_laws.specs.Calls.{Fresh, ListFrames, ListEnd}
use Rattle.lead_text_laws.specs.Live.{Good, Heard, none, again, next, Closed, over, Ended, InPieces, explains, Live}
use Rattle.demands.proofs.Beside.Told.{tell_on}
use Rattle.lead_text_laws.proofs.Telling.{taken_one, some_left, count, enough, counted, Over, over_all, Full, full_some}
use Rattle.lead_text_laws.proofs.Comes.{left_of, come_after, end_after, start, comes_all, all_pieces}
use Rattle.lead_text_laws.proofs.Room.{end_put}

-- ---- some records told, and then others

-- What a ride under way has told of some records: the text, and where it stands then.
pub record Tells (gaps : ℕ → ℕ) (u : Underway) (rs : List (List ℕ)) (text : List ℕ) (last : Underway) : Type 0 where
  pub text_is : text ≡ (tell_over with_reasons gaps u.ride u.number rs).text
  pub ride_is : last.ride ≡ (tell_over with_reasons gaps u.ride u.number rs).ride
  pub number_is : last.number ≡ u.number + length rs

-- Told on from where it stood.
tells_on : (gaps : ℕ → ℕ) (u v last : Underway) (rs qs : List (List ℕ)) (t s : List ℕ) → Tells gaps u rs t v → Tells gaps v qs s last → Tells gaps u (rs ++ qs) (t ++ s) last
tells_on gaps u v last rs qs t s a b =
    let first : Told = tell_over with_reasons gaps u.ride u.number rs in
    let same : tell_over with_reasons gaps v.ride v.number qs ≡ tell_over with_reasons gaps first.ride (u.number + length rs) qs =
    ap₂ (λ (x : Ride) (n : ℕ). tell_over with_reasons gaps x n qs) a.ride_is a.number_is in
    let whole = tell_on with_reasons gaps u.ride u.number rs qs in
    record {
      text_is = ap₂ ◌++◌ a.text_is (b.text_is ∙ ap (λ (x : Told). x.text) same) ∙ sym (ap (λ (x : Told). x.text) whole);
      ride_is = b.ride_is ∙ ap (λ (x : Told). x.ride) same ∙ sym (ap (λ (x : Told). x.ride) whole);
      number_is = omega (arith, b.number_is, a.number_is, length-append rs qs);
    }

-- ---- one call

module _ (store : Store) (good : Good store) where
  abbrev gaps : ℕ → ℕ
  gaps = gap_at store

  said : (u : Underway) (frames before after : List ℕ) (r : Written) → ListFrames u store frames before r after → says_written r after ≡ of_frames store u frames before
  said u frames before after r c =
      sym (ap (says_written r) c.6) ∙ c.7 ∙ ap₂ (list_frames u store) c.4 c.5 ∙ sym (frames_listed u store frames before good)

  said_end : (u : Underway) (before after : List ℕ) (r : Written) → ListEnd u store before r after → says_written r after ≡ of_end store u before
  said_end u before after r c = sym (ap (says_written r) c.4) ∙ c.5 ∙ ap (list_end u store) c.3 ∙ sym (end_listed u store before good)

  -- ---- the pieces

  pub heard_tells : {u last : Underway} {pieces : List (List ℕ)} {text : List ℕ} → Heard store u pieces text last
      → Tells gaps u (comes_all store (place_of u) pieces).records text last × (last.tape ≡ (comes_all store (place_of u) pieces).tape)
  unfolding comes_all tell_over
  heard_tells {u} none = (record { text_is = refl; ride_is = refl; number_is = omega arith }, refl)
  heard_tells {u} {last} (next {piece = piece} {text = text} {pieces = pieces} before after' r n c e on) =
      let p : Place = place_of u in
      let x : Taped = to_come store piece p in
      let o : Over gaps u x.records (start x.tape) (after store piece p) before after' r n (said u piece before after' r c) =
      over_all gaps u x.records (start x.tape) (after store piece p) before after' r n (said u piece before after' r c) e in
      let there : place_of r.underway ≡ start x.tape = ap place_of o.then in
      let rest = heard_tells on in
      let first : Tells gaps u x.records (take n after') r.underway =
      record { text_is = o.text; ride_is = ap (λ (v : Underway). v.ride) o.then; number_is = ap (λ (v : Underway). v.number) o.then } in (
        tells_on gaps u r.underway last x.records (comes_all store (start x.tape) pieces).records (take n after') text first
            (subst (λ (q : Place). Tells gaps r.underway (comes_all store q pieces).records text last) there rest.0),
        rest.1 ∙ ap (λ (q : Place). (comes_all store q pieces).tape) there,
      )
  heard_tells {u} {last} (again {piece = piece} {text = text} {pieces = pieces} before after' r n c e on) =
      let p : Place = place_of u in
      let x : Taped = to_come store piece p in
      let rs : List (List ℕ) = x.records in
      let says = said u piece before after' r c in
      let k : ℕ = count gaps u rs (start x.tape) (after store piece p) before after' r n says in
      let f : Full gaps u rs (start x.tape) (after store piece p) before after' r n says = full_some gaps u rs (start x.tape) (after store piece p) before after' r n says e in
      let there : place_of r.underway ≡ after store piece p k = ap place_of f.then in
      let left : to_come store piece (place_of r.underway) ≡ left_of k x =
      ap (to_come store piece) there ∙ come_after store piece k p (enough gaps u rs (start x.tape) (after store piece p) before after' r n says) in
      let rest = heard_tells on in
      let more : List (List ℕ) = (comes_all store (start x.tape) pieces).records in
      let first : Tells gaps u (take k rs) (take n after') r.underway =
      record {
        text_is = f.text;
        ride_is = ap (λ (v : Underway). v.ride) f.then;
        number_is = ap (λ (v : Underway). v.number) f.then
            ∙ ap (λ (m : ℕ). u.number + m) (sym (counted gaps u rs (start x.tape) (after store piece p) before after' r n says));
      } in
      let whole : take k rs ++ (drop k rs ++ more) ≡ rs ++ more = sym (append_assoc (take k rs) (drop k rs) more) ∙ ap (λ (l : List (List ℕ)). l ++ more) (take-append-drop k rs) in (
        subst (λ (l : List (List ℕ)). Tells gaps u l (take n after' ++ text) last) whole
            (tells_on gaps u r.underway last (take k rs) (drop k rs ++ more) (take n after') text first
            (subst (λ (y : Taped). Tells gaps r.underway (y.records ++ (comes_all store (start y.tape) pieces).records) text last) left rest.0)),
        rest.1 ∙ ap (λ (y : Taped). (comes_all store (start y.tape) pieces).tape) left,
      )

  -- ---- the end

  pub closed_tells : {u last : Underway} {text : List ℕ} → Closed store u text last → Tells gaps u (the_end_meant u.tape).records text last
  closed_tells {u} (over before after' r n c e) =
      let x : Taped = the_end_meant u.tape in
      let o = over_all gaps u x.records (at_tape u x.tape) (λ m. at_tape u (after_ends u.tape m)) before after' r n (said_end u before after' r c) e in
      record { text_is = o.text; ride_is = ap (λ (v : Underway). v.ride) o.then; number_is = ap (λ (v : Underway). v.number) o.then }
  closed_tells {u} {last} (again {text = text} before after' r n c e on) =
      let x : Taped = the_end_meant u.tape in
      let rs : List (List ℕ) = x.records in
      let says = said_end u before after' r c in
      let up_to : ℕ → Place = λ m. at_tape u (after_ends u.tape m) in
      let k : ℕ = count gaps u rs (at_tape u x.tape) up_to before after' r n says in
      let f = full_some gaps u rs (at_tape u x.tape) up_to before after' r n says e in
      let left : the_end_meant r.underway.tape ≡ left_of k x =
      ap (λ (v : Underway). the_end_meant v.tape) f.then ∙ end_after k u.tape (enough gaps u rs (at_tape u x.tape) up_to before after' r n says) in
      let first : Tells gaps u (take k rs) (take n after') r.underway =
      record {
        text_is = f.text;
        ride_is = ap (λ (v : Underway). v.ride) f.then;
        number_is = ap (λ (v : Underway). v.number) f.then
            ∙ ap (λ (m : ℕ). u.number + m) (sym (counted gaps u rs (at_tape u x.tape) up_to before after' r n says));
      } in
      subst (λ (l : List (List ℕ)). Tells gaps u l (take n after' ++ text) last) (take-append-drop k rs)
      (tells_on gaps u r.underway last (take k rs) (drop k rs) (take n after') text first
      (subst (λ (y : Taped). Tells gaps r.underway y.records text last) left (closed_tells on)))

  -- ---- all of it

  lines : (lead : List ℕ) (pieces : List (List ℕ)) (f u v : Underway) (heard closed ended : List ℕ) → InPieces lead pieces
      → Fresh f → Heard store f pieces heard u → Closed store u closed v → Ended v.ride ended
      → heard ++ closed ++ ended ≡ explains store (recorded store lead)
  unfolding explains recorded listing.fresh
  lines lead pieces f u v heard closed ended cut fresh h c e =
      let x : Taped = over_lead store lead recording.fresh in
      let begins : f ≡ listing.fresh = fresh.1 in
      let comes : comes_all store (place_of f) pieces ≡ x =
      ap (λ (g : Underway). comes_all store (place_of g) pieces) begins ∙ all_pieces store pieces cut.rest recording.fresh cut.whole (omega (arith, cut.few))
      ∙ ap (λ (l : List ℕ). over_lead store l recording.fresh) (sym cut.all) in
      let first = heard_tells h in
      let tape_is : u.tape ≡ x.tape = first.1 ∙ ap (λ (y : Taped). y.tape) comes in
      let a : Tells gaps f x.records heard u = subst (λ (y : Taped). Tells gaps f y.records heard u) comes first.0 in
      let b : Tells gaps u (the_end_meant x.tape).records closed v = subst (λ (t : Tape). Tells gaps u (the_end_meant t).records closed v) tape_is (closed_tells c) in
      let all : Tells gaps listing.fresh (x.records ++ (the_end_meant x.tape).records) (heard ++ closed) v =
      subst (λ (g : Underway). Tells gaps g (x.records ++ (the_end_meant x.tape).records) (heard ++ closed) v) begins
      (tells_on gaps f u v x.records (the_end_meant x.tape).records heard closed a b) in
      ap₂ ◌++◌ all.text_is (end_put e ∙ ap (end_text with_reasons) all.ride_is)

  goes_on : (u : Underway) (frames before after' : List ℕ) (r : Written) (n : ℕ) → 320 ≤ length before → u.number < largest64
      → ListFrames u store frames before r after' → r.how ≡ Ok (HowFar.Full n) → u.number < r.underway.number
  goes_on u frames before after' r n wide low c e =
      let p : Place = place_of u in
      let x : Taped = to_come store frames p in
      let says = said u frames before after' r c in
      let f = full_some gaps u x.records (start x.tape) (after store frames p) before after' r n says e in
      let one = taken_one gaps u.ride u.number (length before) x.records (some_left (count gaps u x.records (start x.tape) (after store frames p) before after' r n says) x.records f.left) wide low in
      omega (arith, ap (λ (v : Underway). v.number) f.then)

pub live : Live
live = record {
  lines = λ store lead pieces f u v heard closed ended good cut fresh h c e. lines store good lead pieces f u v heard closed ended cut fresh h c e;
  goes_on = λ store u frames before after' r n good wide low c e. goes_on store good u frames before after' r n wide low c e;
}
