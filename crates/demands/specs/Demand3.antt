-- Demand 3: "Noise alone decides what noise can do. For both codes, a received word is accepted
-- exactly if its set of flipped bits is itself a code word, whichever code word was sent, and then
-- reads as the sent figure with the flips' figure added bit by bit without carry. Over any stretch
-- of bits, not refused with 4 or 5, from one balise repeating one valid telegram with the set sync
-- words, if no sync bit flips and no telegram, alone or together with the next, cut ones included,
-- has more than three flipped data bits, every telegram handed out is the one sent, at its true
-- place, and every unflipped telegram lying with both its sync words in the stretch is handed out."
-- What is sent, what flips and the hypothesis on the flips: specs/Line.antt of `balise_line`. What
-- the contracts allow: specs/ByContract.antt; calls of `find` one after the other: specs/Calls.antt.
-- That all of this holds: proofs/Demand3.antt.
-- Assumes nothing.
use Rattle.std.specs.Prelude.{ℕ, Ok, ◌+◌, ◌≤◌, ◌≡◌, ◌↔◌, true, false, length, Result}
use mathlib.Core.List.{List, Memᴰ, map}
use Rattle.std.specs.Int.Bits.{bit_xor}
use Rattle.words.specs.Answer.{Answer, Outcome, gives, refuses}
use Rattle.words.specs.Why.{Why}
use Rattle.words.specs.Plain.{among, figure}
use Rattle.words.specs.Code.{exchanged}
use Rattle.words.specs.Says.{says_read}
use Rattle.telegram.specs.Place.{words_at, from, those}
use Rattle.telegram.specs.Survey.{Alike, alike}
use Rattle.telegram.specs.Says.{says_surveyed}
use Rattle.telegram.specs.declared.Telegram.{Telegram}
use Rattle.telegram.specs.declared.Found.{Found}
use Rattle.telegram.specs.declared.NotFound.{NotFound}
use Rattle.telegram.specs.declared.Surveyed.{Surveyed}
use Rattle.telegram.specs.declared.NotAlike.{NotAlike}
use Rattle.settings.specs.declared.Store.{Store}
use Rattle.settings.specs.declared.Held.{Held}
use Rattle.contact.specs.Judge.{Contact, read}
use Rattle.contact.specs.Says.{says_judged, says_judged_under}
use Rattle.contact.specs.declared.Judged.{Judged}
use Rattle.contact.specs.declared.JudgedUnder.{JudgedUnder}
use Rattle.demands.specs.Table.{not_code}
use Rattle.balise_line.specs.Line.{OneBalise, Proper, FewFlips, Clean, sent_at, flips_at, places_of}
use Rattle.demands.specs.ByContract.{ReadShort, ReadLong, Find, Survey, JudgeContact}
use Rattle.demands.specs.Stores.{AskAt, JudgeUnder}
use Rattle.demands.specs.Calls.{HandedOut, Comes}

-- An answer that gives a figure.
abbrev pub Accepted : Answer Why ℕ → Type 0
Accepted a = (x : ℕ) × (a ≡ gives x)

-- What the flips alone decide, where a word of n bits that reads x was sent, and the bits f
-- flipped: the received word is accepted exactly if f is itself a code word, and then reads x with
-- f's figure added bit by bit without carry.
pub record ByFlipsAlone (n x f : ℕ) (received : Answer Why ℕ) : Type 0 where
  pub exactly_if : Accepted received ↔ (not_code n f ≡ false)
  pub added : not_code n f ≡ false → received ≡ gives (bit_xor x (figure n (exchanged n f)))

-- The noise law of the code of n bits: `Reads w r` is that the contract of its reader allows the
-- answer r for the word w, and r says `says r`. Whichever code word c was sent, and whichever bits
-- f flipped, so that bit_xor c f is received, the flips alone decide.
abbrev pub NoiseLaw : {A : Type 0} → ℕ → (A → Answer Why ℕ) → (ℕ → A → Type 0) → Type 0
NoiseLaw {A} n says Reads =
    (c f x : ℕ) (sent received : A) → Reads c sent → Reads (bit_xor c f) received → says sent ≡ gives x → ByFlipsAlone n x f (says received)

-- The telegram m at bit p is the one sent, at its true place.
pub record TheSent (o : OneBalise) (p : ℕ) (m : Telegram) : Type 0 where
  pub true_place : sent_at o p ≡ true
  pub as_sent : m ≡ o.telegram

-- The list is all that comes of calling `find` with the stretch, and from the bit after each place,
-- until it answers 6.
abbrev pub ComesOf : OneBalise → List (Result Found NotFound) → Type 0
ComesOf o w = Comes o.buffer o.s o.t o.start o.len w

-- What judging the whole stretch says, where only the sent is heard.
pub record JudgedTheSent (o : OneBalise) (said : Outcome Contact) : Type 0 where
  -- the places never differ
  pub never_7 : said ≡ refuses 7 → ⊥
  -- what is read is what was sent, and its first place is a true one
  pub first_sent : (m : Telegram) (first count : ℕ) → said ≡ gives (read (gives m) first count) → TheSent o first m
  -- counted are the places of the stretch
  pub counted : (m : Telegram) (first count : ℕ) → said ≡ gives (read (gives m) first count) → count ≡ length (places_of o)
  -- where there are two, it is read
  pub enough : 2 ≤ length (places_of o) → (m : Telegram) × (first : ℕ) × (count : ℕ) × (said ≡ gives (read (gives m) first count))

-- What a survey of it says, likewise; one place is enough for it.
pub record SurveyedTheSent (o : OneBalise) (said : Outcome Alike) : Type 0 where
  -- the places never differ
  pub never_7 : said ≡ refuses 7 → ⊥
  -- what they read is what was sent, and the first is a true one
  pub first_sent : (m : Telegram) (first count : ℕ) → said ≡ gives (alike (gives m) first count) → TheSent o first m
  -- counted are the places of the stretch
  pub counted : (m : Telegram) (first count : ℕ) → said ≡ gives (alike (gives m) first count) → count ≡ length (places_of o)
  -- where there is one, it is read
  pub enough : 1 ≤ length (places_of o) → (m : Telegram) × (first : ℕ) × (count : ℕ) × (said ≡ gives (alike (gives m) first count))

-- "Every telegram handed out is the one sent, at its true place, and every unflipped telegram lying
-- with both its sync words in the stretch is handed out": by `find`, asked as often as one likes
-- (`every`) and until 6 (`unflipped`), and by those that take all places together, under a store of
-- settings too. All places are true and have the words sent, and the unflipped ones are among them.
pub record OnlyTheSent (o : OneBalise) : Type 0 where
  pub every : (p : ℕ) (m : Telegram) → HandedOut o.buffer o.s o.t o.start o.len p m → TheSent o p m
  pub unflipped : (w : List (Result Found NotFound)) → ComesOf o w → (p : ℕ) → sent_at o p ≡ true → flips_at o p ≡ 0
      → Memᴰ (Ok (record { place = p; telegram = o.telegram })) w
  pub all_places : (p : ℕ) → among p (places_of o) ≡ true → (sent_at o p ≡ true) × (words_at o.buffer p ≡ gives o.telegram)
  pub unflipped_places : (p : ℕ) → sent_at o p ≡ true → flips_at o p ≡ 0 → among p (places_of o) ≡ true
  pub judge : (r : Judged) → JudgeContact o.buffer o.start o.len o.s o.t r → JudgedTheSent o (says_judged r)
  pub survey : (r : Result Surveyed NotAlike) → Survey o.buffer o.start o.len o.s o.t r → SurveyedTheSent o (says_surveyed r)
  -- with the balise's sync words in force at the odometer given with the contact
  pub judge_under_law : (store : Store) (odometer : ℕ) (held : Held) (r : JudgedUnder) → AskAt store odometer (Ok held) → held.s ≡ o.s → held.t ≡ o.t
      → JudgeUnder store odometer o.buffer o.start o.len r → JudgedTheSent o (says_judged_under r)

-- What comes of a clean stretch: the telegram sent, at each true place, in order.
abbrev pub all_sent : OneBalise → List (Result Found NotFound)
all_sent o = map (λ p. Ok (record { place = p; telegram = o.telegram })) (those (sent_at o) (from o.start o.len))

-- Demand 3. Of a telegram that has flips, up to three, it says that it is handed out as it was sent
-- or not at all. It says nothing of a stretch from two balises, or of where the detector cuts a
-- stretch.
pub record Demand3 : Type 0 where
  -- "For both codes, a received word is accepted exactly if its set of flipped bits is itself a
  -- code word ..": one law, twice
  pub short_code : NoiseLaw 8 says_read ReadShort
  pub long_code : NoiseLaw 16 says_read ReadLong
  -- "Over any stretch of bits, not refused with 4 or 5, .. if no sync bit flips and no telegram ..
  -- has more than three flipped data bits .."
  pub stretch : (o : OneBalise) → Proper o → FewFlips o → OnlyTheSent o
  -- asking ends: one who is answered at every call of `find` inside the stretch comes to 6
  pub ends : (o : OneBalise) → Proper o
      → ((start len : ℕ) → o.start ≤ start → start + len ≤ o.start + o.len → (r : Result Found NotFound) × Find o.buffer start len o.s o.t r)
      → (w : List (Result Found NotFound)) × ComesOf o w
  -- if nothing flips, what comes is the telegram sent, at every true place and nowhere else
  pub clean : (o : OneBalise) → Proper o → Clean o → (w : List (Result Found NotFound)) → ComesOf o w → w ≡ all_sent o
