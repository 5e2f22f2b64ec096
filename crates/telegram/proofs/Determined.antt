-- Each contract fixes its function's whole answer: any two answers that it allows are equal.
-- Assumes nothing.
use mathlib.Core.Path.{◌≡◌, refl, sym, ap, ◌∙◌}
use lib.Dec.{eqb}
use Rattle.std.specs.Prelude.{Result, Ok, Err, ⊤}
use Rattle.words.specs.Answer.{Outcome, gives, refuses, pick}
use Rattle.words.specs.Why.{why, are, unsaid}
use Rattle.telegram.specs.Sync.{Good}
use Rattle.telegram.specs.Stretch.{Taken}
use Rattle.telegram.specs.Telegram.{Received, bad_word}
use Rattle.telegram.specs.Spelling.{Words}
use Rattle.telegram.specs.Place.{Single, at}
use Rattle.telegram.specs.Survey.{Alike, alike}
use Rattle.telegram.specs.Says.{says_pair, says_reach, says_telegram_read, says_spelt, says_found, says_surveyed}
use Rattle.telegram.specs.declared.Telegram.{Telegram}
use Rattle.telegram.specs.declared.spelling.Spelt.{Spelt}
use Rattle.telegram.specs.declared.Found.{Found}
use Rattle.telegram.specs.declared.Surveyed.{Surveyed}
use Rattle.telegram.specs.declared.NotSeven.{NotSeven}
use Rattle.telegram.specs.declared.Beyond.{Beyond}
use Rattle.telegram.specs.declared.BadWord.{BadWord}
use Rattle.telegram.specs.declared.spelling.NotSpelt.{NotSpelt}
use Rattle.telegram.specs.declared.NotFound.{NotFound}
use Rattle.telegram.specs.declared.NotAlike.{NotAlike}
use Rattle.telegram.proofs.good_pair.Kinds as pair_kinds
use Rattle.telegram.proofs.good_pair.Reads as Pair-reads
use Rattle.telegram.proofs.read.Kinds as read_kinds
use Rattle.telegram.proofs.read.Reads as read_reads
use Rattle.telegram.proofs.spelling.spell.Kinds as spell_kinds
use Rattle.telegram.proofs.spelling.spell.Reads as spell_reads
use Rattle.telegram.proofs.inside.Kinds as inside_kinds
use Rattle.telegram.proofs.inside.Reads as inside_reads
use Rattle.telegram.proofs.bits.eight_bytes.Kinds as eight_bytes_kinds
use Rattle.telegram.proofs.bits.eight_bytes.Reads as eight_bytes_reads
use Rattle.telegram.proofs.find.Kinds as find_kinds
use Rattle.telegram.proofs.find.Reads as find_reads
use Rattle.telegram.proofs.survey.Kinds as survey_kinds
use Rattle.telegram.proofs.survey.Reads as survey_reads
use Rattle.words.proofs.Told.{Fixed}

-- From what an answer says, the answer.
abbrev pub pair_of : Outcome Good → Result ⊤ NotSeven
pair_of (gives g) = Ok tt
pair_of (refuses n) = Err (record {})

pub pair_back : (r : Result ⊤ NotSeven) → pair_of (says_pair r) ≡ r
pair_back (Ok u) = refl
pair_back (Err e) = refl

abbrev pub reach_of : Outcome Taken → Result ⊤ Beyond
reach_of (gives t) = Ok tt
reach_of (refuses n) = Err (record {})

pub reach_back : (r : Result ⊤ Beyond) → reach_of (says_reach r) ≡ r
reach_back (Ok u) = refl
reach_back (Err e) = refl

abbrev pub read_of : Received → Result Telegram BadWord
read_of (gives m) = Ok m
read_of (refuses (bad_word w (why n (are p)))) = Err (BadWord.NotCode w p)
read_of (refuses (bad_word w (why n unsaid))) = Err (BadWord.Fifteen w)

pub read_back : (r : Result Telegram BadWord) → read_of (says_telegram_read r) ≡ r
read_back (Ok t) = refl
read_back (Err (BadWord.NotCode w p)) = refl
read_back (Err (BadWord.Fifteen w)) = refl

abbrev pub spelt_of : Outcome Words → Result Spelt NotSpelt
spelt_of (gives w) = Ok (record { x = w.x; y = w.y; z = w.z })
spelt_of (refuses n) = Err (pick (eqb n 2) NotSpelt.TooLarge NotSpelt.Fifteen)

pub spelt_back : (r : Result Spelt NotSpelt) → spelt_of (says_spelt r) ≡ r
spelt_back (Ok w) = refl
spelt_back (Err NotSpelt.TooLarge) = refl
spelt_back (Err NotSpelt.Fifteen) = refl

-- Of a reading that is none, any answer will do.
abbrev pub told : {A : Type 0} → (Telegram → A) → A → Received → A
told some none (gives m) = some m
told some none (refuses b) = none

abbrev pub found_of : Outcome Single → Result Found NotFound
found_of (gives (at p m)) = told (λ t. Ok (record { place = p; telegram = t })) (Err NotFound.NoPlace) m
found_of (refuses n) = Err (pick (eqb n 4) NotFound.NotSeven (pick (eqb n 5) NotFound.Beyond NotFound.NoPlace))

pub found_back : (r : Result Found NotFound) → found_of (says_found r) ≡ r
found_back (Ok f) = refl
found_back (Err NotFound.NotSeven) = refl
found_back (Err NotFound.Beyond) = refl
found_back (Err NotFound.NoPlace) = refl

abbrev pub surveyed_of : Outcome Alike → Result Surveyed NotAlike
surveyed_of (gives (alike m first count)) = told (λ t. Ok (record { telegram = t; first = first; count = count })) (Err NotAlike.NoPlace) m
surveyed_of (refuses n) =
    Err (pick (eqb n 4) NotAlike.NotSeven (pick (eqb n 5) NotAlike.Beyond (pick (eqb n 6) NotAlike.NoPlace NotAlike.Differ)))

pub surveyed_back : (r : Result Surveyed NotAlike) → surveyed_of (says_surveyed r) ≡ r
surveyed_back (Ok s) = refl
surveyed_back (Err NotAlike.Differ) = refl
surveyed_back (Err NotAlike.NotSeven) = refl
surveyed_back (Err NotAlike.Beyond) = refl
surveyed_back (Err NotAlike.NoPlace) = refl

pub good_pair_determined : Fixed 0 pair_kinds.ps pair_kinds.r Pair-reads.Post
good_pair_determined κs a r r' x x' p q = sym (pair_back r) ∙ ap pair_of (p ∙ sym q) ∙ pair_back r'

pub read_determined : Fixed 0 read_kinds.ps read_kinds.r read_reads.Post
read_determined κs a r r' x x' p q = sym (read_back r) ∙ ap read_of (p ∙ sym q) ∙ read_back r'

pub spell_determined : Fixed 0 spell_kinds.ps spell_kinds.r spell_reads.Post
spell_determined κs a r r' x x' p q = sym (spelt_back r) ∙ ap spelt_of (p ∙ sym q) ∙ spelt_back r'

pub inside_determined : Fixed 1 inside_kinds.ps inside_kinds.r inside_reads.Post
inside_determined κs a r r' x x' p q = sym (reach_back r) ∙ ap reach_of (p ∙ sym q) ∙ reach_back r'

pub eight_bytes_determined : Fixed 1 eight_bytes_kinds.ps eight_bytes_kinds.r eight_bytes_reads.Post
eight_bytes_determined κs a r r' x x' p q = p ∙ sym q

pub find_determined : Fixed 1 find_kinds.ps find_kinds.r find_reads.Post
find_determined κs a r r' x x' p q = sym (found_back r) ∙ ap found_of (p ∙ sym q) ∙ found_back r'

pub survey_determined : Fixed 1 survey_kinds.ps survey_kinds.r survey_reads.Post
survey_determined κs a r r' x x' p q = sym (surveyed_back r) ∙ ap surveyed_of (p ∙ sym q) ∙ surveyed_back r'
