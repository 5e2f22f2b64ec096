-- What is said of a closed group that was refused. Balises are counted from 0 here, in the order
-- passed.
-- Assumes nothing.
use Rattle.std.specs.Prelude.{ℕ}
use Rattle.telegram.specs.Telegram.{BadWord}

-- What is bad about a balise: it was unreadable, or this word of it ("X, Y, Z or YZ") is refused,
-- with 1 and the parity of its ones or with 3.
pub data Amiss : Type 0 where
  unreadable : Amiss
  word : BadWord → Amiss

-- Why a group is refused: so many balises (255 stands for 255 or more); the balise with this index
-- and place is bad; the first so many of so many balises open a permitted group; a figure of the
-- balise with this index and place breaks the rule of distances.
pub data Cause : Type 0 where
  balises : ℕ → Cause
  bad : ℕ → ℕ → Amiss → Cause
  opens : ℕ → ℕ → Cause
  figure : ℕ → ℕ → Cause

-- What the explainer says: nothing, or document 01's number and why.
pub data Explained : Type 0 where
  no_reason : Explained
  because : ℕ → Cause → Explained
