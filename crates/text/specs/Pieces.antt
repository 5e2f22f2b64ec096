-- Pieces of a text, put one after the other into a lent buffer, each whole or not at all.
-- Assumes nothing.
use Rattle.std.specs.Prelude.{ℕ, List, [], ◌∷◌, ◌++◌}
use Rattle.text.specs.Put.{Put, put, came}

-- Pieces put one after the other: each as `text` puts it, where the one before ended.
unfoldable pub puts : List (List ℕ) → List ℕ → ℕ → Put
puts [] buffer at = came at buffer
puts (piece ∷ pieces) buffer at = puts pieces (put piece buffer at).buffer (put piece buffer at).next

-- The text of some pieces.
abbrev pub whole : List (List ℕ) → List ℕ
whole [] = []
whole (piece ∷ pieces) = piece ++ whole pieces
