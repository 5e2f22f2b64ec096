-- Figures and bytes: every figure of a state is eight bytes, the highest first.
-- Assumes nothing.
use Rattle.std.specs.Prelude.{ℕ, zero, suc, ◌+◌, ◌-◌, ◌*◌, ◌/◌, ◌%◌, ◌^◌, List, [], ◌∷◌, ◌++◌, ltb, length, get_or}
use Rattle.words.specs.Answer.{pick}

-- What a rule gives for each number below n, in order.
unfoldable pub each : {A : Type 0} → ℕ → (ℕ → A) → List A
each zero f = []
each (suc n) f = each n f ++ (f n ∷ [])

-- Byte k of a figure's eight.
unfoldable pub byte_of : ℕ → ℕ → ℕ
byte_of figure k = figure / 2 ^ (8 * (7 - k)) % 256

-- Byte j of some figures in a row: byte j % 8 of figure j / 8; 0 beyond the last.
abbrev pub byte_among : List ℕ → ℕ → ℕ
byte_among figures j = byte_of (get_or figures (j / 8) 0) (j % 8)

-- The first n bytes of some figures in a row.
unfoldable pub spread : ℕ → List ℕ → List ℕ
spread n figures = each n (byte_among figures)

-- Four bytes as a number.
abbrev pub high_first : ℕ → ℕ → ℕ → ℕ → ℕ
high_first a b c d = ((a * 256 + b) * 256 + c) * 256 + d

-- The eight bytes from figure i on as a number.
unfoldable pub eight_at : List ℕ → ℕ → ℕ
eight_at bytes i =
    high_first (get_or bytes (8 * i) 0) (get_or bytes (8 * i + 1) 0) (get_or bytes (8 * i + 2) 0) (get_or bytes (8 * i + 3) 0) * 4294967296
    + high_first (get_or bytes (8 * i + 4) 0) (get_or bytes (8 * i + 5) 0) (get_or bytes (8 * i + 6) 0) (get_or bytes (8 * i + 7) 0)

-- Figure i of some bytes; 0 where they end before it does.
unfoldable pub figure_at_meant : List ℕ → ℕ → ℕ
figure_at_meant bytes i = pick (ltb i (length bytes / 8)) (eight_at bytes i) 0
