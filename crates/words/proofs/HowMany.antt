-- The ones of a word, counted, for those who look for them among the laws.
-- Assumes nothing.
unfoldable pub use Rattle.words.specs.Bits.{ones_of}
