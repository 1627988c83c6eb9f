-- How many words an object may have.
use Rattle.std.specs.Prelude.{ℕ}

-- the most words of an object that has a layout (f3_desc): 16,777,216 times 15, which are the words of an allocatable of rank 7 (own rule)
abbrev pub most_words : ℕ
most_words = 251658240
