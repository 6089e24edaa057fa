-- The faulty books, and what the check of each finds. Assumes nothing.
use Rattle.std.specs.Prelude.{ℕ, List, [], ◌∷◌, Some, codes, Option}
use Rattle.books.specs.Told.{Told, told}
use Rattle.samples.specs.declared.Sample.{Sample}

-- a book, in words, and what its check tells
abbrev pub sample_told : Sample → List ℕ × Option Told
sample_told s = (s.name.now, told s.found)

-- the faults by number, each at the first place where there is one
abbrev pub faulty : List (List ℕ × Option Told)
faulty =
    (codes "257 timed gates", Some (codes "timed", 256, 12))
    ∷ (codes "passage times 20 and 0", Some (codes "timed", 1, 13))
    ∷ (codes "one timed gate and windows of gates 0 and 1", Some (codes "window", 1, 14))
    ∷ (codes "a window from 96 to 95", Some (codes "window", 0, 15))
    ∷ (codes "a tide of period 745 and length 746", Some (codes "tide", 0, 16))
    ∷ []
