-- What is printed of gates, passages and labels. Assumes nothing.
use Rattle.std.specs.Prelude.{ℕ, List, ◌++◌, Some, None, codes, decimal, Option}

-- a gate, with the word for its kind
abbrev pub gate_text : List ℕ → ℕ → List ℕ
gate_text kind g = kind ++ (codes " gate " ++ decimal g)

-- the answer of `first` or `last`
abbrev pub passage_text : Option (ℕ × ℕ) → List ℕ
passage_text None = codes "no passage"
passage_text (Some p) = codes "enters " ++ (decimal p.0 ++ (codes ", exits " ++ decimal p.1))

-- the label of a place in a row of a search
abbrev pub cell_text : Option ℕ → List ℕ
cell_text None = codes "-"
cell_text (Some n) = decimal n
