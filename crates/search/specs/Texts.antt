-- What a reach is printed as. Assumes nothing.
use Rattle.std.specs.Prelude.{ℕ, List, ◌++◌, codes, decimal}
use Rattle.search.specs.declared.reaches.Reach.{Reach}

abbrev pub reach_text : Reach → List ℕ
reach_text r = codes "from " ++ (decimal r.from ++ (codes " to " ++ (decimal r.to ++ (codes " behind gate " ++ decimal r.gate))))
