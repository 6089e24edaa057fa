-- Reaches as a search goes over them. Assumes nothing.
use Rattle.std.specs.Prelude.{Bool, ◌&&◌, List, map, nat_lt}
use Rattle.search.specs.declared.reaches.Direction.{Direction}
use Rattle.search.specs.declared.reaches.Direction.TheVariants.{Along, Against}
use Rattle.search.specs.declared.reaches.Reach.{Reach}

-- a reach gone over in a direction
abbrev pub turned : Direction → Reach → Reach
turned Along e = e
turned Against e = record { from = e.to; to = e.from; gate = e.gate }

-- all of them
abbrev pub all_turned : Direction → List Reach → List Reach
all_turned d es = map (turned d) es

-- both places are among the 64; any other reach leads nowhere
abbrev pub in_chart : Reach → Bool
in_chart e = nat_lt e.from 64 && nat_lt e.to 64
