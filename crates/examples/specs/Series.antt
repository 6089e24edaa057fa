-- Changes that are made one after another. Assumes nothing.
use Rattle.std.specs.Prelude.{ℕ, ◌+◌, ◌*◌, ◌%◌}
use Rattle.std.specs.Int.NonZero.{non_zero_u16_get}
use Rattle.search.specs.declared.reaches.Reach.{Reach}
use Rattle.examples.specs.declared.series.Change.{Change}
use Rattle.examples.specs.declared.series.Change.TheVariants.{Lay}
use Rattle.examples.specs.declared.series.Scatter.{Scatter}
use Rattle.examples.specs.declared.series.Series.{Series}
use Rattle.examples.specs.declared.series.Series.TheVariants.{Same, Chain, Scattered}

-- the number that comes after x in the sequence
abbrev pub moved : ℕ → ℕ
moved x = (75 * x + 74) % 65537

-- the reach that takes the next three numbers
abbrev pub scattered : Scatter → Reach
scattered s =
    record { from = moved s.x % non_zero_u16_get s.places; to = moved (moved s.x) % non_zero_u16_get s.places; gate = moved (moved (moved s.x)) % non_zero_u16_get s.gates }

-- what is left after it
abbrev pub moved_on : Scatter → Scatter
moved_on s = record { x = moved (moved (moved s.x)); places = s.places; gates = s.gates }

-- the change number i of a series
abbrev pub change_at : ℕ → Series → Change
change_at i (Same change) = change
change_at i (Chain gate) = Lay (record { from = i; to = i + 1; gate = gate })
change_at i (Scattered s) = Lay (scattered s)

-- the series after a change
abbrev pub series_after : Series → Series
series_after (Same change) = Same change
series_after (Chain gate) = Chain gate
series_after (Scattered s) = Scattered (moved_on s)
