-- Departures and the arrivals that they give: how the fastest journey is found. Assumes nothing.
use Rattle.std.specs.Prelude.{◌≡◌, ℕ, ◌+◌, ◌-◌, ◌<◌, ◌≤◌, List, Some, None, Option}
use Rattle.books.specs.Meaning.{Exits}
use Rattle.search.specs.declared.reaches.Reach.{Reach}
use Rattle.planner.specs.Journeys.{Journey, NoSuchJourney, Ready}
use Rattle.planner.specs.declared.legs.Leg.{Leg}

-- e is the earliest arrival of the journeys that are ready at d
pub record ArrivesFirst (rs : List Reach) (ex : Exits) (a b d e : ℕ) : Type 0 where
  pub later : d ≤ e
  pub within : e ≤ 20160
  pub some : (m : ℕ) × (legs : List Leg) × Journey rs ex a b m e legs × (d ≤ m)
  pub least : (m e' : ℕ) (legs : List Leg) → Journey rs ex a b m e' legs → d ≤ m → e ≤ e'

abbrev pub Arrival : List Reach → Exits → ℕ → ℕ → ℕ → Option ℕ → Type 0
Arrival rs ex a b d None = NoSuchJourney rs ex a b (Ready d)
Arrival rs ex a b d (Some e) = ArrivesFirst rs ex a b d e

-- r is the latest departure of the journeys that arrive by e
pub record LeavesLast (rs : List Reach) (ex : Exits) (a b e r : ℕ) : Type 0 where
  pub some : (m : ℕ) × (legs : List Leg) × Journey rs ex a b r m legs × (m ≤ e)
  pub last : (d m : ℕ) (legs : List Leg) → Journey rs ex a b d m legs → m ≤ e → d ≤ r

-- no journey that departs from ready on and before next takes less time, nor as much if it departs before best
abbrev pub Tried : List Reach → Exits → ℕ → ℕ → ℕ → ℕ → ℕ → ℕ → Type 0
Tried rs ex a b ready next best time =
    (m e : ℕ) (legs : List Leg) → Journey rs ex a b m e legs → ready ≤ m → m < next → (time ≤ e - m) × (time ≡ e - m → best ≤ m)

-- the departure best is the earliest of those with the least time
pub record FastestDeparture (rs : List Reach) (ex : Exits) (a b t best time : ℕ) : Type 0 where
  pub ready : t ≤ best
  pub arrives : ArrivesFirst rs ex a b best (best + time)
  pub least : (m e : ℕ) (legs : List Leg) → Journey rs ex a b m e legs → t ≤ m → (time ≤ e - m) × (time ≡ e - m → best ≤ m)

abbrev pub FastestChoice : List Reach → Exits → ℕ → ℕ → ℕ → Option ℕ → Type 0
FastestChoice rs ex a b t None = NoSuchJourney rs ex a b (Ready t)
FastestChoice rs ex a b t (Some best) = (time : ℕ) × FastestDeparture rs ex a b t best time

-- what the loop over departures holds: the best so far, and that nothing before the departure d betters it
abbrev pub Held : List Reach → Exits → ℕ → ℕ → ℕ → ℕ → ℕ → ℕ → Type 0
Held rs ex a b ready d best time = (ready ≤ best) × (best ≤ d) × ArrivesFirst rs ex a b best (best + time) × Tried rs ex a b ready d best time

-- before the first departure is tried, no time is least
abbrev pub HeldSoFar : List Reach → Exits → ℕ → ℕ → ℕ → ℕ → Option ℕ → ℕ → Type 0
HeldSoFar rs ex a b ready d None time = (d ≡ ready) × (time ≡ 20161)
HeldSoFar rs ex a b ready d (Some best) time = Held rs ex a b ready d best time
