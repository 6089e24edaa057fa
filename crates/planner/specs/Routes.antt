-- The legs that a route gives, by the rules of entry, and the figures of legs. A route is a list of reach numbers. Assumes nothing.
use Rattle.std.specs.Prelude.{ℕ, List, [], ◌∷◌, length, Some, None, Option}
use Rattle.std.specs.List.{slice_get}
use Rattle.books.specs.Meaning.{Exits, first_open, last_open}
use Rattle.search.specs.declared.reaches.Reach.{Reach}
use Rattle.planner.specs.Journeys.{last_exit}
use Rattle.planner.specs.declared.legs.Answer.{Answer}
use Rattle.planner.specs.declared.legs.Leg.{Leg}

-- what follows from a thing, if it is there
abbrev pub then : {X Y : Type 0} → Option X → (X → Option Y) → Option Y
then None f = None
then (Some x) f = f x

-- the leg over reach n with a passage from entry to exit, before others
abbrev pub leg_before : ℕ → ℕ × ℕ → List Leg → Option (List Leg)
leg_before n p ls = Some (record { reach = n; entry = p.0; exit = p.1 } ∷ ls)

-- the legs of a route, each entered as soon as its gate lets in the boat, which is at the first place from t on
abbrev pub along : List Reach → Exits → ℕ → List ℕ → Option (List Leg)
along rs ex t [] = Some []
along rs ex t (n ∷ ns) = then (slice_get rs n) (λ r. then (first_open (ex r.gate) t) (λ p. then (along rs ex p.1 ns) (leg_before n p)))

-- when legs depart, and when they arrive; without a leg, at t
abbrev pub departs : ℕ → List Leg → ℕ
departs t [] = t
departs t (l ∷ ls) = l.entry

abbrev pub arrives : ℕ → List Leg → ℕ
arrives t [] = t
arrives t (l ∷ ls) = last_exit l ls

-- the legs of a route, each entered at the last moment: it comes out by the next entry, the last leg by t
abbrev pub against : List Reach → Exits → ℕ → List ℕ → Option (List Leg)
against rs ex t [] = Some []
against rs ex t (n ∷ ns) = then (against rs ex t ns) (λ ls. then (slice_get rs n) (λ r. then (last_open (ex r.gate) (departs t ls)) (λ p. leg_before n p ls)))

-- the figures of legs; without a leg, of the instant t
abbrev pub figures : ℕ → List Leg → Answer
figures t ls = record { departure = departs t ls; arrival = arrives t ls; reaches = length ls }
