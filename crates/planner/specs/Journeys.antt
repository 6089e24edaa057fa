-- Journeys over laid reaches, and when none betters an answer. Assumes nothing.
use Rattle.std.specs.Prelude.{◌≡◌, ℕ, ◌-◌, ◌≤◌, List, [], ◌∷◌, length, Some}
use Rattle.std.specs.List.{slice_get}
use Rattle.books.specs.Meaning.{Exits}
use Rattle.search.specs.declared.reaches.Reach.{Reach}
use Rattle.planner.specs.declared.legs.Leg.{Leg}

-- the next leg, if there is one, enters at t or after
abbrev pub Waits : ℕ → List Leg → Type 0
Waits t [] = Unit {0}
Waits t (l ∷ ls) = t ≤ l.entry

-- The legs lead from place a to place b: each reach is laid and starts where the one before ended, each gate is open at the
-- entry with that exit, and no leg enters before the exit ahead of it.
abbrev pub Chain : List Reach → Exits → ℕ → ℕ → List Leg → Type 0
Chain rs ex a b [] = a ≡ b
Chain rs ex a b (l ∷ ls) =
    (r : Reach) × (slice_get rs l.reach ≡ Some r) × (r.from ≡ a) × (ex r.gate l.entry ≡ Some l.exit) × Waits l.exit ls × Chain rs ex r.to b ls

-- where the last leg comes out
abbrev pub last_exit : Leg → List Leg → ℕ
last_exit l [] = l.exit
last_exit l (m ∷ ms) = last_exit m ms

-- Legs depart at the first entry, d, and arrive at the last exit, e; without a leg, at any one instant.
abbrev pub Times : ℕ → ℕ → List Leg → Type 0
Times d e [] = (d ≡ e) × (d ≤ 20160)
Times d e (l ∷ ls) = (d ≡ l.entry) × (e ≡ last_exit l ls)

-- A journey from place a to place b that departs at d and arrives at e; its number of reaches is that of its legs.
pub record Journey (rs : List Reach) (ex : Exits) (a b d e : ℕ) (legs : List Leg) : Type 0 where
  pub chain : Chain rs ex a b legs
  pub times : Times d e legs

-- no journey from a to b is of the kind asked for, by its departure and arrival
abbrev pub NoSuchJourney : List Reach → Exits → ℕ → ℕ → (ℕ → ℕ → Type 0) → Type 0
NoSuchJourney rs ex a b Fits = (d e : ℕ) (legs : List Leg) → Journey rs ex a b d e legs → Fits d e → ⊥

-- the journeys that are ready at t, and those that arrive by t
abbrev pub Ready : ℕ → ℕ → ℕ → Type 0
Ready t d e = t ≤ d

abbrev pub Due : ℕ → ℕ → ℕ → Type 0
Due t d e = e ≤ t

-- x is at most y, and where they are equal the tie goes the right way
abbrev pub Lexicographic : ℕ → ℕ → Type 0 → Type 0
Lexicographic x y tie = (x ≤ y) × (x ≡ y → tie)

-- No journey betters an answer, ties included. Each of these speaks of every journey from a to b, whatever its legs.
-- no journey ready at t arrives before it, nor as early with fewer reaches
abbrev pub ForemostUnbeaten : List Reach → Exits → ℕ → ℕ → ℕ → ℕ → ℕ → Type 0
ForemostUnbeaten rs ex a b t arrival reaches =
    (d e : ℕ) (legs : List Leg) → Journey rs ex a b d e legs → Ready t d e → Lexicographic arrival e (reaches ≤ length legs)

-- none has fewer reaches, nor as few and an earlier arrival
abbrev pub FewestUnbeaten : List Reach → Exits → ℕ → ℕ → ℕ → ℕ → ℕ → Type 0
FewestUnbeaten rs ex a b t arrival reaches =
    (d e : ℕ) (legs : List Leg) → Journey rs ex a b d e legs → Ready t d e → Lexicographic reaches (length legs) (arrival ≤ e)

-- none takes less time, nor as little leaving earlier, nor ties on both with fewer reaches
abbrev pub FastestUnbeaten : List Reach → Exits → ℕ → ℕ → ℕ → ℕ → ℕ → ℕ → Type 0
FastestUnbeaten rs ex a b t departure arrival reaches =
    (d e : ℕ) (legs : List Leg) → Journey rs ex a b d e legs → Ready t d e → Lexicographic (arrival - departure) (e - d) (Lexicographic departure d (reaches ≤ length legs))

-- no journey that arrives by t leaves after it, nor as late with fewer reaches
abbrev pub LatestUnbeaten : List Reach → Exits → ℕ → ℕ → ℕ → ℕ → ℕ → Type 0
LatestUnbeaten rs ex a b t departure reaches =
    (d e : ℕ) (legs : List Leg) → Journey rs ex a b d e legs → Due t d e → Lexicographic d departure (reaches ≤ length legs)
