-- The two headings of a search: along the reaches it looks for the earliest arrival, against them for the latest departure.
-- Assumes nothing.
use Rattle.std.specs.Prelude.{ℕ, ◌≤◌, Bool, List, length, Some, None, Option}
use Rattle.books.specs.Meaning.{Exits, first_open, last_open}
use Rattle.search.specs.Reaches.{all_turned}
use Rattle.search.specs.declared.reaches.Direction.{Direction}
use Rattle.search.specs.declared.reaches.Direction.TheVariants.{Along, Against}
use Rattle.search.specs.declared.reaches.Reach.{Reach}
use Rattle.planner.specs.Figures.{labels, best_of, soonest_of}
use Rattle.planner.specs.Journeys.{Journey, Ready, Due, Lexicographic, ForemostUnbeaten, FewestUnbeaten, LatestUnbeaten}
use Rattle.planner.specs.Reckonings.{exit_of, entry_of, no_later, no_sooner}
use Rattle.planner.specs.Routes.{along, against}
use Rattle.planner.specs.declared.legs.Answer.{Answer}
use Rattle.planner.specs.declared.legs.Leg.{Leg}
use Rattle.planner.specs.declared.ways.Aim.{Aim}
use Rattle.planner.specs.declared.ways.Aim.TheVariants.{Time, Reaches}

-- ---- the reckoning
-- whether a label is at least as good as another
abbrev pub good_of : Direction → ℕ → ℕ → Bool
good_of Along x y = no_later x y
good_of Against x y = no_sooner x y

-- the passage through gate g of a boat that is there at x, or has to be out by x
abbrev pub passage_of : Direction → Exits → ℕ → ℕ → Option (ℕ × ℕ)
passage_of Along ex g x = first_open (ex g) x
passage_of Against ex g x = last_open (ex g) x

-- the label that a passage gives
abbrev pub label_of : Direction → Option (ℕ × ℕ) → Option ℕ
label_of Along p = exit_of p
label_of Against p = entry_of p

abbrev pub goes_of : Direction → Exits → ℕ → ℕ → Option ℕ
goes_of d ex g x = label_of d (passage_of d ex g x)

-- ---- the question
-- of a way from a to b, the place that the search starts from, and the one that it leads to
abbrev pub start_of : Direction → ℕ → ℕ → ℕ
start_of Along a b = a
start_of Against a b = b

abbrev pub end_of : Direction → ℕ → ℕ → ℕ
end_of Along a b = b
end_of Against a b = a

-- the journeys that are asked for
abbrev pub FitsBy : Direction → ℕ → ℕ → ℕ → Type 0
FitsBy Along t d e = Ready t d e
FitsBy Against t d e = Due t d e

-- the legs that the rule of entry gives a route
abbrev pub rule_by : Direction → List Reach → Exits → ℕ → List ℕ → Option (List Leg)
rule_by Along rs ex t route = along rs ex t route
rule_by Against rs ex t route = against rs ex t route

-- no journey that arrives by t has fewer reaches, nor as few and a later departure
abbrev pub FewestDueUnbeaten : List Reach → Exits → ℕ → ℕ → ℕ → ℕ → ℕ → Type 0
FewestDueUnbeaten rs ex a b t departure reaches =
    (d e : ℕ) (legs : List Leg) → Journey rs ex a b d e legs → Due t d e → Lexicographic reaches (length legs) (d ≤ departure)

-- none of them betters a label and a number of reaches
abbrev pub UnbeatenBy : Direction → Aim → List Reach → Exits → ℕ → ℕ → ℕ → ℕ → ℕ → Type 0
UnbeatenBy Along Time rs ex a b t label reaches = ForemostUnbeaten rs ex a b t label reaches
UnbeatenBy Along Reaches rs ex a b t label reaches = FewestUnbeaten rs ex a b t label reaches
UnbeatenBy Against Time rs ex a b t label reaches = LatestUnbeaten rs ex a b t label reaches
UnbeatenBy Against Reaches rs ex a b t label reaches = FewestDueUnbeaten rs ex a b t label reaches

-- ---- the figures
-- the label of an answer, which is its arrival or its departure
abbrev pub label_in : Direction → Answer → ℕ
label_in Along ans = ans.arrival
label_in Against ans = ans.departure

abbrev pub figures_from : Direction → Option Answer → Option (ℕ × ℕ)
figures_from d None = None
figures_from d (Some ans) = Some (label_in d ans, ans.reaches)

-- the label that an aim chooses, with its number of reaches
abbrev pub chosen : Aim → List (Option ℕ) → Option (ℕ × ℕ)
chosen Time os = best_of os
chosen Reaches os = soonest_of os

abbrev pub figures_by : Direction → Aim → List Reach → Exits → ℕ → ℕ → ℕ → Option (ℕ × ℕ)
figures_by d aim rs ex a b t = chosen aim (labels (good_of d) (goes_of d ex) (all_turned d rs) (start_of d a b) t (end_of d a b))
