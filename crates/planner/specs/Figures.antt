-- The figures of the answers, computed: the best labels by rising number of reaches, a row of 64 places at a time.
-- Assumes nothing.
use Rattle.std.specs.Prelude.{ℕ, zero, suc, ◌+◌, ◌-◌, Bool, true, false, cond, ◌&&◌, ◌||◌, List, [], ◌∷◌, ◌++◌, drop, Some, None, Option, ◌==◌, nat_lt, slice_index_or}
use Rattle.books.specs.Meaning.{Exits}
use Rattle.search.specs.Reaches.{all_turned}
use Rattle.search.specs.Rows.{lone, rounded}
use Rattle.search.specs.declared.reaches.Direction.TheVariants.{Along, Against}
use Rattle.search.specs.declared.reaches.Reach.{Reach}
use Rattle.planner.specs.Reckonings.{no_later, comes_out, no_sooner, goes_in}
use Rattle.planner.specs.Routes.{then}

abbrev pub Row : Type 0
Row = List (Option ℕ)

-- what f has for the n places from v on
abbrev pub row_from : (ℕ → Option ℕ) → ℕ → ℕ → Row
row_from f zero v = []
row_from f (suc n) v = f v ∷ row_from f n (suc v)

-- the row of one reach more: a round over the reaches into a copy of the row
abbrev pub next_row : (ℕ → ℕ → Bool) → (ℕ → ℕ → Option ℕ) → List Reach → Row → Row
next_row good goes es row = drop 64 (rounded good goes 0 64 (row ++ row) es)

abbrev pub same_label : Option ℕ → Option ℕ → Bool
same_label None None = true
same_label None (Some y) = false
same_label (Some x) None = false
same_label (Some x) (Some y) = x == y

abbrev pub same_row : Row → Row → Bool
same_row [] [] = true
same_row [] (y ∷ ys) = false
same_row (x ∷ xs) [] = false
same_row (x ∷ xs) (y ∷ ys) = same_label x y && same_row xs ys

-- a row's label at place v, and then those of the rows after it, unless the next row is the same
abbrev pub and_then : ℕ → Row → (Row → List (Option ℕ)) → Row → List (Option ℕ)
and_then v row on next = slice_index_or row v None ∷ cond (same_row row next) [] (on next)

-- the labels of place v by rising number of reaches, from a row on and for n reaches more at most
abbrev pub labels_on : (ℕ → ℕ → Bool) → (ℕ → ℕ → Option ℕ) → List Reach → ℕ → ℕ → Row → List (Option ℕ)
labels_on good goes es v zero row = slice_index_or row v None ∷ []
labels_on good goes es v (suc n) row = and_then v row (labels_on good goes es v n) (next_row good goes es row)

-- the same from a start place with a label
unfoldable pub labels : (ℕ → ℕ → Bool) → (ℕ → ℕ → Option ℕ) → List Reach → ℕ → ℕ → ℕ → List (Option ℕ)
labels good goes es at x v = labels_on good goes es v 63 (row_from (lone at x) 64 0)

-- the last one
abbrev pub final : List (Option ℕ) → Option ℕ
final [] = None
final (x ∷ []) = x
final (x ∷ y ∷ ys) = final (y ∷ ys)

-- whether a label is the one wanted; where none is named, any label is
abbrev pub meets : Option ℕ → Option ℕ → Bool
meets wanted None = false
meets None (Some x) = true
meets (Some z) (Some x) = x == z

-- the first label that is wanted, with its number of reaches, in a list that begins at i reaches
abbrev pub first_met : Option ℕ → ℕ → List (Option ℕ) → Option (ℕ × ℕ)
first_met wanted i [] = None
first_met wanted i (None ∷ os) = first_met wanted (suc i) os
first_met wanted i (Some x ∷ os) = cond (meets wanted (Some x)) (Some (x, i)) (first_met wanted (suc i) os)

-- the best label, with the fewest reaches that give it
abbrev pub best_of : List (Option ℕ) → Option (ℕ × ℕ)
best_of os = then (final os) (λ z. first_met (Some z) 0 os)

-- the label with the fewest reaches
abbrev pub soonest_of : List (Option ℕ) → Option (ℕ × ℕ)
soonest_of os = first_met None 0 os

-- when a boat that is ready at t at place a can be at b, by rising number of reaches
abbrev pub arrivals : List Reach → Exits → ℕ → ℕ → ℕ → List (Option ℕ)
arrivals rs ex a b t = labels no_later (comes_out ex) (all_turned Along rs) a t b

-- when a boat has to leave a to be at b by t, by rising number of reaches
abbrev pub departures : List Reach → Exits → ℕ → ℕ → ℕ → List (Option ℕ)
departures rs ex a b t = labels no_sooner (goes_in ex) (all_turned Against rs) b t a

-- arrival and reaches
abbrev pub foremost_figures : List Reach → Exits → ℕ → ℕ → ℕ → Option (ℕ × ℕ)
foremost_figures rs ex a b t = best_of (arrivals rs ex a b t)

-- the same of fewest
abbrev pub fewest_figures : List Reach → Exits → ℕ → ℕ → ℕ → Option (ℕ × ℕ)
fewest_figures rs ex a b t = soonest_of (arrivals rs ex a b t)

-- departure and reaches
abbrev pub latest_figures : List Reach → Exits → ℕ → ℕ → ℕ → Option (ℕ × ℕ)
latest_figures rs ex a b t = best_of (departures rs ex a b t)

-- ---- fastest
-- what follows from a number, if it is there, and else another thing
abbrev pub given : {X : Type 0} → Option ℕ → X → (ℕ → X) → X
given None x f = x
given (Some n) x f = f n

-- the earliest arrival at b of a boat that is at a at d, and the latest departure from a of one that is at b by e
unfoldable pub arrival_at : List Reach → Exits → ℕ → ℕ → ℕ → Option ℕ
arrival_at rs ex a b d = final (arrivals rs ex a b d)

unfoldable pub leaving_at : List Reach → Exits → ℕ → ℕ → ℕ → Option ℕ
leaving_at rs ex a b e = final (departures rs ex a b e)

-- The departure with the least time, and that time, from the departure d on, where best has had the least so far. A departure
-- at or before arrival - time can't better it, so it is passed over; where d is faster, the latest departure for its arrival is.
abbrev pub fastest_on : List Reach → Exits → ℕ → ℕ → ℕ → ℕ → ℕ → ℕ → ℕ × ℕ
fastest_on rs ex a b zero d best time = (best, time)
fastest_on rs ex a b (suc n) d best time =
    cond (time == 0 || nat_lt 20160 d) (best, time)
    (given (arrival_at rs ex a b d) (best, time)
    (λ e. cond (nat_lt (e - d) time)
    (given (leaving_at rs ex a b e) (best, time) (λ r. fastest_on rs ex a b n (r + 1) r (e - r)))
    (fastest_on rs ex a b n (e - time + 1) best time)))

abbrev pub fastest_from : List Reach → Exits → ℕ → ℕ → ℕ → Option (ℕ × ℕ)
fastest_from rs ex a b t =
    given (arrival_at rs ex a b t) None
    (λ e. given (leaving_at rs ex a b e) None (λ r. Some (fastest_on rs ex a b 20160 (r + 1) r (e - r))))

-- departure, arrival and reaches
abbrev pub fastest_figures : List Reach → Exits → ℕ → ℕ → ℕ → Option (ℕ × ℕ × ℕ)
fastest_figures rs ex a b t = then (fastest_from rs ex a b t) (λ p. then (foremost_figures rs ex a b p.0) (λ q. Some (p.0, q.0, q.1)))
