-- Rows of best labels, one cell for each of the 64 places. Assumes nothing.
use Rattle.std.specs.Prelude.{◌≡◌, ℕ, zero, suc, ◌+◌, ◌-◌, ◌*◌, ◌<◌, ◌≤◌, Bool, true, false, cond, not, ◌&&◌, ◌||◌, List, [], ◌∷◌, length, slice_index_or, Some, None, Option, ◌==◌, nat_lt, slice_set}
use Rattle.search.specs.Reaches.{in_chart}
use Rattle.search.specs.declared.reaches.Reach.{Reach}

-- a label, if there is one, goes on
abbrev pub onward : {L : Type 0} → (ℕ → L → Option L) → ℕ → Option L → Option L
onward goes g None = None
onward goes g (Some x) = goes g x

-- whether the second betters the first
abbrev pub bettering : {L : Type 0} → (L → L → Bool) → Option L → Option L → Bool
bettering good old None = false
bettering good None (Some y) = true
bettering good (Some x) (Some y) = not (good x y)

-- the better of two, and the first where neither is
abbrev pub better : {L : Type 0} → (L → L → Bool) → Option L → Option L → Option L
better good old new = cond (bettering good old new) new old

-- a label at one place, and none elsewhere
abbrev pub lone : {L : Type 0} → ℕ → L → ℕ → Option L
lone at x v = cond (at == v) (Some x) None

-- the best at the place v of a label there and what the reaches bring, from the labels f
abbrev pub gathered : {L : Type 0} → (L → L → Bool) → (ℕ → L → Option L) → List Reach → (ℕ → Option L) → ℕ → Option L → Option L
gathered good goes [] f v here = here
gathered good goes (e ∷ es) f v here = gathered good goes es f v (cond (in_chart e && e.to == v) (better good here (onward goes e.gate (f e.from))) here)

-- row k: at each place v the best label with at most k reaches, from the labels f of row 0
abbrev pub best : {L : Type 0} → (L → L → Bool) → (ℕ → L → Option L) → List Reach → (ℕ → Option L) → ℕ → ℕ → Option L
best good goes es f zero v = f v
best good goes es f (suc k) v = gathered good goes es (best good goes es f k) v (best good goes es f k v)

-- whether a round over the reaches betters some place, from the labels f
abbrev pub stirs : {L : Type 0} → (L → L → Bool) → (ℕ → L → Option L) → List Reach → (ℕ → Option L) → Bool
stirs good goes [] f = false
stirs good goes (e ∷ es) f = (in_chart e && bettering good (f e.to) (onward goes e.gate (f e.from))) || stirs good goes es f

-- the last row that is filled, with n rounds left after row k: rounds go on until one betters no place
abbrev pub last_from : {L : Type 0} → (L → L → Bool) → (ℕ → L → Option L) → List Reach → (ℕ → Option L) → ℕ → ℕ → ℕ
last_from good goes es f zero k = k
last_from good goes es f (suc n) k = cond (stirs good goes es (best good goes es f k)) (last_from good goes es f n (suc k)) (suc k)

-- ---- one cell after another, as the code writes them; a row begins at p, and the next at q
abbrev pub come : {L : Type 0} → (ℕ → L → Option L) → ℕ → List (Option L) → Reach → Option L
come goes p cells e = onward goes e.gate (slice_index_or cells (p + e.from) None)

abbrev pub tells : {L : Type 0} → (L → L → Bool) → (ℕ → L → Option L) → ℕ → ℕ → List (Option L) → Reach → Bool
tells good goes p q cells e = in_chart e && bettering good (slice_index_or cells (q + e.to) None) (come goes p cells e)

abbrev pub relaxed : {L : Type 0} → (L → L → Bool) → (ℕ → L → Option L) → ℕ → ℕ → List (Option L) → Reach → List (Option L)
relaxed good goes p q cells e = cond (tells good goes p q cells e) (slice_set cells (q + e.to) (come goes p cells e)) cells

abbrev pub rounded : {L : Type 0} → (L → L → Bool) → (ℕ → L → Option L) → ℕ → ℕ → List (Option L) → List Reach → List (Option L)
rounded good goes p q cells [] = cells
rounded good goes p q cells (e ∷ es) = rounded good goes p q (relaxed good goes p q cells e) es

abbrev pub stirred : {L : Type 0} → (L → L → Bool) → (ℕ → L → Option L) → ℕ → ℕ → List (Option L) → Bool → List Reach → Bool
stirred good goes p q cells b [] = b
stirred good goes p q cells b (e ∷ es) = stirred good goes p q (relaxed good goes p q cells e) (b || tells good goes p q cells e) es

-- whether the label at a place was bettered in the round before round k
abbrev pub fresh : {L : Type 0} → (L → L → Bool) → List (Option L) → ℕ → ℕ → Bool
fresh good cells k u = nat_lt u 64 && (nat_lt k 2 || bettering good (slice_index_or cells (64 * (k - 2) + u) None) (slice_index_or cells (64 * (k - 1) + u) None))

-- row k lies in the cells
abbrev pub RowIn : {L : Type 0} → List (Option L) → ℕ → Type 0
RowIn cells k = 64 * k + 64 ≤ length cells

-- row k - 1 came from row k - 2 by a round over the reaches, if there is a row k - 2
abbrev pub RoundBefore : {L : Type 0} → (L → L → Bool) → (ℕ → L → Option L) → List Reach → List (Option L) → ℕ → Type 0
RoundBefore good goes es cells k = 2 ≤ k → (v : ℕ) → v < 64 → slice_index_or cells (64 * (k - 1) + v) None ≡ gathered good goes es (λ u. slice_index_or cells (64 * (k - 2) + u) None) v (slice_index_or cells (64 * (k - 2) + v) None)

-- row k is like row k - 1, and that came by a round
abbrev pub Carried : {L : Type 0} → (L → L → Bool) → (ℕ → L → Option L) → List Reach → List (Option L) → ℕ → Type 0
Carried good goes es cells k = ((v : ℕ) → v < 64 → slice_index_or cells (64 * k + v) None ≡ slice_index_or cells (64 * (k - 1) + v) None) × RoundBefore good goes es cells k
