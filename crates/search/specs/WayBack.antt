-- Reading a way back through the rows of a search, one reach at a time from the last. Assumes nothing.
use Rattle.std.specs.Prelude.{◌≡◌, ℕ, zero, suc, ◌+◌, ◌-◌, ◌*◌, ◌<◌, ◌≤◌, Bool, cond, not, ◌&&◌, List, [], ◌∷◌, length, Some, None, Option, ◌==◌, nat_le, nat_lt, position, slice_index_or}
use Rattle.std.specs.List.{slice_get}
use Rattle.search.specs.Reaches.{in_chart}
use Rattle.search.specs.Rows.{onward, bettering, lone, best}
use Rattle.search.specs.Walks.{Leads, led, Good}
use Rattle.search.specs.declared.reaches.Reach.{Reach}

-- the reach brings to place v, from the labels f, a label at least as good as z
abbrev pub brings : {L : Type 0} → (L → L → Bool) → (ℕ → L → Option L) → (ℕ → Option L) → ℕ → L → Reach → Bool
brings good goes f v z e = (in_chart e && e.to == v) && not (bettering good (onward goes e.gate (f e.from)) (Some z))

-- the labels of a row of cells
abbrev pub row_of : {L : Type 0} → List (Option L) → ℕ → ℕ → Option L
row_of cells k u = slice_index_or cells (64 * k + u) None

-- the number of the first reach by which the label z came to place v in the row after k
abbrev pub came_by : {L : Type 0} → (L → L → Bool) → (ℕ → L → Option L) → List Reach → List (Option L) → ℕ → ℕ → Option L → Option ℕ
came_by good goes es cells k v None = None
came_by good goes es cells k v (Some z) = position (brings good goes (row_of cells k) v z) es

-- the row and the place are among those that the cells hold, and it is not row 0
abbrev pub readable : {L : Type 0} → List (Option L) → ℕ → ℕ → Bool
readable cells k v = (nat_lt 0 k && nat_lt k 64) && (nat_lt v 64 && nat_le 4096 (length cells))

-- the number of the reach by which the label at place v came into row k
abbrev pub step_back : {L : Type 0} → (L → L → Bool) → (ℕ → L → Option L) → List Reach → List (Option L) → ℕ → ℕ → Option ℕ
step_back good goes es cells k v = cond (readable cells k v) (came_by good goes es cells (k - 1) v (row_of cells k v)) None

abbrev pub reach_of : List Reach → Option ℕ → Option Reach
reach_of es None = None
reach_of es (Some i) = slice_get es i

abbrev pub put_before : Reach → Option (List Reach) → Option (List Reach)
put_before e None = None
put_before e (Some ws) = Some (e ∷ ws)

-- the reach and then the way that follows from it, if there are both
abbrev pub reach_and : Option Reach → (Reach → Option (List Reach)) → Option (List Reach)
reach_and None rest = None
reach_and (Some e) rest = put_before e (rest e)

-- the way back from place v in row k, a step back at a time: its reaches, last to first
abbrev pub way_back : {L : Type 0} → (L → L → Bool) → (ℕ → L → Option L) → List Reach → List (Option L) → ℕ → ℕ → Option (List Reach)
way_back good goes es cells zero v = Some []
way_back good goes es cells (suc k) v = reach_and (reach_of es (step_back good goes es cells (suc k) v)) (λ e. way_back good goes es cells k e.from)

-- Whatever search filled the cells: from a place and the least row in which its label stands, the way back is a walk over the
-- reaches from the start, with exactly as many reaches, and with exactly that label.
abbrev pub WaysBackAreWalks : {L : Type 0} → (L → L → Bool) → (ℕ → L → Option L) → List Reach → List (Option L) → Type 0
WaysBackAreWalks {L} good goes es cells =
    (at : ℕ) (x : L) (last : ℕ) → last ≤ 63 → 4096 ≤ length cells
    → ((k v : ℕ) → k ≤ last → v < 64 → row_of cells k v ≡ best good goes es (lone at x) k v)
    → (k v : ℕ) (z : L) → k ≤ last → v < 64 → row_of cells k v ≡ Some z → ((i : ℕ) → i < k → Good good (row_of cells i v) z → ⊥)
    → (ws : List Reach) × (way_back good goes es cells k v ≡ Some ws) × (length ws ≡ k) × Leads es at ws v × (led goes x ws ≡ Some z)
