-- What a search leaves in its cells, and returns. Assumes nothing.
use Rattle.std.specs.Prelude.{◌≡◌, ℕ, ◌+◌, ◌-◌, ◌*◌, ◌<◌, ◌≤◌, Bool, true, false, cond, ◌&&◌, List, length, slice_index_or, Some, None, Option, nat_le, nat_lt}
use Rattle.search.specs.Rows.{lone, gathered, best, stirs, last_from, RoundBefore}
use Rattle.search.specs.Walks.{Unbeaten}
use Rattle.search.specs.declared.reaches.Reach.{Reach}

-- the number returned: nothing where there are fewer than 4,096 cells, else that of the last row filled
abbrev pub last_row : {L : Type 0} → (L → L → Bool) → (ℕ → L → Option L) → List Reach → ℕ → L → List (Option L) → Option ℕ
last_row good goes es at x cells = cond (nat_lt (length cells) 4096) None (Some (last_from good goes es (lone at x) 63 0))

-- the rows up to that one are the defined ones, the cells after them are as they were
abbrev pub Filled : {L : Type 0} → (L → L → Bool) → (ℕ → L → Option L) → List Reach → ℕ → L → List (Option L) → List (Option L) → Option ℕ → Type 0
Filled good goes es at x old new None = new ≡ old
Filled good goes es at x old new (Some last) =
    ((k v : ℕ) → k ≤ last → v < 64 → slice_index_or new (64 * k + v) None ≡ best good goes es (lone at x) k v)
    × ((j : ℕ) → 64 * last + 64 ≤ j → slice_index_or new j None ≡ slice_index_or old j None)

-- and in words of walks
abbrev pub Searched : {L : Type 0} → (L → L → Bool) → (ℕ → L → Option L) → List Reach → ℕ → L → List (Option L) → Option ℕ → Type 0
Searched good goes es at x new None = Unit {0}
Searched good goes es at x new (Some last) = (last ≤ 63) × Unbeaten good goes es at x new last

-- ---- one row at a time
-- row 0 is filled, if there are 4,096 cells: a label at one place, and none elsewhere; the cells after it are as they were
abbrev pub FirstRow : {L : Type 0} → ℕ → L → List (Option L) → List (Option L) → Bool → Type 0
FirstRow at x old new false = (length old < 4096) × (new ≡ old)
FirstRow at x old new true = (4096 ≤ length old) × ((v : ℕ) → v < 64 → slice_index_or new v None ≡ lone at x v) × ((j : ℕ) → 64 ≤ j → slice_index_or new j None ≡ slice_index_or old j None)

-- whether the cells hold row k and a row before it
abbrev pub holds_row : {L : Type 0} → List (Option L) → ℕ → Bool
holds_row cells k = (nat_lt 0 k && nat_lt k 64) && nat_le 4096 (length cells)

-- Row k is filled by a round over the reaches from row k - 1, if the cells hold it, and the other cells are as they were. It
-- is told whether the round betters a place. This speaks of rows of which the one before came by a round too.
abbrev pub RowFilled : Bool → {L : Type 0} → (L → L → Bool) → (ℕ → L → Option L) → List Reach → ℕ → List (Option L) → List (Option L) → Bool → Type 0
RowFilled false good goes es k old new told = (told ≡ false) × (new ≡ old)
RowFilled true good goes es k old new told =
    ((j : ℕ) → j < 64 * k → slice_index_or new j None ≡ slice_index_or old j None)
    × ((j : ℕ) → 64 * k + 64 ≤ j → slice_index_or new j None ≡ slice_index_or old j None)
    × (RoundBefore good goes es old k → (told ≡ stirs good goes es (λ u. slice_index_or old (64 * (k - 1) + u) None)) × ((v : ℕ) → v < 64 → slice_index_or new (64 * k + v) None ≡ gathered good goes es (λ u. slice_index_or old (64 * (k - 1) + u) None) v (slice_index_or old (64 * (k - 1) + v) None)))

abbrev pub NextRow : {L : Type 0} → (L → L → Bool) → (ℕ → L → Option L) → List Reach → ℕ → List (Option L) → List (Option L) → Bool → Type 0
NextRow good goes es k old new told = RowFilled (holds_row old k) good goes es k old new told
