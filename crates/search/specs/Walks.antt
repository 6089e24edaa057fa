-- Walks over reaches, of any length. A walk is written from its last reach to its first. Assumes nothing.
use Rattle.std.specs.Prelude.{◌≡◌, ℕ, ◌+◌, ◌*◌, ◌<◌, ◌≤◌, Bool, true, List, [], ◌∷◌, length, Some, None, Option, slice_index_or}
use Rattle.std.specs.List.{ContainsAt as Has}
use Rattle.search.specs.Rows.{onward}
use Rattle.search.specs.declared.reaches.Reach.{Reach}

-- both places are among the 64
abbrev pub Inside : Reach → Type 0
Inside e = (e.from < 64) × (e.to < 64)

-- the reaches of the walk are among those given, and lead from a place to another
abbrev pub Leads : List Reach → ℕ → List Reach → ℕ → Type 0
Leads es at [] v = at ≡ v
Leads es at (e ∷ ws) v = Has es e × Inside e × (e.to ≡ v) × Leads es at ws e.from

-- the label that a walk ends with, if it can be gone
abbrev pub led : {L : Type 0} → (ℕ → L → Option L) → L → List Reach → Option L
led goes x [] = Some x
led goes x (e ∷ ws) = onward goes e.gate (led goes x ws)

-- there is a label, and it is at least as good as z
abbrev pub Good : {L : Type 0} → (L → L → Bool) → Option L → L → Type 0
Good {L} good o z = (y : L) × (o ≡ Some y) × (good y z ≡ true)

-- z is the label of a walk of at most k reaches from the start to v
abbrev pub Gone : {L : Type 0} → (ℕ → L → Option L) → List Reach → ℕ → L → ℕ → ℕ → L → Type 0
Gone goes es at x k v z = (ws : List Reach) × (length ws ≤ k) × Leads es at ws v × (led goes x ws ≡ Some z)

-- What a search from a place with a label leaves in its cells, 64 to a row, in words of walks.
pub record Unbeaten {L : Type 0} (good : L → L → Bool) (goes : ℕ → L → Option L) (es : List Reach) (at : ℕ) (x : L) (cells : List (Option L)) (last : ℕ) : Type 0 where
  -- each label in row k is that of a walk of at most k reaches
  pub gone : (k v : ℕ) → k ≤ last → v < 64 → (z : L) → slice_index_or cells (64 * k + v) None ≡ Some z → Gone goes es at x k v z
  -- no walk of at most k reaches gives a better one
  pub within : (k v : ℕ) → k ≤ last → v < 64 → (ws : List Reach) (z : L) → length ws ≤ k → Leads es at ws v → led goes x ws ≡ Some z → Good good (slice_index_or cells (64 * k + v) None) z
  -- and no walk of any length a better one than the last row's
  pub all : (v : ℕ) → v < 64 → (ws : List Reach) (z : L) → Leads es at ws v → led goes x ws ≡ Some z → Good good (slice_index_or cells (64 * last + v) None) z
