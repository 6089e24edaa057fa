-- What two books side by side mean. Assumes nothing.
use Rattle.std.specs.Prelude.{◌≡◌, ℕ, ◌+◌, ◌-◌, ◌<◌, ◌≤◌, min, cond, ◌⊎◌, Some, None, Option, nat_lt}
use Rattle.books.specs.Meaning.{Exits}
use Rattle.layers.specs.declared.two_books.Side.{Side}
use Rattle.layers.specs.declared.two_books.Side.TheVariants.{First, Second}

-- the gates of both, 1,024 at most
abbrev pub two_gates : ℕ → ℕ → ℕ
two_gates m n = min (m + n) 1024

abbrev pub shut : ℕ → Option ℕ
shut s = None

-- the m gates of the first, then those of the second, none above number 1,023
abbrev pub two_exits : ℕ → Exits → Exits → Exits
two_exits m x y g = cond (nat_lt g m) (x g) (cond (nat_lt g 1024) (y (g - m)) shut)

-- which of the two has gate g, and as which gate
abbrev pub side_of : ℕ → ℕ → Option Side
side_of m g = cond (nat_lt g m) (Some (First g)) (cond (nat_lt g 1024) (Some (Second (g - m))) None)

-- The rule: a boat enters gate g at s and comes out at e.
abbrev pub TwoPassage : ℕ → Exits → Exits → ℕ → ℕ → ℕ → Type 0
TwoPassage m x y g s e = ((g < m) × (x g s ≡ Some e)) ⊎ ((m ≤ g) × (g < 1024) × (y (g - m) s ≡ Some e))
