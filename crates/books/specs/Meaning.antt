-- What a book means, what `first` and `last` answer of it, and the laws that it owes. Assumes nothing.
use Rattle.std.specs.Prelude.{◌≡◌, ℕ, zero, suc, ◌-◌, ◌<◌, ◌≤◌, cond, Some, None, Option, nat_le}

-- For each gate and instant: shut, or open with the instant at which a boat that enters then comes out.
-- Instants are the whole minutes 0 to 20,160 of one fortnight.
abbrev pub Exits : Type 0
Exits = ℕ → ℕ → Option ℕ

-- the instant s with its exit where the gate is open then, else what comes later
abbrev pub open_or_later : Option ℕ → ℕ → Option (ℕ × ℕ) → Option (ℕ × ℕ)
open_or_later None s later = later
open_or_later (Some e) s later = Some (s, e)

-- the first open instant among the n from s on, with its exit
abbrev pub first_of : (ℕ → Option ℕ) → ℕ → ℕ → Option (ℕ × ℕ)
first_of exits zero s = None
first_of exits (suc n) s = open_or_later (exits s) s (first_of exits n (suc s))

-- the first open instant from t to 20,160, with its exit
unfoldable pub first_open : (ℕ → Option ℕ) → ℕ → Option (ℕ × ℕ)
first_open exits t = first_of exits (20161 - t) t

-- the instant s with its exit where the gate is open then and that exit is by t, else what came earlier
abbrev pub out_or_earlier : Option ℕ → ℕ → ℕ → Option (ℕ × ℕ) → Option (ℕ × ℕ)
out_or_earlier None t s earlier = earlier
out_or_earlier (Some e) t s earlier = cond (nat_le e t) (Some (s, e)) earlier

-- the last open instant below n whose exit is by t, with that exit
abbrev pub last_below : (ℕ → Option ℕ) → ℕ → ℕ → Option (ℕ × ℕ)
last_below exits t zero = None
last_below exits t (suc n) = out_or_earlier (exits n) t n (last_below exits t n)

-- the last open instant up to 20,160 whose exit is by t, with that exit
unfoldable pub last_open : (ℕ → Option ℕ) → ℕ → Option (ℕ × ℕ)
last_open exits t = last_below exits t 20161

-- The laws of a book.
pub record Lawful (gates : ℕ) (exits : Exits) : Type 0 where
  -- it has at most 1,024 gates
  pub few : gates ≤ 1024
  -- a gate that it lacks is always shut
  pub lacks : (g s : ℕ) → gates ≤ g → exits g s ≡ None
  -- an exit is later than its entry
  pub later : (g s e : ℕ) → exits g s ≡ Some e → s < e
  -- and at most 20,160
  pub within : (g s e : ℕ) → exits g s ≡ Some e → e ≤ 20160
  -- nobody overtakes: of two open instants of a gate the later never has the earlier exit
  pub order : (g s s' e e' : ℕ) → exits g s ≡ Some e → exits g s' ≡ Some e' → s ≤ s' → e ≤ e'

-- A meaning in the words of a rule, both ways: so many gates, and gate g lets a boat in at s that comes
-- out at e exactly where the rule says so.
pub record Means (gates : ℕ) (exits : Exits) (number : ℕ) (Rule : ℕ → ℕ → ℕ → Type 0) : Type 0 where
  pub as_many : gates ≡ number
  pub only_by_rule : (g s e : ℕ) → exits g s ≡ Some e → Rule g s e
  pub all_by_rule : (g s e : ℕ) → Rule g s e → exits g s ≡ Some e

-- the answer to `first`, without a scan: the least open instant at or after t, and nothing where there is none
abbrev pub LeastOpen : (ℕ → Option ℕ) → ℕ → Option (ℕ × ℕ) → Type 0
LeastOpen exits t None = (k : ℕ) → t ≤ k → exits k ≡ None
LeastOpen exits t (Some p) = (t ≤ p.0) × (exits p.0 ≡ Some p.1) × ((k : ℕ) → t ≤ k → k < p.0 → exits k ≡ None)

-- the answer to `last`: the greatest open instant whose exit is by t, and nothing where none comes out by then
abbrev pub GreatestOut : (ℕ → Option ℕ) → ℕ → Option (ℕ × ℕ) → Type 0
GreatestOut exits t None = (k e : ℕ) → exits k ≡ Some e → t < e
GreatestOut exits t (Some p) = (p.1 ≤ t) × (exits p.0 ≡ Some p.1) × ((k e : ℕ) → p.0 < k → exits k ≡ Some e → t < e)

-- Of every meaning that keeps the laws, `first_open` finds the least open instant.
abbrev pub FirstOpenIsLeast : Type 0
FirstOpenIsLeast = (gates : ℕ) (exits : Exits) → Lawful gates exits → (g t : ℕ) → LeastOpen (exits g) t (first_open (exits g) t)

-- And `last_open` finds the greatest whose exit is in time.
abbrev pub LastOpenIsGreatest : Type 0
LastOpenIsGreatest = (gates : ℕ) (exits : Exits) → Lawful gates exits → (g t : ℕ) → GreatestOut (exits g) t (last_open (exits g) t)
