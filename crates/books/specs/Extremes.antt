-- The least and the greatest instant at which a test holds. Assumes nothing.
use Rattle.std.specs.Prelude.{◌≡◌, ℕ, ◌+◌, ◌<◌, ◌≤◌, Bool, true, false, Some, None, Option}

-- of the instants in reach at which the test holds, one that none of them beats
abbrev pub Best : (ℕ → Bool) → (ℕ → Type 0) → (ℕ → ℕ → Type 0) → Option ℕ → Type 0
Best opens Reach Beats None = (k : ℕ) → Reach k → opens k ≡ false
Best opens Reach Beats (Some s) = Reach s × (opens s ≡ true) × ((k : ℕ) → Reach k → Beats k s → opens k ≡ false)

-- the least instant from t on
abbrev pub Least : (ℕ → Bool) → ℕ → Option ℕ → Type 0
Least opens t = Best opens (λ k. t ≤ k) (λ k s. k < s)

-- the greatest that is so many minutes before t or earlier
abbrev pub Greatest : (ℕ → Bool) → ℕ → ℕ → Option ℕ → Type 0
Greatest opens minutes t = Best opens (λ k. k + minutes ≤ t) (λ k s. s < k)
