-- A boat's way through two gates, one after the other. Assumes nothing.
use Rattle.std.specs.Prelude.{ℕ, Some, None, Option}
use Rattle.books.specs.Meaning.{first_open, last_open}

-- what follows from the entry or the exit, if there is one
abbrev pub then : {X : Type 0} → Option X → (X → Option ℕ) → Option ℕ
then None f = None
then (Some x) f = f x

-- when a boat that is ready at t comes out of the second gate
abbrev pub out_at : (ℕ → Option ℕ) → (ℕ → Option ℕ) → ℕ → Option ℕ
out_at first_gate second_gate t = then (first_open first_gate t) (λ p. then (first_open second_gate p.1) (λ q. Some q.1))

-- when it has to enter the first gate to come out of the second by t
abbrev pub in_by : (ℕ → Option ℕ) → (ℕ → Option ℕ) → ℕ → Option ℕ
in_by first_gate second_gate t = then (last_open second_gate t) (λ q. then (last_open first_gate q.0) (λ p. Some p.0))
