-- The laws of a reckoning. Assumes nothing.
use Rattle.std.specs.Prelude.{◌≡◌, ℕ, Bool, true, ◌⊎◌, Some, Option}

-- good x y: x is at least as good as y; goes g x: what x goes on to through gate g, if it can
pub record Laws {L : Type 0} (good : L → L → Bool) (goes : ℕ → L → Option L) : Type 0 where
  pub total : (x y : L) → (good x y ≡ true) ⊎ (good y x ≡ true)
  pub transitive : (x y z : L) → good x y ≡ true → good y z ≡ true → good x z ≡ true
  -- if x is at least as good as y and y goes on, x goes on to a label at least as good
  pub isotone : (g : ℕ) (x y y' : L) → good x y ≡ true → goes g y ≡ Some y' → (x' : L) × (goes g x ≡ Some x') × (good x' y' ≡ true)
  -- a label never gets better by going on
  pub monotone : (g : ℕ) (x x' : L) → goes g x ≡ Some x' → good x x' ≡ true

-- labels as good as each other are equal
abbrev pub Antisymmetric : {L : Type 0} → (L → L → Bool) → Type 0
Antisymmetric {L} good = (x y : L) → good x y ≡ true → good y x ≡ true → x ≡ y
