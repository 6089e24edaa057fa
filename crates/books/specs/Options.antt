-- Lemmas on `Option`. Nothing here is a definition that a contract cites.
use Rattle.std.specs.Prelude.{◌≡◌, ℕ, ◌⊎◌, Some, None, Option, refl}
use Rattle.std.proofs.Common.{inl, inr, arith}

pub option_cases : {A : Type 0} (o : Option A) → (o ≡ None) ⊎ ((a : A) × (o ≡ Some a))
option_cases None = inl refl
option_cases (Some a) = inr (a, refl)

pub none_not_some : {A : Type 0} {X : Type 0} (o : Option A) (a : A) → o ≡ None → o ≡ Some a → X
none_not_some o a p q = let z : ◌≡◌ {A = ℕ} 0 1 = cc in absurd (omega arith)

pub some_one : {A : Type 0} (o : Option A) (a b : A) → o ≡ Some a → o ≡ Some b → a ≡ b
some_one o a b p q = cc
