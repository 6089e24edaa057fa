-- Which way a gate is asked. Assumes nothing.
use Rattle.std.specs.Prelude.{ℕ, Option}
use Rattle.books.specs.Meaning.{first_open, last_open}
use Rattle.layers.specs.declared.toward.Toward.{Toward}
use Rattle.layers.specs.declared.toward.Toward.TheVariants.{Later, Earlier}

-- what a gate with these exits answers
abbrev pub answer_of : Toward → (ℕ → Option ℕ) → ℕ → Option (ℕ × ℕ)
answer_of Later exits t = first_open exits t
answer_of Earlier exits t = last_open exits t
