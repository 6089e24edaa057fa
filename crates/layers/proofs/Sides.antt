-- Lemmas: a gate that is always shut has no answer.
use Rattle.std.proofs.Common.{◌≡◌, ℕ, None, sym, refl}
use Rattle.books.specs.Scans.{first_is, last_is}
use Rattle.layers.specs.Toward.{answer_of}
use Rattle.layers.specs.TwoBooks.{shut}
use Rattle.layers.specs.declared.toward.Toward.{Toward}
use Rattle.layers.specs.declared.toward.Toward.TheVariants.{Later, Earlier}

pub answer_shut : (d : Toward) (t : ℕ) → answer_of d shut t ≡ None
answer_shut Later t = sym (first_is shut (λ k e so. cc) t None (λ k lo. refl))
answer_shut Earlier t = sym (last_is shut (λ k e so. cc) t None (λ k e so. cc))
