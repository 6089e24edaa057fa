use Rattle.std.proofs.Common.{refl}
use Rattle.books.specs.Meaning.{first_open, last_open}
use Rattle.layers.proofs.worked.worked_examples.Goals as goal

pub returns : goal.returns
unfolding first_open last_open
returns c = record { agree = refl; count = refl }
