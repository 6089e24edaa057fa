use Rattle.std.proofs.Common.{refl}
use Rattle.books.specs.Meaning.{first_open, last_open}
use Rattle.planner.specs.Figures.{labels}
use Rattle.planner.proofs.worked.worked_examples.Goals as goal

pub returns : goal.returns
unfolding first_open last_open labels
returns c = record { agree = refl; count = refl }
