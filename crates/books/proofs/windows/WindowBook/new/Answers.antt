use Rattle.books.specs.WindowLaws.{timed_means}
use Rattle.books.proofs.windows.WindowBook.new.Goals as goal

pub returns-clause-meaning : goal.returns-clause-meaning
returns-clause-meaning c = timed_means c.args.passages.now c.args.windows.now
