use Rattle.books.specs.TideLaws.{tidal_means}
use Rattle.books.proofs.tides.TideBook.new.Goals as goal

pub returns-clause-meaning : goal.returns-clause-meaning
returns-clause-meaning c = tidal_means c.args.tides.now
