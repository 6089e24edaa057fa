use Rattle.search.specs.Reaches.{all_turned}
use Rattle.search.proofs.Backwards.{ways_back}
use Rattle.search.proofs.rows.Search.back_step.Goals as goal

pub returns-then-row-eq0-clause-walks : goal.returns-then-row-eq0-clause-walks
returns-then-row-eq0-clause-walks g c = ways_back (g.R.Reckoning.laws c.args.self.by.now) (g.R.Reckoning.antisymmetric c.args.self.by.now) (all_turned c.args.self.direction c.args.self.reaches.now) c.args.cells.now

pub returns-in_err-label-clause-walks : goal.returns-in_err-label-clause-walks
returns-in_err-label-clause-walks g c = ways_back (g.R.Reckoning.laws c.args.self.by.now) (g.R.Reckoning.antisymmetric c.args.self.by.now) (all_turned c.args.self.direction c.args.self.reaches.now) c.args.cells.now

pub returns-clause-walks : goal.returns-clause-walks
returns-clause-walks g c = ways_back (g.R.Reckoning.laws c.args.self.by.now) (g.R.Reckoning.antisymmetric c.args.self.by.now) (all_turned c.args.self.direction c.args.self.reaches.now) c.args.cells.now
