use Rattle.search.specs.Reaches.{all_turned}
use Rattle.search.proofs.Onwards.{Rounds}
use Rattle.search.proofs.rows.Search.run.Given as goal

abbrev pub invariant-rounds : goal.invariant-rounds
invariant-rounds g l = Rounds (g.R.Reckoning.good l.self.by.now) (g.R.Reckoning.goes l.self.by.now) (all_turned l.self.direction l.self.reaches.now) l.start l.fn.label l.fn.cells l.k l.last l.cells
