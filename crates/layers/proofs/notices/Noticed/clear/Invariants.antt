use Rattle.layers.specs.Notices.{noticed_exits}
use Rattle.layers.proofs.Steps.{Kept}
use Rattle.layers.proofs.notices.Noticed.clear.Given as goal

abbrev pub invariant-loop-step : goal.invariant-loop-step
invariant-loop-step g l = Kept l.toward (noticed_exits l.self.notices.items (g.B.Book.exits l.self.book) l.gate) l.self.notices.items l.t l.at l._step
