use Rattle.std.proofs.Common.{◌∙◌}
use Rattle.layers.proofs.Steps.{step_nothing, step_clear, step_past}
use Rattle.layers.proofs.notices.Noticed.clear.Goals as goal

pub returns-in_err-passage : goal.returns-in_err-passage
returns-in_err-passage g c = c.from_residual.ensures ∙ step_nothing _ _ _ (g.B.Book.lawful c.args.self.now.book) _ c.loop-step.invariant c.in_err-passage.ensures

pub returns-in-None : goal.returns-in-None
returns-in-None g c = step_clear _ _ _ (g.B.Book.lawful c.args.self.now.book) _ c.loop-step.invariant c.in_ok-passage.ensures c.in-None.ensures

pub loop-step-preserved : goal.loop-step-preserved
loop-step-preserved g c = rw c.past-at.ensures (step_past _ _ _ (g.B.Book.lawful c.args.self.now.book) _ c.loop-step.invariant c.in_ok-passage.ensures c.in-Some.ensures)
