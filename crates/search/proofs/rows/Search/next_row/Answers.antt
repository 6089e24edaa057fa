use Rattle.std.proofs.Common.{subst, sym, arith}
use Rattle.search.specs.Reaches.{all_turned}
use Rattle.search.proofs.Onwards.{held_filled}
use Rattle.search.proofs.rows.Search.next_row.Goals as goal

pub returns-then-held : goal.returns-then-held
returns-then-held g c =
    subst (λ (T : Type 0). T) (sym (held_filled (g.R.Reckoning.good c.args.self.by.now) (g.R.Reckoning.goes c.args.self.by.now) (all_turned c.args.self.direction c.args.self.reaches.now) c.args.row c.args.cells.now c.round.new.cells c.round.result (omega arith) (omega arith) (omega arith))) c.round.ensures
