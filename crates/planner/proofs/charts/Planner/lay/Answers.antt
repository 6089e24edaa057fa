use Rattle.std.proofs.Common.{vec_items, sym, subst, arith}
use Rattle.planner.specs.Charts.{Charted}
use Rattle.planner.proofs.Charting.{charted_more}
use Rattle.planner.proofs.charts.Planner.lay.Goals as goal

pub invariant_of-self : goal.invariant_of-self
invariant_of-self g c =
    let p = c.args.self.now in record { room = (omega (arith, c.push_reserved.ensures.capacity, p.room.0), omega (arith, c.push_reserved.ensures.len, p.room.1)); charted = subst Charted (sym c.push_reserved.ensures.items) (charted_more (vec_items p.reaches) c.args.reach p.charted (omega arith, omega arith)) }
