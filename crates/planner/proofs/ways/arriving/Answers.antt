use Rattle.std.proofs.Common.{subst, rules}
use Rattle.planner.proofs.Ending.{ComesOut, last_arrives}
use Rattle.planner.proofs.ways.arriving.Goals as goal

pub returns : goal.returns
returns c =
    let out : ComesOut c.args.t c.map_or.result (Rattle.std.specs.Option.option_copied c.last.result) = search rules in
    last_arrives c.args.t c.map_or.result c.args.legs.now (subst (ComesOut c.args.t c.map_or.result) c.last.ensures.value out)
