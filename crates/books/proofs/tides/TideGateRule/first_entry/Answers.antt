use Rattle.std.proofs.Common.{◌≡◌, rules, arith, subst}
use Rattle.books.specs.Extremes.{Least}
use Rattle.books.specs.Tides.{tide_opens}
use Rattle.books.proofs.TideTurns.{tide_first, tide_least}
use Rattle.books.proofs.tides.TideGateRule.first_entry.Goals as goal

pub returns-in_err-start : goal.returns-in_err-start
returns-in_err-start c =
    let tide = c.args.self.now in
    let reckoned : tide_first tide c.requires c.args.t ≡ c.from_residual-in_err-start.result = search rules in
    subst (Least (tide_opens tide) c.args.t) reckoned (tide_least tide c.requires c.args.t (omega arith))

pub returns : goal.returns
returns c =
    let tide = c.args.self.now in
    let reckoned : tide_first tide c.requires c.args.t ≡ c.then_some.result = search rules in
    subst (Least (tide_opens tide) c.args.t) reckoned (tide_least tide c.requires c.args.t (omega arith))
