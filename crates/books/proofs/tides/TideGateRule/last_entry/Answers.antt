use Rattle.std.proofs.Common.{◌≡◌, ℕ, ◌-◌, ◌%◌, ap, arith}
use Rattle.books.proofs.TideTurns.{tide_greatest}
use Rattle.books.proofs.tides.TideGateRule.last_entry.Goals as goal

pub returns : goal.returns
returns c =
    let tide = c.args.self.now in
    let since : c.in_ok-since.since ≡ c.in_ok-top.top - tide.phase = omega arith in
    let turned = ap (λ (n : ℕ). n % tide.period) since in
    tide_greatest tide c.requires c.args.t c.in_ok-top.top c.saturating_sub.result (omega arith) (omega arith) (omega arith) (omega arith)
