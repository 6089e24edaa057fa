use Rattle.std.proofs.Common.{◌<◌, ◌≤◌, length, arith}
use Rattle.search.specs.Reaches.{all_turned}
use Rattle.search.proofs.Onwards.{too_few, rounds_begin, rounds_end, rounds_more, rounds_left}
use Rattle.search.proofs.rows.Search.run.Goals as goal

pub returns-then-not-first_row : goal.returns-then-not-first_row
returns-then-not-first_row g c =
    let r = c.args.self.by.now in
    let so = too_few (g.R.Reckoning.good r) (g.R.Reckoning.goes r) (all_turned c.args.self.direction c.args.self.reaches.now) c.args.start c.args.label c.args.cells.now c.first_row.new.cells c.first_row.result c.first_row.ensures c.if-not-first_row.true in
    record { last = so.0; filled = so.1; walks = tt }

pub rounds-init : goal.rounds-init
rounds-init g c =
    let r = c.args.self.by.now in
    rounds_begin (g.R.Reckoning.good r) (g.R.Reckoning.goes r) (all_turned c.args.self.direction c.args.self.reaches.now) c.args.start c.args.label c.args.cells.now c.first_row.new.cells c.first_row.result c.first_row.ensures c.if-not-first_row.false

pub rounds-preserved : goal.rounds-preserved
rounds-preserved g c =
    let r = c.args.self.by.now in
    let some : 0 < c.rounds.k = omega arith in
    let long : 4096 ≤ length c.rounds.cells = omega (arith, c.rounds.invariant.0) in
    rounds_more (g.R.Reckoning.good r) (g.R.Reckoning.goes r) (all_turned c.args.self.direction c.args.self.reaches.now) c.args.start c.args.label c.args.cells.now (g.R.Reckoning.laws r) c.rounds.k c.rounds.last c.rounds.cells c.next_row.new.cells c.next_row.result some (omega (arith, c.rounds-test.true)) long c.rounds.invariant c.next_row.ensures c.if-not-next_row.false

pub returns-after-rounds : goal.returns-after-rounds
returns-after-rounds g c =
    let r = c.args.self.by.now in
    let end = rounds_end (g.R.Reckoning.good r) (g.R.Reckoning.goes r) (all_turned c.args.self.direction c.args.self.reaches.now) c.args.start c.args.label c.args.cells.now (g.R.Reckoning.laws r) c.rounds.k c.rounds.last c.rounds.cells (omega arith) c.rounds.invariant in
    record { last = end.0; filled = end.1; walks = end.2 }

pub returns-then-not-next_row : goal.returns-then-not-next_row
returns-then-not-next_row g c =
    let r = c.args.self.by.now in
    let some : 0 < c.rounds.k = omega arith in
    let long : 4096 ≤ length c.rounds.cells = omega (arith, c.rounds.invariant.0) in
    let end = rounds_left (g.R.Reckoning.good r) (g.R.Reckoning.goes r) (all_turned c.args.self.direction c.args.self.reaches.now) c.args.start c.args.label c.args.cells.now (g.R.Reckoning.laws r) c.rounds.k c.rounds.last c.rounds.cells c.next_row.new.cells c.next_row.result some (omega (arith, c.rounds-test.true)) long c.rounds.invariant c.next_row.ensures c.if-not-next_row.true in
    record { last = end.0; filled = end.1; walks = end.2 }
