use Rattle.std.proofs.Common.{rules}
use Rattle.books.proofs.Heads.{first_told}
use Rattle.books.proofs.records.first_fault.Goals as goal

pub returns : goal.returns
returns g c = first_told (g.R.Record.faults c.args.gates) c.args.list c.args.records.now c.find_map.result (search rules)
