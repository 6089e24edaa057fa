use Rattle.std.proofs.Common.{rules}
use Rattle.books.specs.Told.{list_word}
use Rattle.books.specs.Faults.{listed}
use Rattle.books.proofs.Heads.{gate_list_told}
use Rattle.books.proofs.records.gate_list_fault.Goals as goal

pub returns : goal.returns
returns g c =
    let rs = c.args.entries.now in
    rw c.or.ensures (gate_list_told (g.R.Record.faults (listed rs)) (list_word c.args.list) rs c.first_fault.result c.then_some-too_many.result (cc) (search rules))
