use Rattle.std.proofs.Common.{codes, rules}
use Rattle.books.specs.Told.{finding_told}
use Rattle.books.specs.Faults.{listed, faults_from, in_list, gate_list_faults, passage_faults}
use Rattle.books.specs.Windows.{window_faults}
use Rattle.books.proofs.Heads.{head_or_else}
use Rattle.books.proofs.windows.WindowBook.check.Goals as goal

pub returns : goal.returns
returns c =
    let ps = c.args.self.now.passages.now in
    let of_gates = gate_list_faults (codes "timed") (passage_faults (listed ps)) ps in
    let of_windows = in_list (codes "window") (faults_from (window_faults (listed ps)) 0 c.args.self.now.windows.now) in
    head_or_else of_gates of_windows finding_told c.gate_list_fault.result c.or_else.result c.gate_list_fault.ensures c.or_else.ensures (λ e. search rules)
