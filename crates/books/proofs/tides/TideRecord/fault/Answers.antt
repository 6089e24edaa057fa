use Rattle.std.proofs.Common.{◌≡◌, rules, ap, ◌∙◌}
use Rattle.books.specs.Told.{fault_number, numbered}
use Rattle.books.specs.Faults.{head, passage_faults}
use Rattle.books.specs.Tides.{turn_faults}
use Rattle.books.proofs.Heads.{head_or}
use Rattle.books.proofs.tides.TideRecord.fault.Goals as goal

pub returns : goal.returns
returns c =
    let tide = c.args.self.now in
    let turn : numbered c.then_some-turn.result ≡ head (turn_faults tide) = search rules in
    ap numbered c.or.ensures ∙ head_or (passage_faults c.args.gates tide.passage) (turn_faults tide) fault_number c.fault.result c.then_some-turn.result c.fault.ensures turn
