use Rattle.std.proofs.Common.{◌≡◌, ◌+◌, rules, ◌∙◌}
use Rattle.std.specs.Option.{option_map}
use Rattle.books.proofs.Extremes.{first_passage_is}
use Rattle.books.proofs.gate_rule.GateRule.first_passage.Goals as goal

pub returns : goal.returns
returns g c =
    let gate = c.args.self.now in
    let minutes = g.Self.GateRule.minutes gate in
    let each : c.map.result ≡ option_map (λ s. (s, s + minutes)) c.first_entry.result = search rules in
    each ∙ first_passage_is minutes (g.Self.GateRule.opens gate) (g.met.Self.GateRule.ends gate) c.args.t c.first_entry.result c.first_entry.ensures
