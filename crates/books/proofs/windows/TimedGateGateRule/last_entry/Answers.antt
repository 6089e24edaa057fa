use Rattle.std.proofs.Common.{◌≡◌, max, rules, tests, sym, ◌∙◌, subst}
use Rattle.std.specs.List.{reduce, filter_map}
use Rattle.std.proofs.lemmas.Iterator.{YieldsList-from_slice}
use Rattle.std.proofs.lemmas.Iterator.Adapters.{option_map_id}
use Rattle.std.proofs.lemmas.Iterator.Consumers.{YieldsList-from_filter_map, max_from_yields_List}
use Rattle.books.specs.Extremes.{Greatest}
use Rattle.books.specs.Faults.{listed}
use Rattle.books.specs.Windows.{held, window_last}
use Rattle.books.proofs.WindowScans.{windows_greatest}
use Rattle.books.proofs.windows.TimedGateGateRule.last_entry.Goals as goal

pub returns : goal.returns
returns c =
    let gate = c.args.self.now in
    let ws = gate.book.windows.now in
    let n = listed gate.book.passages.now in
    let picked : c.max.result ≡ reduce max (filter_map (window_last gate.number gate.passage c.args.t) ws) =
    sym (option_map_id _) ∙ max_from_yields_List c.filter_map.result c.max.result c.max.ensures.ran (YieldsList-from_filter_map _ (window_last gate.number gate.passage c.args.t) (YieldsList-from_slice ws cc) c.filter_map.ensures.closure (λ x r q k. search (rules, tests))) in
    subst (Greatest (held n ws gate.number gate.passage) gate.passage c.args.t) (sym picked) (windows_greatest n gate.number gate.passage c.args.t c.requires ws)
