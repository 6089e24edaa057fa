use Rattle.std.proofs.Common.{◌≡◌, min, rules, tests, sym, ◌∙◌, subst}
use Rattle.std.specs.List.{reduce, filter_map}
use Rattle.std.proofs.lemmas.Iterator.{YieldsList-from_slice}
use Rattle.std.proofs.lemmas.Iterator.Adapters.{option_map_id}
use Rattle.std.proofs.lemmas.Iterator.Consumers.{YieldsList-from_filter_map, min_from_yields_List}
use Rattle.books.specs.Extremes.{Least}
use Rattle.books.specs.Faults.{listed}
use Rattle.books.specs.Windows.{held, window_first}
use Rattle.books.proofs.WindowScans.{windows_least}
use Rattle.books.proofs.windows.TimedGateGateRule.first_entry.Goals as goal

pub returns : goal.returns
returns c =
    let gate = c.args.self.now in
    let ws = gate.book.windows.now in
    let n = listed gate.book.passages.now in
    let picked : c.min.result ≡ reduce min (filter_map (window_first gate.number gate.passage c.args.t) ws) =
    sym (option_map_id _) ∙ min_from_yields_List c.filter_map.result c.min.result c.min.ensures.ran (YieldsList-from_filter_map _ (window_first gate.number gate.passage c.args.t) (YieldsList-from_slice ws cc) c.filter_map.ensures.closure (λ x r q k. search (rules, tests))) in
    subst (Least (held n ws gate.number gate.passage) c.args.t) (sym picked) (windows_least n gate.number gate.passage c.args.t c.requires ws)
