use Rattle.std.proofs.Common.{ltb, List, length, is_some, None, ap, ◌∙◌, subst, arith}
use Rattle.std.proofs.lemmas.Bool.{cond-false, le-ltb}
use Rattle.books.specs.Meaning.{Exits}
use Rattle.search.specs.Filled.{Filled, Searched}
use Rattle.search.specs.Reaches.{all_turned}
use Rattle.search.specs.declared.reaches.Reach.{Reach}
use Rattle.planner.specs.Ways.{FilledBy}
use Rattle.planner.proofs.Heading.{filled_of}
use Rattle.planner.proofs.ways.Course.fill.Goals as goal

pub unwrap-requires : goal.unwrap-requires
unwrap-requires g c =
    let cells = c.args.cells.now in
    ap is_some (c.run.ensures.last ∙ cond-false (ltb (length cells) 4096) None _ (le-ltb (length cells) 4096 c.requires))

pub returns : goal.returns
returns g c =
    let h = g.H.Heading in
    let laws = g.met.H.Heading in
    let s = c.args.self.now in
    let q = c.search-search.result in
    let by = q.by.now in
    let t = c.args.trip in
    let filled = subst (Filled (g.H.Reckoning.good by) (g.H.Reckoning.goes by) (all_turned q.direction q.reaches.now) c.turn-from.result.from c.turn-from.result.instant c.args.cells.now c.run.new.cells) c.unwrap.ensures c.run.ensures.filled in
    let walks = subst (Searched (g.H.Reckoning.good by) (g.H.Reckoning.goes by) (all_turned q.direction q.reaches.now) c.turn-from.result.from c.turn-from.result.instant c.run.new.cells) c.unwrap.ensures c.run.ensures.walks in
    let there = filled_of h.heads (h.exits by) _ _ (laws.good_is by) (laws.goes_is by) q.direction c.search-search.ensures.direction q.reaches.now t.from t.to t.instant _ _ c.turn-from.ensures.from c.turn-from.ensures.instant c.run.new.cells c.unwrap.result (omega (arith, c.requires, c.run.auto.cells)) filled.0 walks in
    subst (λ (rs : List Reach). FilledBy h.heads rs (h.exits s.by.now) t.from t.to t.instant c.run.new.cells c.unwrap.result) c.search-search.ensures.reaches
    (subst (λ (ex : Exits). FilledBy h.heads q.reaches.now ex t.from t.to t.instant c.run.new.cells c.unwrap.result) (ap h.exits c.search-search.ensures.by) there)
