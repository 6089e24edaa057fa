use Rattle.std.proofs.Common.{arith, length-take, rules}
use Rattle.search.proofs.Begun.{begun_nowhere, begun_at}
use Rattle.search.proofs.rows.first_row.Goals as goal

pub slice_bounds-fill-end-2 : goal.slice_bounds-fill-end-2
slice_bounds-fill-end-2 g c = omega (arith, length-take 64 c.args.cells.now)

pub returns-then-start-lt-PLACES : goal.returns-then-start-lt-PLACES
returns-then-start-lt-PLACES g c = begun_at c.args.start c.args.label c.args.cells.now c.fill.new.self c.if-cells-lt-CELLS.false (c.fill.ensures.after (λ y k. search rules)) c.from.result c.from.ensures c.if-start-lt-PLACES.true

pub returns-else-start-lt-PLACES : goal.returns-else-start-lt-PLACES
returns-else-start-lt-PLACES g c = begun_nowhere c.args.start c.args.label c.args.cells.now c.fill.new.self c.if-cells-lt-CELLS.false (c.fill.ensures.after (λ y k. search rules)) c.if-start-lt-PLACES.false
