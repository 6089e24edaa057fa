use Rattle.std.proofs.Common.{◌≡◌, ℕ, true, false, Option, subst, rules}
use Rattle.std.proofs.lemmas.Iterator.{first_from_Range}
use Rattle.search.specs.WayBack.{row_of}
use Rattle.planner.specs.Figures.{meets}
use Rattle.planner.specs.Ways.{LeastRow}
use Rattle.planner.proofs.Choosing.{least_from}
use Rattle.planner.proofs.ways.least_row.Goals as goal

pub returns : goal.returns
returns c =
    let wanted = c.wanted_label-wanted.result in
    let label = row_of c.args.cells.now in
    subst (λ (w : Option ℕ). LeastRow c.args.cells.now c.args.last c.args.place w c.find.result) c.wanted_label-wanted.ensures
    (least_from c.args.cells.now c.args.last c.args.place wanted c.find.result
    (first_from_Range _ _ _ c.find.result (λ k. meets c.wanted_label-wanted.result (row_of c.args.cells.now k c.args.place) ≡ true) (λ k. meets c.wanted_label-wanted.result (row_of c.args.cells.now k c.args.place) ≡ false)
    c.find.ensures.ran (λ x q k. search rules) (λ x q k. search rules)))
