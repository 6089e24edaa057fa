use Rattle.std.proofs.Common.{refl, sym, subst}
use Rattle.search.specs.Reaches.{all_turned}
use Rattle.search.specs.WayBack.{row_of}
use Rattle.search.specs.declared.reaches.Direction.TheVariants.{Along}
use Rattle.planner.specs.Departures.{Arrival}
use Rattle.planner.specs.Reckonings.{no_later, comes_out}
use Rattle.planner.proofs.Departing.{row_best, arrival}
use Rattle.planner.proofs.departures.earliest_arrival.Goals as goal

pub returns : goal.returns
returns g c =
    let s = c.args.ahead.now in
    let b = s.by.now.book.now in
    let ex = g.B.Book.exits b in
    let t = c.args.trip in
    let row = row_of c.args.cells.now c.args.last t.to in
    let best = row_best no_later (comes_out ex) (all_turned Along s.reaches.now) t.from t.instant c.args.cells.now c.args.last c.requires.searched.1 t.to c.requires.fits.to_place row refl in
    subst (Arrival s.reaches.now ex t.from t.to t.instant) (sym c.label_at.ensures) (arrival (g.B.Book.gates b) ex (g.B.Book.lawful b) s.reaches.now s.charted t.from t.to t.instant c.requires.fits.in_time row best)
