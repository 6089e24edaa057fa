use Rattle.std.proofs.Common.{◌-◌}
use Rattle.planner.specs.Departures.{HeldSoFar}
use Rattle.planner.proofs.Departing.{Rounds}
use Rattle.planner.proofs.departures.fastest_departure.Given as goal

abbrev pub invariant-rounds : goal.invariant-rounds
invariant-rounds g l =
    let b = l.ahead.by.now.book.now in
    Rounds (g.B.Book.gates b) (g.B.Book.exits b) (g.B.Book.lawful b) l.ahead.reaches.now l.trip.from l.d l.k l.last l.cells

abbrev pub invariant-departures : goal.invariant-departures
invariant-departures g l = HeldSoFar l.ahead.reaches.now (g.B.Book.exits l.ahead.by.now.book.now) l.trip.from l.trip.to l.trip.instant l.d l.best l.time

abbrev pub decreases-departures : goal.decreases-departures
decreases-departures g l = 20161 - l.d
