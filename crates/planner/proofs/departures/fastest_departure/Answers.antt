use Rattle.std.proofs.Common.{◌≡◌, ℕ, ◌+◌, ◌-◌, ◌<◌, ◌≤◌, length, Some, Option, sym, ap, subst, arith}
use Rattle.planner.specs.Departures.{HeldSoFar}
use Rattle.planner.proofs.Departing.{SearchedFrom, next_of, searched_at, rounds_begin, rounds_end, rounds_more, rounds_left, so_faster, so_slower, so_past, so_none}
use Rattle.planner.proofs.departures.fastest_departure.Goals as goal
use Rattle.planner.proofs.departures.fastest_departure.Goals.{else-rounds-test, then-rounds-test+then-not-told, then-arrival-d, else-arrival-d}

pub invariant_of-back : goal.invariant_of-back
invariant_of-back g c = record { few = c.args.ahead.now.few; charted = c.args.ahead.now.charted }

pub rounds-init : goal.rounds-init
rounds-init g c =
    let s = c.args.ahead.now in
    let b = s.by.now.book.now in
    let long : 4096 ≤ length c.departures.cells = omega arith in
    rounds_begin (g.B.Book.gates b) (g.B.Book.exits b) (g.B.Book.lawful b) s.reaches.now c.args.trip.from c.departures.d c.departures.cells c.first_row.new.cells c.first_row.result long c.first_row.ensures

pub rounds-preserved : goal.rounds-preserved
rounds-preserved g c =
    let s = c.args.ahead.now in
    let b = s.by.now.book.now in
    let some : 0 < c.rounds.k = omega arith in
    let long : 4096 ≤ length c.rounds.cells = omega arith in
    rounds_more (g.B.Book.gates b) (g.B.Book.exits b) (g.B.Book.lawful b) s.reaches.now c.args.trip.from c.departures.d c.rounds.k c.rounds.last c.rounds.cells c.next_row-told.new.cells c.next_row-told.result some c.rounds-test.true long c.rounds.invariant (next_of _ _ (ap (λ x. g.B.Book.exits x.book.now) c.search-search.ensures.by) _ c.search-search.ensures.direction _ s.reaches.now c.search-search.ensures.reaches c.rounds.k c.rounds.cells c.next_row-told.new.cells c.next_row-told.result c.next_row-told.ensures) c.if-not-told.false

pub earliest_arrival-requires : goal.earliest_arrival-requires
earliest_arrival-requires g c =
    let s = c.args.ahead.now in
    let b = s.by.now.book.now in
    let gates = g.B.Book.gates b in
    let ex = g.B.Book.exits b in
    let law = g.B.Book.lawful b in
    let rs = s.reaches.now in
    let from = c.args.trip.from in
    let d = c.departures.d in
    let some : 0 < c.rounds.k = omega arith in
    let long : 4096 ≤ length c.rounds.cells = omega arith in
    let after : SearchedFrom gates ex law rs from d c.rounds-test.cells c.rounds-test.last = elim c.rounds-test.branch [
      | else-rounds-test w ↦ searched_at gates ex law rs from d c.rounds-test.cells c.rounds.cells c.rounds-test.last c.rounds.last w.cells-is w.last-is (rounds_end gates ex law rs from d c.rounds.k c.rounds.last c.rounds.cells (omega (arith, w.rounds-test.false)) c.rounds.invariant)
      | then-rounds-test+then-not-told w ↦ searched_at gates ex law rs from d c.rounds-test.cells w.next_row-told.new.cells c.rounds-test.last c.rounds.k w.cells-is w.last-is (rounds_left gates ex law rs from d c.rounds.k c.rounds.last c.rounds.cells w.next_row-told.new.cells w.next_row-told.result some w.rounds-test.true long c.rounds.invariant (next_of _ _ (ap (λ x. g.B.Book.exits x.book.now) c.search-search.ensures.by) _ c.search-search.ensures.direction _ rs c.search-search.ensures.reaches c.rounds.k c.rounds.cells w.next_row-told.new.cells w.next_row-told.result w.next_row-told.ensures) w.if-not-told.true)
    ] in
    record { fits = record { from_place = c.requires.fits.from_place; to_place = c.requires.fits.to_place; in_time = c.if-d-le-LAST_INSTANT.true }; searched = after }

pub overflow_sub-d : goal.overflow_sub-d
overflow_sub-d g c = elim c.if-arrival-d.branch [ then-arrival-d w ↦ omega (arith, w.time-is) | else-arrival-d w ↦ omega (arith, w.time-is, w.if-arrival-d.false) ]

pub departures-smaller : goal.departures-smaller
departures-smaller g c =
    let low = c.if-d-le-LAST_INSTANT.true in
    elim c.if-arrival-d.branch [
      | then-arrival-d w ↦ omega (arith, w.time-is, w.leaving_for-leaves.ensures.since, w.leaving_for-leaves.ensures.first.later)
      | else-arrival-d w ↦ omega (arith, w.time-is, w.if-arrival-d.false)
    ]

pub departures-preserved : goal.departures-preserved
departures-preserved g c =
    let s = c.args.ahead.now in
    let b = s.by.now.book.now in
    let gates = g.B.Book.gates b in
    let ex = g.B.Book.exits b in
    let law = g.B.Book.lawful b in
    let rs = s.reaches.now in
    let t = c.args.trip in
    let d = c.departures.d in
    let e = c.in-Some.arrival in
    let time = c.if-arrival-d.time in
    elim c.if-arrival-d.branch [
      | then-arrival-d w ↦
          let r = w.leaving_for-leaves.result in
          let step : w.leaving_for-leaves.result + 1 ≡ c.in-Some.arrival - c.if-arrival-d.time + 1 = omega (arith, w.time-is, w.leaving_for-leaves.ensures.first.later) in
          let held = so_faster gates ex law rs s.charted t.from t.to t.instant d c.departures.time c.departures.best c.departures.invariant e c.in-Some.ensures w.if-arrival-d.true r w.leaving_for-leaves.ensures.since w.leaving_for-leaves.ensures.first in
          subst (λ (o : Option ℕ). HeldSoFar rs ex t.from t.to t.instant (e - time + 1) o time) (sym w.best-is)
          (subst (λ (m : ℕ). HeldSoFar rs ex t.from t.to t.instant m (Some r) time) step
          (subst (λ (m : ℕ). HeldSoFar rs ex t.from t.to t.instant (r + 1) (Some r) m) (sym w.time-is) held))
      | else-arrival-d w ↦
          subst (λ (o : Option ℕ). HeldSoFar rs ex t.from t.to t.instant (e - time + 1) o time) (sym w.best-is)
          (subst (λ (m : ℕ). HeldSoFar rs ex t.from t.to t.instant (e - m + 1) c.departures.best m) (sym w.time-is)
          (so_slower gates ex law rs s.charted t.from t.to t.instant d c.departures.time c.departures.best c.departures.invariant e c.in-Some.ensures w.if-arrival-d.false))
    ]

pub returns-else-d-le-LAST_INSTANT : goal.returns-else-d-le-LAST_INSTANT
returns-else-d-le-LAST_INSTANT g c =
    let s = c.args.ahead.now in
    let b = s.by.now.book.now in
    let t = c.args.trip in
    so_past (g.B.Book.gates b) (g.B.Book.exits b) (g.B.Book.lawful b) s.reaches.now s.charted t.from t.to t.instant c.departures.d c.departures.time c.departures.best c.requires.fits.in_time c.departures.invariant c.if-d-le-LAST_INSTANT.false

pub returns-in_default : goal.returns-in_default
returns-in_default g c =
    let s = c.args.ahead.now in
    let b = s.by.now.book.now in
    let t = c.args.trip in
    so_none (g.B.Book.gates b) (g.B.Book.exits b) (g.B.Book.lawful b) s.reaches.now s.charted t.from t.to t.instant c.departures.d c.departures.time c.departures.best c.departures.invariant c.in_default.ensures
