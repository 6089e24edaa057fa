use Rattle.std.proofs.Common.{is_some, refl, sym, ap, ◌∙◌, subst, arith}
use Rattle.search.specs.Reaches.{all_turned}
use Rattle.search.specs.WayBack.{row_of}
use Rattle.search.specs.declared.reaches.Direction.TheVariants.{Against}
use Rattle.planner.specs.Reckonings.{no_sooner, goes_in}
use Rattle.planner.proofs.Departing.{BestLabel, row_best, departure_there, departure, leaves_first}
use Rattle.planner.proofs.departures.leaving_for.Goals as goal

pub label_at-requires : goal.label_at-requires
label_at-requires g c = omega (arith, c.fill-last.ensures.low)

pub unwrap-requires : goal.unwrap-requires
unwrap-requires g c =
    let s = c.args.back.now in
    let b = s.by.now.book.now in
    let ex = g.B.Book.exits b in
    let t = c.args.trip in
    let label = row_best no_sooner (goes_in ex) (all_turned Against s.reaches.now) t.to c.args.e c.fill-last.new.cells c.fill-last.result c.fill-last.ensures.unbeaten t.from c.requires.fits.from_place (row_of c.fill-last.new.cells c.fill-last.result t.from) refl in
    ap is_some c.label_at.ensures ∙ departure_there (g.B.Book.gates b) ex (g.B.Book.lawful b) s.reaches.now s.charted t.from t.to c.args.e t.instant c.requires.there (row_of c.fill-last.new.cells c.fill-last.result t.from) label

pub returns : goal.returns
returns g c =
    let s = c.args.back.now in
    let b = s.by.now.book.now in
    let gates = g.B.Book.gates b in
    let ex = g.B.Book.exits b in
    let law = g.B.Book.lawful b in
    let t = c.args.trip in
    let label = row_best no_sooner (goes_in ex) (all_turned Against s.reaches.now) t.to c.args.e c.fill-last.new.cells c.fill-last.result c.fill-last.ensures.unbeaten t.from c.requires.fits.from_place (row_of c.fill-last.new.cells c.fill-last.result t.from) refl in
    let at = sym c.label_at.ensures ∙ c.unwrap.ensures in
    let last = departure gates ex law s.reaches.now s.charted t.from t.to c.args.e c.requires.there.within c.unwrap.result (subst (BestLabel no_sooner (goes_in ex) (all_turned Against s.reaches.now) t.to c.args.e t.from) at label) in
    let two = leaves_first gates ex law s.reaches.now s.charted t.from t.to t.instant c.args.e c.unwrap.result c.requires.there last in
    record { since = two.0; first = two.1 }
