use Rattle.std.proofs.Common.{◌<◌, length, is_some, sym, ap, ◌∙◌, arith, rules}
use Rattle.planner.specs.Headings.{goes_of}
use Rattle.planner.proofs.Reading.{steps_there, came_there, stands_there, passes_there, leg_there}
use Rattle.planner.proofs.ways.Course.leg.Goals as goal

pub unwrap-number-requires : goal.unwrap-number-requires
unwrap-number-requires g c =
    let r = c.requires.reached in
    let s = c.args.self.now in
    let q = c.search-search.result in
    let h = g.H.Heading in
    let laws = g.met.H.Heading in
    steps_there (h.gates s.by.now) (h.exits s.by.now) (laws.lawful s.by.now) h.heads s.reaches.now c.args.cells.now r.0 r.1 c.args.row c.args.place r.2 c.requires.inner r.3 _ _ (laws.good_is q.by.now) (laws.goes_is q.by.now ∙ ap (goes_of h.heads) (ap h.exits c.search-search.ensures.by)) q.direction c.search-search.ensures.direction q.reaches.now c.search-search.ensures.reaches _ c.back_step.ensures.step

pub bounds-self-number : goal.bounds-self-number
bounds-self-number g c =
    let r = c.requires.reached in
    let s = c.args.self.now in
    let q = c.search-search.result in
    let h = g.H.Heading in
    let laws = g.met.H.Heading in
    let came = came_there (h.gates s.by.now) (h.exits s.by.now) (laws.lawful s.by.now) h.heads s.reaches.now c.args.cells.now r.0 r.1 c.args.row c.args.place r.2 c.requires.inner r.3 _ _ (laws.good_is q.by.now) (laws.goes_is q.by.now ∙ ap (goes_of h.heads) (ap h.exits c.search-search.ensures.by)) q.direction c.search-search.ensures.direction q.reaches.now c.search-search.ensures.reaches _ c.back_step.ensures.step c.unwrap-number.result c.unwrap-number.ensures in
    came.low

pub offset_bounds-self-number : goal.offset_bounds-self-number
offset_bounds-self-number g c =
    let r = c.requires.reached in
    let s = c.args.self.now in
    let q = c.search-search.result in
    let h = g.H.Heading in
    let laws = g.met.H.Heading in
    let came = came_there (h.gates s.by.now) (h.exits s.by.now) (laws.lawful s.by.now) h.heads s.reaches.now c.args.cells.now r.0 r.1 c.args.row c.args.place r.2 c.requires.inner r.3 _ _ (laws.good_is q.by.now) (laws.goes_is q.by.now ∙ ap (goes_of h.heads) (ap h.exits c.search-search.ensures.by)) q.direction c.search-search.ensures.direction q.reaches.now c.search-search.ensures.reaches _ c.back_step.ensures.step c.unwrap-number.result c.unwrap-number.ensures in
    let low : c.unwrap-number.result < length s.reaches.now = came.low in
    search rules

pub unwrap-here-requires : goal.unwrap-here-requires
unwrap-here-requires g c =
    let r = c.requires.reached in
    let s = c.args.self.now in
    let q = c.search-search.result in
    let h = g.H.Heading in
    let laws = g.met.H.Heading in
    let came = came_there (h.gates s.by.now) (h.exits s.by.now) (laws.lawful s.by.now) h.heads s.reaches.now c.args.cells.now r.0 r.1 c.args.row c.args.place r.2 c.requires.inner r.3 _ _ (laws.good_is q.by.now) (laws.goes_is q.by.now ∙ ap (goes_of h.heads) (ap h.exits c.search-search.ensures.by)) q.direction c.search-search.ensures.direction q.reaches.now c.search-search.ensures.reaches _ c.back_step.ensures.step c.unwrap-number.result c.unwrap-number.ensures in
    ap is_some (c.label_at.ensures ∙ stands_there h.heads s.reaches.now (h.exits s.by.now) c.args.cells.now r.0 r.1 c.args.row c.args.place r.2 c.unwrap-number.result came q.direction c.search-search.ensures.direction c.turn-start.result c.turn-start.ensures)

pub unwrap-entry-requires : goal.unwrap-entry-requires
unwrap-entry-requires g c =
    let r = c.requires.reached in
    let s = c.args.self.now in
    let q = c.search-search.result in
    let h = g.H.Heading in
    let laws = g.met.H.Heading in
    let came = came_there (h.gates s.by.now) (h.exits s.by.now) (laws.lawful s.by.now) h.heads s.reaches.now c.args.cells.now r.0 r.1 c.args.row c.args.place r.2 c.requires.inner r.3 _ _ (laws.good_is q.by.now) (laws.goes_is q.by.now ∙ ap (goes_of h.heads) (ap h.exits c.search-search.ensures.by)) q.direction c.search-search.ensures.direction q.reaches.now c.search-search.ensures.reaches _ c.back_step.ensures.step c.unwrap-number.result c.unwrap-number.ensures in
    ap is_some (c.passage.ensures ∙ passes_there h.heads s.reaches.now (h.exits s.by.now) c.args.cells.now r.0 r.1 c.args.row c.args.place r.2 c.unwrap-number.result came q.direction c.search-search.ensures.direction c.turn-start.result c.turn-start.ensures c.unwrap-here.result (sym c.label_at.ensures ∙ c.unwrap-here.ensures))

pub overflow_cast-leg : goal.overflow_cast-leg
overflow_cast-leg g c =
    let r = c.requires.reached in
    let s = c.args.self.now in
    let q = c.search-search.result in
    let h = g.H.Heading in
    let laws = g.met.H.Heading in
    let came = came_there (h.gates s.by.now) (h.exits s.by.now) (laws.lawful s.by.now) h.heads s.reaches.now c.args.cells.now r.0 r.1 c.args.row c.args.place r.2 c.requires.inner r.3 _ _ (laws.good_is q.by.now) (laws.goes_is q.by.now ∙ ap (goes_of h.heads) (ap h.exits c.search-search.ensures.by)) q.direction c.search-search.ensures.direction q.reaches.now c.search-search.ensures.reaches _ c.back_step.ensures.step c.unwrap-number.result c.unwrap-number.ensures in
    let low : c.unwrap-number.result < 256 = omega (arith, came.low, s.few) in
    search rules

pub returns : goal.returns
returns g c at x z r =
    let s = c.args.self.now in
    let q = c.search-search.result in
    let h = g.H.Heading in
    let laws = g.met.H.Heading in
    let came = came_there (h.gates s.by.now) (h.exits s.by.now) (laws.lawful s.by.now) h.heads s.reaches.now c.args.cells.now at x c.args.row c.args.place z c.requires.inner r _ _ (laws.good_is q.by.now) (laws.goes_is q.by.now ∙ ap (goes_of h.heads) (ap h.exits c.search-search.ensures.by)) q.direction c.search-search.ensures.direction q.reaches.now c.search-search.ensures.reaches _ c.back_step.ensures.step c.unwrap-number.result c.unwrap-number.ensures in
    leg_there h.heads s.reaches.now (h.exits s.by.now) c.args.cells.now at x c.args.row c.args.place z c.unwrap-number.result came q.direction c.search-search.ensures.direction c.turn-start.result c.turn-start.ensures c.unwrap-here.result (sym c.label_at.ensures ∙ c.unwrap-here.ensures) c.unwrap-entry.result (sym c.passage.ensures ∙ c.unwrap-entry.ensures)
