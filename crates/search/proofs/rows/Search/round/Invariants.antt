use Rattle.std.proofs.Common.{◌≡◌, ℕ, ◌+◌, ◌-◌, ◌*◌, ◌<◌, ◌≤◌, false, get_or, drop, None}
use Rattle.search.specs.Reaches.{all_turned}
use Rattle.search.specs.Rows.{rounded, stirred, Carried}
use Rattle.search.specs.Walks.{Good}
use Rattle.search.proofs.rows.Search.round.Given as goal

abbrev pub invariant-loop-reach : goal.invariant-loop-reach
invariant-loop-reach g l =
    let a = g.R.Reckoning.good l.self.by.now in
    let b = g.R.Reckoning.goes l.self.by.now in
    let p = 64 * (l.k - 1) in
    let q = 64 * l.k in
    (Carried a b (all_turned l.self.direction l.self.reaches.now) l.initial.cells l.k →
    (rounded a b p q l.cells (all_turned l.self.direction (drop l.reach-index l.self.reaches.now)) ≡ rounded a b p q l.initial.cells (all_turned l.self.direction l.self.reaches.now))
    × (stirred a b p q l.cells l.told (all_turned l.self.direction (drop l.reach-index l.self.reaches.now)) ≡ stirred a b p q l.initial.cells false (all_turned l.self.direction l.self.reaches.now))
    × ((v : ℕ) → v < 64 → (z : g.row.R-Label.Denot) → Good a (get_or l.initial.cells (p + v) None) z → Good a (get_or l.cells (q + v) None) z))
    × ((j : ℕ) → q + 64 ≤ j → get_or l.cells j None ≡ get_or l.initial.cells j None)
    × ((j : ℕ) → j < q → get_or l.cells j None ≡ get_or l.initial.cells j None)
