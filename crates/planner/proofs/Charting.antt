-- Lemmas on the chart.
use Rattle.std.proofs.Common.{zero, suc, List, [], ◌∷◌, ◌++◌, Some, None, refl, subst}
use Rattle.books.specs.Options.{none_not_some, some_one}
use Rattle.search.specs.Walks.{Inside}
use Rattle.search.specs.declared.reaches.Reach.{Reach}
use Rattle.planner.specs.Charts.{Charted}

pub charted_more : (rs : List Reach) (r : Reach) → Charted rs → Inside r → Charted (rs ++ (r ∷ []))
charted_more [] r h ins zero q at = subst Inside (some_one (Some r) r q refl at) ins
charted_more [] r h ins (suc n) q at = none_not_some None q refl at
charted_more (e ∷ rs) r h ins zero q at = h 0 q at
charted_more (e ∷ rs) r h ins (suc n) q at = charted_more rs r (λ m. h (suc m)) ins n q at
