-- Changes that are made one after another, step by step.
use Rattle.std.proofs.Common.{◌≡◌, ℕ, zero, suc, ◌+◌, ◌-◌, ◌<◌, refl, arith}
use Rattle.examples.specs.Changes.{State, changed, repeated}
use Rattle.examples.specs.Series.{change_at, series_after}
use Rattle.examples.specs.declared.series.Series.{Series}

-- the first of the changes that are left
pub repeated_more : (gates n i : ℕ) (s : Series) (st : State) → 0 < n → repeated gates n i s st ≡ repeated gates (n - 1) (i + 1) (series_after s) (changed gates (change_at i s) st)
repeated_more gates zero i s st h = absurd (omega arith)
repeated_more gates (suc n) i s st h = let e : suc n - 1 ≡ n = omega arith in rw e refl
