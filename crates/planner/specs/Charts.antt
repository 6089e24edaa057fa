-- The chart, and what laying a reach does. Assumes nothing.
use Rattle.std.specs.Prelude.{◌≡◌, ℕ, cond, ◌||◌, List, [], ◌∷◌, ◌++◌, length, Some, None, Ok, Err, Option, Result, nat_le, nat_lt}
use Rattle.std.specs.List.{slice_get}
use Rattle.layers.specs.Notices.{unless}
use Rattle.search.specs.Walks.{Inside}
use Rattle.search.specs.declared.reaches.Reach.{Reach}
use Rattle.planner.specs.Refusals.{number}
use Rattle.planner.specs.declared.refusals.Refusal.{Refusal}

-- The chart is the list of reaches laid; a reach is known by its place in it, from 0. All its places are among the 64.
abbrev pub Charted : List Reach → Type 0
Charted rs = (n : ℕ) (r : Reach) → slice_get rs n ≡ Some r → Inside r

-- what a call tells: the number with which it is declined, or none and its figures
abbrev pub Told : Type 0
Told = Option ℕ × List ℕ

-- declined with that number, if there is one
abbrev pub declined_or : Option ℕ → Told → Told
declined_or None told = told
declined_or (Some f) told = (Some f, [])

-- the number with which a reach is declined, over a book of so many gates and a chart
abbrev pub lay_refusal : ℕ → List Reach → Reach → Option ℕ
lay_refusal gates rs r =
    cond (nat_lt 63 r.from || nat_lt 63 r.to) (Some 3)
    (cond (nat_le gates r.gate) (Some 7)
    (cond (nat_le 256 (length rs)) (Some 6) None))

-- the reply is the number of the new reach
abbrev pub lay_reply : ℕ → List Reach → Reach → Told
lay_reply gates rs r = declined_or (lay_refusal gates rs r) (None, length rs ∷ [])

-- and the chart has one reach more
abbrev pub after_lay : ℕ → List Reach → Reach → List Reach
after_lay gates rs r = unless (lay_refusal gates rs r) (rs ++ (r ∷ [])) rs

abbrev pub told_laid : Result ℕ Refusal → Told
told_laid (Ok n) = (None, n ∷ [])
told_laid (Err f) = (Some (number f), [])

-- the number with which a notice is declined, if it is
abbrev pub declined : Result (Unit {0}) Refusal → Option ℕ
declined (Ok u) = None
declined (Err f) = Some (number f)
