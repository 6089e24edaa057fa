-- Lemmas: legs arrive where the last of them comes out.
use Rattle.std.proofs.Common.{◌≡◌, ℕ, suc, ◌-◌, List, [], ◌∷◌, length, Option, ap, subst, arith}
use Rattle.std.specs.List.{slice_get}
use Rattle.std.specs.Option.{MatchOption}
use Rattle.planner.specs.Routes.{arrives}
use Rattle.planner.specs.declared.legs.Leg.{Leg}

abbrev pub ComesOut : ℕ → ℕ → Option Leg → Type 0
ComesOut t r o = MatchOption o (r ≡ t) (λ (l : Leg). r ≡ l.exit)

pub last_arrives : (t r : ℕ) (ls : List Leg) → ComesOut t r (slice_get ls (length ls - 1)) → r ≡ arrives t ls
last_arrives t r [] h = h
last_arrives t r (m ∷ []) h = let at : length (m ∷ []) - 1 ≡ 0 = omega arith in subst (ComesOut t r) (ap (slice_get (m ∷ [])) at) h
last_arrives t r (m ∷ n ∷ ns) h =
    let at : length (m ∷ n ∷ ns) - 1 ≡ suc (length (n ∷ ns) - 1) = omega arith in
    last_arrives t r (n ∷ ns) (subst (ComesOut t r) (ap (slice_get (m ∷ n ∷ ns)) at) h)
