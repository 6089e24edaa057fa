-- Lemmas: a question that is not declined at once fits.
use Rattle.std.proofs.Common.{◌≡◌, ℕ, ◌≤◌, Bool, true, false, cond, ◌||◌, ltb, Some, None, Option, refl, arith}
use Rattle.std.proofs.lemmas.Bool.{ltb-false, or_parts}
use Rattle.books.specs.Options.{none_not_some}
use Rattle.planner.specs.Refusals.{question_fault, Fits}

-- a test that would have declined does not hold, and the rest decides
passed : (b : Bool) (f : ℕ) (rest : Option ℕ) → None ≡ cond b (Some f) rest → (b ≡ false) × (None ≡ rest)
passed true f rest h = none_not_some None f refl h
passed false f rest h = (refl, h)

pub fits : (cells legs a b t : ℕ) → None ≡ question_fault cells legs a b t → (4096 ≤ cells) × (63 ≤ legs) × Fits a b t
fits cells legs a b t h =
    let one = passed (ltb cells 4096) 1 (cond (ltb legs 63) (Some 2) (cond (ltb 63 a || ltb 63 b) (Some 3) (cond (ltb 20160 t) (Some 4) None))) h in
    let two = passed (ltb legs 63) 2 (cond (ltb 63 a || ltb 63 b) (Some 3) (cond (ltb 20160 t) (Some 4) None)) one.1 in
    let three = passed (ltb 63 a || ltb 63 b) 3 (cond (ltb 20160 t) (Some 4) None) two.1 in
    let four = passed (ltb 20160 t) 4 None three.1 in
    let places = or_parts (ltb 63 a) (ltb 63 b) three.0 in (
      ltb-false cells 4096 one.0,
      ltb-false legs 63 two.0,
      record { from_place = omega (arith, ltb-false 63 a places.0); to_place = omega (arith, ltb-false 63 b places.1); in_time = ltb-false 20160 t four.0 },
    )
