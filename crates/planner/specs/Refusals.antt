-- The numbers of the refusals, and which of them a question meets before any journey is looked for. Assumes nothing.
use Rattle.std.specs.Prelude.{ℕ, cond, ◌||◌, Some, None, Option, nat_lt, ◌<◌, ◌≤◌}
use Rattle.layers.specs.Notices.{refusal_number}
use Rattle.planner.specs.declared.refusals.Refusal.{Refusal}
use Rattle.planner.specs.declared.refusals.Refusal.TheVariants.{FewCells, FewLegs, NoPlace, NoInstant, NoJourney, ChartFull, Layer}

abbrev pub number : Refusal → ℕ
number FewCells = 1
number FewLegs = 2
number NoPlace = 3
number NoInstant = 4
number NoJourney = 5
number ChartFull = 6
number (Layer f) = refusal_number f

-- the number with which a question is declined before any journey is looked for: it is lent so many scratch cells and so
-- many entries of a leg list, and asks for places a and b and the instant t
abbrev pub question_fault : ℕ → ℕ → ℕ → ℕ → ℕ → Option ℕ
question_fault cells legs a b t =
    cond (nat_lt cells 4096) (Some 1)
    (cond (nat_lt legs 63) (Some 2)
    (cond (nat_lt 63 a || nat_lt 63 b) (Some 3)
    (cond (nat_lt 20160 t) (Some 4) None)))

-- a and b are among the 64 places, and t is an instant
pub record Fits (a b t : ℕ) : Type 0 where
  pub from_place : a < 64
  pub to_place : b < 64
  pub in_time : t ≤ 20160
