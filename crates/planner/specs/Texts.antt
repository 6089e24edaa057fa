-- What is printed of a refusal, a leg and an answer. Assumes nothing.
use Rattle.std.specs.Prelude.{ℕ, List, ◌++◌, codes, decimal}
use Rattle.planner.specs.Refusals.{number}
use Rattle.planner.specs.declared.legs.Answer.{Answer}
use Rattle.planner.specs.declared.legs.Leg.{Leg}
use Rattle.planner.specs.declared.refusals.Refusal.{Refusal}

abbrev pub refusal_text : Refusal → List ℕ
refusal_text f = decimal (number f)

-- a leg: its reach, entry and exit
abbrev pub leg_text : Leg → List ℕ
leg_text l = codes "(" ++ (decimal l.reach ++ (codes " " ++ (decimal l.entry ++ (codes " " ++ (decimal l.exit ++ codes ")")))))

-- an answer: departure, arrival and number of reaches
abbrev pub answer_text : Answer → List ℕ
answer_text a = decimal a.departure ++ (codes " " ++ (decimal a.arrival ++ (codes " " ++ decimal a.reaches)))
