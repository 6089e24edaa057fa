-- What is printed of reaches laid, answers and legs. Assumes nothing.
use Rattle.std.specs.Prelude.{ℕ, List, ◌++◌, codes, decimal}
use Rattle.planner.specs.declared.legs.Answer.{Answer}
use Rattle.planner.specs.declared.legs.Leg.{Leg}

-- a reach that was laid, by its number
abbrev pub laid_text : ℕ → List ℕ
laid_text n = codes "reach " ++ decimal n

-- the answer to a question
abbrev pub answer_text : Answer → List ℕ
answer_text a = codes "departs " ++ (decimal a.departure ++ (codes ", arrives " ++ (decimal a.arrival ++ (codes ", reaches " ++ decimal a.reaches))))

-- one leg of a journey
abbrev pub leg_text : Leg → List ℕ
leg_text l = codes "reach " ++ (decimal l.reach ++ (codes ": enters " ++ (decimal l.entry ++ (codes ", exits " ++ decimal l.exit))))
