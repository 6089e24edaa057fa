-- What a question replies. Assumes nothing.
use Rattle.std.specs.Prelude.{◌≡◌, ℕ, List, Ok, Err, Option, Result}
use Rattle.books.specs.Meaning.{Exits}
use Rattle.search.specs.declared.reaches.Reach.{Reach}
use Rattle.planner.specs.Charts.{Told}
use Rattle.planner.specs.Journeys.{Journey}
use Rattle.planner.specs.Outcomes.{told_arrival, told_departure, foremost_reply, fewest_reply, latest_reply, ForemostOutcome, FewestOutcome, LatestOutcome}
use Rattle.planner.specs.declared.legs.Answer.{Answer}
use Rattle.planner.specs.declared.legs.Leg.{Leg}
use Rattle.planner.specs.declared.refusals.Refusal.{Refusal}
use Rattle.examples.specs.declared.cases.Ask.{Ask}
use Rattle.examples.specs.declared.cases.Ask.TheVariants.{Foremost, Fewest, Latest}
use Rattle.examples.specs.declared.cases.Question.{Question}
use Rattle.examples.specs.declared.replies.Done.{Done}
use Rattle.examples.specs.declared.replies.Done.TheVariants.{Laid, Posted, Lifted, Found}

-- the figures of an answer in which ties leave no freedom, or the number with which the question is declined
abbrev pub told_answer : Ask → Result Answer Refusal → Told
told_answer Foremost r = told_arrival r
told_answer Fewest r = told_arrival r
told_answer Latest r = told_departure r

-- what they are, lent so many scratch cells and so many entries of a leg list
abbrev pub question_reply : ℕ → ℕ → List Reach → Exits → Question → Told
question_reply cells legs rs ex q =
    elim q.ask [
      | Foremost ↦ foremost_reply cells legs rs ex q.trip.from q.trip.to q.trip.instant
      | Fewest ↦ fewest_reply cells legs rs ex q.trip.from q.trip.to q.trip.instant
      | Latest ↦ latest_reply cells legs rs ex q.trip.from q.trip.to q.trip.instant
    ]

-- the answer and its legs, in words of journeys
abbrev pub QuestionOutcome : List Reach → Exits → Question → List (Option ℕ) → List (Option ℕ) → List Leg → List Leg → Result Answer Refusal → Type 0
QuestionOutcome rs ex q cells cells' old new r =
    elim q.ask [
      | Foremost ↦ ForemostOutcome rs ex q.trip.from q.trip.to q.trip.instant cells cells' old new r
      | Fewest ↦ FewestOutcome rs ex q.trip.from q.trip.to q.trip.instant cells cells' old new r
      | Latest ↦ LatestOutcome rs ex q.trip.from q.trip.to q.trip.instant cells cells' old new r
    ]

-- the reply: a journey, with the figures that it must have, and its legs; or the number
abbrev pub Answered : ℕ → ℕ → List Reach → Exits → Question → Result Done Refusal → Type 0
Answered cells legs rs ex q (Ok (Laid n)) = ⊥
Answered cells legs rs ex q (Ok Posted) = ⊥
Answered cells legs rs ex q (Ok Lifted) = ⊥
Answered cells legs rs ex q (Ok (Found ans ls)) =
    (told_answer q.ask (Ok ans) ≡ question_reply cells legs rs ex q) × Journey rs ex q.trip.from q.trip.to ans.departure ans.arrival ls.now
Answered cells legs rs ex q (Err f) = told_answer q.ask (Err f) ≡ question_reply cells legs rs ex q
