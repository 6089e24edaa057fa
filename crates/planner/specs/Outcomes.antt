-- What a question answers, and what it leaves. Assumes nothing.
use Rattle.std.specs.Prelude.{◌≡◌, ℕ, ◌≤◌, List, [], ◌∷◌, length, take, drop, Some, None, Ok, Err, Option, Result}
use Rattle.books.specs.Meaning.{Exits}
use Rattle.search.specs.declared.reaches.Direction.{Direction}
use Rattle.search.specs.declared.reaches.Reach.{Reach}
use Rattle.planner.specs.Charts.{Told, declined_or}
use Rattle.planner.specs.Figures.{foremost_figures, fewest_figures, latest_figures}
use Rattle.planner.specs.Headings.{FitsBy, rule_by, UnbeatenBy, label_in}
use Rattle.planner.specs.Journeys.{Journey, NoSuchJourney, Ready, Due, ForemostUnbeaten, FewestUnbeaten, LatestUnbeaten}
use Rattle.planner.specs.Refusals.{number, question_fault}
use Rattle.planner.specs.Routes.{along, against, figures}
use Rattle.planner.specs.declared.legs.Answer.{Answer}
use Rattle.planner.specs.declared.legs.Leg.{Leg}
use Rattle.planner.specs.declared.refusals.Refusal.{Refusal}
use Rattle.planner.specs.declared.ways.Aim.{Aim}

-- ---- the figures in which ties leave no freedom, computed
-- declined with 5 where there are none
abbrev pub found_or_5 : Option (ℕ × ℕ) → Told
found_or_5 None = (Some 5, [])
found_or_5 (Some p) = (None, p.0 ∷ p.1 ∷ [])

-- arrival and reaches of an answer, or the number with which the question is declined
abbrev pub told_arrival : Result Answer Refusal → Told
told_arrival (Ok ans) = (None, ans.arrival ∷ ans.reaches ∷ [])
told_arrival (Err f) = (Some (number f), [])

-- departure and reaches
abbrev pub told_departure : Result Answer Refusal → Told
told_departure (Ok ans) = (None, ans.departure ∷ ans.reaches ∷ [])
told_departure (Err f) = (Some (number f), [])

-- what each question tells, lent so many scratch cells and so many entries of a leg list
abbrev pub foremost_reply : ℕ → ℕ → List Reach → Exits → ℕ → ℕ → ℕ → Told
foremost_reply cells legs rs ex a b t = declined_or (question_fault cells legs a b t) (found_or_5 (foremost_figures rs ex a b t))

abbrev pub fewest_reply : ℕ → ℕ → List Reach → Exits → ℕ → ℕ → ℕ → Told
fewest_reply cells legs rs ex a b t = declined_or (question_fault cells legs a b t) (found_or_5 (fewest_figures rs ex a b t))

abbrev pub latest_reply : ℕ → ℕ → List Reach → Exits → ℕ → ℕ → ℕ → Told
latest_reply cells legs rs ex a b t = declined_or (question_fault cells legs a b t) (found_or_5 (latest_figures rs ex a b t))

-- ---- the answer and its legs, in words of journeys
-- The answer stands for the legs at the head of the leg list, and the entries after them stay. by_rule gives the legs of a
-- route; which route it is, among ties, is the one thing left open. t is the instant asked for.
pub record Found (rs : List Reach) (ex : Exits) (a b t : ℕ) (Fits : ℕ → ℕ → Type 0) (Unbeaten : Answer → Type 0) (by_rule : List ℕ → Option (List Leg)) (old new : List Leg) (ans : Answer) : Type 0 where
  pub few : ans.reaches ≤ 63
  pub counted : length (take ans.reaches new) ≡ ans.reaches
  pub rest : drop ans.reaches new ≡ drop ans.reaches old
  -- the legs follow the rule of entry over some route, and the answer is their figures
  pub route : List ℕ
  pub ruled : by_rule route ≡ Some (take ans.reaches new)
  pub figured : ans ≡ figures t (take ans.reaches new)
  -- they are a journey of the kind asked for, and none betters it
  pub journey : Journey rs ex a b ans.departure ans.arrival (take ans.reaches new)
  pub fits : Fits ans.departure ans.arrival
  pub unbeaten : Unbeaten ans

-- found, or declined with 5 because there is no such journey, and then the leg list is as it was
abbrev pub Settled : List Reach → Exits → ℕ → ℕ → ℕ → (ℕ → ℕ → Type 0) → (Answer → Type 0) → (List ℕ → Option (List Leg)) → List Leg → List Leg → Result Answer Refusal → Type 0
Settled rs ex a b t Fits Unbeaten by_rule old new (Ok ans) = Found rs ex a b t Fits Unbeaten by_rule old new ans
Settled rs ex a b t Fits Unbeaten by_rule old new (Err f) = (number f ≡ 5) × NoSuchJourney rs ex a b Fits × (new ≡ old)

-- the number with which a question is declined, if it is
abbrev pub refused : Result Answer Refusal → Option ℕ
refused (Ok ans) = None
refused (Err f) = Some (number f)

-- Unless the question is settled so, it is declined before any journey is looked for, and nothing is changed.
abbrev pub Outcome : Option ℕ → List Reach → Exits → ℕ → ℕ → ℕ → (ℕ → ℕ → Type 0) → (Answer → Type 0) → (List ℕ → Option (List Leg)) → List (Option ℕ) → List (Option ℕ) → List Leg → List Leg → Result Answer Refusal → Type 0
Outcome (Some f) rs ex a b t Fits Unbeaten by_rule cells cells' old new r = (refused r ≡ Some f) × (cells' ≡ cells) × (new ≡ old)
Outcome None rs ex a b t Fits Unbeaten by_rule cells cells' old new r = Settled rs ex a b t Fits Unbeaten by_rule old new r

abbrev pub ForemostOutcome : List Reach → Exits → ℕ → ℕ → ℕ → List (Option ℕ) → List (Option ℕ) → List Leg → List Leg → Result Answer Refusal → Type 0
ForemostOutcome rs ex a b t cells cells' old new r =
    Outcome (question_fault (length cells) (length old) a b t) rs ex a b t (Ready t) (λ ans. ForemostUnbeaten rs ex a b t ans.arrival ans.reaches) (along rs ex t) cells cells' old new r

abbrev pub FewestOutcome : List Reach → Exits → ℕ → ℕ → ℕ → List (Option ℕ) → List (Option ℕ) → List Leg → List Leg → Result Answer Refusal → Type 0
FewestOutcome rs ex a b t cells cells' old new r =
    Outcome (question_fault (length cells) (length old) a b t) rs ex a b t (Ready t) (λ ans. FewestUnbeaten rs ex a b t ans.arrival ans.reaches) (along rs ex t) cells cells' old new r

abbrev pub LatestOutcome : List Reach → Exits → ℕ → ℕ → ℕ → List (Option ℕ) → List (Option ℕ) → List Leg → List Leg → Result Answer Refusal → Type 0
LatestOutcome rs ex a b t cells cells' old new r =
    Outcome (question_fault (length cells) (length old) a b t) rs ex a b t (Due t) (λ ans. LatestUnbeaten rs ex a b t ans.departure ans.reaches) (against rs ex t) cells cells' old new r

-- ---- the work below the questions
-- found, or nothing because there is no such journey
abbrev pub LookedFor : List Reach → Exits → ℕ → ℕ → ℕ → (ℕ → ℕ → Type 0) → (Answer → Type 0) → (List ℕ → Option (List Leg)) → List Leg → List Leg → Option Answer → Type 0
LookedFor rs ex a b t Fits Unbeaten by_rule old new None = NoSuchJourney rs ex a b Fits × (new ≡ old)
LookedFor rs ex a b t Fits Unbeaten by_rule old new (Some ans) = Found rs ex a b t Fits Unbeaten by_rule old new ans

-- label and reaches of an answer, or the number with which the question is declined
abbrev pub told_by : Direction → Result Answer Refusal → Told
told_by d (Ok ans) = (None, label_in d ans ∷ ans.reaches ∷ [])
told_by d (Err f) = (Some (number f), [])

abbrev pub OutcomeBy : Direction → Aim → List Reach → Exits → ℕ → ℕ → ℕ → List (Option ℕ) → List (Option ℕ) → List Leg → List Leg → Result Answer Refusal → Type 0
OutcomeBy d aim rs ex a b t cells cells' old new r =
    Outcome (question_fault (length cells) (length old) a b t) rs ex a b t (FitsBy d t) (λ ans. UnbeatenBy d aim rs ex a b t (label_in d ans) ans.reaches) (rule_by d rs ex t) cells cells' old new r
