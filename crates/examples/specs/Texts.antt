-- What a reply is printed as. Assumes nothing.
use Rattle.std.specs.Prelude.{ℕ, List, ◌++◌, Ok, Err, Result, codes, decimal}
use Rattle.std.specs.List.{flat_map}
use Rattle.planner.specs.Texts.{answer_text, leg_text, refusal_text}
use Rattle.planner.specs.declared.legs.Leg.{Leg}
use Rattle.planner.specs.declared.refusals.Refusal.{Refusal}
use Rattle.examples.specs.declared.replies.Done.{Done}
use Rattle.examples.specs.declared.replies.Done.TheVariants.{Laid, Posted, Lifted, Found}

-- the legs, each after a space
abbrev pub legs_text : List Leg → List ℕ
legs_text ls = flat_map (λ l. codes " " ++ leg_text l) ls

-- what was done, or a journey: its figures and the legs
abbrev pub done_text : Done → List ℕ
done_text (Laid n) = codes "reach " ++ decimal n
done_text Posted = codes "posted"
done_text Lifted = codes "lifted"
done_text (Found ans legs) = answer_text ans ++ legs_text legs.now

-- or the number with which the call is declined
abbrev pub reply_text : Result Done Refusal → List ℕ
reply_text (Ok d) = done_text d
reply_text (Err f) = codes "declined " ++ refusal_text f
