-- What is printed of a reply.
use Rattle.std.proofs.Common.{◌≡◌, Some, Ok, Err, Result, refl}
use Rattle.layers.specs.Texts.{reply_text as printed}
use Rattle.planner.specs.Texts.{refusal_text}
use Rattle.planner.specs.declared.refusals.Refusal.{Refusal}
use Rattle.examples.specs.Texts.{done_text, reply_text}
use Rattle.examples.specs.declared.replies.Done.{Done}

-- it is the text that the contracts speak of
pub printed_reply : (r : Result Done Refusal) → printed (λ d. Some (done_text d)) (λ f. Some (refusal_text f)) r ≡ Some (reply_text r)
printed_reply (Ok d) = refl
printed_reply (Err f) = refl
