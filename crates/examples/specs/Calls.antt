-- What each call of a sheet replies. Assumes nothing.
use Rattle.std.specs.Prelude.{◌≡◌, ℕ, vec_items, Result}
use Rattle.std.specs.Int.NonZero.{non_zero_u16_get}
use Rattle.books.specs.Meaning.{Exits}
use Rattle.layers.specs.Notices.{noticed_exits}
use Rattle.planner.specs.declared.charts.Planner.{Planner}
use Rattle.planner.specs.declared.refusals.Refusal.{Refusal}
use Rattle.examples.specs.Changes.{unasked, changed, repeated}
use Rattle.examples.specs.Questions.{Answered}
use Rattle.examples.specs.Texts.{reply_text}
use Rattle.examples.specs.declared.cases.Call.{Call}
use Rattle.examples.specs.declared.cases.Call.TheVariants.{Change, Repeat, Question}
use Rattle.examples.specs.declared.replies.Done.{Done}

-- over a planner whose book has so many gates and these exits, lent so many scratch cells and so many entries of a leg list
abbrev pub Replied : {B : Type 0} → ℕ → Exits → Planner B → ℕ → ℕ → Call → Result Done Refusal → Type 0
Replied gates ex p cells legs (Change c) r = reply_text r ≡ (changed gates c (unasked p)).text
Replied gates ex p cells legs (Repeat n) r = reply_text r ≡ (repeated gates (non_zero_u16_get n.count) 0 n.series (unasked p)).text
Replied gates ex p cells legs (Question q) r = Answered cells legs (vec_items p.reaches) (noticed_exits (vec_items p.noticed.notices) ex) q r
