use Rattle.std.proofs.Common.{◌≡◌, ◌-◌}
use Rattle.std.specs.Int.NonZero.{non_zero_u16_get}
use Rattle.examples.specs.Changes.{state, unasked, repeated}
use Rattle.examples.specs.Texts.{reply_text}
use Rattle.examples.proofs.sheets.Sheet.repeat.Given as goal

-- the book stays, and the changes that are left lead from here where all lead from the first
abbrev pub invariant-loop-i : goal.invariant-loop-i
invariant-loop-i g l =
    let gates = g.B.Book.gates l.fn.self.planner.noticed.book in
    let count = non_zero_u16_get l.fn.repeat.count in
    (l.self.planner.noticed.book ≡ l.fn.self.planner.noticed.book)
    × (repeated gates (count - l.i) l.i l.series (state l.self.planner (reply_text l.reply)) ≡ repeated gates count 0 l.fn.repeat.series (unasked l.fn.self.planner))
