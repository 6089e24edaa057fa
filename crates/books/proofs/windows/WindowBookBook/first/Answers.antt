use Rattle.std.proofs.Common.{ℕ, Option, ap, ◌∙◌}
use Rattle.books.specs.Meaning.{first_open}
use Rattle.books.proofs.Extremes.{no_first}
use Rattle.books.proofs.windows.WindowBookBook.first.Goals as goal

pub returns-in_err-gate : goal.returns-in_err-gate
returns-in_err-gate c = c.from_residual.ensures ∙ no_first c.args.t ∙ ap (λ (x : ℕ → Option ℕ). first_open x c.args.t) c.in_err-gate.ensures.rule

pub returns : goal.returns
returns c = c.first_passage.ensures ∙ ap (λ (x : ℕ → Option ℕ). first_open x c.args.t) c.in_ok-gate.ensures.rule
