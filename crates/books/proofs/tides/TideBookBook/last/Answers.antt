use Rattle.std.proofs.Common.{Option, ap, ◌∙◌}
use Rattle.books.specs.Meaning.{last_open}
use Rattle.books.specs.Records.{exit_by}
use Rattle.books.specs.Tides.{tide_opens}
use Rattle.books.specs.declared.tides.Tide.{Tide}
use Rattle.books.proofs.Extremes.{no_last}
use Rattle.books.proofs.tides.TideBookBook.last.Goals as goal

pub returns-in_err-gate_record : goal.returns-in_err-gate_record
returns-in_err-gate_record c = c.from_residual.ensures ∙ no_last c.args.t ∙ ap (λ (o : Option Tide). last_open (exit_by (λ d. d.passage) tide_opens o) c.args.t) c.in_err-gate_record.ensures
