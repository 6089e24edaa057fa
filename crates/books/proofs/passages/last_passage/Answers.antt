use Rattle.std.proofs.Common.{sym, subst}
use Rattle.books.specs.Meaning.{GreatestOut}
use Rattle.books.specs.Scans.{last_open_is_greatest}
use Rattle.books.proofs.passages.last_passage.Goals as goal

pub returns : goal.returns
returns g c =
    let b = c.args.book.now in
    let x = g.B.Book.exits b c.args.gate in
    let found = last_open_is_greatest (g.B.Book.gates b) (g.B.Book.exits b) (g.B.Book.lawful b) c.args.gate c.args.t in
    record { answer = c.last.ensures; greatest = subst (GreatestOut x c.args.t) (sym c.last.ensures) found; always = last_open_is_greatest }
