use Rattle.std.proofs.Common.{sym, subst}
use Rattle.books.specs.Meaning.{LeastOpen}
use Rattle.books.specs.Scans.{first_open_is_least}
use Rattle.books.proofs.passages.next_passage.Goals as goal

pub returns : goal.returns
returns g c =
    let b = c.args.book.now in
    let x = g.B.Book.exits b c.args.gate in
    let found = first_open_is_least (g.B.Book.gates b) (g.B.Book.exits b) (g.B.Book.lawful b) c.args.gate c.args.t in
    record { answer = c.first.ensures; least = subst (LeastOpen x c.args.t) (sym c.first.ensures) found; always = first_open_is_least }
