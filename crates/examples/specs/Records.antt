-- The records of a sheet's book. Assumes nothing.
use Rattle.std.specs.Prelude.{ℕ, List, [], ◌∷◌, ◌++◌, Ok, Err, vec_items, Result}
use Rattle.books.specs.declared.tides.Tide.{Tide}
use Rattle.books.specs.declared.windows.Window.{Window}
use Rattle.examples.specs.declared.cases.Case.{Case}
use Rattle.examples.specs.declared.cases.Line.{Line}
use Rattle.examples.specs.declared.cases.Line.TheVariants.{Aside, Sheet, Record, Room, Call}
use Rattle.examples.specs.declared.cases.Record.TheVariants.{Timed, Window as Windowed, Tide as Tidal}
use Rattle.examples.specs.declared.reading.Unreadable.{Unreadable}
use Rattle.examples.specs.declared.records.Records.{Records}

-- the passage times of the timed gates, the windows and the tides
pub record Lists : Type 0 where
  pub passages : List ℕ
  pub windows : List Window
  pub tides : List Tide

abbrev pub lists : Records → Lists
lists r = record { passages = vec_items r.passages; windows = vec_items r.windows; tides = vec_items r.tides }

abbrev pub nothing : Lists
nothing = record { passages = []; windows = []; tides = [] }

-- with the record of a line, if it is one
abbrev pub added : Result Line Unreadable → Lists → Lists
added (Err e) b = b
added (Ok Aside) b = b
added (Ok Sheet) b = b
added (Ok (Record (Timed p))) b = record { passages = b.passages ++ (p ∷ []); windows = b.windows; tides = b.tides }
added (Ok (Record (Windowed w))) b = record { passages = b.passages; windows = b.windows ++ (w ∷ []); tides = b.tides }
added (Ok (Record (Tidal t))) b = record { passages = b.passages; windows = b.windows; tides = b.tides ++ (t ∷ []) }
added (Ok (Room r)) b = b
added (Ok (Call c)) b = b

-- with the records of some cases
abbrev pub gathered : Lists → List Case → Lists
gathered b [] = b
gathered b (k ∷ ks) = gathered (added k.line b) ks
