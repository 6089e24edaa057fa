-- What is printed of a fault, a faulty record and the answer of a check. Assumes nothing.
use Rattle.std.specs.Prelude.{ℕ, List, ◌++◌, Some, None, codes, decimal, Option}
use Rattle.books.specs.Told.{fault_number, list_word}
use Rattle.books.specs.declared.faults.Fault.{Fault}
use Rattle.books.specs.declared.faults.Finding.{Finding}

abbrev pub fault_text : Fault → List ℕ
fault_text f = decimal (fault_number f)

-- a faulty record: its list, its place there, and the fault's number
abbrev pub finding_text : Finding → List ℕ
finding_text f = list_word f.list ++ (codes " " ++ (decimal f.place ++ (codes " " ++ fault_text f.fault)))

-- the answer of a check: the first faulty record, if there is one
abbrev pub check_text : Option Finding → List ℕ
check_text None = codes "(book good)"
check_text (Some f) = codes "(book " ++ (finding_text f ++ codes ")")
