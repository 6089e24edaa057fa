-- The numbers of the faults, the words of the lists, and how a check tells what it found. Assumes nothing.
use Rattle.std.specs.Prelude.{ℕ, List, codes, Option}
use Rattle.std.specs.Option.{option_map}
use Rattle.books.specs.declared.faults.Fault.{Fault}
use Rattle.books.specs.declared.faults.Fault.TheVariants.{TooManyGates, Passage, WindowGate, WindowSpan, TideTurn}
use Rattle.books.specs.declared.faults.RecordList.{RecordList}
use Rattle.books.specs.declared.faults.RecordList.TheVariants.{Timed, Windows, Tides}
use Rattle.books.specs.declared.faults.Finding.{Finding}

abbrev pub fault_number : Fault → ℕ
fault_number TooManyGates = 12
fault_number Passage = 13
fault_number WindowGate = 14
fault_number WindowSpan = 15
fault_number TideTurn = 16

abbrev pub list_word : RecordList → List ℕ
list_word Timed = codes "timed"
list_word Windows = codes "window"
list_word Tides = codes "tide"

-- a faulty record as it is told: the word of its list, its place there from 0, and the fault's number
abbrev pub Told : Type 0
Told = List ℕ × ℕ × ℕ

abbrev pub finding_told : Finding → Told
finding_told f = (list_word f.list, f.place, fault_number f.fault)

-- what a check tells, if anything
abbrev pub told : Option Finding → Option Told
told r = option_map finding_told r

-- the number of a record's fault, if it has one
abbrev pub numbered : Option Fault → Option ℕ
numbered r = option_map fault_number r
