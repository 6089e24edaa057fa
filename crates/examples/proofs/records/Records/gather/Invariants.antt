use Rattle.std.proofs.Common.{◌≡◌, drop}
use Rattle.examples.specs.Records.{lists, nothing, gathered}
use Rattle.examples.proofs.records.Records.gather.Given as goal

-- the cases that are left add what is missing
abbrev pub invariant-loop-case : goal.invariant-loop-case
invariant-loop-case l = gathered (lists l.records) (drop l.case-index l.cases) ≡ gathered nothing l.cases
