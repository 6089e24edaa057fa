-- What a tide book means, and which faults its records have. Assumes nothing.
use Rattle.std.specs.Prelude.{◌≡◌, ℕ, ◌+◌, ◌-◌, ◌%◌, ◌<◌, ◌≤◌, Bool, ◌&&◌, ◌||◌, List, [], ◌++◌, Some, codes, ◌==◌, nat_le, nat_lt}
use Rattle.std.specs.List.{slice_get}
use Rattle.books.specs.Meaning.{Exits}
use Rattle.books.specs.Told.{Told}
use Rattle.books.specs.Faults.{listed, when, gate_list_faults, passage_faults}
use Rattle.books.specs.Records.{sound_gate, exit_by}
use Rattle.books.specs.declared.tides.Tide.{Tide}

-- the faults of a tide's turning: 16
abbrev pub turn_faults : Tide → List ℕ
turn_faults d = when (d.period == 0 || (nat_lt d.period d.length || nat_lt 20160 d.phase)) 16 []

-- the faults of a tide, in a book of so many gates: 13 as for any passage time, then 16
abbrev pub tide_faults : ℕ → Tide → List ℕ
tide_faults gates d = passage_faults gates d.passage ++ turn_faults d

-- every fault of a tide book, in the order in which a check looks
abbrev pub tidal_faults : List Tide → List Told
tidal_faults ds = gate_list_faults (codes "tide") (tide_faults (listed ds)) ds

-- the tide lets a boat in at s: its phase has come, the passage fits what is left of the turn, and it ends in the fortnight
abbrev pub tide_opens : Tide → ℕ → Bool
tide_opens d s = nat_le d.phase s && (nat_le ((s - d.phase) % d.period + d.passage) d.length && nat_le (s + d.passage) 20160)

-- the meaning: the record of a gate is its tide
abbrev pub tidal_exits : List Tide → Exits
tidal_exits ds g = exit_by (λ d. d.passage) tide_opens (sound_gate tide_faults ds g)

-- The rule of the tide book: a boat enters gate g at s and comes out at e.
pub record TidalPassage (ds : List Tide) (g s e : ℕ) : Type 0 where
  -- only the first 256 entries are gates
  pub among : g < 256
  -- the gate's tide, which has no fault
  pub tide : Tide
  pub its_entry : slice_get ds g ≡ Some tide
  pub some : 1 ≤ tide.passage
  pub within : tide.passage ≤ 20160
  pub turns : 1 ≤ tide.period
  pub part : tide.length ≤ tide.period
  pub in_time : tide.phase ≤ 20160
  -- it is open from s on for the whole passage
  pub come : tide.phase ≤ s
  pub fits : (s - tide.phase) % tide.period + tide.passage ≤ tide.length
  pub ends : s + tide.passage ≤ 20160
  pub out : e ≡ s + tide.passage
