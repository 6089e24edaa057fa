-- What a window book means, and which faults its records have. Assumes nothing.
use Rattle.std.specs.Prelude.{◌≡◌, ℕ, ◌+◌, ◌-◌, ◌<◌, ◌≤◌, min, max, Bool, false, cond, ◌&&◌, ◌||◌, List, [], ◌∷◌, ◌++◌, Some, None, codes, Option, ◌==◌, nat_le, nat_lt}
use Rattle.std.specs.List.{slice_get}
use Rattle.books.specs.Meaning.{Exits}
use Rattle.books.specs.Told.{Told}
use Rattle.books.specs.Faults.{listed, when, faultless, faults_from, in_list, gate_list_faults, passage_faults}
use Rattle.books.specs.Records.{sound_gate, exit_by}
use Rattle.books.specs.declared.windows.Window.{Window}

-- the faults of a window, in a book of so many gates
abbrev pub window_faults : ℕ → Window → List ℕ
window_faults gates w = when (nat_le gates w.gate) 14 (when (nat_lt w.end w.begin || nat_lt 20160 w.end) 15 [])

-- every fault of a window book, in the order in which a check looks
abbrev pub timed_faults : List ℕ → List Window → List Told
timed_faults ps ws = gate_list_faults (codes "timed") (passage_faults (listed ps)) ps ++ in_list (codes "window") (faults_from (window_faults (listed ps)) 0 ws)

-- the window is gate g's, and the whole passage of p minutes from s on lies in it
abbrev pub holds : ℕ → ℕ → ℕ → Window → Bool
holds g p s w = w.gate == g && (nat_le w.begin s && nat_le (s + p) w.end)

-- one window without a fault holds it, in a book of so many gates
abbrev pub held : ℕ → List Window → ℕ → ℕ → ℕ → Bool
held gates [] g p s = false
held gates (w ∷ ws) g p s = (faultless (window_faults gates w) && holds g p s w) || held gates ws g p s

-- the meaning: the record of a gate is its passage time p, and it is open at s when one window holds the passage
abbrev pub timed_exits : List ℕ → List Window → Exits
timed_exits ps ws g = exit_by (λ p. p) (held (listed ps) ws g) (sound_gate passage_faults ps g)

-- The rule of the window book: a boat enters gate g at s and comes out at e.
pub record TimedPassage (ps : List ℕ) (ws : List Window) (g s e : ℕ) : Type 0 where
  -- only the first 256 entries are gates
  pub among : g < 256
  -- the gate's passage time, which has no fault
  pub minutes : ℕ
  pub its_entry : slice_get ps g ≡ Some minutes
  pub some : 1 ≤ minutes
  pub within : minutes ≤ 20160
  -- one window of the gate, which has no fault
  pub place : ℕ
  pub window : Window
  pub window_at : slice_get ws place ≡ Some window
  pub its_gate : window.gate ≡ g
  pub ordered : window.begin ≤ window.end
  pub in_time : window.end ≤ 20160
  -- the whole passage lies in it
  pub opened : window.begin ≤ s
  pub out : e ≡ s + minutes
  pub closes : e ≤ window.end

-- ---- as the code reckons
-- the window is one of gate g's and ends in the fortnight
abbrev pub takes : ℕ → Window → Bool
takes g w = w.gate == g && nat_le w.end 20160

-- the least instant from t on at which the window holds a passage of p minutes of gate g
abbrev pub window_first : ℕ → ℕ → ℕ → Window → Option ℕ
window_first g p t w = cond (takes g w && nat_le (max w.begin t + p) w.end) (Some (max w.begin t)) None

-- the greatest such instant from which the boat comes out by t
abbrev pub window_last : ℕ → ℕ → ℕ → Window → Option ℕ
window_last g p t w = cond (takes g w && nat_le (w.begin + p) (min w.end t)) (Some (min w.end t - p)) None
