-- Worked examples: answers that the rules give, reckoned by hand, beside what the definitions compute.
use Rattle.std.specs.Prelude.{ℕ, List, [], ◌∷◌, Some, None, Option}
use Rattle.books.specs.Meaning.{Exits, first_open, last_open}
use Rattle.books.specs.Windows.{timed_exits}
use Rattle.books.specs.Tides.{tidal_exits}
use Rattle.books.specs.declared.windows.Window.{Window}
use Rattle.layers.specs.Notices.{noticed_exits}
use Rattle.layers.specs.TwoBooks.{two_exits}

-- the figures of an answer: its entry and its exit, and none where it is nothing
abbrev pub figures : Option (ℕ × ℕ) → List ℕ
figures None = []
figures (Some p) = p.0 ∷ p.1 ∷ []

-- the figure of an exit, and none where the gate is shut
abbrev pub exit_figure : Option ℕ → List ℕ
exit_figure None = []
exit_figure (Some e) = e ∷ []

abbrev window : ℕ → ℕ → Window
window b e = record { gate = 0; begin = b; end = e }

-- passage 20, window 10 to 95
abbrev timed : Exits
timed = timed_exits (20 ∷ []) (window 10 95 ∷ [])

-- phase 60, period 745, length 180, passage 30
abbrev tidal : Exits
tidal = tidal_exits (record { phase = 60; period = 745; length = 180; passage = 30 } ∷ [])

-- passage 20, window 5 to 25: open at 5 only
abbrev narrow : Exits
narrow = timed_exits (20 ∷ []) (window 5 25 ∷ [])

-- passage 15, windows 0 to 10 and 10 to 20, which don't join: never open
abbrev touching : Exits
touching = timed_exits (15 ∷ []) (window 0 10 ∷ window 10 20 ∷ [])

-- the tide under a notice from 90 to 200
abbrev noticed : Exits
noticed = noticed_exits (record { gate = 0; begin = 90; end = 200 } ∷ []) tidal

-- the timed gate as gate 0 and the tide as gate 1, under a notice from 85 to 200 on the tide
abbrev layered : Exits
layered = noticed_exits (record { gate = 1; begin = 85; end = 200 } ∷ []) (two_exits 1 timed tidal)

abbrev pub worked : List (List ℕ)
worked =
    figures (first_open (timed 0) 75) ∷
    figures (first_open (timed 0) 76) ∷
    figures (last_open (timed 0) 30) ∷
    figures (last_open (timed 0) 29) ∷
    figures (first_open (tidal 0) 210) ∷
    figures (first_open (tidal 0) 211) ∷
    figures (first_open (narrow 0) 0) ∷
    figures (first_open (narrow 0) 6) ∷
    figures (first_open (touching 0) 0) ∷
    exit_figure (noticed 0 60) ∷
    exit_figure (noticed 0 61) ∷
    figures (first_open (layered 0) 0) ∷
    figures (first_open (layered 1) 30) ∷
    []

abbrev pub expected : List (List ℕ)
expected =
    (75 ∷ 95 ∷ []) ∷
    [] ∷
    (10 ∷ 30 ∷ []) ∷
    [] ∷
    (210 ∷ 240 ∷ []) ∷
    (805 ∷ 835 ∷ []) ∷
    (5 ∷ 25 ∷ []) ∷
    [] ∷
    [] ∷
    (90 ∷ []) ∷
    [] ∷
    (10 ∷ 30 ∷ []) ∷
    (200 ∷ 230 ∷ []) ∷
    []
