-- Worked examples: answers that the rules give, reckoned by hand, beside what the definitions compute.
use Rattle.std.specs.Prelude.{ℕ, List, [], ◌∷◌, Some, None, Option}
use Rattle.books.specs.Meaning.{Exits, first_open, last_open}
use Rattle.books.specs.Windows.{timed_exits}
use Rattle.books.specs.Tides.{tidal_exits}
use Rattle.books.specs.declared.windows.Window.{Window}
use Rattle.layers.specs.Notices.{noticed_exits}
use Rattle.layers.specs.TwoBooks.{two_exits}
use Rattle.search.specs.declared.reaches.Reach.{Reach}
use Rattle.planner.specs.Figures.{foremost_figures, fewest_figures, latest_figures}
use Rattle.planner.specs.Routes.{along, against, figures}
use Rattle.planner.specs.declared.legs.Leg.{Leg}

-- the figures of an answer: its entry and its exit, and none where it is nothing
abbrev pub pair : Option (ℕ × ℕ) → List ℕ
pair None = []
pair (Some p) = p.0 ∷ p.1 ∷ []

-- the figure of an exit, and none where the gate is shut
abbrev pub exit_figure : Option ℕ → List ℕ
exit_figure None = []
exit_figure (Some e) = e ∷ []

-- the three figures of each leg
abbrev pub leg_figures : List Leg → List ℕ
leg_figures [] = []
leg_figures (l ∷ ls) = l.reach ∷ l.entry ∷ l.exit ∷ leg_figures ls

-- departure, arrival, reaches and then the legs, where the route asked for at t has legs
abbrev pub journey_figures : ℕ → Option (List Leg) → List ℕ
journey_figures t None = []
journey_figures t (Some ls) = (figures t ls).departure ∷ (figures t ls).arrival ∷ (figures t ls).reaches ∷ leg_figures ls

abbrev window : ℕ → ℕ → Window
window b e = record { gate = 0; begin = b; end = e }

-- passage 20, window 10 to 95
abbrev timed : Exits
timed = timed_exits (20 ∷ []) (window 10 95 ∷ [])

-- phase 60, period 745, length 180, passage 30
abbrev tidal : Exits
tidal = tidal_exits (record { phase = 60; period = 745; length = 180; passage = 30 } ∷ [])

-- passage 20, window 5 to 25: open at 5 only
abbrev narrow : Exits
narrow = timed_exits (20 ∷ []) (window 5 25 ∷ [])

-- passage 15, windows 0 to 10 and 10 to 20, which don't join: never open
abbrev touching : Exits
touching = timed_exits (15 ∷ []) (window 0 10 ∷ window 10 20 ∷ [])

-- the tide under a notice from 90 to 200
abbrev noticed : Exits
noticed = noticed_exits (record { gate = 0; begin = 90; end = 200 } ∷ []) tidal

-- the timed gate as gate 0 and the tide as gate 1, under a notice from 85 to 200 on the tide
abbrev layered : Exits
layered = noticed_exits (record { gate = 1; begin = 85; end = 200 } ∷ []) (two_exits 1 timed tidal)

-- passages 20 and 40, windows 10 to 95 and 400 to 440, and the tide as gate 2
abbrev sheet : Exits
sheet = noticed_exits [] (two_exits 2 (timed_exits (20 ∷ 40 ∷ []) (window 10 95 ∷ record { gate = 1; begin = 400; end = 440 } ∷ [])) tidal)

-- from 0 to 1 by the first timed gate, from 1 to 2 by the tide, from 0 to 2 by the second timed gate
abbrev chart : List Reach
chart = record { from = 0; to = 1; gate = 0 } ∷ record { from = 1; to = 2; gate = 2 } ∷ record { from = 0; to = 2; gate = 1 } ∷ []

abbrev pub worked : List (List ℕ)
worked =
    pair (first_open (timed 0) 75) ∷
    pair (first_open (timed 0) 76) ∷
    pair (last_open (timed 0) 30) ∷
    pair (last_open (timed 0) 29) ∷
    pair (first_open (tidal 0) 210) ∷
    pair (first_open (tidal 0) 211) ∷
    pair (first_open (narrow 0) 0) ∷
    pair (first_open (narrow 0) 6) ∷
    pair (first_open (touching 0) 0) ∷
    exit_figure (noticed 0 60) ∷
    exit_figure (noticed 0 61) ∷
    pair (first_open (layered 0) 0) ∷
    pair (first_open (layered 1) 30) ∷
    pair (foremost_figures chart sheet 0 2 0) ∷
    journey_figures 0 (along chart sheet 0 (0 ∷ 1 ∷ [])) ∷
    pair (fewest_figures chart sheet 0 2 0) ∷
    journey_figures 0 (along chart sheet 0 (2 ∷ [])) ∷
    pair (latest_figures chart sheet 0 2 300) ∷
    journey_figures 300 (against chart sheet 300 (0 ∷ 1 ∷ [])) ∷
    pair (foremost_figures chart sheet 3 3 7) ∷
    pair (fewest_figures chart sheet 3 3 7) ∷
    pair (latest_figures chart sheet 3 3 7) ∷
    journey_figures 7 (along chart sheet 7 []) ∷
    journey_figures 7 (against chart sheet 7 []) ∷
    pair (foremost_figures chart sheet 1 0 0) ∷
    []

abbrev pub expected : List (List ℕ)
expected =
    (75 ∷ 95 ∷ []) ∷
    [] ∷
    (10 ∷ 30 ∷ []) ∷
    [] ∷
    (210 ∷ 240 ∷ []) ∷
    (805 ∷ 835 ∷ []) ∷
    (5 ∷ 25 ∷ []) ∷
    [] ∷
    [] ∷
    (90 ∷ []) ∷
    [] ∷
    (10 ∷ 30 ∷ []) ∷
    (200 ∷ 230 ∷ []) ∷
    (90 ∷ 2 ∷ []) ∷
    (10 ∷ 90 ∷ 2 ∷ 0 ∷ 10 ∷ 30 ∷ 1 ∷ 60 ∷ 90 ∷ []) ∷
    (440 ∷ 1 ∷ []) ∷
    (400 ∷ 440 ∷ 1 ∷ 2 ∷ 400 ∷ 440 ∷ []) ∷
    (75 ∷ 2 ∷ []) ∷
    (75 ∷ 240 ∷ 2 ∷ 0 ∷ 75 ∷ 95 ∷ 1 ∷ 210 ∷ 240 ∷ []) ∷
    (7 ∷ 0 ∷ []) ∷
    (7 ∷ 0 ∷ []) ∷
    (7 ∷ 0 ∷ []) ∷
    (7 ∷ 7 ∷ 0 ∷ []) ∷
    (7 ∷ 7 ∷ 0 ∷ []) ∷
    [] ∷
    []
