-- What changes of a sheet reply and leave, over a book of so many gates. Assumes nothing.
use Rattle.std.specs.Prelude.{ℕ, zero, suc, ◌+◌, List, [], ◌++◌, length, Some, None, vec_items, codes, decimal, Option}
use Rattle.layers.specs.Notices.{post_refusal, after_post, lift_refusal, after_lift}
use Rattle.layers.specs.declared.notices.Notice.{Notice}
use Rattle.search.specs.declared.reaches.Reach.{Reach}
use Rattle.planner.specs.Charts.{lay_refusal, after_lay}
use Rattle.planner.specs.declared.charts.Planner.{Planner}
use Rattle.examples.specs.Series.{change_at, series_after}
use Rattle.examples.specs.declared.series.Change.{Change}
use Rattle.examples.specs.declared.series.Change.TheVariants.{Lay, Post, Lift}
use Rattle.examples.specs.declared.series.Series.{Series}

-- the text for what was done, or the number with which it is declined
abbrev pub unless_declined : List ℕ → Option ℕ → List ℕ
unless_declined done None = done
unless_declined done (Some f) = codes "declined " ++ decimal f

-- the text of the reply to a change
abbrev pub change_text : ℕ → List Reach → List Notice → Change → List ℕ
change_text gates rs ns (Lay r) = unless_declined (codes "reach " ++ decimal (length rs)) (lay_refusal gates rs r)
change_text gates rs ns (Post n) = unless_declined (codes "posted") (post_refusal gates ns n)
change_text gates rs ns (Lift n) = unless_declined (codes "lifted") (lift_refusal ns n)

-- the chart after it
abbrev pub chart_after : ℕ → List Reach → Change → List Reach
chart_after gates rs (Lay r) = after_lay gates rs r
chart_after gates rs (Post n) = rs
chart_after gates rs (Lift n) = rs

-- the notices after it
abbrev pub notices_after : ℕ → List Notice → Change → List Notice
notices_after gates ns (Lay r) = ns
notices_after gates ns (Post n) = after_post gates ns n
notices_after gates ns (Lift n) = after_lift ns n

-- the chart, the notices, and the text of the last reply
pub record State : Type 0 where
  pub chart : List Reach
  pub notices : List Notice
  pub text : List ℕ

-- of a planner, with the text of the last reply
abbrev pub state : {B : Type 0} → Planner B → List ℕ → State
state p x = record { chart = vec_items p.reaches; notices = vec_items p.noticed.notices; text = x }

-- before anything is replied
abbrev pub unasked : {B : Type 0} → Planner B → State
unasked p = state p []

-- after a change
abbrev pub changed : ℕ → Change → State → State
changed gates c st =
    record { chart = chart_after gates st.chart c; notices = notices_after gates st.notices c; text = change_text gates st.chart st.notices c }

-- after n changes of a series, from number i on
abbrev pub repeated : ℕ → ℕ → ℕ → Series → State → State
repeated gates zero i s st = st
repeated gates (suc n) i s st = repeated gates n (i + 1) (series_after s) (changed gates (change_at i s) st)
