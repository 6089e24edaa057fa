-- Lemmas: journeys that are ready at an instant, and walks along the reaches.
use Rattle.std.proofs.Common.{◌≡◌, ℕ, suc, ◌+◌, ◌≤◌, List, [], ◌∷◌, ◌++◌, map, length, Some, Option, sym, refl, ap, ◌∙◌, subst, arith}
use Rattle.std.proofs.lemmas.Option.{get_or_from_slice_get, slice_get_within}
use Rattle.std.specs.List.{slice_get, ContainsAt as Has}
use Rattle.books.specs.Meaning.{Exits, Lawful, first_open}
use Rattle.search.specs.Reaches.{turned, all_turned}
use Rattle.search.specs.Rows.{onward}
use Rattle.search.specs.Walks.{Leads, led}
use Rattle.search.specs.declared.reaches.Direction.{Direction}
use Rattle.search.specs.declared.reaches.Direction.TheVariants.{Along}
use Rattle.search.specs.declared.reaches.Reach.{Reach}
use Rattle.planner.specs.Charts.{Charted}
use Rattle.planner.specs.Journeys.{Waits, Chain, Times, Journey}
use Rattle.planner.specs.Reckonings.{comes_out, comes_out_by, first_least}
use Rattle.planner.specs.Routes.{then, leg_before, along, departs, arrives}
use Rattle.planner.specs.Ways.{AtFirst}
use Rattle.planner.specs.declared.legs.Leg.{Leg}
use Rattle.planner.proofs.Reading.{at_turned}

-- a laid reach is among the turned ones
pub has_turned : (d : Direction) (rs : List Reach) (n : ℕ) (r : Reach) → slice_get rs n ≡ Some r → Has (all_turned d rs) (turned d r)
has_turned d rs n r h =
    let at = at_turned d rs n r h in
    (n, slice_get_within (all_turned d rs) n (turned d r) at, λ e. get_or_from_slice_get (all_turned d rs) n (turned d r) e at)

-- the legs that set out at t and come after a leg arrive where those after its exit do
pub after_leg : (t : ℕ) (l : Leg) (ls : List Leg) → arrives t (l ∷ ls) ≡ arrives l.exit ls
after_leg t l [] = refl
after_leg t l (m ∷ ms) = refl

-- the numbers of the reaches that legs go over
abbrev pub route_of : List Leg → List ℕ
route_of legs = map (λ (l : Leg). l.reach) legs

-- a leg more, entered as soon as can be
pub first_more : (rs : List Reach) (ex : Exits) (a t : ℕ) (legs : List Leg) (u y : ℕ) → AtFirst rs ex a t legs u y → (l : Leg) (r : Reach) → slice_get rs l.reach ≡ Some r → r.from ≡ u → first_open (ex r.gate) y ≡ Some (l.entry, l.exit) → AtFirst rs ex a t (legs ++ (l ∷ [])) r.to l.exit
first_more rs ex a t [] u y g l r is from at = (r, is, from ∙ sym g.0, ap (first_open (ex r.gate)) g.1 ∙ at, (refl, refl))
first_more rs ex a t (m ∷ ms) u y g l r is from at = (g.0, g.1, g.2, g.3, first_more rs ex g.0.to m.exit ms u y g.4 l r is from at)

module _ (gates : ℕ) (ex : Exits) (law : Lawful gates ex) (rs : List Reach) (charted : Charted rs) where
  -- a walk of m reaches from a boat at a at t, whose label at b is e at most
  pub record Walked (a t b e m : ℕ) : Type 0 where
    pub walk : List Reach
    pub label : ℕ
    pub leads : Leads (all_turned Along rs) a walk b
    pub gone : led (comes_out ex) t walk ≡ Some label
    pub by : label ≤ e
    pub long : length walk ≡ m

  walk_on : (a t m u e : ℕ) → Walked a t u e m → (legs : List Leg) (b : ℕ) → Chain rs ex u b legs → Waits e legs → Walked a t b (arrives e legs) (m + length legs)
  walk_on a t m u e w [] b c late = record { walk = w.walk; label = w.label; leads = subst (λ (p : ℕ). Leads (all_turned Along rs) a w.walk p) c w.leads; gone = w.gone; by = w.by; long = omega (arith, w.long) }
  walk_on a t m u e w (l ∷ ls) b c late =
      let r = c.0 in
      let le : w.label ≤ l.entry = omega (arith, w.by) in
      let o = comes_out_by gates ex law r.gate w.label l.entry l.exit le c.3 in
      let more : Walked a t r.to l.exit (suc m) = record {
        walk = r ∷ w.walk;
        label = o.0;
        leads = (has_turned Along rs l.reach r c.1, charted l.reach r c.1, refl, subst (λ (p : ℕ). Leads (all_turned Along rs) a w.walk p) (sym c.2) w.leads);
        gone = ap (onward (comes_out ex) r.gate) w.gone ∙ o.1;
        by = o.2;
        long = omega (arith, w.long);
      } in
      let far = walk_on a t (suc m) r.to l.exit more ls b c.5 c.4 in
      record { walk = far.walk; label = far.label; leads = far.leads; gone = far.gone; by = omega (arith, far.by, after_leg e l ls); long = omega (arith, far.long) }

  -- each journey that is ready at t gives a walk that is no later
  pub journey_walk : (a b d e t : ℕ) (legs : List Leg) → Journey rs ex a b d e legs → t ≤ d → Walked a t b e (length legs)
  journey_walk a b d e t [] j l = record { walk = []; label = t; leads = j.chain; gone = refl; by = omega (arith, j.times.0); long = refl }
  journey_walk a b d e t (m ∷ ms) j l =
      let w = walk_on a t 0 a t (record { walk = []; label = t; leads = refl; gone = refl; by = omega arith; long = refl }) (m ∷ ms) b j.chain (omega (arith, j.times.0)) in
      record { walk = w.walk; label = w.label; leads = w.leads; gone = w.gone; by = omega (arith, w.by, j.times.1); long = omega (arith, w.long) }

  -- ---- legs that are entered as soon as can be
  pub first_waits : (a t : ℕ) (legs : List Leg) (b z : ℕ) → AtFirst rs ex a t legs b z → Waits t legs
  first_waits a t [] b z g = tt
  first_waits a t (l ∷ ls) b z g = (first_least gates ex law g.0.gate t l.entry l.exit g.3).0

  first_chain : (a t : ℕ) (legs : List Leg) (b z : ℕ) → AtFirst rs ex a t legs b z → Chain rs ex a b legs
  first_chain a t [] b z g = g.0
  first_chain a t (l ∷ ls) b z g =
      (g.0, g.1, g.2, (first_least gates ex law g.0.gate t l.entry l.exit g.3).1, first_waits g.0.to l.exit ls b z g.4, first_chain g.0.to l.exit ls b z g.4)

  pub first_arrives : (a t : ℕ) (legs : List Leg) (b z : ℕ) → AtFirst rs ex a t legs b z → arrives t legs ≡ z
  first_arrives a t [] b z g = g.1
  first_arrives a t (l ∷ ls) b z g = after_leg t l ls ∙ first_arrives g.0.to l.exit ls b z g.4

  pub first_along : (a t : ℕ) (legs : List Leg) (b z : ℕ) → AtFirst rs ex a t legs b z → along rs ex t (route_of legs) ≡ Some legs
  first_along a t [] b z g = refl
  first_along a t (l ∷ ls) b z g =
      ap (λ (o : Option Reach). then o (λ r. then (first_open (ex r.gate) t) (λ p. then (along rs ex p.1 (route_of ls)) (leg_before l.reach p)))) g.1
      ∙ ap (λ (o : Option (ℕ × ℕ)). then o (λ p. then (along rs ex p.1 (route_of ls)) (leg_before l.reach p))) g.3
      ∙ ap (λ (o : Option (List Leg)). then o (leg_before l.reach (l.entry, l.exit))) (first_along g.0.to l.exit ls b z g.4)

  first_times : (a t : ℕ) (legs : List Leg) (b z : ℕ) → t ≤ 20160 → AtFirst rs ex a t legs b z → Times (departs t legs) (arrives t legs) legs
  first_times a t [] b z low g = (refl, low)
  first_times a t (l ∷ ls) b z low g = (refl, refl)

  pub first_journey : (a t : ℕ) (legs : List Leg) (b z : ℕ) → t ≤ 20160 → AtFirst rs ex a t legs b z → Journey rs ex a b (departs t legs) (arrives t legs) legs
  first_journey a t legs b z low g = record { chain = first_chain a t legs b z g; times = first_times a t legs b z low g }

  pub first_ready : (a t : ℕ) (legs : List Leg) (b z : ℕ) → AtFirst rs ex a t legs b z → t ≤ departs t legs
  first_ready a t [] b z g = omega arith
  first_ready a t (l ∷ ls) b z g = first_waits a t (l ∷ ls) b z g
