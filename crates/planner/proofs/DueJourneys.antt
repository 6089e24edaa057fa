-- Lemmas: journeys that arrive by an instant, and walks against the reaches.
use Rattle.std.proofs.Common.{◌≡◌, ℕ, ◌≤◌, List, [], ◌∷◌, length, Some, Option, sym, refl, ap, ◌∙◌, arith}
use Rattle.std.specs.List.{slice_get}
use Rattle.books.specs.Meaning.{Exits, Lawful, last_open}
use Rattle.search.specs.Reaches.{turned, all_turned}
use Rattle.search.specs.Rows.{onward}
use Rattle.search.specs.Walks.{Leads, led}
use Rattle.search.specs.declared.reaches.Direction.TheVariants.{Against}
use Rattle.search.specs.declared.reaches.Reach.{Reach}
use Rattle.planner.specs.Charts.{Charted}
use Rattle.planner.specs.Journeys.{Waits, Chain, Times, Journey}
use Rattle.planner.specs.Reckonings.{goes_in, goes_in_by, last_greatest}
use Rattle.planner.specs.Routes.{then, leg_before, against, departs, arrives}
use Rattle.planner.specs.Ways.{AtLast}
use Rattle.planner.specs.declared.legs.Leg.{Leg}
use Rattle.planner.proofs.ReadyJourneys.{has_turned, route_of}

module _ (gates : ℕ) (ex : Exits) (law : Lawful gates ex) (rs : List Reach) (charted : Charted rs) where
  -- a walk of m reaches against them from a boat that has to be at b at t, whose label at a is d at least
  pub record WalkedBack (b t a d m : ℕ) : Type 0 where
    pub walk : List Reach
    pub label : ℕ
    pub leads : Leads (all_turned Against rs) b walk a
    pub gone : led (goes_in ex) t walk ≡ Some label
    pub from : d ≤ label
    pub long : length walk ≡ m

  -- legs that come out by t let those before them come out by the next entry
  out_next : (t : ℕ) (l : Leg) (ls : List Leg) → arrives t (l ∷ ls) ≤ t → Waits l.exit ls → l.exit ≤ departs t ls
  out_next t l [] out waits = out
  out_next t l (m ∷ ms) out waits = waits

  out_rest : (t : ℕ) (l : Leg) (ls : List Leg) → arrives t (l ∷ ls) ≤ t → arrives t ls ≤ t
  out_rest t l [] out = omega arith
  out_rest t l (m ∷ ms) out = out

  walk_back : (t b : ℕ) (legs : List Leg) (a : ℕ) → Chain rs ex a b legs → arrives t legs ≤ t → WalkedBack b t a (departs t legs) (length legs)
  walk_back t b [] a c out = record { walk = []; label = t; leads = sym c; gone = refl; from = omega arith; long = refl }
  walk_back t b (l ∷ ls) a c out =
      let r = c.0 in
      let w = walk_back t b ls r.to c.5 (out_rest t l ls out) in
      let le : l.exit ≤ w.label = omega (arith, out_next t l ls out c.4, w.from) in
      let o = goes_in_by gates ex law r.gate w.label l.entry l.exit le c.3 in
      let ins = charted l.reach r c.1 in
      record {
        walk = turned Against r ∷ w.walk;
        label = o.0;
        leads = (has_turned Against rs l.reach r c.1, (ins.1, ins.0), c.2, w.leads);
        gone = ap (onward (goes_in ex) r.gate) w.gone ∙ o.1;
        from = o.2;
        long = omega (arith, w.long);
      }

  -- each journey that arrives by t gives a walk that is no sooner
  pub journey_walk_back : (a b d e t : ℕ) (legs : List Leg) → Journey rs ex a b d e legs → e ≤ t → WalkedBack b t a d (length legs)
  journey_walk_back a b d e t [] j l = record { walk = []; label = t; leads = sym j.chain; gone = refl; from = omega (arith, j.times.0); long = refl }
  journey_walk_back a b d e t (m ∷ ms) j l =
      let w = walk_back t b (m ∷ ms) a j.chain (omega (arith, j.times.1)) in
      record { walk = w.walk; label = w.label; leads = w.leads; gone = w.gone; from = omega (arith, w.from, j.times.0); long = w.long }

  -- ---- legs that are entered at the last moment
  pub last_departs : (a y : ℕ) (legs : List Leg) (b t : ℕ) → AtLast rs ex a y legs b t → departs t legs ≡ y
  last_departs a y [] b t g = sym g.1
  last_departs a y (l ∷ ls) b t g = sym g.3

  next_waits : (e : ℕ) (ls : List Leg) (t w : ℕ) → e ≤ w → departs t ls ≡ w → Waits e ls
  next_waits e [] t w le h = tt
  next_waits e (m ∷ ms) t w le h = omega arith

  last_chain : (a y : ℕ) (legs : List Leg) (b t : ℕ) → AtLast rs ex a y legs b t → Chain rs ex a b legs
  last_chain a y [] b t g = g.0
  last_chain a y (l ∷ ls) b t g =
      let f = last_greatest gates ex law g.0.gate g.4 l.entry l.exit g.5 in
      (g.0, g.1, g.2, f.1, next_waits l.exit ls t g.4 f.0 (last_departs g.0.to g.4 ls b t g.6), last_chain g.0.to g.4 ls b t g.6)

  pub last_due : (a y : ℕ) (legs : List Leg) (b t : ℕ) → AtLast rs ex a y legs b t → arrives t legs ≤ t
  last_due a y [] b t g = omega arith
  last_due a y (l ∷ []) b t g = omega (arith, (last_greatest gates ex law g.0.gate g.4 l.entry l.exit g.5).0, g.6.1)
  last_due a y (l ∷ m ∷ ms) b t g = last_due g.0.to g.4 (m ∷ ms) b t g.6

  pub last_against : (a y : ℕ) (legs : List Leg) (b t : ℕ) → AtLast rs ex a y legs b t → against rs ex t (route_of legs) ≡ Some legs
  last_against a y [] b t g = refl
  last_against a y (l ∷ ls) b t g =
      let at : last_open (ex g.0.gate) (departs t ls) ≡ Some (l.entry, l.exit) = ap (last_open (ex g.0.gate)) (last_departs g.0.to g.4 ls b t g.6) ∙ g.5 in
      ap (λ (o : Option (List Leg)). then o (λ ks. then (slice_get rs l.reach) (λ r. then (last_open (ex r.gate) (departs t ks)) (λ p. leg_before l.reach p ks)))) (last_against g.0.to g.4 ls b t g.6)
      ∙ ap (λ (o : Option Reach). then o (λ r. then (last_open (ex r.gate) (departs t ls)) (λ p. leg_before l.reach p ls))) g.1
      ∙ ap (λ (o : Option (ℕ × ℕ)). then o (λ p. leg_before l.reach p ls)) at

  last_times : (a y : ℕ) (legs : List Leg) (b t : ℕ) → t ≤ 20160 → AtLast rs ex a y legs b t → Times (departs t legs) (arrives t legs) legs
  last_times a y [] b t low g = (refl, low)
  last_times a y (l ∷ ls) b t low g = (refl, refl)

  pub last_journey : (a y : ℕ) (legs : List Leg) (b t : ℕ) → t ≤ 20160 → AtLast rs ex a y legs b t → Journey rs ex a b (departs t legs) (arrives t legs) legs
  last_journey a y legs b t low g = record { chain = last_chain a y legs b t g; times = last_times a y legs b t low g }
