-- Lemmas: what stands at the head of the leg list after a search is the answer.
use Rattle.std.proofs.Common.{◌≡◌, ℕ, ◌++◌, ◌<◌, ◌≤◌, List, [], ◌∷◌, length, take, drop, reverse, Some, None, Option, sym, refl, ap, ◌∙◌, subst, arith}
use Rattle.std.proofs.lemmas.Bool.{leb-true, le-leb}
use Rattle.std.proofs.lemmas.List.{reverse-append, reverse-reverse, take_at, drop_at}
use Rattle.books.specs.Meaning.{Exits, Lawful}
use Rattle.books.specs.Options.{some_one}
use Rattle.search.specs.Reaches.{all_turned}
use Rattle.search.specs.Walks.{Leads, led}
use Rattle.search.specs.WayBack.{row_of}
use Rattle.search.specs.declared.reaches.Direction.{Direction}
use Rattle.search.specs.declared.reaches.Direction.TheVariants.{Along, Against}
use Rattle.search.specs.declared.reaches.Reach.{Reach}
use Rattle.planner.specs.Charts.{Charted}
use Rattle.planner.specs.Headings.{good_of, goes_of, start_of, end_of, FitsBy, rule_by, UnbeatenBy, label_in, figures_from, figures_by}
use Rattle.planner.specs.Journeys.{Journey, NoSuchJourney}
use Rattle.planner.specs.Outcomes.{Found, LookedFor}
use Rattle.planner.specs.Refusals.{Fits}
use Rattle.planner.specs.Routes.{departs, arrives, figures}
use Rattle.planner.specs.Ways.{wanted_of, LeastRow, FilledBy, ReachedBy, ReadBack, in_order, AtFirst, AtLast, Written}
use Rattle.planner.specs.declared.legs.Answer.{Answer}
use Rattle.planner.specs.declared.legs.Leg.{Leg}
use Rattle.planner.specs.declared.ways.Aim.{Aim}
use Rattle.planner.specs.declared.ways.Aim.TheVariants.{Time, Reaches}
use Rattle.planner.proofs.Choosing.{Worth, Chosen, chosen_row, no_walk, chosen_none}
use Rattle.planner.proofs.DueJourneys.{journey_walk_back, last_departs, last_due, last_against, last_journey}
use Rattle.planner.proofs.Heading.{laws_of, antisymmetric_of}
use Rattle.planner.proofs.ReadyJourneys.{first_more, journey_walk, first_arrives, first_along, first_journey, first_ready, route_of}

-- the answer is the figures of k legs that are a journey by the rule
module _ (rs : List Reach) (ex : Exits) (a b t : ℕ) (Fits : ℕ → ℕ → Type 0) (by_rule : List ℕ → Option (List Leg)) (k : ℕ) (old new : List Leg) (Are : List Leg → Type 0) (written : Written k old new Are) (ans : Answer) (is : ans ≡ figures t (take k new)) where
  as_many : k ≡ ans.reaches
  as_many = sym (ap (λ (x : Answer). x.reaches) is ∙ written.counted)

  found : k ≤ 63 → by_rule (route_of (take k new)) ≡ Some (take k new) → Journey rs ex a b (departs t (take k new)) (arrives t (take k new)) (take k new) → Fits (departs t (take k new)) (arrives t (take k new)) → (UnbeatenBy : Answer → Type 0) → UnbeatenBy ans
      → Found rs ex a b t Fits UnbeatenBy by_rule old new ans
  found few ruled journey fits UnbeatenBy unbeaten = record {
    few = omega (arith, as_many);
    counted = subst (λ (m : ℕ). length (take m new) ≡ m) as_many written.counted;
    rest = subst (λ (m : ℕ). drop m new ≡ drop m old) as_many written.rest;
    route = route_of (take k new);
    ruled = subst (λ (m : ℕ). by_rule (route_of (take k new)) ≡ Some (take m new)) as_many ruled;
    figured = subst (λ (m : ℕ). ans ≡ figures t (take m new)) as_many is;
    journey = subst (λ (m : ℕ). Journey rs ex a b ans.departure ans.arrival (take m new)) as_many (subst (λ (x : Answer). Journey rs ex a b x.departure x.arrival (take k new)) (sym is) journey);
    fits = subst (λ (x : Answer). Fits x.departure x.arrival) (sym is) fits;
    unbeaten = unbeaten;
  }

-- ---- legs that are read back
-- along the reaches, in their order, each is entered as soon as can be
read_first : (rs : List Reach) (ex : Exits) (a t : ℕ) (ls : List Leg) (b z : ℕ) → ReadBack Along rs ex a t ls b z → AtFirst rs ex a t (reverse ls) b z
read_first rs ex a t [] b z h = h
read_first rs ex a t (l ∷ ls) b z h =
    let out : l.exit ≡ z = some_one (Some l.exit) l.exit z refl h.5 in
    let more = first_more rs ex a t (reverse ls) h.0.from h.3 (read_first rs ex a t ls h.0.from h.3 h.6) l h.0 h.1 refl h.4 in
    subst (λ (ks : List Leg). AtFirst rs ex a t ks b z) (sym (reverse-append (l ∷ []) ls))
    (subst (λ (w : ℕ). AtFirst rs ex a t (reverse ls ++ (l ∷ [])) b w) out
    (subst (λ (w : ℕ). AtFirst rs ex a t (reverse ls ++ (l ∷ [])) w l.exit) h.2 more))

-- against them, each is entered at the last moment
read_last : (rs : List Reach) (ex : Exits) (b t : ℕ) (ls : List Leg) (a z : ℕ) → ReadBack Against rs ex b t ls a z → AtLast rs ex a z ls b t
read_last rs ex b t [] a z h = (sym h.0, sym h.1)
read_last rs ex b t (l ∷ ls) a z h =
    (h.0, h.1, h.2, sym (some_one (Some l.entry) l.entry z refl h.5), h.3, h.4, read_last rs ex b t ls h.0.to h.3 h.6)

pub end_low : (d : Direction) (a b : ℕ) → a < 64 → b < 64 → end_of d a b < 64
end_low Along a b la lb = lb
end_low Against a b la lb = la

module _ (gates : ℕ) (ex : Exits) (law : Lawful gates ex) (rs : List Reach) (charted : Charted rs) where
  -- they are a journey by the rule of entry
  record Ruled (d : Direction) (a b t z : ℕ) (legs : List Leg) : Type 0 where
    pub ruled : rule_by d rs ex t (route_of legs) ≡ Some legs
    pub journey : Journey rs ex a b (departs t legs) (arrives t legs) legs
    pub fits : FitsBy d t (departs t legs) (arrives t legs)
    pub gives : label_in d (figures t legs) ≡ z

  by_rule : (d : Direction) (a b t z : ℕ) (legs : List Leg) → t ≤ 20160 → ReadBack d rs ex (start_of d a b) t (in_order d legs) (end_of d a b) z → Ruled d a b t z legs
  by_rule Along a b t z legs low h =
      let g : AtFirst rs ex a t legs b z = subst (λ (ls : List Leg). AtFirst rs ex a t ls b z) (reverse-reverse legs) (read_first rs ex a t (reverse legs) b z h) in
      record {
        ruled = first_along gates ex law rs charted a t legs b z g;
        journey = first_journey gates ex law rs charted a t legs b z low g;
        fits = first_ready gates ex law rs charted a t legs b z g;
        gives = first_arrives gates ex law rs charted a t legs b z g;
      }
  by_rule Against a b t z legs low h =
      let g : AtLast rs ex a z legs b t = read_last rs ex b t legs a z h in
      record {
        ruled = last_against gates ex law rs charted a z legs b t g;
        journey = last_journey gates ex law rs charted a z legs b t low g;
        fits = last_due gates ex law rs charted a z legs b t g;
        gives = last_departs gates ex law rs charted a z legs b t g;
      }

  -- ---- what no walk betters, no journey does
  unbeaten : (d : Direction) (aim : Aim) (a b t z k : ℕ) → ((ws : List Reach) (y : ℕ) → Leads (all_turned d rs) (start_of d a b) ws (end_of d a b) → led (goes_of d ex) t ws ≡ Some y → Worth (good_of d) aim z k y (length ws)) → UnbeatenBy d aim rs ex a b t z k
  unbeaten Along Time a b t z k h = λ m e legs j fits.
      let w = journey_walk gates ex law rs charted a b m e t legs j fits in
      let worth = h w.walk w.label w.leads w.gone in
      let le = leb-true z w.label worth.0 in
      (omega (arith, w.by), λ same. omega (arith, worth.1 (le-leb w.label z (omega (arith, w.by))), w.long))
  unbeaten Along Reaches a b t z k h = λ m e legs j fits.
      let w = journey_walk gates ex law rs charted a b m e t legs j fits in
      let worth = h w.walk w.label w.leads w.gone in
      (omega (arith, worth.0, w.long), λ same. omega (arith, leb-true z w.label (worth.1 (omega (arith, w.long))), w.by))
  unbeaten Against Time a b t z k h = λ m e legs j fits.
      let w = journey_walk_back gates ex law rs charted a b m e t legs j fits in
      let worth = h w.walk w.label w.leads w.gone in
      let le = leb-true w.label z worth.0 in
      (omega (arith, w.from), λ same. omega (arith, worth.1 (le-leb z w.label (omega (arith, w.from))), w.long))
  unbeaten Against Reaches a b t z k h = λ m e legs j fits.
      let w = journey_walk_back gates ex law rs charted a b m e t legs j fits in
      let worth = h w.walk w.label w.leads w.gone in
      (omega (arith, worth.0, w.long), λ same. omega (arith, leb-true w.label z (worth.1 (omega (arith, w.long))), w.from))

  -- where no walk leads, no journey does
  no_journey : (d : Direction) (a b t : ℕ) → ((ws : List Reach) (y : ℕ) → Leads (all_turned d rs) (start_of d a b) ws (end_of d a b) → led (goes_of d ex) t ws ≡ Some y → ⊥) → NoSuchJourney rs ex a b (FitsBy d t)
  no_journey Along a b t h m e legs j fits = let w = journey_walk gates ex law rs charted a b m e t legs j fits in h w.walk w.label w.leads w.gone
  no_journey Against a b t h m e legs j fits = let w = journey_walk_back gates ex law rs charted a b m e t legs j fits in h w.walk w.label w.leads w.gone

  -- ---- the answer
  module _ (d : Direction) (aim : Aim) (cells : List (Option ℕ)) (a b t last : ℕ) (filled : FilledBy d rs ex a b t cells last) (fits : Fits a b t) (v : ℕ) (end : v ≡ end_of d a b) where
    pub there : end_of d a b < 64
    there = end_low d a b fits.from_place fits.to_place

    abbrev pub Asked : List Leg → List Leg → Option Answer → Type 0
    Asked old new r =
        LookedFor rs ex a b t (FitsBy d t) (λ ans. UnbeatenBy d aim rs ex a b t (label_in d ans) ans.reaches) (rule_by d rs ex t) old new r
        × (figures_from d r ≡ figures_by d aim rs ex a b t)

    abbrev pub Row : Option ℕ → Type 0
    Row r = LeastRow cells last v (wanted_of aim (row_of cells last v)) r

    at_end : (r : Option ℕ) → Row r → LeastRow cells last (end_of d a b) (wanted_of aim (row_of cells last (end_of d a b))) r
    at_end r h = subst (λ (w : ℕ). LeastRow cells last w (wanted_of aim (row_of cells last w)) r) end h

    pub asked_none : Row None → (legs : List Leg) (r : Option Answer) → r ≡ None → Asked legs legs r
    asked_none h legs r is =
        let none = chosen_none (laws_of gates ex law d) (antisymmetric_of d) (all_turned d rs) cells (start_of d a b) t last filled.low filled.long filled.rows filled.unbeaten (end_of d a b) there aim (at_end None h) in
        let no = no_walk (laws_of gates ex law d) (antisymmetric_of d) (all_turned d rs) cells (start_of d a b) t last filled.low filled.long filled.rows filled.unbeaten (end_of d a b) there none.0 in
        subst (Asked legs legs) (sym is) ((no_journey d a b t no, refl), none.1)

    module _ (k : ℕ) (row : Row (Some k)) where
      pub read : Chosen (laws_of gates ex law d) (antisymmetric_of d) (all_turned d rs) cells (start_of d a b) t last filled.low filled.long filled.rows filled.unbeaten (end_of d a b) there aim k
      read = chosen_row (laws_of gates ex law d) (antisymmetric_of d) (all_turned d rs) cells (start_of d a b) t last filled.low filled.long filled.rows filled.unbeaten (end_of d a b) there aim k (at_end (Some k) row)

      low : k ≤ 63
      low = omega (arith, row.0, filled.low)

      pub asked_reached : (n : ℕ) → n ≡ k → ReachedBy d rs ex cells (start_of d a b) t n v read.label
      asked_reached n is = subst (λ (m : ℕ). ReachedBy d rs ex cells (start_of d a b) t m v read.label) (sym is) (subst (λ (w : ℕ). ReachedBy d rs ex cells (start_of d a b) t k w read.label) (sym end) read.reached)

      pub asked_some : (old head : List Leg) → length head ≡ k → ReadBack d rs ex (start_of d a b) t (in_order d head) v read.label → (ans : Answer) → ans ≡ figures t head → Asked old (head ++ drop k old) (Some ans)
      asked_some old head long back ans is =
          let new = head ++ drop k old in
          let first : take k new ≡ head = take_at head (drop k old) k long in
          let written : Written k old new (λ ls. ReadBack d rs ex (start_of d a b) t (in_order d ls) (end_of d a b) read.label) = record {
            counted = ap length first ∙ long;
            legs = subst (λ (ls : List Leg). ReadBack d rs ex (start_of d a b) t (in_order d ls) (end_of d a b) read.label) (sym first) (subst (λ (w : ℕ). ReadBack d rs ex (start_of d a b) t (in_order d head) w read.label) end back);
            rest = drop_at head (drop k old) k long;
          } in
          let figured : ans ≡ figures t (take k new) = is ∙ ap (figures t) (sym first) in
          let r = by_rule d a b t read.label (take k new) fits.in_time written.legs in
          let label : read.label ≡ label_in d ans = sym (ap (label_in d) figured ∙ r.gives) in
          let many : k ≡ ans.reaches = as_many rs ex a b t (FitsBy d t) (rule_by d rs ex t) k old new (λ ls. ReadBack d rs ex (start_of d a b) t (in_order d ls) (end_of d a b) read.label) written ans figured in (
            found rs ex a b t (FitsBy d t) (rule_by d rs ex t) k old new (λ ls. ReadBack d rs ex (start_of d a b) t (in_order d ls) (end_of d a b) read.label) written ans figured low r.ruled r.journey r.fits
                (λ x. UnbeatenBy d aim rs ex a b t (label_in d x) x.reaches)
                (subst (λ (y : ℕ). UnbeatenBy d aim rs ex a b t (label_in d ans) y) many (subst (λ (x : ℕ). UnbeatenBy d aim rs ex a b t x k) label (unbeaten d aim a b t read.label k read.worth))),
            subst (λ (y : ℕ). Some (label_in d ans, y) ≡ figures_by d aim rs ex a b t) many (subst (λ (x : ℕ). Some (x, k) ≡ figures_by d aim rs ex a b t) label read.figured),
          )
