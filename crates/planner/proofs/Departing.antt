-- Lemmas: departures, the arrivals that a search gives them, and which of them is the fastest.
use Rattle.std.proofs.Common.{◌≡◌, ℕ, ◌+◌, ◌-◌, ◌*◌, ◌<◌, ◌≤◌, Bool, true, false, ◌&&◌, ltb, leb, List, [], ◌∷◌, ◌++◌, length, get_or, is_some, Some, None, Option, sym, refl, ap, ◌∙◌, subst, ⊎_elim, arith}
use Rattle.std.proofs.lemmas.Bool.{leb-true, le-leb, lt-ltb, and_from, cases_lt}
use Rattle.std.proofs.lemmas.Option.{slice_get-get_or}
use Rattle.std.specs.List.{slice_get, ContainsAt as Has}
use Rattle.books.specs.Meaning.{Exits, Lawful, first_open, last_open}
use Rattle.books.specs.Options.{none_not_some, some_one}
use Rattle.search.specs.Reaches.{all_turned}
use Rattle.search.specs.Filled.{FirstRow, holds_row, RowFilled, NextRow}
use Rattle.search.specs.Rows.{onward, lone, gathered, best, stirs, last_from}
use Rattle.search.specs.Walks.{Leads, led, Unbeaten}
use Rattle.search.specs.WayBack.{row_of}
use Rattle.search.specs.declared.reaches.Direction.{Direction}
use Rattle.search.specs.declared.reaches.Direction.TheVariants.{Along, Against}
use Rattle.search.specs.declared.reaches.Reach.{Reach}
use Rattle.search.proofs.Best.{rows_more, told_row, round_on, round_off}
use Rattle.search.proofs.Settled.{last_low, unbeaten}
use Rattle.search.proofs.Skipped.{before_rows}
use Rattle.planner.specs.Charts.{Charted}
use Rattle.planner.specs.Departures.{ArrivesFirst, Arrival, LeavesLast, Tried, FastestDeparture, FastestChoice, Held, HeldSoFar}
use Rattle.planner.specs.Journeys.{Chain, last_exit, Journey, NoSuchJourney, Ready, ForemostUnbeaten, FastestUnbeaten}
use Rattle.planner.specs.Reckonings.{no_later, comes_out, earliest_laws, exit_some, no_sooner, goes_in, entry_some}
use Rattle.planner.specs.Routes.{departs, arrives}
use Rattle.planner.specs.Ways.{AtFirst, AtLast}
use Rattle.planner.specs.declared.legs.Leg.{Leg}
use Rattle.planner.proofs.DueJourneys.{journey_walk_back, last_departs, last_due, last_journey}
use Rattle.planner.proofs.Reading.{turned_at}
use Rattle.planner.proofs.ReadyJourneys.{first_more, journey_walk, first_arrives, first_journey, first_ready}

-- the label is at least as good as that of every walk, and one of them has it; or there is no walk
abbrev pub BestLabel : (ℕ → ℕ → Bool) → (ℕ → ℕ → Option ℕ) → List Reach → ℕ → ℕ → ℕ → Option ℕ → Type 0
BestLabel good goes es at x v None = (ws : List Reach) (y : ℕ) → Leads es at ws v → led goes x ws ≡ Some y → ⊥
BestLabel good goes es at x v (Some z) = ((ws : List Reach) × Leads es at ws v × (led goes x ws ≡ Some z)) × ((ws : List Reach) (y : ℕ) → Leads es at ws v → led goes x ws ≡ Some y → good z y ≡ true)

-- what a search leaves in its last row is
pub row_best : (good : ℕ → ℕ → Bool) (goes : ℕ → ℕ → Option ℕ) (es : List Reach) (at x : ℕ) (cells : List (Option ℕ)) (last : ℕ) → Unbeaten good goes es at x cells last → (v : ℕ) → v < 64 → (o : Option ℕ) → row_of cells last v ≡ o → BestLabel good goes es at x v o
row_best good goes es at x cells last un v inside None is = λ ws y leads gone. let g = un.all v inside ws y leads gone in none_not_some (row_of cells last v) g.0 is g.1
row_best good goes es at x cells last un v inside (Some z) is =
    let w = un.gone last v (omega arith) inside z is in
    ((w.0, w.2, w.3), λ ws y leads gone. let g = un.all v inside ws y leads gone in subst (λ (u : ℕ). good u y ≡ true) (some_one (row_of cells last v) g.0 z g.1 is) g.2)

-- a row of a search over the same exits and reaches
pub next_of : (ex ex' : Exits) → ex ≡ ex' → (e : Direction) → e ≡ Along → (rs rs' : List Reach) → rs ≡ rs' → (k : ℕ) (cells new : List (Option ℕ)) (told : Bool) → NextRow no_later (comes_out ex) (all_turned e rs) k cells new told → NextRow no_later (comes_out ex') (all_turned Along rs') k cells new told
next_of ex ex' p e q rs rs' r k cells new told next =
    subst (λ (f : Exits). NextRow no_later (comes_out f) (all_turned Along rs') k cells new told) p
    (subst (λ (f : Direction). NextRow no_later (comes_out ex) (all_turned f rs') k cells new told) q
    (subst (λ (l : List Reach). NextRow no_later (comes_out ex) (all_turned e l) k cells new told) r next))

-- ---- the rounds from one departure, after each of them and at their end
module _ (gates : ℕ) (ex : Exits) (law : Lawful gates ex) (rs : List Reach) (a d : ℕ) where
  abbrev aes : List Reach
  aes = all_turned Along rs

  abbrev pub Rounds : ℕ → ℕ → List (Option ℕ) → Type 0
  Rounds k last cells =
      (last ≡ k - 1)
      × (last_from no_later (comes_out ex) aes (lone a d) (64 - k) (k - 1) ≡ last_from no_later (comes_out ex) aes (lone a d) 63 0)
      × ((j v : ℕ) → j < k → v < 64 → get_or cells (64 * j + v) None ≡ best no_later (comes_out ex) aes (lone a d) j v)

  -- the last row is filled, and no walk betters it
  abbrev pub SearchedFrom : List (Option ℕ) → ℕ → Type 0
  SearchedFrom cells last = (last ≤ 63) × Unbeaten no_later (comes_out ex) aes a d cells last

  searched : (cells : List (Option ℕ)) (last : ℕ) → last ≡ last_from no_later (comes_out ex) aes (lone a d) 63 0 → ((j v : ℕ) → j ≤ last → v < 64 → get_or cells (64 * j + v) None ≡ best no_later (comes_out ex) aes (lone a d) j v) → SearchedFrom cells last
  searched cells last is rows = (last_low (earliest_laws gates ex law) aes a d cells last is rows, unbeaten (earliest_laws gates ex law) aes a d cells last is rows)

  pub searched_at : (cells cells' : List (Option ℕ)) (last last' : ℕ) → cells ≡ cells' → last ≡ last' → SearchedFrom cells' last' → SearchedFrom cells last
  searched_at cells cells' last last' p q h = subst (λ (x : List (Option ℕ)). SearchedFrom x last) (sym p) (subst (SearchedFrom cells') (sym q) h)

  pub rounds_begin : (cells new : List (Option ℕ)) (r : Bool) → 4096 ≤ length cells → FirstRow a d cells new r → Rounds 1 0 new
  rounds_begin cells new true long h = (refl, refl, λ j v l low. let z : 0 ≡ j = omega arith in let i : 64 * j + v ≡ v = omega arith in ap (λ (n : ℕ). get_or new n None) i ∙ h.1 v low ∙ ap (λ (n : ℕ). best no_later (comes_out ex) aes (lone a d) n v) z)
  rounds_begin cells new false long h = absurd (omega (arith, h.0))

  -- the end of the rounds
  pub rounds_end : (k last : ℕ) (cells : List (Option ℕ)) → k ≡ 64 → Rounds k last cells → SearchedFrom cells last
  rounds_end k last cells end r =
      let nought : 64 - k ≡ 0 = omega arith in
      searched cells last (r.0 ∙ sym (ap (λ (m : ℕ). last_from no_later (comes_out ex) aes (lone a d) m (k - 1)) nought) ∙ r.1) (λ j v l low. r.2 j v (omega (arith, r.0)) low)

  module _ (k last : ℕ) (cells new : List (Option ℕ)) (told : Bool) (some : 0 < k) (low : k < 64) (long : 4096 ≤ length cells) (r : Rounds k last cells) (next : NextRow no_later (comes_out ex) aes k cells new told) where
    held : holds_row cells k ≡ true
    held = and_from (ltb 0 k && ltb k 64) (leb 4096 (length cells)) (and_from (ltb 0 k) (ltb k 64) (lt-ltb 0 k some) (lt-ltb k 64 low)) (le-leb 4096 (length cells) long)

    done : RowFilled true no_later (comes_out ex) aes k cells new told
    done = subst (λ (b : Bool). RowFilled b no_later (comes_out ex) aes k cells new told) held next

    by_round : (told ≡ stirs no_later (comes_out ex) aes (λ u. get_or cells (64 * (k - 1) + u) None)) × ((v : ℕ) → v < 64 → get_or new (64 * k + v) None ≡ gathered no_later (comes_out ex) aes (λ u. get_or cells (64 * (k - 1) + u) None) v (get_or cells (64 * (k - 1) + v) None))
    by_round = done.2 (before_rows no_later (comes_out ex) aes k (lone a d) cells r.2)

    is : told ≡ stirs no_later (comes_out ex) aes (best no_later (comes_out ex) aes (lone a d) (k - 1))
    is = by_round.0 ∙ told_row no_later (comes_out ex) aes (lone a d) cells new k some r.2

    rows : (j v : ℕ) → j < k + 1 → v < 64 → get_or new (64 * j + v) None ≡ best no_later (comes_out ex) aes (lone a d) j v
    rows = rows_more no_later (comes_out ex) aes (lone a d) cells new k some r.2 by_round.1 done.0

    -- one round more
    pub rounds_more : told ≡ true → Rounds (k + 1) k new
    rounds_more y = (omega arith, round_on no_later (comes_out ex) aes (lone a d) k some low told is y ∙ r.1, rows)

    -- a round that betters no place is the last
    pub rounds_left : told ≡ false → SearchedFrom new k
    rounds_left n = searched new k (round_off no_later (comes_out ex) aes (lone a d) k some low told is n ∙ r.1) (λ j v l h. rows j v (omega arith) h)

led_some : (goes : ℕ → ℕ → Option ℕ) (g : ℕ) (o : Option ℕ) (z : ℕ) → onward goes g o ≡ Some z → (y : ℕ) × (o ≡ Some y) × (goes g y ≡ Some z)
led_some goes g None z h = none_not_some None z refl h
led_some goes g (Some y) z h = (y, refl, h)

has_nth : {X : Type 0} (xs : List X) (x : X) → Has xs x → (n : ℕ) × (slice_get xs n ≡ Some x)
has_nth xs x h = (h.0, slice_get-get_or xs h.0 x h.1 ∙ ap Some (h.2 x))

-- ---- the legs of a walk
walk_legs : (rs : List Reach) (ex : Exits) (a x : ℕ) (ws : List Reach) (b z : ℕ) → Leads (all_turned Along rs) a ws b → led (comes_out ex) x ws ≡ Some z → (legs : List Leg) × AtFirst rs ex a x legs b z
walk_legs rs ex a x [] b z leads is = ([], (leads, some_one (Some x) x z refl is))
walk_legs rs ex a x (e ∷ ws) b z leads is =
    let y = led_some (comes_out ex) e.gate (led (comes_out ex) x ws) z is in
    let ls = walk_legs rs ex a x ws e.from y.0 leads.3 y.1 in
    let p = exit_some (first_open (ex e.gate) y.0) z y.2 in
    let n = has_nth (all_turned Along rs) e leads.0 in
    let t = turned_at Along rs n.0 e n.1 in
    let l : Leg = record { reach = n.0; entry = p.0; exit = z } in
    (ls.0 ++ (l ∷ []), subst (λ (q : ℕ). AtFirst rs ex a x (ls.0 ++ (l ∷ [])) q z) leads.2 (first_more rs ex a x ls.0 e.from y.0 ls.1 l e (t.1 ∙ ap Some t.2) refl p.1))

walk_legs_back : (rs : List Reach) (ex : Exits) (b x : ℕ) (ws : List Reach) (a z : ℕ) → Leads (all_turned Against rs) b ws a → led (goes_in ex) x ws ≡ Some z → (legs : List Leg) × AtLast rs ex a z legs b x
walk_legs_back rs ex b x [] a z leads is = ([], (sym leads, sym (some_one (Some x) x z refl is)))
walk_legs_back rs ex b x (q ∷ ws) a z leads is =
    let y = led_some (goes_in ex) q.gate (led (goes_in ex) x ws) z is in
    let ls = walk_legs_back rs ex b x ws q.from y.0 leads.3 y.1 in
    let p = entry_some (last_open (ex q.gate) y.0) z y.2 in
    let n = has_nth (all_turned Against rs) q leads.0 in
    let t = turned_at Against rs n.0 q n.1 in
    let r = t.0 in
    let l : Leg = record { reach = n.0; entry = z; exit = p.0 } in
    let to : q.from ≡ r.to = ap (λ (e : Reach). e.from) (sym t.2) in
    let from : r.from ≡ a = ap (λ (e : Reach). e.to) t.2 ∙ leads.2 in
    let gate : q.gate ≡ r.gate = ap (λ (e : Reach). e.gate) (sym t.2) in
    (l ∷ ls.0, (r, t.1, from, refl, y.0, ap (λ (g : ℕ). last_open (ex g) y.0) (sym gate) ∙ p.1, subst (λ (w : ℕ). AtLast rs ex w y.0 ls.0 b x) to ls.1))

module _ (gates : ℕ) (ex : Exits) (law : Lawful gates ex) (rs : List Reach) (charted : Charted rs) where
  -- legs go on in time, to the end of the fortnight at most
  chain_order : (a b : ℕ) (l : Leg) (ls : List Leg) → Chain rs ex a b (l ∷ ls) → (l.entry ≤ last_exit l ls) × (last_exit l ls ≤ 20160)
  chain_order a b l [] c = (omega (arith, law.later c.0.gate l.entry l.exit c.3), law.within c.0.gate l.entry l.exit c.3)
  chain_order a b l (m ∷ ms) c =
      let r = chain_order c.0.to b m ms c.5 in
      (omega (arith, law.later c.0.gate l.entry l.exit c.3, r.0, c.4), r.1)

  pub journey_order : (a b d e : ℕ) (legs : List Leg) → Journey rs ex a b d e legs → (d ≤ e) × (e ≤ 20160)
  journey_order a b d e [] j = (omega (arith, j.times.0), omega (arith, j.times.0, j.times.1))
  journey_order a b d e (l ∷ ls) j = let c = chain_order a b l ls j.chain in (omega (arith, c.0, j.times.0, j.times.1), omega (arith, c.1, j.times.1))

  module _ (a b : ℕ) where
    -- what a search along the reaches finds is the earliest arrival
    pub arrival : (d : ℕ) → d ≤ 20160 → (o : Option ℕ) → BestLabel no_later (comes_out ex) (all_turned Along rs) a d b o → Arrival rs ex a b d o
    arrival d low None h = λ m e legs j ready. let w = journey_walk gates ex law rs charted a b m e d legs j ready in h w.walk w.label w.leads w.gone
    arrival d low (Some e) h =
        let ls = walk_legs rs ex a d h.0.0 b e h.0.1 h.0.2 in
        let at : arrives d ls.0 ≡ e = first_arrives gates ex law rs charted a d ls.0 b e ls.1 in
        let j = subst (λ (x : ℕ). Journey rs ex a b (departs d ls.0) x ls.0) at (first_journey gates ex law rs charted a d ls.0 b e low ls.1) in
        let up = first_ready gates ex law rs charted a d ls.0 b e ls.1 in
        let o = journey_order a b (departs d ls.0) e ls.0 j in
        record {
          later = omega (arith, o.0);
          within = o.1;
          some = (departs d ls.0, ls.0, j, up);
          least = λ m e' legs k late.
              let w = journey_walk gates ex law rs charted a b m e' d legs k late in
              omega (arith, leb-true e w.label (h.1 w.walk w.label w.leads w.gone), w.by);
        }

    -- what one against them finds is the latest departure
    pub departure : (e : ℕ) → e ≤ 20160 → (r : ℕ) → BestLabel no_sooner (goes_in ex) (all_turned Against rs) b e a (Some r) → LeavesLast rs ex a b e r
    departure e low r h =
        let ls = walk_legs_back rs ex b e h.0.0 a r h.0.1 h.0.2 in
        let at : departs e ls.0 ≡ r = last_departs gates ex law rs charted a r ls.0 b e ls.1 in
        record {
          some = (arrives e ls.0, ls.0, subst (λ (x : ℕ). Journey rs ex a b x (arrives e ls.0) ls.0) at (last_journey gates ex law rs charted a r ls.0 b e low ls.1), last_due gates ex law rs charted a r ls.0 b e ls.1);
          last = λ d m legs j late.
              let w = journey_walk_back gates ex law rs charted a b d m e legs j late in
              omega (arith, leb-true w.label r (h.1 w.walk w.label w.leads w.gone), w.from);
        }

    -- where a journey arrives then, there is one
    pub no_departure : (e : ℕ) → BestLabel no_sooner (goes_in ex) (all_turned Against rs) b e a None → (d : ℕ) → ArrivesFirst rs ex a b d e → ⊥
    no_departure e h d f =
        let s = f.some in
        let w = journey_walk_back gates ex law rs charted a b s.0 e e s.1 s.2 (omega arith) in
        h w.walk w.label w.leads w.gone

    pub departure_there : (e d : ℕ) → ArrivesFirst rs ex a b d e → (o : Option ℕ) → BestLabel no_sooner (goes_in ex) (all_turned Against rs) b e a o → is_some o ≡ true
    departure_there e d f None h = absurd (no_departure e h d f)
    departure_there e d f (Some r) h = refl

    -- the latest departure for an earliest arrival has that arrival
    pub leaves_first : (d e r : ℕ) → ArrivesFirst rs ex a b d e → LeavesLast rs ex a b e r → (d ≤ r) × ArrivesFirst rs ex a b r e
    leaves_first d e r f g =
        let s = f.some in
        let up = g.last s.0 e s.1 s.2 (omega arith) in
        let t = g.some in
        let lo : d ≤ r = omega (arith, s.3) in
        let q = f.least r t.0 t.1 t.2 lo in
        let o = journey_order a b r t.0 t.1 t.2 in
        let same : t.0 ≡ e = omega (arith, t.3) in (
          lo,
          record {
            later = omega (arith, o.0);
            within = f.within;
            some = (r, t.1, subst (λ (m : ℕ). Journey rs ex a b r m t.1) same t.2, omega arith);
            least = λ m e' legs j l. f.least m e' legs j (omega arith);
          },
        )

    -- ---- what was tried
    tried_first : (ready e best : ℕ) → ArrivesFirst rs ex a b ready e → ArrivesFirst rs ex a b best e → Tried rs ex a b ready (best + 1) best (e - best)
    tried_first ready e best f g m e' legs j l u =
        let up = f.least m e' legs j l in
        let q = g.later in
        (omega arith, λ same. omega arith)

    -- a departure that is no faster: the next that can be is past e - time
    tried_slower : (ready d e best time : ℕ) → Tried rs ex a b ready d best time → ArrivesFirst rs ex a b d e → best ≤ d → time ≤ e - d → Tried rs ex a b ready (e - time + 1) best time
    tried_slower ready d e best time t f lo no_less m e' legs j l u =
        ⊎_elim
        (λ before. t m e' legs j l before)
        (λ since. let up = f.least m e' legs j since in let q = f.later in (omega arith, λ _. omega arith))
        (cases_lt m d)

    -- a faster one, and the latest for its arrival
    tried_faster : (ready d e best time now : ℕ) → Tried rs ex a b ready d best time → ArrivesFirst rs ex a b d e → e - d < time → d ≤ now → ArrivesFirst rs ex a b now e → Tried rs ex a b ready (now + 1) now (e - now)
    tried_faster ready d e best time now t f less up g m e' legs j l u =
        let q = g.later in
        ⊎_elim
        (λ before. let old = t m e' legs j l before in (omega (arith, old.0), λ same. absurd (omega (arith, old.0))))
        (λ since. let lo = f.least m e' legs j since in (omega arith, λ same. omega arith))
        (cases_lt m d)

    arrives_plus : (best e : ℕ) → ArrivesFirst rs ex a b best e → ArrivesFirst rs ex a b best (best + (e - best))
    arrives_plus best e f = let q = f.later in let same : e ≡ best + (e - best) = omega arith in subst (ArrivesFirst rs ex a b best) same f

    -- ---- what the loop over departures holds
    pub held_first : (ready e best : ℕ) → ArrivesFirst rs ex a b ready e → ready ≤ best → ArrivesFirst rs ex a b best e → Held rs ex a b ready (best + 1) best (e - best)
    held_first ready e best f up g = (up, omega arith, arrives_plus best e g, tried_first ready e best f g)

    module _ (ready d best time : ℕ) (held : Held rs ex a b ready d best time) where
      module _ (e : ℕ) (f : ArrivesFirst rs ex a b d e) where
        pub held_faster : e - d < time → (r : ℕ) → d ≤ r → ArrivesFirst rs ex a b r e → Held rs ex a b ready (r + 1) r (e - r)
        held_faster less r up g = (omega (arith, held.0, held.1), omega arith, arrives_plus r e g, tried_faster ready d e best time r held.3 f less up g)

        pub held_slower : time ≤ e - d → Held rs ex a b ready (e - time + 1) best time
        held_slower more = let l = f.later in (held.0, omega (arith, held.1), held.2, tried_slower ready d e best time held.3 f held.1 more)

      -- when it ends: past the fortnight, where no journey leaves any more, or where no time can be less
      pub held_past : 20160 < d → FastestDeparture rs ex a b ready best time
      held_past past = record { ready = held.0; arrives = held.2; least = λ m e legs j l. let o = journey_order a b m e legs j in held.3 m e legs j l (omega (arith, o.0, o.1)) }

      pub held_none : NoSuchJourney rs ex a b (Ready d) → FastestDeparture rs ex a b ready best time
      held_none none = record { ready = held.0; arrives = held.2; least = λ m e legs j l. ⊎_elim (λ before. held.3 m e legs j l before) (λ since. absurd (none m e legs j since)) (cases_lt m d) }

      pub held_zero : time ≡ 0 → FastestDeparture rs ex a b ready best time
      held_zero nought = record { ready = held.0; arrives = held.2; least = λ m e legs j l. ⊎_elim (λ before. held.3 m e legs j l before) (λ since. (omega arith, λ _. omega (arith, held.1))) (cases_lt m d) }

    -- ---- the same with no departure tried before the first
    pub so_faster : (ready d time : ℕ) (best : Option ℕ) → HeldSoFar rs ex a b ready d best time → (e : ℕ) → ArrivesFirst rs ex a b d e → e - d < time → (r : ℕ) → d ≤ r → ArrivesFirst rs ex a b r e → Held rs ex a b ready (r + 1) r (e - r)
    so_faster ready d time None held e f less r up g = held_first ready e r (subst (λ (m : ℕ). ArrivesFirst rs ex a b m e) held.0 f) (omega (arith, held.0)) g
    so_faster ready d time (Some best) held e f less r up g = held_faster ready d best time held e f less r up g

    pub so_slower : (ready d time : ℕ) (best : Option ℕ) → HeldSoFar rs ex a b ready d best time → (e : ℕ) → ArrivesFirst rs ex a b d e → time ≤ e - d → HeldSoFar rs ex a b ready (e - time + 1) best time
    so_slower ready d time None held e f more = absurd (omega (arith, held.1, f.within))
    so_slower ready d time (Some best) held e f more = held_slower ready d best time held e f more

    pub so_past : (ready d time : ℕ) (best : Option ℕ) → ready ≤ 20160 → HeldSoFar rs ex a b ready d best time → 20160 < d → FastestChoice rs ex a b ready best
    so_past ready d time None low held past = absurd (omega (arith, held.0))
    so_past ready d time (Some best) low held past = (time, held_past ready d best time held past)

    pub so_none : (ready d time : ℕ) (best : Option ℕ) → HeldSoFar rs ex a b ready d best time → NoSuchJourney rs ex a b (Ready d) → FastestChoice rs ex a b ready best
    so_none ready d time None held none = subst (λ (m : ℕ). NoSuchJourney rs ex a b (Ready m)) held.0 none
    so_none ready d time (Some best) held none = (time, held_none ready d best time held none)

    pub so_zero : (ready d time : ℕ) (best : Option ℕ) → HeldSoFar rs ex a b ready d best time → time ≡ 0 → FastestChoice rs ex a b ready best
    so_zero ready d time None held nought = absurd (omega (arith, held.1))
    so_zero ready d time (Some best) held nought = (time, held_zero ready d best time held nought)

    -- ---- the foremost journey of the fastest departure leaves exactly then, and none betters it
    module _ (ready best time : ℕ) (f : FastestDeparture rs ex a b ready best time) (departs_at arrives_at reaches : ℕ) (legs : List Leg) (j : Journey rs ex a b departs_at arrives_at legs) (up : best ≤ departs_at) (unbeaten : ForemostUnbeaten rs ex a b best arrives_at reaches) where
      arrives_then : arrives_at ≡ best + time
      arrives_then =
          let s = f.arrives.some in
          omega (arith, (unbeaten s.0 (best + time) s.1 s.2 s.3).0, f.arrives.least departs_at arrives_at legs j up)

      pub departs_then : departs_at ≡ best
      departs_then =
          let o = journey_order a b departs_at arrives_at legs j in
          omega (arith, arrives_then, (f.least departs_at arrives_at legs j (omega (arith, f.ready))).0, o.0)

      pub fastest_unbeaten : FastestUnbeaten rs ex a b ready departs_at arrives_at reaches
      fastest_unbeaten d e ls k l =
          let at = arrives_then in
          let from = departs_then in
          let least = f.least d e ls k l in
          let o = journey_order a b d e ls k in
          (omega (arith, least.0), λ tie. (omega (arith, least.1 (omega arith)), λ same. (unbeaten d e ls k (omega arith)).1 (omega (arith, o.0))))
