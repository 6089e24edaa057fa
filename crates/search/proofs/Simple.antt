-- Lemmas: a walk that visits a place twice is no better than one that doesn't, so that 63 reaches suffice.
use Rattle.std.proofs.Common.{◌≡◌, ℕ, suc, ◌<◌, ◌≤◌, Bool, true, false, eqb, ◌⊎◌, List, [], ◌∷◌, length, Some, Option, sym, refl, ap, ◌∙◌, inl, inr, ⊎_elim, arith}
use Rattle.std.proofs.lemmas.Bool.{cases_eq, cases_lt, both_ways, eqb-true, ne_eqb, or_cases}
use Rattle.std.proofs.lemmas.Map.Keys.{IsDistinct-tail, IsDistinct-cons, IsDistinct-from_apart}
use Rattle.std.proofs.lemmas.Map.Steps.{length-le_from_distinct_below}
use Rattle.std.specs.List.{AllByRecursion as All, IsDistinct, list_any}
use Rattle.search.specs.declared.reaches.Reach.{Reach}
use Rattle.search.specs.Laws.{Laws}
use Rattle.search.specs.Rows.{onward, lone, best}
use Rattle.search.specs.Walks.{Leads, led, Good}
use Rattle.search.proofs.Walked.{itself, good_trans, onward_some, best_good}

-- the places that a walk comes by
abbrev pub stops : ℕ → List Reach → List ℕ
stops at [] = at ∷ []
stops at (e ∷ ws) = e.to ∷ stops at ws

length_stops : (at : ℕ) (ws : List Reach) → length (stops at ws) ≡ suc (length ws)
length_stops at [] = refl
length_stops at (e ∷ ws) = ap suc (length_stops at ws)

stops_below : (es : List Reach) (at : ℕ) → at < 64 → (ws : List Reach) (v : ℕ) → Leads es at ws v → (q : ℕ) → list_any (eqb q) (stops at ws) ≡ true → q < 64
stops_below es at h [] v leads q y = ⊎_elim (λ s. omega (arith, eqb-true q at s)) (λ n. absurd (both_ways false refl n)) (or_cases (eqb q at) false y)
stops_below es at h (e ∷ ws) v leads q y = ⊎_elim (λ s. omega (arith, eqb-true q e.to s, leads.1.1)) (λ t. stops_below es at h ws e.from leads.3 q t) (or_cases (eqb q e.to) (list_any (eqb q) (stops at ws)) y)

-- from a place past the 64 no walk leads to one of them
outside : (es : List Reach) (at : ℕ) → 64 ≤ at → (ws : List Reach) (v : ℕ) → v < 64 → Leads es at ws v → ⊥
outside es at h [] v low leads = omega arith
outside es at h (e ∷ ws) v low leads = outside es at h ws e.from leads.1.0 leads.3

module _ {L : Type 0} {good : L → L → Bool} {goes : ℕ → L → Option L} (laws : Laws good goes) (es : List Reach) (at : ℕ) (x : L) where
  -- a walk that comes by each place once at most, and whose label is at least as good
  abbrev Once : ℕ → L → Type 0
  Once v y = (c : List Reach) × Leads es at c v × IsDistinct eqb (stops at c) × Good good (led goes x c) y

  -- a walk comes by v, and can end there, or does not
  cut : (us : List Reach) (u v : ℕ) (y : L) → Leads es at us u → IsDistinct eqb (stops at us) → led goes x us ≡ Some y → All (λ s. eqb v s ≡ false) (stops at us) ⊎ Once v y
  cut [] u v y leads d is =
      ⊎_elim (λ same. inr ([], sym same, d, (y, is, itself laws y))) (λ ne. inl (ne_eqb v at ne, tt)) (cases_eq v at)
  cut (e ∷ us) u v y leads d is =
      ⊎_elim
      (λ same. inr (e ∷ us, (leads.0, leads.1, sym same, leads.3), d, (y, is, itself laws y)))
      (λ ne.
      let b = onward_some laws e.gate (led goes x us) y is in
      ⊎_elim
      (λ all. inl (ne_eqb v e.to ne, all))
      (λ c. inr (c.0, c.1, c.2, good_trans laws (led goes x c.0) b.0 y c.3 (laws.monotone e.gate b.0 y b.2)))
      (cut us e.from v b.0 leads.3 (IsDistinct-tail eqb e.to (stops at us) d) b.1))
      (cases_eq v e.to)

  pub simple : (ws : List Reach) (v : ℕ) (z : L) → Leads es at ws v → led goes x ws ≡ Some z → Once v z
  simple [] v z leads is = ([], leads, IsDistinct-from_apart eqb (at ∷ []) (λ i j d p q. absurd (omega arith)), (z, is, itself laws z))
  simple (e ∷ ws) v z leads is =
      let b = onward_some laws e.gate (led goes x ws) z is in
      let s = simple ws e.from b.0 leads.3 b.1 in
      let y = s.3.0 in
      let k = laws.isotone e.gate y b.0 z s.3.2 b.2 in
      let w = laws.monotone e.gate y k.0 k.1 in
      ⊎_elim
      (λ all. (e ∷ s.0, (leads.0, leads.1, leads.2, s.1), IsDistinct-cons eqb e.to (stops at s.0) all s.2, (k.0, ap (onward goes e.gate) s.3.1 ∙ k.1, k.2)))
      (λ c. (c.0, rw (sym leads.2) c.1, c.2, good_trans laws (led goes x c.0) y z c.3 (laws.transitive y k.0 z w k.2)))
      (cut s.0 e.from e.to y s.1 s.2 s.3.1)

  -- the labels reached by 63 reaches are at least as good as those of every walk
  pub best_all : (ws : List Reach) (v : ℕ) (z : L) → v < 64 → Leads es at ws v → led goes x ws ≡ Some z → Good good (best good goes es (lone at x) 63 v) z
  best_all ws v z low leads is =
      ⊎_elim
      (λ here. let s = simple ws v z leads is in
      let short : length s.0 ≤ 63 = omega (arith, length-le_from_distinct_below (stops at s.0) 64 s.2 (stops_below es at here s.0 v s.1), length_stops at s.0) in
      good_trans laws (best good goes es (lone at x) 63 v) s.3.0 z (best_good laws es at x s.0 63 v s.3.0 short s.1 s.3.1) s.3.2)
      (λ past. absurd (outside es at past ws v low leads))
      (cases_lt at 64)
