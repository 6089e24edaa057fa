-- Lemmas: the way back from the least row with a label is a walk with that label.
use Rattle.std.proofs.Common.{◌≡◌, ℕ, zero, suc, ◌-◌, ◌<◌, ◌≤◌, Bool, true, false, not, ◌&&◌, eqb, ltb, List, [], ◌∷◌, length, get_or, Some, None, Option, sym, refl, ap, ◌∙◌, subst, ⊎_elim, arith}
use Rattle.std.specs.List.{slice_get, position_or_len, position, ContainsAt as Has}
use Rattle.std.proofs.lemmas.List.{get_or_default}
use Rattle.std.proofs.lemmas.List.Sums.{fails_before_first, passes_at_first}
use Rattle.std.proofs.lemmas.Option.{slice_get-get_or}
use Rattle.std.proofs.lemmas.Bool.Decides.{nat_tests}
use Rattle.std.proofs.lemmas.Bool.{cases_lt, both_ways, cond-true, eqb-true, eq-eqb, lt-ltb, and_parts, and_from, not-true, not-false, not_from_false}
use Rattle.search.specs.Laws.{Laws, Antisymmetric}
use Rattle.search.specs.Reaches.{in_chart}
use Rattle.search.specs.Rows.{onward, bettering, gathered, lone, best}
use Rattle.search.specs.Walks.{Inside, Leads, led, Good}
use Rattle.search.specs.WayBack.{brings, row_of, came_by, readable, step_back, reach_of, put_before, reach_and, way_back, WaysBackAreWalks}
use Rattle.search.specs.declared.reaches.Reach.{Reach}
use Rattle.search.proofs.CellSteps.{inside}
use Rattle.search.proofs.Walked.{Brought, charted, itself, gathered_by, gathered_from, onward_some, onward_good, best_gone}

some_one : {A : Type 0} (o : Option A) (a b : A) → o ≡ Some a → o ≡ Some b → a ≡ b
some_one o a b p q = cc

module _ {L : Type 0} {good : L → L → Bool} {goes : ℕ → L → Option L} (laws : Laws good goes) (anti : Antisymmetric good) where
  -- a label that is not bettered by z is at least as good
  unbettered : (o : Option L) (z : L) → bettering good o (Some z) ≡ false → Good good o z
  unbettered None z h = absurd (both_ways true h refl)
  unbettered (Some y) z h = (y, refl, not-false (good y z) h)

  good_unbettered : (o : Option L) (z : L) → Good good o z → bettering good o (Some z) ≡ false
  good_unbettered o z g = ap (λ (p : Option L). bettering good p (Some z)) g.1 ∙ ap not g.2

  brings_so : (f : ℕ → Option L) (v : ℕ) (z : L) (e : Reach) → brings good goes f v z e ≡ true → Inside e × (e.to ≡ v) × Good good (onward goes e.gate (f e.from)) z
  brings_so f v z e h =
      let new = onward goes e.gate (f e.from) in
      let two = and_parts (in_chart e && eqb e.to v) (not (bettering good new (Some z))) h in
      let ends = and_parts (in_chart e) (eqb e.to v) two.0 in
      (inside e ends.0, eqb-true e.to v ends.1, unbettered new z (not-true (bettering good new (Some z)) two.1))

  so_brings : (f : ℕ → Option L) (v : ℕ) (z : L) (e : Reach) → Inside e → e.to ≡ v → Good good (onward goes e.gate (f e.from)) z → brings good goes f v z e ≡ true
  so_brings f v z e ins to g =
      let new = onward goes e.gate (f e.from) in
      and_from (in_chart e && eqb e.to v) (not (bettering good new (Some z))) (and_from (in_chart e) (eqb e.to v) (charted e ins) (eq-eqb e.to v to)) (not_from_false (bettering good new (Some z)) (good_unbettered new z g))

  -- where a reach brings it, the first that does is found
  abbrev Found : (ℕ → Option L) → ℕ → L → List Reach → Type 0
  Found f v z es = (n : ℕ) × (position (brings good goes f v z) es ≡ Some n) × (r : Reach) × (slice_get es n ≡ Some r) × Has es r × (brings good goes f v z r ≡ true)

  first_found : (f : ℕ → Option L) (v : ℕ) (z : L) (es : List Reach) (j : ℕ) → j < length es → (e : Reach) → get_or es j e ≡ e → brings good goes f v z e ≡ true → Found f v z es
  first_found f v z es j l e at h =
      let p = brings good goes f v z in
      let n = position_or_len p es in
      ⊎_elim
      (λ before. absurd (both_ways (p e) (sym (ap p at) ∙ fails_before_first p es j e before) h))
      (λ up. let inside_es : position_or_len (brings good goes f v z) es < length es = omega arith in (n, cond-true (ltb n (length es)) (Some n) None (lt-ltb n (length es) inside_es), get_or es n e, slice_get-get_or es n e inside_es, (n, inside_es, λ d. get_or_default es n d e inside_es), passes_at_first p es e inside_es))
      (cases_lt j n)

  module _ (es : List Reach) (cells : List (Option L)) (at : ℕ) (x : L) (last : ℕ) (low : last ≤ 63) (long : 4096 ≤ length cells)
      (rows : (k v : ℕ) → k ≤ last → v < 64 → row_of cells k v ≡ best good goes es (lone at x) k v) where
    abbrev pub Least : ℕ → ℕ → L → Type 0
    Least k v z = (i : ℕ) → i < k → Good good (row_of cells i v) z → ⊥

    abbrev Walk : ℕ → ℕ → L → Type 0
    Walk k v z = (ws : List Reach) × (way_back good goes es cells k v ≡ Some ws) × (length ws ≡ k) × Leads es at ws v × (led goes x ws ≡ Some z)

    -- one step back: a reach whose start has, in the row before, a label that goes on to just this one, and no earlier row has
    pub record Step (k v : ℕ) (z : L) : Type 0 where
      pub by : Reach
      pub number : ℕ
      pub found : step_back good goes es cells (suc k) v ≡ Some number
      pub is : slice_get es number ≡ Some by
      pub laid : Has es by
      pub ins : Inside by
      pub to : by.to ≡ v
      pub here : L
      pub stands : row_of cells k by.from ≡ Some here
      pub on : goes by.gate here ≡ Some z
      pub least : Least k by.from here

    pub step : (k v : ℕ) (z : L) → suc k ≤ last → v < 64 → row_of cells (suc k) v ≡ Some z → Least (suc k) v z → Step k v z
    step k v z kl vl cell least =
        record {
          by = r;
          number = n;
          found = cond-true (readable cells (suc k) v) (came_by good goes es cells (suc k - 1) v (row_of cells (suc k) v)) None reads ∙ ap (came_by good goes es cells (suc k - 1) v) cell ∙ ap (λ (m : ℕ). position (brings good goes (row_of cells m) v z) es) back ∙ first.1;
          is = first.3;
          laid = first.4;
          ins = so.0;
          to = so.1;
          here = from.0;
          stands = from.1;
          on = from.2 ∙ ap Some same;
          least = λ i li g. least (suc i) (omega arith) (better_before i li g);
        }
      where
        bk : ℕ → Option L
        bk = best good goes es (lone at x) k

        top : gathered good goes es bk v (bk v) ≡ Some z
        top = sym (rows (suc k) v kl vl) ∙ cell

        like : (u : ℕ) → u < 64 → row_of cells k u ≡ bk u
        like u h = rows k u (omega arith) h

        brought : Brought laws es bk v (gathered good goes es bk v (bk v))
        brought =
            ⊎_elim
            (λ same. absurd (least k (omega arith) (z, like v vl ∙ sym same ∙ top, itself laws z)))
            (λ b. b)
            (gathered_from laws es bk v (bk v))

        e : Reach
        e = brought.0

        e_brings : brings good goes (row_of cells k) v z e ≡ true
        e_brings = so_brings (row_of cells k) v z e brought.2 brought.3 (z, ap (onward goes e.gate) (like e.from brought.2.0) ∙ sym brought.4 ∙ top, itself laws z)

        first : Found (row_of cells k) v z es
        first = first_found (row_of cells k) v z es brought.1.0 brought.1.1 e (brought.1.2 e) e_brings

        n : ℕ
        n = first.0

        r : Reach
        r = first.2

        back : suc k - 1 ≡ k
        back = omega arith

        reads : readable cells (suc k) v ≡ true
        reads = grind (arith, nat_tests)

        so : Inside r × (r.to ≡ v) × Good good (onward goes r.gate (row_of cells k r.from)) z
        so = brings_so (row_of cells k) v z r first.5

        w : L
        w = so.2.0

        from : (y : L) × (row_of cells k r.from ≡ Some y) × (goes r.gate y ≡ Some w)
        from = onward_some laws r.gate (row_of cells k r.from) w so.2.1

        no_worse : Good good (gathered good goes es bk v (bk v)) w
        no_worse = gathered_by laws es first.4.0 first.4.1 r (first.4.2 r) so.0 bk v so.1 (bk v) w (w, ap (onward goes r.gate) (sym (like r.from so.0.0)) ∙ so.2.1, itself laws w)

        same : w ≡ z
        same = anti w z so.2.2 (let u : no_worse.0 ≡ z = some_one (gathered good goes es bk v (bk v)) no_worse.0 z no_worse.1 top in subst (λ (y : L). good y w ≡ true) u no_worse.2)

        better_before : (i : ℕ) → i < k → Good good (row_of cells i r.from) from.0 → Good good (row_of cells (suc i) v) z
        better_before i li g =
            let bi : ℕ → Option L = best good goes es (lone at x) i in
            let gi : Good good (bi r.from) from.0 = (g.0, sym (rows i r.from (omega arith) so.0.0) ∙ g.1, g.2) in
            let up = gathered_by laws es first.4.0 first.4.1 r (first.4.2 r) so.0 bi v so.1 (bi v) z (onward_good laws r.gate (bi r.from) from.0 z gi (from.2 ∙ ap Some same)) in
            (up.0, rows (suc i) v (omega arith) vl ∙ up.1, up.2)

    empty : (ws : List Reach) (v : ℕ) (z : L) → length ws ≤ 0 → Leads es at ws v → led goes x ws ≡ Some z → (at ≡ v) × (◌≡◌ {A = Option L} (Some x) (Some z))
    empty [] v z l leads is = (leads, is)
    empty (e ∷ ws) v z l leads is = absurd (omega arith)

    walk : (k v : ℕ) (z : L) → k ≤ last → v < 64 → row_of cells k v ≡ Some z → Least k v z → Walk k v z
    walk zero v z kl vl cell least =
        let gone = best_gone laws es at x 0 v z (sym (rows 0 v kl vl) ∙ cell) in
        let two = empty gone.0 v z gone.1 gone.2 gone.3 in
        ([], refl, refl, two.0, two.1)
    walk (suc k) v z kl vl cell least =
        let s = step k v z kl vl cell least in
        let rest = walk k s.by.from s.here (omega arith) s.ins.0 s.stands s.least in (
          s.by ∷ rest.0,
          ap (λ (o : Option ℕ). reach_and (reach_of es o) (λ e. way_back good goes es cells k e.from)) s.found ∙ ap (λ (o : Option Reach). reach_and o (λ e. way_back good goes es cells k e.from)) s.is ∙ ap (put_before s.by) rest.1,
          ap suc rest.2,
          (s.laid, s.ins, s.to, rest.3),
          ap (onward goes s.by.gate) rest.4 ∙ s.on,
        )

  pub ways_back : (es : List Reach) (cells : List (Option L)) → WaysBackAreWalks good goes es cells
  ways_back es cells at x last low long rows k v z kl vl cell least = walk es cells at x last low long rows k v z kl vl cell least
