-- Lemmas: a reach whose start has kept its label betters nothing, so it can be left out of a round.
use Rattle.std.proofs.Common.{◌≡◌, ℕ, zero, suc, ◌+◌, ◌-◌, ◌*◌, ◌<◌, ◌≤◌, Bool, true, false, ◌&&◌, ◌||◌, eqb, ltb, List, [], ◌∷◌, length, get_or, drop, set, Some, None, Option, sym, refl, ap, ◌∙◌, subst, ⊎_elim, arith}
use Rattle.std.proofs.Math.Bool.{or-false}
use Rattle.std.proofs.lemmas.List.{at_drop_more}
use Rattle.std.proofs.lemmas.Bool.{cases_Bool, both_ways, cond-true, cond-false, cond_both, lt-ltb, ltb-false, and_cases, and_left, and_right, or_parts, not-true, not_from_false, not_from_true}
use Rattle.std.specs.List.{ContainsAt as Has}
use Rattle.search.specs.Laws.{Laws}
use Rattle.search.specs.Reaches.{in_chart, turned, all_turned}
use Rattle.search.specs.Rows.{onward, bettering, better, come, tells, relaxed, rounded, stirred, gathered, best, fresh, RoundBefore}
use Rattle.search.specs.Walks.{Inside, Good}
use Rattle.search.specs.declared.reaches.Direction.{Direction}
use Rattle.search.specs.declared.reaches.Reach.{Reach}
use Rattle.search.proofs.CellSteps.{inside, step, relaxed_at, gathered_same}
use Rattle.search.proofs.Walked.{itself, good_old, gathered_here, gathered_by}

module _ {L : Type 0} {good : L → L → Bool} {goes : ℕ → L → Option L} (laws : Laws good goes) where
  -- what betters a label is bettered by nothing worse
  better_stays : (here new final : Option L) → bettering good here new ≡ true → ((z : L) → new ≡ Some z → Good good final z) → bettering good here final ≡ true
  better_stays here None final h stays = let w : ◌≡◌ {A = ℕ} 0 1 = cc in absurd (omega arith)
  better_stays None (Some w) final h stays = let g = stays w refl in ap (bettering good None) g.1
  better_stays (Some x) (Some w) final h stays =
      let g = stays w refl in
      let far : good x w ≡ false = not-true (good x w) h in
      ap (bettering good (Some x)) g.1
      ∙ ⊎_elim
      (λ y. absurd (both_ways (good x w) far (laws.transitive x g.0 w y g.2)))
      (λ n. not_from_false (good x g.0) n)
      (cases_Bool (good x g.0))

  -- a label that a round doesn't better is kept
  gathered_kept : (es : List Reach) (f : ℕ → Option L) (v : ℕ) (here : Option L) → bettering good here (gathered good goes es f v here) ≡ false → gathered good goes es f v here ≡ here
  gathered_kept [] f v here h = refl
  gathered_kept (e ∷ es) f v here h =
      let new = onward goes e.gate (f e.from) in
      let same : step good goes f v e here ≡ here → gathered good goes es f v (step good goes f v e here) ≡ here =
      λ s. ap (gathered good goes es f v) s ∙ gathered_kept es f v here (sym (ap (λ o. bettering good here (gathered good goes es f v o)) s) ∙ h) in
      ⊎_elim
      (λ y. ⊎_elim
      (λ b. let s : step good goes f v e here ≡ new = cond-true (in_chart e && eqb e.to v) (better good here new) here y ∙ cond-true (bettering good here new) new here b in
      absurd (both_ways (bettering good here (gathered good goes es f v (step good goes f v e here))) h
      (better_stays here new (gathered good goes es f v (step good goes f v e here)) b (λ z is. gathered_here laws es f v (step good goes f v e here) z (z, s ∙ is, itself laws z)))))
      (λ n. same (cond-true (in_chart e && eqb e.to v) (better good here new) here y ∙ cond-false (bettering good here new) new here n))
      (cases_Bool (bettering good here new)))
      (λ n. same (cond-false (in_chart e && eqb e.to v) (better good here new) here n))
      (cases_Bool (in_chart e && eqb e.to v))

  -- a label at least as good as each that comes is not bettered
  unbettered : (old new : Option L) → ((z : L) → new ≡ Some z → Good good old z) → bettering good old new ≡ false
  unbettered old None h = refl
  unbettered old (Some z) h = let g = h z refl in ap (λ o. bettering good o (Some z)) g.1 ∙ not_from_true (good g.0 z) g.2

  module _ (k : ℕ) (some : 0 < k) (es : List Reach) (old cells : List (Option L))
      (before : RoundBefore good goes es old k)
      -- row k is at least as good as row k - 1, and the rows before it are as they were
      (no_worse : (v : ℕ) → v < 64 → (z : L) → Good good (get_or old (64 * (k - 1) + v) None) z → Good good (get_or cells (64 * k + v) None) z)
      (under : (j : ℕ) → j < 64 * k → get_or cells j None ≡ get_or old j None) where
    pub quiet : (t : Reach) → Has es t → fresh good cells k t.from ≡ false → tells good goes (64 * (k - 1)) (64 * k) cells t ≡ false
    quiet t has stale =
        ⊎_elim
        (λ y. and_right (in_chart t) (bettering good (get_or cells (64 * k + t.to) None) (come goes (64 * (k - 1)) cells t)) (settled (inside t y)))
        (λ n. and_left (in_chart t) (bettering good (get_or cells (64 * k + t.to) None) (come goes (64 * (k - 1)) cells t)) n)
        (cases_Bool (in_chart t))
      where
        settled : Inside t → bettering good (get_or cells (64 * k + t.to) None) (come goes (64 * (k - 1)) cells t) ≡ false
        settled ins =
            let f : ℕ → Option L = λ u. get_or old (64 * (k - 2) + u) None in
            let ge : 2 ≤ k = ltb-false k 2 (or_parts (ltb k 2) (bettering good (get_or cells (64 * (k - 2) + t.from) None) (get_or cells (64 * (k - 1) + t.from) None)) (late ins)).0 in
            let low : 64 * (k - 2) + t.from < 64 * k = omega (arith, ins.0) in
            let low' : 64 * (k - 1) + t.from < 64 * k = omega (arith, ins.0) in
            let still : bettering good (f t.from) (get_or old (64 * (k - 1) + t.from) None) ≡ false =
            sym (ap (λ o. bettering good o (get_or cells (64 * (k - 1) + t.from) None)) (under (64 * (k - 2) + t.from) low) ∙ ap (bettering good (f t.from)) (under (64 * (k - 1) + t.from) low'))
            ∙ (or_parts (ltb k 2) (bettering good (get_or cells (64 * (k - 2) + t.from) None) (get_or cells (64 * (k - 1) + t.from) None)) (late ins)).1 in
            let row = before ge in
            let kept : get_or old (64 * (k - 1) + t.from) None ≡ f t.from =
            row t.from ins.0 ∙ gathered_kept es f t.from (f t.from) (sym (ap (bettering good (f t.from)) (row t.from ins.0)) ∙ still) in
            unbettered (get_or cells (64 * k + t.to) None) (come goes (64 * (k - 1)) cells t)
            (λ z is.
            let comes : onward goes t.gate (f t.from) ≡ Some z = ap (onward goes t.gate) (sym kept ∙ sym (under (64 * (k - 1) + t.from) low')) ∙ is in
            let up = gathered_by laws es has.0 has.1 t (has.2 t) ins f t.to refl (f t.to) z (z, comes, itself laws z) in
            no_worse t.to ins.1 z (up.0, row t.to ins.1 ∙ up.1, up.2))
          where
            late : Inside t → (ltb k 2 || bettering good (get_or cells (64 * (k - 2) + t.from) None) (get_or cells (64 * (k - 1) + t.from) None)) ≡ false
            late ins =
                ⊎_elim
                (λ n. absurd (both_ways (ltb t.from 64) n (lt-ltb t.from 64 ins.0)))
                (λ n. n)
                (and_cases (ltb t.from 64) (ltb k 2 || bettering good (get_or cells (64 * (k - 2) + t.from) None) (get_or cells (64 * (k - 1) + t.from) None)) stale)

    -- ---- a turn of the loop over the reaches, in their direction
    pub no_worse_on : (t : Reach) → 64 * k + 64 ≤ length cells → (v : ℕ) → v < 64 → (z : L) → Good good (get_or old (64 * (k - 1) + v) None) z → Good good (get_or (relaxed good goes (64 * (k - 1)) (64 * k) cells t) (64 * k + v) None) z
    no_worse_on t long v h z g =
        let p = 64 * (k - 1) in
        let q = 64 * k in
        let f : ℕ → Option L = λ u. get_or cells (p + u) None in
        let here = get_or cells (q + v) None in
        let new = onward goes t.gate (f t.from) in
        let mine = no_worse v h z g in
        subst (λ (o : Option L). Good good o z) (sym (relaxed_at good goes p q f cells t (λ u l. refl) long v h))
        (cond_both (in_chart t && eqb t.to v) (better good here new) here (λ (o : Option L). Good good o z) (λ _. good_old laws here new z mine) (λ _. mine))

module _ {L : Type 0} (good : L → L → Bool) (goes : ℕ → L → Option L) (p q : ℕ) (d : Direction) (cells : List (Option L)) (es : List Reach) (i : ℕ) (e t : Reach) (h : i < length es) (turns : t ≡ turned d (get_or es i e)) (idle : tells good goes p q cells t ≡ false) where
  same_cells : relaxed good goes p q cells (turned d (get_or es i e)) ≡ cells
  same_cells = ap (relaxed good goes p q cells) (sym turns) ∙ cond-false (tells good goes p q cells t) (set cells (q + t.to) (come goes p cells t)) cells idle

  pub rounded_skip : rounded good goes p q cells (all_turned d (drop (i + 1) es)) ≡ rounded good goes p q cells (all_turned d (drop i es))
  rounded_skip = ap (λ (c : List (Option L)). rounded good goes p q c (all_turned d (drop (i + 1) es))) (sym same_cells) ∙ sym (at_drop_more (λ l. rounded good goes p q cells (all_turned d l)) es i e h)

  pub stirred_skip : (b : Bool) → stirred good goes p q cells b (all_turned d (drop (i + 1) es)) ≡ stirred good goes p q cells b (all_turned d (drop i es))
  stirred_skip b =
      ap (λ (c : List (Option L)). stirred good goes p q c b (all_turned d (drop (i + 1) es))) (sym same_cells)
      ∙ ap (λ (c : Bool). stirred good goes p q (relaxed good goes p q cells (turned d (get_or es i e))) c (all_turned d (drop (i + 1) es))) (sym (ap (λ (c : Bool). b || c) (ap (tells good goes p q cells) (sym turns) ∙ idle) ∙ or-false b))
      ∙ sym (at_drop_more (λ l. stirred good goes p q cells b (all_turned d l)) es i e h)

-- the reach of a turn is one of those gone over
pub turned_has : (d : Direction) (es : List Reach) (i : ℕ) (e : Reach) → i < length es → Has (all_turned d es) (turned d (get_or es i e))
turned_has d [] i e h = absurd (omega arith)
turned_has d (r ∷ es) zero e h = (0, omega arith, λ x. refl)
turned_has d (r ∷ es) (suc i) e h = let q = turned_has d es i e (omega arith) in (suc q.0, omega (arith, q.1), q.2)

-- ---- the row before came by a round, in cells that agree up to row k, and in rows of best labels
module _ {L : Type 0} (good : L → L → Bool) (goes : ℕ → L → Option L) (es : List Reach) (k : ℕ) where
  pub before_kept : (old mid : List (Option L)) → ((j : ℕ) → j < 64 * k → get_or mid j None ≡ get_or old j None) → RoundBefore good goes es old k → RoundBefore good goes es mid k
  before_kept old mid under h ge v low =
      under (64 * (k - 1) + v) (omega arith) ∙ h ge v low
      ∙ gathered_same good goes es (λ u. get_or old (64 * (k - 2) + u) None) (λ u. get_or mid (64 * (k - 2) + u) None) (λ u l. sym (under (64 * (k - 2) + u) (omega arith))) v (get_or old (64 * (k - 2) + v) None)
      ∙ ap (gathered good goes es (λ u. get_or mid (64 * (k - 2) + u) None) v) (sym (under (64 * (k - 2) + v) (omega arith)))

  pub before_rows : (f : ℕ → Option L) (cells : List (Option L)) → ((j v : ℕ) → j < k → v < 64 → get_or cells (64 * j + v) None ≡ best good goes es f j v) → RoundBefore good goes es cells k
  before_rows f cells rows ge v low =
      let e : k - 1 ≡ suc (k - 2) = omega arith in
      rows (k - 1) v (omega arith) low
      ∙ ap (λ (m : ℕ). best good goes es f m v) e
      ∙ gathered_same good goes es (best good goes es f (k - 2)) (λ u. get_or cells (64 * (k - 2) + u) None) (λ u l. sym (rows (k - 2) u (omega arith) l)) v (best good goes es f (k - 2) v)
      ∙ ap (gathered good goes es (λ u. get_or cells (64 * (k - 2) + u) None) v) (sym (rows (k - 2) v (omega arith) low))
