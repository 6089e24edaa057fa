-- Lemmas: what a round over the reaches does to each cell.
use Rattle.std.proofs.Common.{◌≡◌, ℕ, ◌+◌, ◌<◌, ◌≤◌, Bool, true, false, cond, ◌&&◌, ◌||◌, eqb, ltb, ◌⊎◌, List, [], ◌∷◌, length, get_or, drop, set, None, Option, sym, refl, ap, ◌∙◌, inl, ⊎_elim, arith}
use Rattle.std.proofs.Math.Bool.{or-false}
use Rattle.std.proofs.lemmas.List.{get_or-set_same, get_or-set_other, length-set, at_drop_more}
use Rattle.std.proofs.lemmas.Bool.{cond-true, cond-false, cond_both, cases_eq, cases_Bool, both_ways, eq-eqb, ne_eqb, eqb-true, ltb-true, and_parts, and_cases, and_from, and_left, and_right, or_parts, or_left, or_right}
use Rattle.search.specs.Reaches.{in_chart, turned, all_turned}
use Rattle.search.specs.Rows.{onward, bettering, better, come, tells, relaxed, rounded, stirred, gathered, stirs}
use Rattle.search.specs.Walks.{Inside}
use Rattle.search.specs.declared.reaches.Direction.{Direction}
use Rattle.search.specs.declared.reaches.Reach.{Reach}

pub inside : (e : Reach) → in_chart e ≡ true → Inside e
inside e h = let two = and_parts (ltb e.from 64) (ltb e.to 64) h in (ltb-true e.from 64 two.0, ltb-true e.to 64 two.1)

module _ {L : Type 0} (good : L → L → Bool) (goes : ℕ → L → Option L) where
  -- what one reach leaves at the place v
  abbrev pub step : (ℕ → Option L) → ℕ → Reach → Option L → Option L
  step f v e here = cond (in_chart e && eqb e.to v) (better good here (onward goes e.gate (f e.from))) here

  step_outside : (f : ℕ → Option L) (v : ℕ) (e : Reach) (here : Option L) → in_chart e ≡ false → step f v e here ≡ here
  step_outside f v e here out = cond-false (in_chart e && eqb e.to v) (better good here (onward goes e.gate (f e.from))) here (and_left (in_chart e) (eqb e.to v) out)

  -- the labels that reaches start from are read at the places alone
  step_same : (f g : ℕ → Option L) → ((u : ℕ) → u < 64 → f u ≡ g u) → (v : ℕ) (e : Reach) (here : Option L) → step f v e here ≡ step g v e here
  step_same f g same v e here =
      ⊎_elim
      (λ y. ap (λ o. cond (in_chart e && eqb e.to v) (better good here (onward goes e.gate o)) here) (same e.from (inside e y).0))
      (λ n. step_outside f v e here n ∙ sym (step_outside g v e here n))
      (cases_Bool (in_chart e))

  pub gathered_same : (es : List Reach) (f g : ℕ → Option L) → ((u : ℕ) → u < 64 → f u ≡ g u) → (v : ℕ) (here : Option L) → gathered good goes es f v here ≡ gathered good goes es g v here
  gathered_same [] f g same v here = refl
  gathered_same (e ∷ es) f g same v here = ap (gathered good goes es f v) (step_same f g same v e here) ∙ gathered_same es f g same v (step g v e here)

  -- whether one reach betters its end
  abbrev pub stir : (ℕ → Option L) → Reach → Bool
  stir f e = in_chart e && bettering good (f e.to) (onward goes e.gate (f e.from))

  stir_same : (f g : ℕ → Option L) → ((u : ℕ) → u < 64 → f u ≡ g u) → (e : Reach) → stir f e ≡ stir g e
  stir_same f g same e =
      ⊎_elim
      (λ y. let two = inside e y in ap (λ o. in_chart e && bettering good o (onward goes e.gate (f e.from))) (same e.to two.1) ∙ ap (λ o. in_chart e && bettering good (g e.to) (onward goes e.gate o)) (same e.from two.0))
      (λ n. and_left (in_chart e) (bettering good (f e.to) (onward goes e.gate (f e.from))) n ∙ sym (and_left (in_chart e) (bettering good (g e.to) (onward goes e.gate (g e.from))) n))
      (cases_Bool (in_chart e))

  pub stirs_same : (es : List Reach) (f g : ℕ → Option L) → ((u : ℕ) → u < 64 → f u ≡ g u) → stirs good goes es f ≡ stirs good goes es g
  stirs_same [] f g same = refl
  stirs_same (e ∷ es) f g same = ap (λ b. b || stirs good goes es f) (stir_same f g same e) ∙ ap (λ b. stir g e || b) (stirs_same es f g same)

  -- where no reach betters its end, every place keeps its label
  pub still : (es : List Reach) (f : ℕ → Option L) → stirs good goes es f ≡ false → (v : ℕ) → gathered good goes es f v (f v) ≡ f v
  still [] f h v = refl
  still (e ∷ es) f h v =
      ap (gathered good goes es f v) kept ∙ still es f quiet.1 v
    where
      quiet : (stir f e ≡ false) × (stirs good goes es f ≡ false)
      quiet = or_parts (stir f e) (stirs good goes es f) h

      new : Option L
      new = onward goes e.gate (f e.from)

      unbettered : in_chart e ≡ true → bettering good (f e.to) new ≡ false
      unbettered y = ⊎_elim (λ n. absurd (both_ways (in_chart e) n y)) (λ n. n) (and_cases (in_chart e) (bettering good (f e.to) new) quiet.0)

      kept : step f v e (f v) ≡ f v
      kept =
          ⊎_elim
          (λ y. let two = and_parts (in_chart e) (eqb e.to v) y in
          cond-true (in_chart e && eqb e.to v) (better good (f v) new) (f v) y ∙ cond-false (bettering good (f v) new) new (f v) (sym (ap (λ w. bettering good (f w) new) (eqb-true e.to v two.1)) ∙ unbettered two.0))
          (λ n. cond-false (in_chart e && eqb e.to v) (better good (f v) new) (f v) n)
          (cases_Bool (in_chart e && eqb e.to v))

module _ {L : Type 0} (good : L → L → Bool) (goes : ℕ → L → Option L) (p q : ℕ) where
  pub length_relaxed : (cells : List (Option L)) (e : Reach) → length (relaxed good goes p q cells e) ≡ length cells
  length_relaxed cells e = cond_both (tells good goes p q cells e) (set cells (q + e.to) (come goes p cells e)) cells (λ l. length l ≡ length cells) (λ _. simp length-set) (λ _. refl)

  -- a reach leaves every other row as it is
  pub relaxed_outside : (cells : List (Option L)) (e : Reach) (j : ℕ) → (j < q) ⊎ (q + 64 ≤ j) → get_or (relaxed good goes p q cells e) j None ≡ get_or cells j None
  relaxed_outside cells e j out =
      cond_both (tells good goes p q cells e) (set cells (q + e.to) (come goes p cells e)) cells (λ l. get_or l j None ≡ get_or cells j None)
      (λ y. let low = (inside e (and_parts (in_chart e) (bettering good (get_or cells (q + e.to) None) (come goes p cells e)) y).0).1 in
      get_or-set_other cells (q + e.to) j (come goes p cells e) None (⊎_elim (λ lt. omega arith) (λ ge. omega arith) out))
      (λ _. refl)

  rounded_outside : (cells : List (Option L)) (es : List Reach) (j : ℕ) → (j < q) ⊎ (q + 64 ≤ j) → get_or (rounded good goes p q cells es) j None ≡ get_or cells j None
  rounded_outside cells [] j out = refl
  rounded_outside cells (e ∷ es) j out = rounded_outside (relaxed good goes p q cells e) es j out ∙ relaxed_outside cells e j out

  module _ (f : ℕ → Option L) where
    -- the row at a place reads as f
    abbrev Reads : List (Option L) → ℕ → Type 0
    Reads cells r = (u : ℕ) → u < 64 → get_or cells (r + u) None ≡ f u

    pub relaxed_at : (cells : List (Option L)) (e : Reach) → Reads cells p → q + 64 ≤ length cells → (v : ℕ) → v < 64 → get_or (relaxed good goes p q cells e) (q + v) None ≡ step good goes f v e (get_or cells (q + v) None)
    relaxed_at cells e reads long v low =
        ⊎_elim
        (λ y. ⊎_elim (here y) (apart y) (cases_eq e.to v))
        (λ n. ap (λ l. get_or l (q + v) None) (cond-false (tells good goes p q cells e) (set cells (q + e.to) (come goes p cells e)) cells (and_left (in_chart e) (bettering good (get_or cells (q + e.to) None) (come goes p cells e)) n))
        ∙ sym (cond-false (in_chart e && eqb e.to v) (better good old new) old (and_left (in_chart e) (eqb e.to v) n)))
        (cases_Bool (in_chart e))
      where
        old : Option L
        old = get_or cells (q + v) None

        new : Option L
        new = onward goes e.gate (f e.from)

        here : in_chart e ≡ true → e.to ≡ v → get_or (relaxed good goes p q cells e) (q + v) None ≡ step good goes f v e old
        here y same =
            let two = inside e y in
            let comes : come goes p cells e ≡ new = ap (onward goes e.gate) (reads e.from two.0) in
            let told : tells good goes p q cells e ≡ bettering good old new = ap (λ b. b && bettering good (get_or cells (q + e.to) None) (come goes p cells e)) y ∙ ap (λ w. bettering good (get_or cells (q + w) None) (come goes p cells e)) same ∙ ap (bettering good old) comes in
            let steps : step good goes f v e old ≡ better good old new = cond-true (in_chart e && eqb e.to v) (better good old new) old (and_from (in_chart e) (eqb e.to v) y (eq-eqb e.to v same)) in
            let l : q + e.to < length cells = omega arith in
            ⊎_elim
            (λ b. ap (λ c. get_or c (q + v) None) (cond-true (tells good goes p q cells e) (set cells (q + e.to) (come goes p cells e)) cells (told ∙ b))
            ∙ ap (λ w. get_or (set cells (q + e.to) (come goes p cells e)) (q + w) None) (sym same)
            ∙ get_or-set_same cells (q + e.to) (come goes p cells e) None l ∙ comes
            ∙ sym (steps ∙ cond-true (bettering good old new) new old b))
            (λ n. ap (λ c. get_or c (q + v) None) (cond-false (tells good goes p q cells e) (set cells (q + e.to) (come goes p cells e)) cells (told ∙ n))
            ∙ sym (steps ∙ cond-false (bettering good old new) new old n))
            (cases_Bool (bettering good old new))

        apart : in_chart e ≡ true → (e.to ≡ v → ⊥) → get_or (relaxed good goes p q cells e) (q + v) None ≡ step good goes f v e old
        apart y ne =
            cond_both (tells good goes p q cells e) (set cells (q + e.to) (come goes p cells e)) cells (λ l. get_or l (q + v) None ≡ old)
            (λ _. get_or-set_other cells (q + e.to) (q + v) (come goes p cells e) None (λ s. ne (omega arith)))
            (λ _. refl)
            ∙ sym (cond-false (in_chart e && eqb e.to v) (better good old new) old (and_right (in_chart e) (eqb e.to v) (ne_eqb e.to v ne)))

    rounded_at : p + 64 ≤ q → (cells : List (Option L)) (es : List Reach) → Reads cells p → q + 64 ≤ length cells → (v : ℕ) → v < 64 → get_or (rounded good goes p q cells es) (q + v) None ≡ gathered good goes es f v (get_or cells (q + v) None)
    rounded_at before cells [] reads long v low = refl
    rounded_at before cells (e ∷ es) reads long v low =
        rounded_at before (relaxed good goes p q cells e) es (λ u l. relaxed_outside cells e (p + u) (inl (omega arith)) ∙ reads u l) (omega (arith, length_relaxed cells e)) v low
        ∙ ap (gathered good goes es f v) (relaxed_at cells e reads long v low)

    stirred_true : (cells : List (Option L)) (es : List Reach) → stirred good goes p q cells true es ≡ true
    stirred_true cells [] = refl
    stirred_true cells (e ∷ es) = stirred_true (relaxed good goes p q cells e) es

    tells_is : (cells : List (Option L)) (e : Reach) → Reads cells p → Reads cells q → tells good goes p q cells e ≡ stir good goes f e
    tells_is cells e at_p at_q =
        ⊎_elim
        (λ y. let two = inside e y in ap (λ o. in_chart e && bettering good o (come goes p cells e)) (at_q e.to two.1) ∙ ap (λ o. in_chart e && bettering good (f e.to) (onward goes e.gate o)) (at_p e.from two.0))
        (λ n. and_left (in_chart e) (bettering good (get_or cells (q + e.to) None) (come goes p cells e)) n ∙ sym (and_left (in_chart e) (bettering good (f e.to) (onward goes e.gate (f e.from))) n))
        (cases_Bool (in_chart e))

    -- a round from a row into its like betters a place where a reach betters its end in that row
    stirred_is : (cells : List (Option L)) (b : Bool) (es : List Reach) → Reads cells p → Reads cells q → stirred good goes p q cells b es ≡ (b || stirs good goes es f)
    stirred_is cells b [] at_p at_q = sym (or-false b)
    stirred_is cells b (e ∷ es) at_p at_q =
        let is = tells_is cells e at_p at_q in
        ⊎_elim
        (λ y. ap (λ c. stirred good goes p q (relaxed good goes p q cells e) c es) (or_right b (tells good goes p q cells e) (is ∙ y)) ∙ stirred_true (relaxed good goes p q cells e) es
        ∙ sym (or_right b (stir good goes f e || stirs good goes es f) (or_left (stir good goes f e) (stirs good goes es f) y)))
        (λ n. ap (λ c. stirred good goes p q c (b || tells good goes p q cells e) es) (cond-false (tells good goes p q cells e) (set cells (q + e.to) (come goes p cells e)) cells (is ∙ n))
        ∙ ap (λ c. stirred good goes p q cells (b || c) es) (is ∙ n)
        ∙ ap (λ c. stirred good goes p q cells c es) (or-false b)
        ∙ stirred_is cells b es at_p at_q
        ∙ ap (λ c. b || (c || stirs good goes es f)) (sym n))
        (cases_Bool (stir good goes f e))

  -- ---- the loop over the reaches, in their direction
  module _ (d : Direction) (cells next : List (Option L)) (es : List Reach) (i : ℕ) (e t : Reach) (h : i < length es) (turns : t ≡ turned d (get_or es i e)) (n : next ≡ relaxed good goes p q cells t) where
    relaxes : next ≡ relaxed good goes p q cells (turned d (get_or es i e))
    relaxes = n ∙ ap (relaxed good goes p q cells) turns

    pub rounded_more : rounded good goes p q next (all_turned d (drop (i + 1) es)) ≡ rounded good goes p q cells (all_turned d (drop i es))
    rounded_more = ap (λ r. rounded good goes p q r (all_turned d (drop (i + 1) es))) relaxes ∙ sym (at_drop_more (λ l. rounded good goes p q cells (all_turned d l)) es i e h)

    pub stirred_more : (b r : Bool) → r ≡ tells good goes p q cells t → stirred good goes p q next (b || r) (all_turned d (drop (i + 1) es)) ≡ stirred good goes p q cells b (all_turned d (drop i es))
    stirred_more b r is =
        ap (λ m. stirred good goes p q m (b || r) (all_turned d (drop (i + 1) es))) relaxes
        ∙ ap (λ c. stirred good goes p q (relaxed good goes p q cells (turned d (get_or es i e))) (b || c) (all_turned d (drop (i + 1) es))) (is ∙ ap (tells good goes p q cells) turns)
        ∙ sym (at_drop_more (λ l. stirred good goes p q cells b (all_turned d l)) es i e h)

  -- ---- a row that is carried over, and then a round
  module _ (apart : p + 64 ≤ q) (old mid new : List (Option L)) (es : List Reach) (long : q + 64 ≤ length mid)
      (carried : (v : ℕ) → v < 64 → get_or mid (q + v) None ≡ get_or old (p + v) None)
      (under : (j : ℕ) → j < q → get_or mid j None ≡ get_or old j None)
      (over : (j : ℕ) → q + 64 ≤ j → get_or mid j None ≡ get_or old j None)
      (is : new ≡ rounded good goes p q mid es) where
    before : (u : ℕ) → u < 64 → get_or mid (p + u) None ≡ get_or old (p + u) None
    before u l = under (p + u) (omega arith)

    pub advanced_row : (v : ℕ) → v < 64 → get_or new (q + v) None ≡ gathered good goes es (λ u. get_or old (p + u) None) v (get_or old (p + v) None)
    advanced_row v low = ap (λ n. get_or n (q + v) None) is ∙ rounded_at (λ u. get_or old (p + u) None) apart mid es before long v low ∙ ap (gathered good goes es (λ u. get_or old (p + u) None) v) (carried v low)

    pub advanced_told : stirred good goes p q mid false es ≡ stirs good goes es (λ u. get_or old (p + u) None)
    advanced_told = stirred_is (λ u. get_or old (p + u) None) mid false es before carried
