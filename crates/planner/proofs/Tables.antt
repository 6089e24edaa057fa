-- Lemmas: the labels that the figures are read from are the best labels by number of reaches, and so the figures tell the first of them that is wanted.
use Rattle.std.proofs.Common.{◌≡◌, ℕ, zero, suc, ◌+◌, ◌-◌, ◌<◌, ◌≤◌, Bool, true, false, List, [], ◌∷◌, ◌++◌, length, get_or, Some, None, Option, sym, refl, ap, ◌∙◌, subst, ⊎_elim, arith}
use Rattle.std.proofs.lemmas.List.{get_or_append_left, get_or-append_right, get_or-drop, get_or_past, length-append, length-drop}
use Rattle.std.proofs.lemmas.Bool.{and_parts, cases_eq, cases_lt, cases_order, cond_both, eqb-true, false≢true}
use Rattle.books.specs.Options.{some_one}
use Rattle.search.specs.Rows.{best, gathered, lone, relaxed, rounded}
use Rattle.search.specs.declared.reaches.Reach.{Reach}
use Rattle.search.proofs.Best.{settles}
use Rattle.search.proofs.CellSteps.{advanced_row, gathered_same, length_relaxed}
use Rattle.planner.specs.Figures.{Row, row_from, next_row, same_label, same_row, labels_on, labels, final, meets, first_met, best_of, soonest_of}
use Rattle.planner.specs.Routes.{then}

-- ---- the first wanted label among f 0 .. f 63, with its place
abbrev pub Picked : (ℕ → Option ℕ) → Option ℕ → Option (ℕ × ℕ) → Type 0
Picked f wanted None = (i : ℕ) → i ≤ 63 → meets wanted (f i) ≡ false
Picked f wanted (Some p) = (p.1 ≤ 63) × (f p.1 ≡ Some p.0) × (meets wanted (f p.1) ≡ true) × ((i : ℕ) → i < p.1 → meets wanted (f i) ≡ false)

pub picked_one : (f : ℕ → Option ℕ) (wanted : Option ℕ) (r s : Option (ℕ × ℕ)) → Picked f wanted r → Picked f wanted s → r ≡ s
picked_one f wanted None None h k = refl
picked_one f wanted None (Some q) h k = absurd (false≢true (sym (h q.1 k.0) ∙ k.2))
picked_one f wanted (Some p) None h k = absurd (false≢true (sym (k p.1 h.0) ∙ h.2))
picked_one f wanted (Some p) (Some q) h k =
    ap (λ (x : ℕ). Some (x, p.1)) (some_one (f p.1) p.0 q.0 h.1 (ap f place ∙ k.1)) ∙ ap (λ (i : ℕ). Some (q.0, i)) place
  where
    place : p.1 ≡ q.1
    place =
        ⊎_elim
        (λ same. same)
        (⊎_elim (λ before. absurd (false≢true (sym (k.3 p.1 before) ∙ h.2))) (λ after. absurd (false≢true (sym (h.3 q.1 after) ∙ k.2))))
        (cases_order p.1 q.1)

-- ---- a list that holds f k, f (k + 1), .. up to a place from which f stays the same
module _ (f : ℕ → Option ℕ) where
  abbrev Follows : ℕ → List (Option ℕ) → Type 0
  Follows k [] = ⊥
  Follows k (o ∷ []) = (k ≤ 63) × (f k ≡ o) × ((j : ℕ) → k ≤ j → j ≤ 63 → f j ≡ o)
  Follows k (o ∷ p ∷ ps) = (k ≤ 63) × (f k ≡ o) × Follows (suc k) (p ∷ ps)

  follows_before : (k : ℕ) (o : Option ℕ) (os : List (Option ℕ)) → k ≤ 63 → f k ≡ o → Follows (suc k) os → Follows k (o ∷ os)
  follows_before k o [] low is h = absurd h
  follows_before k o (p ∷ ps) low is h = (low, is, h)

  final_is : (k : ℕ) (os : List (Option ℕ)) → Follows k os → final os ≡ f 63
  final_is k [] h = absurd h
  final_is k (o ∷ []) h = sym (h.2 63 h.0 (omega arith))
  final_is k (o ∷ p ∷ ps) h = final_is (suc k) (p ∷ ps) h.2

  module _ (wanted : Option ℕ) where
    abbrev Unmet : ℕ → Type 0
    Unmet k = (i : ℕ) → i < k → meets wanted (f i) ≡ false

    unmet_more : (k : ℕ) (o : Option ℕ) → f k ≡ o → meets wanted o ≡ false → Unmet k → Unmet (suc k)
    unmet_more k o is not before i low = ⊎_elim (λ same. ap (λ j. meets wanted (f j)) same ∙ ap (meets wanted) is ∙ not) (λ apart. before i (omega arith)) (cases_eq i k)

    unmet_all : (k : ℕ) (o : Option ℕ) → Follows k (o ∷ []) → meets wanted o ≡ false → Unmet k → Picked f wanted None
    unmet_all k o h not before i low = ⊎_elim (λ less. before i less) (λ more. ap (meets wanted) (h.2 i more low) ∙ not) (cases_lt i k)

    first_met_picked : (k : ℕ) (os : List (Option ℕ)) → Follows k os → Unmet k → Picked f wanted (first_met wanted k os)
    first_met_picked k [] h before = absurd h
    first_met_picked k (None ∷ []) h before = unmet_all k None h refl before
    first_met_picked k (None ∷ p ∷ ps) h before = first_met_picked (suc k) (p ∷ ps) h.2 (unmet_more k None h.1 refl before)
    first_met_picked k (Some x ∷ []) h before =
        cond_both (meets wanted (Some x)) (Some (x, k)) None (Picked f wanted)
        (λ y. (h.0, h.1, ap (meets wanted) h.1 ∙ y, before))
        (λ n. unmet_all k (Some x) h n before)
    first_met_picked k (Some x ∷ p ∷ ps) h before =
        cond_both (meets wanted (Some x)) (Some (x, k)) (first_met wanted (suc k) (p ∷ ps)) (Picked f wanted)
        (λ y. (h.0, h.1, ap (meets wanted) h.1 ∙ y, before))
        (λ n. first_met_picked (suc k) (p ∷ ps) h.2 (unmet_more k (Some x) h.1 n before))

-- ---- rows as lists
same_label_is : (x y : Option ℕ) → same_label x y ≡ true → x ≡ y
same_label_is None None h = refl
same_label_is None (Some y) h = absurd (false≢true h)
same_label_is (Some x) None h = absurd (false≢true h)
same_label_is (Some x) (Some y) h = ap Some (eqb-true x y h)

same_row_is : (xs ys : Row) → same_row xs ys ≡ true → (v : ℕ) → get_or xs v None ≡ get_or ys v None
same_row_is [] [] h v = refl
same_row_is [] (y ∷ ys) h v = absurd (false≢true h)
same_row_is (x ∷ xs) [] h v = absurd (false≢true h)
same_row_is (x ∷ xs) (y ∷ ys) h zero = same_label_is x y (and_parts (same_label x y) (same_row xs ys) h).0
same_row_is (x ∷ xs) (y ∷ ys) h (suc v) = same_row_is xs ys (and_parts (same_label x y) (same_row xs ys) h).1 v

row_at : (f : ℕ → Option ℕ) (n s i : ℕ) → i < n → get_or (row_from f n s) i None ≡ f (s + i)
row_at f zero s i l = absurd (omega arith)
row_at f (suc n) s zero l = let e : s ≡ s + 0 = omega arith in ap f e
row_at f (suc n) s (suc i) l = let e : suc s + i ≡ s + suc i = omega arith in row_at f n (suc s) i (omega arith) ∙ ap f e

row_long : (f : ℕ → Option ℕ) (n s : ℕ) → length (row_from f n s) ≡ n
row_long f zero s = refl
row_long f (suc n) s = ap suc (row_long f n (suc s))

module _ (good : ℕ → ℕ → Bool) (goes : ℕ → ℕ → Option ℕ) where
  length_rounded : (p q : ℕ) (cells : Row) (es : List Reach) → length (rounded good goes p q cells es) ≡ length cells
  length_rounded p q cells [] = refl
  length_rounded p q cells (e ∷ es) = length_rounded p q (relaxed good goes p q cells e) es ∙ length_relaxed good goes p q cells e

  module _ (es : List Reach) (row : Row) (long : length row ≡ 64) where
    twice_long : length (row ++ row) ≡ 128
    twice_long = omega (arith, length-append row row)

    next_long : length (next_row good goes es row) ≡ 64
    next_long = omega (arith, length-drop 64 (rounded good goes 0 64 (row ++ row) es), length_rounded 0 64 (row ++ row) es, twice_long)

    next_at : (v : ℕ) → v < 64 → get_or (next_row good goes es row) v None ≡ gathered good goes es (λ u. get_or row u None) v (get_or row v None)
    next_at v low =
        get_or-drop 64 (rounded good goes 0 64 (row ++ row) es) v None
        ∙ advanced_row good goes 0 64 (omega arith) row (row ++ row) (rounded good goes 0 64 (row ++ row) es) es (omega (arith, twice_long)) carried under over refl v low
        ∙ gathered_same good goes es (λ u. get_or row (0 + u) None) (λ u. get_or row u None) (λ u _. bare u) v (get_or row (0 + v) None)
        ∙ ap (gathered good goes es (λ u. get_or row u None) v) (bare v)
      where
        bare : (u : ℕ) → get_or row (0 + u) None ≡ get_or row u None
        bare u = let e : 0 + u ≡ u = omega arith in ap (λ (j : ℕ). get_or row j None) e

        carried : (u : ℕ) → u < 64 → get_or (row ++ row) (64 + u) None ≡ get_or row (0 + u) None
        carried u l = let e : 64 + u - 64 ≡ 0 + u = omega arith in get_or-append_right row row 64 (64 + u) None long (omega arith) ∙ ap (λ (j : ℕ). get_or row j None) e

        under : (j : ℕ) → j < 64 → get_or (row ++ row) j None ≡ get_or row j None
        under j l = get_or_append_left row row None j (omega arith)

        over : (j : ℕ) → 64 + 64 ≤ j → get_or (row ++ row) j None ≡ get_or row j None
        over j l = get_or_past (row ++ row) j None (omega (arith, twice_long)) ∙ sym (get_or_past row j None (omega arith))

  -- ---- the rows of the labels are those of `best`
  module _ (es : List Reach) (at x : ℕ) where
    abbrev IsRow : ℕ → Row → Type 0
    IsRow k row = (length row ≡ 64) × ((u : ℕ) → u < 64 → get_or row u None ≡ best good goes es (lone at x) k u)

    row_first : IsRow 0 (row_from (lone at x) 64 0)
    row_first = (row_long (lone at x) 64 0, λ u l. let e : 0 + u ≡ u = omega arith in row_at (lone at x) 64 0 u l ∙ ap (lone at x) e)

    row_next : (k : ℕ) (row : Row) → IsRow k row → IsRow (suc k) (next_row good goes es row)
    row_next k row h = (
      next_long es row h.0,
      λ u l.
          next_at es row h.0 u l
          ∙ gathered_same good goes es (λ w. get_or row w None) (best good goes es (lone at x) k) h.1 u (get_or row u None)
          ∙ ap (gathered good goes es (best good goes es (lone at x) k) u) (h.1 u l),
    )

    module _ (v : ℕ) (place : v < 64) where
      labels_on_follow : (n k : ℕ) (row : Row) → n + k ≡ 63 → IsRow k row → Follows (λ j. best good goes es (lone at x) j v) k (labels_on good goes es v n row)
      labels_on_follow zero k row sum h = (omega arith, sym (h.1 v place), λ j lo hi. let e : j ≡ k = omega arith in ap (λ (m : ℕ). best good goes es (lone at x) m v) e ∙ sym (h.1 v place))
      labels_on_follow (suc n) k row sum h =
          let next = next_row good goes es row in
          let more = row_next k row h in
          cond_both (same_row row next) [] (labels_on good goes es v n next) (λ os. Follows (λ j. best good goes es (lone at x) j v) k (get_or row v None ∷ os))
          (λ t. (
            omega arith,
            sym (h.1 v place),
            λ j lo hi. settles good goes es (lone at x) k (λ u l. sym (more.1 u l) ∙ sym (same_row_is row next t u) ∙ h.1 u l) j lo v place ∙ sym (h.1 v place),
          ))
          (λ _. follows_before (λ j. best good goes es (lone at x) j v) k (get_or row v None) (labels_on good goes es v n next) (omega arith) (sym (h.1 v place)) (labels_on_follow n (suc k) next (omega arith) more))

      labels_follow : Follows (λ j. best good goes es (lone at x) j v) 0 (labels good goes es at x v)
      unfolding labels
      labels_follow = labels_on_follow 63 0 (row_from (lone at x) 64 0) (omega arith) row_first

-- ---- the figures
module _ (good : ℕ → ℕ → Bool) (goes : ℕ → ℕ → Option ℕ) (es : List Reach) (at x v : ℕ) (place : v < 64) where
  first_of_labels : (wanted : Option ℕ) → Picked (λ k. best good goes es (lone at x) k v) wanted (first_met wanted 0 (labels good goes es at x v))
  first_of_labels wanted = first_met_picked (λ k. best good goes es (lone at x) k v) wanted 0 (labels good goes es at x v) (labels_follow good goes es at x v place) (λ i low. absurd (omega arith))

  pub soonest_picked : Picked (λ k. best good goes es (lone at x) k v) None (soonest_of (labels good goes es at x v))
  soonest_picked = first_of_labels None

  best_of_is : best_of (labels good goes es at x v) ≡ then (best good goes es (lone at x) 63 v) (λ z. first_met (Some z) 0 (labels good goes es at x v))
  best_of_is = ap (λ o. then o (λ z. first_met (Some z) 0 (labels good goes es at x v))) (final_is (λ k. best good goes es (lone at x) k v) 0 (labels good goes es at x v) (labels_follow good goes es at x v place))

  pub best_none : best good goes es (lone at x) 63 v ≡ None → best_of (labels good goes es at x v) ≡ None
  best_none none = best_of_is ∙ ap (λ o. then o (λ z. first_met (Some z) 0 (labels good goes es at x v))) none

  pub best_picked : (z : ℕ) → best good goes es (lone at x) 63 v ≡ Some z → Picked (λ k. best good goes es (lone at x) k v) (Some z) (best_of (labels good goes es at x v))
  best_picked z is =
      subst (Picked (λ k. best good goes es (lone at x) k v) (Some z)) (sym (best_of_is ∙ ap (λ o. then o (λ y. first_met (Some y) 0 (labels good goes es at x v))) is)) (first_of_labels (Some z))
