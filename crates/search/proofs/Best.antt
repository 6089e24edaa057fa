-- Lemmas: the rows that a search fills are the best labels, and when it stops.
use Rattle.std.proofs.Common.{◌≡◌, ℕ, zero, suc, ◌+◌, ◌-◌, ◌*◌, ◌<◌, ◌≤◌, Bool, true, false, cond, List, get_or, None, Option, sym, refl, ap, ◌∙◌, ⊎_elim, arith}
use native.Mathlib.Decide.{le_ind}
use Rattle.std.proofs.lemmas.Bool.{cases_eq, cases_Bool, cond-true, cond-false}
use Rattle.search.specs.Rows.{gathered, best, stirs, last_from}
use Rattle.search.specs.declared.reaches.Reach.{Reach}
use Rattle.search.proofs.CellSteps.{gathered_same, stirs_same, still}

module _ {L : Type 0} (good : L → L → Bool) (goes : ℕ → L → Option L) (es : List Reach) where
  pub best_same : (f g : ℕ → Option L) → ((u : ℕ) → u < 64 → f u ≡ g u) → (k v : ℕ) → v < 64 → best good goes es f k v ≡ best good goes es g k v
  best_same f g same zero v h = same v h
  best_same f g same (suc k) v h =
      gathered_same good goes es (best good goes es f k) (best good goes es g k) (best_same f g same k) v (best good goes es f k v)
      ∙ ap (gathered good goes es (best good goes es g k) v) (best_same f g same k v h)

  pub last_same : (f g : ℕ → Option L) → ((u : ℕ) → u < 64 → f u ≡ g u) → (n k : ℕ) → last_from good goes es f n k ≡ last_from good goes es g n k
  last_same f g same zero k = refl
  last_same f g same (suc n) k =
      ap (λ b. cond b (last_from good goes es f n (suc k)) (suc k)) (stirs_same good goes es (best good goes es f k) (best good goes es g k) (best_same f g same k))
      ∙ ap (λ m. cond (stirs good goes es (best good goes es g k)) m (suc k)) (last_same f g same n (suc k))

  module _ (f : ℕ → Option L) where
    -- a row more
    module _ (cells new : List (Option L)) (k : ℕ) (some : 0 < k) (rows : (j v : ℕ) → j < k → v < 64 → get_or cells (64 * j + v) None ≡ best good goes es f j v) where
      before : (u : ℕ) → u < 64 → get_or cells (64 * (k - 1) + u) None ≡ best good goes es f (k - 1) u
      before u l = rows (k - 1) u (omega arith) l

      next_row : ((v : ℕ) → v < 64 → get_or new (64 * k + v) None ≡ gathered good goes es (λ u. get_or cells (64 * (k - 1) + u) None) v (get_or cells (64 * (k - 1) + v) None)) → (v : ℕ) → v < 64 → get_or new (64 * k + v) None ≡ best good goes es f k v
      next_row row v h =
          let e : suc (k - 1) ≡ k = omega arith in
          row v h
          ∙ gathered_same good goes es (λ u. get_or cells (64 * (k - 1) + u) None) (best good goes es f (k - 1)) before v (get_or cells (64 * (k - 1) + v) None)
          ∙ ap (gathered good goes es (best good goes es f (k - 1)) v) (before v h)
          ∙ ap (λ n. best good goes es f n v) e

      pub rows_more : ((v : ℕ) → v < 64 → get_or new (64 * k + v) None ≡ gathered good goes es (λ u. get_or cells (64 * (k - 1) + u) None) v (get_or cells (64 * (k - 1) + v) None))
          → ((j : ℕ) → j < 64 * k → get_or new j None ≡ get_or cells j None)
          → (j v : ℕ) → j < k + 1 → v < 64 → get_or new (64 * j + v) None ≡ best good goes es f j v
      rows_more row below j v l h =
          ⊎_elim
          (λ same. ap (λ n. get_or new (64 * n + v) None) same ∙ next_row row v h ∙ ap (λ n. best good goes es f n v) (sym same))
          (λ apart. below (64 * j + v) (omega arith) ∙ rows j v (omega arith) h)
          (cases_eq j k)

      pub told_row : stirs good goes es (λ u. get_or cells (64 * (k - 1) + u) None) ≡ stirs good goes es (best good goes es f (k - 1))
      told_row = stirs_same good goes es (λ u. get_or cells (64 * (k - 1) + u) None) (best good goes es f (k - 1)) before

    -- the number of the last row, as the rounds go on
    module _ (k : ℕ) (some : 0 < k) (low : k < 64) (told : Bool) (is : told ≡ stirs good goes es (best good goes es f (k - 1))) where
      round_next : last_from good goes es f (64 - k) (k - 1) ≡ cond told (last_from good goes es f (64 - (k + 1)) (k + 1 - 1)) k
      round_next =
          let e : suc (64 - (k + 1)) ≡ 64 - k = omega arith in
          let s : suc (k - 1) ≡ k = omega arith in
          let t : suc (k - 1) ≡ k + 1 - 1 = omega arith in
          sym (ap (λ m. last_from good goes es f m (k - 1)) e)
          ∙ ap (λ b. cond b (last_from good goes es f (64 - (k + 1)) (suc (k - 1))) (suc (k - 1))) (sym is)
          ∙ ap (λ m. cond told (last_from good goes es f (64 - (k + 1)) m) (suc (k - 1))) t
          ∙ ap (cond told (last_from good goes es f (64 - (k + 1)) (k + 1 - 1))) s

      pub round_on : told ≡ true → last_from good goes es f (64 - (k + 1)) (k + 1 - 1) ≡ last_from good goes es f (64 - k) (k - 1)
      round_on y = sym (round_next ∙ cond-true told (last_from good goes es f (64 - (k + 1)) (k + 1 - 1)) k y)

      pub round_off : told ≡ false → k ≡ last_from good goes es f (64 - k) (k - 1)
      round_off n = sym (round_next ∙ cond-false told (last_from good goes es f (64 - (k + 1)) (k + 1 - 1)) k n)

    -- a row like the one before it is like each after it
    pub settles : (r : ℕ) → ((v : ℕ) → v < 64 → best good goes es f (suc r) v ≡ best good goes es f r v) → (k : ℕ) → r ≤ k → (v : ℕ) → v < 64 → best good goes es f k v ≡ best good goes es f r v
    settles r quiet =
        le_ind {n = r} (λ k. (v : ℕ) → v < 64 → best good goes es f k v ≡ best good goes es f r v) (λ v h. refl)
        (λ m l p v h.
        gathered_same good goes es (best good goes es f m) (best good goes es f r) p v (best good goes es f m v)
        ∙ ap (gathered good goes es (best good goes es f r) v) (p v h) ∙ quiet v h)

    -- the last row filled is like every row after it
    pub last_like : (n k j : ℕ) → n + k ≡ j → (v : ℕ) → v < 64 → best good goes es f j v ≡ best good goes es f (last_from good goes es f n k) v
    last_like zero k j e v h = let s : j ≡ k = omega arith in ap (λ m. best good goes es f m v) s
    last_like (suc n) k j e v h =
        ⊎_elim
        (λ y. last_like n (suc k) j (omega arith) v h ∙ ap (λ m. best good goes es f m v) (sym (cond-true (stirs good goes es (best good goes es f k)) (last_from good goes es f n (suc k)) (suc k) y)))
        (λ q. let quiet = still good goes es (best good goes es f k) q in
        settles k (λ w l. quiet w) j (omega arith) v h
        ∙ sym (quiet v)
        ∙ ap (λ m. best good goes es f m v) (sym (cond-false (stirs good goes es (best good goes es f k)) (last_from good goes es f n (suc k)) (suc k) q)))
        (cases_Bool (stirs good goes es (best good goes es f k)))

    pub last_within : (n k : ℕ) → last_from good goes es f n k ≤ n + k
    last_within zero k = omega arith
    last_within (suc n) k =
        ⊎_elim
        (λ y. omega (arith, last_within n (suc k), cond-true (stirs good goes es (best good goes es f k)) (last_from good goes es f n (suc k)) (suc k) y))
        (λ q. omega (arith, cond-false (stirs good goes es (best good goes es f k)) (last_from good goes es f n (suc k)) (suc k) q))
        (cases_Bool (stirs good goes es (best good goes es f k)))
