-- Lemmas: the least and the greatest of the entries in the windows are those of the gate.
use Rattle.std.proofs.Common.{◌≡◌, ℕ, ◌+◌, ◌-◌, ◌<◌, ◌≤◌, min, max, Bool, true, false, ◌&&◌, ◌||◌, List, [], ◌∷◌, ◌++◌, Some, None, Option, sym, refl, ap, ◌∙◌, subst, inl, inr, ⊎_elim, arith}
use Rattle.std.specs.Prelude.{nat_le}
use Rattle.std.specs.List.{fold, reduce, filter_map, cons_option}
use Rattle.std.proofs.lemmas.Bool.{cases_lt, cond_both}
use Rattle.std.proofs.lemmas.Bool.Decides.{nat_tests}
use Rattle.books.specs.Extremes.{Best, Least, Greatest}
use Rattle.books.specs.Faults.{faultless}
use Rattle.books.specs.Windows.{window_faults, holds, held, takes, window_first, window_last}
use Rattle.books.specs.WindowLaws.{window_test}
use Rattle.books.specs.declared.windows.Window.{Window}
use Rattle.books.proofs.Extremes.{picked, Picks, best_either}

-- ---- of a list
abbrev pub Joins : (ℕ → ℕ → ℕ) → Type 0
Joins pick = (a b c : ℕ) → pick (pick a b) c ≡ pick a (pick b c)

fold_picked : (pick : ℕ → ℕ → ℕ) → Joins pick → (a b : ℕ) (xs : List ℕ) → fold pick (pick a b) xs ≡ pick a (fold pick b xs)
fold_picked pick joins a b [] = refl
fold_picked pick joins a b (x ∷ xs) = ap (λ (n : ℕ). fold pick n xs) (joins a b x) ∙ fold_picked pick joins a (pick b x) xs

reduce_more : (pick : ℕ → ℕ → ℕ) → Joins pick → (o : Option ℕ) (xs : List ℕ) → reduce pick (cons_option o xs) ≡ picked pick o (reduce pick xs)
reduce_more pick joins None xs = refl
reduce_more pick joins (Some a) [] = refl
reduce_more pick joins (Some a) (b ∷ xs) = ap Some (fold_picked pick joins a b xs)

module _ (n g p : ℕ) where
  abbrev let_in : Window → ℕ → Bool
  let_in w k = faultless (window_faults n w) && holds g p k w

  -- one window more at the end
  held_push : (ws : List Window) (w : Window) (s : ℕ) → held n (ws ++ (w ∷ [])) g p s ≡ (held n ws g p s || let_in w s)
  held_push [] w s = or_false (let_in w s)
    where
      or_false : (a : Bool) → (a || false) ≡ a
      or_false true = refl
      or_false false = refl
  held_push (v ∷ ws) w s = ap (λ b. let_in v s || b) (held_push ws w s) ∙ sym (or_assoc (let_in v s) (held n ws g p s) (let_in w s))
    where
      or_assoc : (a b c : Bool) → ((a || b) || c) ≡ (a || (b || c))
      or_assoc true b c = refl
      or_assoc false b c = refl

  -- the best entry in each window gives that of the gate
  module _ (pick : ℕ → ℕ → ℕ) (Reach : ℕ → Type 0) (Beats : ℕ → ℕ → Type 0) (picks : Picks pick Beats) (joins : Joins pick) (entry : Window → Option ℕ) (one : (w : Window) → Best (let_in w) Reach Beats (entry w)) where
    best_of_windows : (ws : List Window) → Best (held n ws g p) Reach Beats (reduce pick (filter_map entry ws))
    best_of_windows [] = λ k in_reach. refl
    best_of_windows (w ∷ ws) =
        subst (Best (held n (w ∷ ws) g p) Reach Beats) (sym (reduce_more pick joins (entry w) (filter_map entry ws)))
        (best_either pick Reach Beats picks (let_in w) (held n ws g p) (entry w) (reduce pick (filter_map entry ws)) (one w) (best_of_windows ws))

  module _ (t : ℕ) (among : g < n) where
    window_least : (w : Window) → Least (let_in w) t (window_first g p t w)
    window_least w =
        let fine = window_test n w in
        cond_both (takes g w && nat_le (max w.begin t + p) w.end) (Some (max w.begin t)) None (Least (let_in w) t)
        (λ y. (omega arith, grind (arith, nat_tests), λ k lo hi. grind (arith, nat_tests)))
        (λ no k lo. grind (arith, nat_tests))

    window_greatest : (w : Window) → Greatest (let_in w) p t (window_last g p t w)
    window_greatest w =
        let fine = window_test n w in
        cond_both (takes g w && nat_le (w.begin + p) (min w.end t)) (Some (min w.end t - p)) None (Greatest (let_in w) p t)
        (λ y. (grind (arith, nat_tests), grind (arith, nat_tests), λ k lo hi. grind (arith, nat_tests)))
        (λ no k lo. grind (arith, nat_tests))

    pub windows_least : (ws : List Window) → Least (held n ws g p) t (reduce min (filter_map (window_first g p t) ws))
    windows_least ws =
        best_of_windows min (λ k. t ≤ k) (λ k s. k < s)
        (λ a b. ⊎_elim (λ lt. inl (omega arith, λ k h. omega arith)) (λ ge. inr (omega arith, λ k h. omega arith)) (cases_lt a b))
        (λ a b c. omega arith) (window_first g p t) window_least ws

    pub windows_greatest : (ws : List Window) → Greatest (held n ws g p) p t (reduce max (filter_map (window_last g p t) ws))
    windows_greatest ws =
        best_of_windows max (λ k. k + p ≤ t) (λ k s. s < k)
        (λ a b. ⊎_elim (λ lt. inr (omega arith, λ k h. omega arith)) (λ ge. inl (omega arith, λ k h. omega arith)) (cases_lt a b))
        (λ a b c. omega arith) (window_last g p t) window_greatest ws
