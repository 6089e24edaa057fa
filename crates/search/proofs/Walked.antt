-- Lemmas: the best labels are those of walks.
use Rattle.std.proofs.Common.{◌≡◌, ℕ, zero, suc, ◌<◌, ◌≤◌, Bool, true, false, not, ◌&&◌, eqb, ltb, ◌⊎◌, List, [], ◌∷◌, length, get_or, Some, None, Option, sym, refl, ap, ◌∙◌, inl, inr, ⊎_elim, arith}
use Rattle.std.proofs.lemmas.Option.{none-some}
use Rattle.std.proofs.lemmas.Bool.{cond-true, cond-false, cond_both, cases_Bool, eq-eqb, eqb-true, lt-ltb, and_parts, and_from, not_from_false, not_from_true}
use Rattle.std.specs.List.{ContainsAt as Has}
use Rattle.search.specs.Laws.{Laws}
use Rattle.search.specs.Reaches.{in_chart}
use Rattle.search.specs.Rows.{bettering, better, onward, gathered, lone, best}
use Rattle.search.specs.Walks.{Inside, Leads, led, Good, Gone}
use Rattle.search.specs.declared.reaches.Reach.{Reach}
use Rattle.search.proofs.CellSteps.{inside, step}

pub charted : (e : Reach) → Inside e → in_chart e ≡ true
charted e i = and_from (ltb e.from 64) (ltb e.to 64) (lt-ltb e.from 64 i.0) (lt-ltb e.to 64 i.1)

module _ {L : Type 0} {good : L → L → Bool} {goes : ℕ → L → Option L} (laws : Laws good goes) where
  pub itself : (x : L) → good x x ≡ true
  itself x = ⊎_elim (λ h. h) (λ h. h) (laws.total x x)

  other_way : (x y : L) → good x y ≡ false → good y x ≡ true
  other_way x y h = ⊎_elim (λ t. let z : true ≡ false = sym t ∙ h in cc) (λ t. t) (laws.total x y)

  pub good_trans : (o : Option L) (y z : L) → Good good o y → good y z ≡ true → Good good o z
  good_trans o y z g h = (g.0, g.1, laws.transitive g.0 y z g.2 h)

  -- of two labels, the better is one of them
  better_is : (o n : Option L) → (better good o n ≡ o) ⊎ (better good o n ≡ n)
  better_is o n = ⊎_elim (λ t. inr (cond-true (bettering good o n) n o t)) (λ t. inl (cond-false (bettering good o n) n o t)) (cases_Bool (bettering good o n))

  -- and at least as good as each
  both : (y w : L) → Good good (better good (Some y) (Some w)) y × Good good (better good (Some y) (Some w)) w
  both y w =
      ⊎_elim
      (λ t. let e : better good (Some y) (Some w) ≡ Some y = cond-false (not (good y w)) (Some w) (Some y) (not_from_true (good y w) t) in
      ((y, e, itself y), (y, e, t)))
      (λ t. let e : better good (Some y) (Some w) ≡ Some w = cond-true (not (good y w)) (Some w) (Some y) (not_from_false (good y w) t) in
      ((w, e, other_way y w t), (w, e, itself w)))
      (cases_Bool (good y w))

  pub good_old : (o n : Option L) (z : L) → Good good o z → Good good (better good o n) z
  good_old None None z g = g
  good_old None (Some w) z g = (w, refl, let e : None ≡ Some g.0 = g.1 in cc)
  good_old (Some y) None z g = g
  good_old (Some y) (Some w) z g = let e : y ≡ g.0 = cc in good_trans _ y z (both y w).0 (rw e g.2)

  good_new : (o n : Option L) (z : L) → Good good n z → Good good (better good o n) z
  good_new None None z g = g
  good_new None (Some w) z g = g
  good_new (Some y) None z g = (y, refl, let e : None ≡ Some g.0 = g.1 in cc)
  good_new (Some y) (Some w) z g = let e : w ≡ g.0 = cc in good_trans _ w z (both y w).1 (rw e g.2)

  pub gathered_here : (es : List Reach) (f : ℕ → Option L) (v : ℕ) (here : Option L) (z : L) → Good good here z → Good good (gathered good goes es f v here) z
  gathered_here [] f v here z g = g
  gathered_here (e ∷ es) f v here z g =
      gathered_here es f v (step good goes f v e here) z
      (cond_both (in_chart e && eqb e.to v) (better good here (onward goes e.gate (f e.from))) here (λ o. Good good o z) (λ _. good_old here (onward goes e.gate (f e.from)) z g) (λ _. g))

  -- what the reach at i brings is not missed
  pub gathered_by : (es : List Reach) (i : ℕ) → i < length es → (e : Reach) → get_or es i e ≡ e → Inside e → (f : ℕ → Option L) (v : ℕ) → e.to ≡ v → (here : Option L) (z : L)
      → Good good (onward goes e.gate (f e.from)) z → Good good (gathered good goes es f v here) z
  gathered_by [] i l e at ins f v to here z g = absurd (omega arith)
  gathered_by (r ∷ es) zero l e at ins f v to here z g =
      gathered_here es f v (step good goes f v r here) z
      (rw at (rw (cond-true (in_chart e && eqb e.to v) (better good here (onward goes e.gate (f e.from))) here (and_from (in_chart e) (eqb e.to v) (charted e ins) (eq-eqb e.to v to)))
      (good_new here (onward goes e.gate (f e.from)) z g)))
  gathered_by (r ∷ es) (suc i) l e at ins f v to here z g = gathered_by es i (omega arith) e at ins f v to (step good goes f v r here) z g

  -- where a gathered label comes from
  abbrev pub Brought : List Reach → (ℕ → Option L) → ℕ → Option L → Type 0
  Brought es f v o = (e : Reach) × Has es e × Inside e × (e.to ≡ v) × (o ≡ onward goes e.gate (f e.from))

  brought_more : (r : Reach) (es : List Reach) (f : ℕ → Option L) (v : ℕ) (o : Option L) → Brought es f v o → Brought (r ∷ es) f v o
  brought_more r es f v o b = (b.0, (suc b.1.0, omega (arith, b.1.1), b.1.2), b.2, b.3, b.4)

  pub gathered_from : (es : List Reach) (f : ℕ → Option L) (v : ℕ) (here : Option L) → (gathered good goes es f v here ≡ here) ⊎ Brought es f v (gathered good goes es f v here)
  gathered_from [] f v here = inl refl
  gathered_from (e ∷ es) f v here =
      let new = onward goes e.gate (f e.from) in
      let next = step good goes f v e here in
      ⊎_elim
      (λ same. ⊎_elim
      (λ t. let two = and_parts (in_chart e) (eqb e.to v) t in
      ⊎_elim
      (λ old. inl (same ∙ cond-true (in_chart e && eqb e.to v) (better good here new) here t ∙ old))
      (λ is. inr (e, (0, omega arith, λ d. refl), inside e two.0, eqb-true e.to v two.1, same ∙ cond-true (in_chart e && eqb e.to v) (better good here new) here t ∙ is))
      (better_is here new))
      (λ t. inl (same ∙ cond-false (in_chart e && eqb e.to v) (better good here new) here t))
      (cases_Bool (in_chart e && eqb e.to v)))
      (λ b. inr (brought_more e es f v (gathered good goes es f v next) b))
      (gathered_from es f v next)

  pub onward_some : (g : ℕ) (o : Option L) (z : L) → onward goes g o ≡ Some z → (y : L) × (o ≡ Some y) × (goes g y ≡ Some z)
  onward_some g None z h = absurd (none-some z h)
  onward_some g (Some y) z h = (y, refl, h)

  pub onward_good : (g : ℕ) (o : Option L) (y z : L) → Good good o y → goes g y ≡ Some z → Good good (onward goes g o) z
  onward_good g o y z b h = let t = laws.isotone g b.0 y z b.2 h in (t.0, ap (onward goes g) b.1 ∙ t.1, t.2)

  module _ (es : List Reach) (at : ℕ) (x : L) where
    -- the best label is at least as good as that of each walk that is no longer
    pub best_good : (ws : List Reach) (k v : ℕ) (z : L) → length ws ≤ k → Leads es at ws v → led goes x ws ≡ Some z → Good good (best good goes es (lone at x) k v) z
    best_good [] zero v z l leads is = let e : x ≡ z = cc in (x, cond-true (eqb at v) (Some x) None (eq-eqb at v leads), rw (sym e) (itself x))
    best_good [] (suc k) v z l leads is = gathered_here es (best good goes es (lone at x) k) v (best good goes es (lone at x) k v) z (best_good [] k v z (omega arith) leads is)
    best_good (e ∷ ws) zero v z l leads is = absurd (omega arith)
    best_good (e ∷ ws) (suc k) v z l leads is =
        let b = onward_some e.gate (led goes x ws) z is in
        let f : ℕ → Option L = best good goes es (lone at x) k in
        gathered_by es leads.0.0 leads.0.1 e (leads.0.2 e) leads.1 f v leads.2 (f v) z
        (onward_good e.gate (f e.from) b.0 z (best_good ws k e.from b.0 (omega arith) leads.3 b.1) b.2)

    -- and it is the label of one
    pub best_gone : (k v : ℕ) (z : L) → best good goes es (lone at x) k v ≡ Some z → Gone goes es at x k v z
    best_gone zero v z h =
        ⊎_elim
        (λ t. ([], omega arith, eqb-true at v t, sym (cond-true (eqb at v) (Some x) None t) ∙ h))
        (λ t. absurd (none-some z (sym (cond-false (eqb at v) (Some x) None t) ∙ h)))
        (cases_Bool (eqb at v))
    best_gone (suc k) v z h =
        let f : ℕ → Option L = best good goes es (lone at x) k in
        ⊎_elim
        (λ same. let w = best_gone k v z (sym same ∙ h) in (w.0, omega (arith, w.1), w.2, w.3))
        (λ b.
        let t = onward_some b.0.gate (f b.0.from) z (sym b.4 ∙ h) in
        let w = best_gone k b.0.from t.0 t.1 in
        (b.0 ∷ w.0, omega (arith, w.1), (b.1, b.2, b.3, w.2), ap (onward goes b.0.gate) w.3 ∙ t.2))
        (gathered_from es f v (f v))
