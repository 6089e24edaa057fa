-- Lemmas: stepping over the notices in the way keeps the answer, in at most one step for each notice.
use Rattle.std.proofs.Common.{◌≡◌, ℕ, ◌+◌, ◌≤◌, Bool, true, false, cond, leb, List, [], ◌∷◌, Some, None, Option, sym, refl, ap, ◌∙◌, subst, ⊎_elim, arith}
use Rattle.std.specs.List.{count_by}
use Rattle.std.proofs.lemmas.List.Sums.{sum_by-cons}
use Rattle.std.proofs.lemmas.Bool.{cases_Bool, cases_lt}
use Rattle.std.proofs.lemmas.Bool.Decides.{nat_tests}
use Rattle.books.specs.Meaning.{Exits, Lawful, first_open, last_open, LeastOpen, GreatestOut}
use Rattle.books.specs.Options.{option_cases, none_not_some}
use Rattle.books.specs.Scans.{InTime, lawful_in_time, first_is, first_found, last_is, last_found}
use Rattle.layers.specs.Notices.{clears, all_clear, let_by, hindering, noticed_exits, past}
use Rattle.layers.specs.NoticeLaws.{let_by_only, noticed_lawful}
use Rattle.layers.specs.Toward.{answer_of}
use Rattle.layers.specs.declared.notices.Notice.{Notice}
use Rattle.layers.specs.declared.toward.Toward.{Toward}
use Rattle.layers.specs.declared.toward.Toward.TheVariants.{Later, Earlier}

-- ---- counting the notices that pass a test, where another test holds of more
module _ (p q : Notice → Bool) (more : (n : Notice) → p n ≡ true → q n ≡ true) where
  one_more : (m : Notice) → cond (p m) 1 0 ≤ cond (q m) 1 0
  one_more m = let y = more m in let a = cases_Bool (p m) in let b = cases_Bool (q m) in grind (arith, y)

  count_step : (m : Notice) (ns : List Notice) (k : ℕ) → count_by p ns + k ≤ count_by q ns → count_by p (m ∷ ns) + k ≤ count_by q (m ∷ ns)
  count_step m ns k r = omega (arith, sum_by-cons (λ n. cond (p n) 1 0) m ns, sum_by-cons (λ n. cond (q n) 1 0) m ns, one_more m)

  count_kept : (ns : List Notice) → count_by p ns + 0 ≤ count_by q ns
  count_kept [] = omega arith
  count_kept (m ∷ ns) = count_step m ns 0 (count_kept ns)

  count_more : (m : Notice) (ns : List Notice) → p m ≡ false → q m ≡ true → count_by p (m ∷ ns) + 1 ≤ count_by q (m ∷ ns)
  count_more m ns f y = let kept = count_kept ns in grind (arith, sum_by-cons (λ n. cond (p n) 1 0) m ns, sum_by-cons (λ n. cond (q n) 1 0) m ns)

-- ---- what the search for a notice in the way tells
unhindered : (ns : List Notice) (g s e : ℕ) → hindering ns g s e ≡ None → all_clear ns g s e ≡ true
unhindered [] g s e h = refl
unhindered (n ∷ ns) g s e h = let r = unhindered ns g s e in let c = cases_Bool (clears g s e n) in grind (arith, r)

-- the notice n is one of these and in the way
record Hinders (ns : List Notice) (g s e : ℕ) (n : Notice) : Type 0 where
  meets : clears g s e n ≡ false
  -- what is clear of them all is clear of it
  spares : (s' e' : ℕ) → all_clear ns g s' e' ≡ true → clears g s' e' n ≡ true
  -- a wider test that it passes holds of one more
  counts : (p q : Notice → Bool) → ((m : Notice) → p m ≡ true → q m ≡ true) → p n ≡ false → q n ≡ true → count_by p ns + 1 ≤ count_by q ns

hindered : (ns : List Notice) (g s e : ℕ) (n : Notice) → hindering ns g s e ≡ Some n → Hinders ns g s e n
hindered [] g s e n h = none_not_some None n refl h
hindered (m ∷ ns) g s e n h =
    ⊎_elim
    (λ y. let at : hindering ns g s e ≡ Some n = grind arith in
    let r = hindered ns g s e n at in
    record { meets = r.meets; spares = λ s' e' c. r.spares s' e' (grind arith); counts = λ p q more f t. count_step p q more m ns 1 (r.counts p q more f t) })
    (λ f. let same : m ≡ n = grind arith in
    subst (Hinders (m ∷ ns) g s e) same (record { meets = f; spares = λ s' e' c. grind arith; counts = λ p q more f' t. count_more p q more m ns f' t }))
    (cases_Bool (clears g s e m))

-- ---- each way
-- a passage from s to e is in reach of a gate that is asked at z
abbrev Reaches : Toward → ℕ → ℕ → ℕ → Type 0
Reaches Later z s e = z ≤ s
Reaches Earlier z s e = e ≤ z

-- an entry at s is as far as one at f, or farther
abbrev AsFar : Toward → ℕ → ℕ → Type 0
AsFar Later f s = f ≤ s
AsFar Earlier f s = s ≤ f

-- the notices that are past at z
abbrev passed : Toward → ℕ → Notice → Bool
passed Later z n = leb n.end z
passed Earlier z n = leb z n.begin

-- the answer in words that are the same each way: the nearest open passage in reach
abbrev Nearest : Toward → (ℕ → Option ℕ) → ℕ → Option (ℕ × ℕ) → Type 0
Nearest d y z None = (s e : ℕ) → y s ≡ Some e → Reaches d z s e → ⊥
Nearest d y z (Some p) = Reaches d z p.0 p.1 × (y p.0 ≡ Some p.1) × ((s e : ℕ) → y s ≡ Some e → Reaches d z s e → AsFar d p.0 s)

module _ (y : ℕ → Option ℕ) (z : ℕ) where
  least_near : (r : Option (ℕ × ℕ)) → LeastOpen y z r → Nearest Later y z r
  least_near None h = λ s e so lo. none_not_some (y s) e (h s lo) so
  least_near (Some p) h = (h.0, h.1, λ s e so lo. ⊎_elim (λ lt. none_not_some (y s) e (h.2 s lo lt) so) (λ ge. ge) (cases_lt s p.0))

  near_least : (r : Option (ℕ × ℕ)) → Nearest Later y z r → LeastOpen y z r
  near_least None h = λ s lo. ⊎_elim (λ none. none) (λ some. absurd (h s some.0 some.1 lo)) (option_cases (y s))
  near_least (Some p) h = (h.0, h.1, λ s lo hi. ⊎_elim (λ none. none) (λ some. absurd (omega (arith, h.2 s some.0 some.1 lo))) (option_cases (y s)))

  greatest_near : (r : Option (ℕ × ℕ)) → GreatestOut y z r → Nearest Earlier y z r
  greatest_near None h = λ s e so hi. omega (arith, h s e so)
  greatest_near (Some p) h = (h.0, h.1, λ s e so hi. ⊎_elim (λ lt. absurd (omega (arith, h.2 s e lt so))) (λ ge. ge) (cases_lt p.0 s))

  near_greatest : (r : Option (ℕ × ℕ)) → Nearest Earlier y z r → GreatestOut y z r
  near_greatest None h = λ s e so. ⊎_elim (λ lt. lt) (λ ge. absurd (h s e so ge)) (cases_lt z e)
  near_greatest (Some p) h = (h.0, h.1, λ s e lo so. ⊎_elim (λ lt. lt) (λ ge. absurd (omega (arith, h.2 s e so ge))) (cases_lt z e))

  answered : InTime y → (d : Toward) → Nearest d y z (answer_of d y z)
  answered timely Later = least_near (first_open y z) (first_found y timely z)
  answered timely Earlier = greatest_near (last_open y z) (last_found y timely z)

  answer_is : InTime y → (d : Toward) (r : Option (ℕ × ℕ)) → Nearest d y z r → r ≡ answer_of d y z
  answer_is timely Later r h = first_is y timely z r (near_least r h)
  answer_is timely Earlier r h = last_is y timely z r (near_greatest r h)

-- Asking y at z answers what asking it at t does, and so many notices are past by then.
pub record Kept (d : Toward) (y : ℕ → Option ℕ) (ns : List Notice) (t z k : ℕ) : Type 0 where
  pub same : answer_of d y z ≡ answer_of d y t
  pub steps : k ≤ count_by (passed d z) ns

-- ---- a book under notices
module _ (ns : List Notice) (gates : ℕ) (exits : Exits) (law : Lawful gates exits) (g : ℕ) where
  abbrev x : ℕ → Option ℕ
  x = exits g

  abbrev above : ℕ → Option ℕ
  above = noticed_exits ns exits g

  above_timely : InTime above
  above_timely = lawful_in_time gates (noticed_exits ns exits) (noticed_lawful ns gates exits law) g

  below : (s e : ℕ) → above s ≡ Some e → x s ≡ Some e
  below s e h = (let_by_only ns g s (x s) e h).0

  above_clear : (s e : ℕ) → x s ≡ Some e → None ≡ hindering ns g s e → above s ≡ Some e
  above_clear s e h c = ap (let_by ns g s) h ∙ rw (unhindered ns g s e (sym c)) refl

  -- ---- the notice n is in the way of the passage p, which is the nearest at z
  module _ (z : ℕ) (p : ℕ × ℕ) (n : Notice) (hind : Hinders ns g p.0 p.1 n) where
    -- what is open above and in reach of z is in reach past n
    onwards : (d : Toward) → Nearest d x z (Some p) → (s e : ℕ) → above s ≡ Some e → Reaches d z s e → Reaches d (past d n) s e
    onwards Later h s e so reach =
        let two = let_by_only ns g s (x s) e so in
        let far = h.2 s e two.0 reach in
        grind (arith, nat_tests, hind.meets, hind.spares s e two.1, law.order g p.0 s p.1 e h.1 two.0 far)
    onwards Earlier h s e so reach =
        let two = let_by_only ns g s (x s) e so in
        let far = h.2 s e two.0 reach in
        grind (arith, nat_tests, hind.meets, hind.spares s e two.1, law.order g s p.0 e p.1 two.0 h.1 far)

    -- and the other way round
    back : (d : Toward) → Nearest d x z (Some p) → (s e : ℕ) → Reaches d (past d n) s e → Reaches d z s e
    back Later h s e reach = grind (arith, nat_tests, hind.meets, h.0)
    back Earlier h s e reach = grind (arith, nat_tests, hind.meets, h.0)

    -- so the answer past n is the answer at z
    past_above : (d : Toward) → Nearest d x z (Some p) → (r : Option (ℕ × ℕ)) → Nearest d above (past d n) r → Nearest d above z r
    past_above d h None m = λ s e so reach. m s e so (onwards d h s e so reach)
    past_above d h (Some q) m = (back d h q.0 q.1 m.0, m.1, λ s e so reach. m.2 s e so (onwards d h s e so reach))

    -- and one more notice is past there
    past_more : (d : Toward) → Nearest d x z (Some p) → count_by (passed d z) ns + 1 ≤ count_by (passed d (past d n)) ns
    past_more Later h =
        let c = hind.meets in let lo = h.0 in
        hind.counts (passed Later z) (passed Later n.end) (λ m y. grind (arith, nat_tests)) (grind (arith, nat_tests)) (grind (arith, nat_tests))
    past_more Earlier h =
        let c = hind.meets in let hi = h.0 in
        hind.counts (passed Earlier z) (passed Earlier n.begin) (λ m y. grind (arith, nat_tests)) (grind (arith, nat_tests)) (grind (arith, nat_tests))

  -- ---- a step
  module _ {d : Toward} {t z k : ℕ} (kept : Kept d above ns t z k) where
    asks : (r : Option (ℕ × ℕ)) → r ≡ answer_of d x z → Nearest d x z r
    asks r asked = subst (Nearest d x z) (sym asked) (answered x z (lawful_in_time gates exits law g) d)

    answers : (r : Option (ℕ × ℕ)) → Nearest d above z r → r ≡ answer_of d above t
    answers r h = answer_is above z above_timely d r h ∙ kept.same

    pub step_nothing : None ≡ answer_of d x z → None ≡ answer_of d above t
    step_nothing asked = let h = asks None asked in answers None (λ s e so. h s e (below s e so))

    module _ {p : ℕ × ℕ} (asked : Some p ≡ answer_of d x z) where
      near : Nearest d x z (Some p)
      near = asks (Some p) asked

      pub step_clear : None ≡ hindering ns g p.0 p.1 → Some p ≡ answer_of d above t
      step_clear c = answers (Some p) (near.0, above_clear p.0 p.1 near.1 c, λ s e so. near.2 s e (below s e so))

      pub step_past : {n : Notice} → Some n ≡ hindering ns g p.0 p.1 → Kept d above ns t (past d n) (k + 1)
      step_past {n} q =
          let hind = hindered ns g p.0 p.1 n (sym q) in
          let there = answered above (past d n) above_timely d in
          record {
            same = answers (answer_of d above (past d n)) (past_above z p n hind d near (answer_of d above (past d n)) there);
            steps = omega (arith, kept.steps, past_more z p n hind d near);
          }
