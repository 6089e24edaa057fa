-- Lemmas: the best instant of two tests, and the passages of a gate from its best entries.
use Rattle.std.proofs.Common.{◌≡◌, ℕ, ◌+◌, ◌<◌, ◌≤◌, Bool, true, false, cond, ◌||◌, ◌⊎◌, Some, None, Option, refl, sym, ◌∙◌, subst, ⊎_elim, arith}
use Rattle.std.specs.Option.{option_map}
use Rattle.std.proofs.lemmas.Option.{cond_some}
use Rattle.std.proofs.lemmas.Bool.{cases_lt, cond-true, cond-false, or_from, or_left, or_right}
use Rattle.books.specs.Meaning.{first_open, last_open}
use Rattle.books.specs.Extremes.{Best, Least, Greatest}
use Rattle.books.specs.Options.{none_not_some}
use Rattle.books.specs.Scans.{InTime, first_is, last_is}

-- ---- of two tests
abbrev pub picked : (ℕ → ℕ → ℕ) → Option ℕ → Option ℕ → Option ℕ
picked pick None b = b
picked pick (Some a) None = Some a
picked pick (Some a) (Some b) = Some (pick a b)

-- it picks one of the two, and what beats the one beats the other
abbrev pub Picks : (ℕ → ℕ → ℕ) → (ℕ → ℕ → Type 0) → Type 0
Picks pick Beats = (a b : ℕ) → ((pick a b ≡ a) × ((k : ℕ) → Beats k a → Beats k b)) ⊎ ((pick a b ≡ b) × ((k : ℕ) → Beats k b → Beats k a))

pub best_either : (pick : ℕ → ℕ → ℕ) (Reach : ℕ → Type 0) (Beats : ℕ → ℕ → Type 0) → Picks pick Beats → (o q : ℕ → Bool) (a b : Option ℕ) → Best o Reach Beats a → Best q Reach Beats b → Best (λ k. o k || q k) Reach Beats (picked pick a b)
best_either pick Reach Beats picks o q None None h j = λ k in_reach. or_from (o k) (q k) (h k in_reach) (j k in_reach)
best_either pick Reach Beats picks o q None (Some b) h j = (j.0, or_right (o b) (q b) j.1, λ k in_reach beats. or_from (o k) (q k) (h k in_reach) (j.2 k in_reach beats))
best_either pick Reach Beats picks o q (Some a) None h j = (h.0, or_left (o a) (q a) h.1, λ k in_reach beats. or_from (o k) (q k) (h.2 k in_reach beats) (j k in_reach))
best_either pick Reach Beats picks o q (Some a) (Some b) h j =
    let P : ℕ → Type 0 = λ m. Best (λ k. o k || q k) Reach Beats (Some m) in
    ⊎_elim
    (λ p. subst P (sym p.0) (h.0, or_left (o a) (q a) h.1, λ k in_reach beats. or_from (o k) (q k) (h.2 k in_reach beats) (j.2 k in_reach (p.1 k beats))))
    (λ p. subst P (sym p.0) (j.0, or_right (o b) (q b) j.1, λ k in_reach beats. or_from (o k) (q k) (h.2 k in_reach (p.1 k beats)) (j.2 k in_reach beats)))
    (picks a b)

-- ---- of a test that answers the same
pub least_same : (o q : ℕ → Bool) (t : ℕ) (a : Option ℕ) → ((k : ℕ) → o k ≡ q k) → Least o t a → Least q t a
least_same o q t None e h = λ k lo. sym (e k) ∙ h k lo
least_same o q t (Some s) e h = (h.0, sym (e s) ∙ h.1, λ k lo hi. sym (e k) ∙ h.2 k lo hi)

pub greatest_same : (o q : ℕ → Bool) (p t : ℕ) (a : Option ℕ) → ((k : ℕ) → o k ≡ q k) → Greatest o p t a → Greatest q p t a
greatest_same o q p t None e h = λ k lo. sym (e k) ∙ h k lo
greatest_same o q p t (Some s) e h = (h.0, sym (e s) ∙ h.1, λ k lo hi. sym (e k) ∙ h.2 k lo hi)

-- ---- a gate where a passage takes so many minutes, and that opens where the test holds
module _ (minutes : ℕ) (opens : ℕ → Bool) (ends : (s : ℕ) → opens s ≡ true → s + minutes ≤ 20160) (t : ℕ) where
  abbrev exits : ℕ → Option ℕ
  exits s = cond (opens s) (Some (s + minutes)) None

  opened : (k e : ℕ) → exits k ≡ Some e → (opens k ≡ true) × (k + minutes ≡ e)
  opened k e h = cond_some (opens k) (k + minutes) e h

  open_at : (s : ℕ) → opens s ≡ true → exits s ≡ Some (s + minutes)
  open_at s y = cond-true (opens s) (Some (s + minutes)) None y

  shut_at : (s : ℕ) → opens s ≡ false → exits s ≡ None
  shut_at s n = cond-false (opens s) (Some (s + minutes)) None n

  timely : InTime exits
  timely k e h = omega (arith, ends k (opened k e h).0)

  -- what comes out by t entered in time for it
  late : (k e : ℕ) → exits k ≡ Some e → (k + minutes ≤ t → opens k ≡ false) → t < e
  late k e so shut =
      let p = opened k e so in
      ⊎_elim (λ lt. lt) (λ ge. let n = shut (omega (arith, p.1)) in let y = p.0 in absurd (cc)) (cases_lt t e)

  pub first_passage_is : (r : Option ℕ) → Least opens t r → option_map (λ s. (s, s + minutes)) r ≡ first_open exits t
  first_passage_is None h = first_is exits timely t None (λ k lo. shut_at k (h k lo))
  first_passage_is (Some s) h = first_is exits timely t (Some (s, s + minutes)) (h.0, open_at s h.1, λ k lo hi. shut_at k (h.2 k lo hi))

  pub last_passage_is : (r : Option ℕ) → Greatest opens minutes t r → option_map (λ s. (s, s + minutes)) r ≡ last_open exits t
  last_passage_is None h = last_is exits timely t None (λ k e so. late k e so (h k))
  last_passage_is (Some s) h = last_is exits timely t (Some (s, s + minutes)) (h.0, open_at s h.1, λ k e lo so. late k e so (λ by. h.2 k by lo))

-- ---- no gate
module _ (t : ℕ) where
  abbrev shut : ℕ → Option ℕ
  shut s = None

  never : InTime shut
  never k e h = none_not_some None e refl h

  pub no_first : None ≡ first_open shut t
  no_first = first_is shut never t None (λ k lo. refl)

  pub no_last : None ≡ last_open shut t
  no_last = last_is shut never t None (λ k e so. none_not_some None e refl so)
