-- Lemmas: `first_open` and `last_open` find the extreme open instant, and nothing else is it.
-- Nothing here is a definition that a contract cites.
use Rattle.std.specs.Prelude.{◌≡◌, ℕ, zero, suc, ◌+◌, ◌-◌, ◌<◌, ◌≤◌, Some, None, Option, nat_le, refl}
use Rattle.std.proofs.Common.{sym, ap, subst, ⊎_elim, arith}
use Rattle.std.proofs.lemmas.Bool.{cases_eq, cases_order, cond_both, leb-true, leb-false}
use Rattle.books.specs.Meaning.{Exits, Lawful, open_or_later, first_of, first_open, out_or_earlier, last_below, last_open, LeastOpen, GreatestOut, FirstOpenIsLeast, LastOpenIsGreatest}
use Rattle.books.specs.Options.{option_cases, none_not_some, some_one}

-- every open instant is one of the fortnight
abbrev pub InTime : (ℕ → Option ℕ) → Type 0
InTime x = (k e : ℕ) → x k ≡ Some e → k ≤ 20160

pub lawful_in_time : (gates : ℕ) (exits : Exits) → Lawful gates exits → (g : ℕ) → InTime (exits g)
lawful_in_time gates exits law g k e h = omega (arith, law.later g k e h, law.within g k e h)

-- ---- the least, among the instants below z
abbrev LeastBelow : (ℕ → Option ℕ) → ℕ → ℕ → Option (ℕ × ℕ) → Type 0
LeastBelow x t z None = (k : ℕ) → t ≤ k → k < z → x k ≡ None
LeastBelow x t z (Some p) = LeastOpen x t (Some p)

shut_from : (x : ℕ → Option ℕ) (s k : ℕ) → x s ≡ None → s ≤ k → (suc s ≤ k → x k ≡ None) → x k ≡ None
shut_from x s k none lo rest = ⊎_elim (λ e. subst (λ (j : ℕ). x j ≡ None) e none) (λ ne. rest (omega arith)) (cases_eq s k)

least_earlier : (x : ℕ → Option ℕ) (n s : ℕ) → x s ≡ None → (r : Option (ℕ × ℕ)) → LeastBelow x (suc s) (suc s + n) r → LeastBelow x s (s + suc n) r
least_earlier x n s none None h = λ k lo hi. shut_from x s k none lo (λ up. h k up (omega arith))
least_earlier x n s none (Some p) h = (omega arith, h.1, λ k lo hi. shut_from x s k none lo (λ up. h.2 k up hi))

first_of_least : (x : ℕ → Option ℕ) (n s : ℕ) → LeastBelow x s (s + n) (first_of x n s)
first_of_least x zero s = λ k lo hi. absurd (omega arith)
first_of_least x (suc n) s =
    let P : Option ℕ → Type 0 = λ o. LeastBelow x s (s + suc n) (open_or_later o s (first_of x n (suc s))) in
    ⊎_elim
    (λ none. subst P (sym none) (least_earlier x n s none (first_of x n (suc s)) (first_of_least x n (suc s))))
    (λ some. subst P (sym some.1) (omega arith, some.1, λ k lo hi. absurd (omega arith)))
    (option_cases (x s))

least_of_all : (x : ℕ → Option ℕ) (t : ℕ) → InTime x → (r : Option (ℕ × ℕ)) → LeastBelow x t (t + (20161 - t)) r → LeastOpen x t r
least_of_all x t timely None h = λ k lo. ⊎_elim (λ none. none) (λ some. h k lo (omega (arith, timely k some.0 some.1))) (option_cases (x k))
least_of_all x t timely (Some p) h = h

pub first_found : (x : ℕ → Option ℕ) → InTime x → (t : ℕ) → LeastOpen x t (first_open x t)
unfolding first_open
first_found x timely t = least_of_all x t timely (first_of x (20161 - t) t) (first_of_least x (20161 - t) t)

least_unique : (x : ℕ → Option ℕ) (t : ℕ) (a b : Option (ℕ × ℕ)) → LeastOpen x t a → LeastOpen x t b → a ≡ b
least_unique x t None None h k = refl
least_unique x t None (Some q) h k = none_not_some (x q.0) q.1 (h q.0 k.0) k.1
least_unique x t (Some p) None h k = none_not_some (x p.0) p.1 (k p.0 h.0) h.1
least_unique x t (Some p) (Some q) h k =
    ⊎_elim
    (λ e. let f : p.1 ≡ q.1 = some_one (x p.0) p.1 q.1 h.1 (subst (λ (j : ℕ). x j ≡ Some q.1) (sym e) k.1) in ap Some (λ i. (e i, f i)))
    (⊎_elim
    (λ lt. none_not_some (x p.0) p.1 (k.2 p.0 h.0 lt) h.1)
    (λ gt. none_not_some (x q.0) q.1 (h.2 q.0 k.0 gt) k.1))
    (cases_order p.0 q.0)

pub first_is : (x : ℕ → Option ℕ) → InTime x → (t : ℕ) (r : Option (ℕ × ℕ)) → LeastOpen x t r → r ≡ first_open x t
first_is x timely t r h = least_unique x t r (first_open x t) h (first_found x timely t)

pub first_open_is_least : FirstOpenIsLeast
first_open_is_least gates exits law g t = first_found (exits g) (lawful_in_time gates exits law g) t

-- ---- the greatest that comes out by t, among the instants below z
abbrev GreatestBelow : (ℕ → Option ℕ) → ℕ → ℕ → Option (ℕ × ℕ) → Type 0
GreatestBelow x t z None = (k e : ℕ) → k < z → x k ≡ Some e → t < e
GreatestBelow x t z (Some p) = (p.1 ≤ t) × (x p.0 ≡ Some p.1) × ((k e : ℕ) → p.0 < k → k < z → x k ≡ Some e → t < e)

late_below : (x : ℕ → Option ℕ) (t n : ℕ) → ((e : ℕ) → x n ≡ Some e → t < e) → (k e : ℕ) → k < suc n → x k ≡ Some e → (k < n → t < e) → t < e
late_below x t n here k e hi at rest = ⊎_elim (λ q. here e (subst (λ (j : ℕ). x j ≡ Some e) q at)) (λ ne. rest (omega arith)) (cases_eq k n)

greatest_later : (x : ℕ → Option ℕ) (t n : ℕ) → ((e : ℕ) → x n ≡ Some e → t < e) → (r : Option (ℕ × ℕ)) → GreatestBelow x t n r → GreatestBelow x t (suc n) r
greatest_later x t n here None h = λ k e hi at. late_below x t n here k e hi at (λ lt. h k e lt at)
greatest_later x t n here (Some p) h = (h.0, h.1, λ k e lo hi at. late_below x t n here k e hi at (λ lt. h.2 k e lo lt at))

greatest_here : (x : ℕ → Option ℕ) (t n : ℕ) (o : Option ℕ) → x n ≡ o → GreatestBelow x t n (last_below x t n) → GreatestBelow x t (suc n) (out_or_earlier o t n (last_below x t n))
greatest_here x t n None at h = greatest_later x t n (λ e so. none_not_some (x n) e at so) (last_below x t n) h
greatest_here x t n (Some e) at h =
    cond_both (nat_le e t) (Some (n, e)) (last_below x t n) (GreatestBelow x t (suc n))
    (λ y. (leb-true e t y, at, λ k e lo hi so. absurd (omega arith)))
    (λ late. greatest_later x t n (λ d so. let same : e ≡ d = some_one (x n) e d at so in omega (arith, leb-false e t late)) (last_below x t n) h)

last_below_greatest : (x : ℕ → Option ℕ) (t n : ℕ) → GreatestBelow x t n (last_below x t n)
last_below_greatest x t zero = λ k e hi at. absurd (omega arith)
last_below_greatest x t (suc n) = greatest_here x t n (x n) refl (last_below_greatest x t n)

greatest_of_all : (x : ℕ → Option ℕ) (t : ℕ) → InTime x → (r : Option (ℕ × ℕ)) → GreatestBelow x t 20161 r → GreatestOut x t r
greatest_of_all x t timely None h = λ k e at. h k e (omega (arith, timely k e at)) at
greatest_of_all x t timely (Some p) h = (h.0, h.1, λ k e lo at. h.2 k e lo (omega (arith, timely k e at)) at)

pub last_found : (x : ℕ → Option ℕ) → InTime x → (t : ℕ) → GreatestOut x t (last_open x t)
unfolding last_open
last_found x timely t = greatest_of_all x t timely (last_below x t 20161) (last_below_greatest x t 20161)

greatest_unique : (x : ℕ → Option ℕ) (t : ℕ) (a b : Option (ℕ × ℕ)) → GreatestOut x t a → GreatestOut x t b → a ≡ b
greatest_unique x t None None h k = refl
greatest_unique x t None (Some q) h k = absurd (omega (arith, h q.0 q.1 k.1))
greatest_unique x t (Some p) None h k = absurd (omega (arith, k p.0 p.1 h.1))
greatest_unique x t (Some p) (Some q) h k =
    ⊎_elim
    (λ e. let f : p.1 ≡ q.1 = some_one (x p.0) p.1 q.1 h.1 (subst (λ (j : ℕ). x j ≡ Some q.1) (sym e) k.1) in ap Some (λ i. (e i, f i)))
    (⊎_elim
    (λ lt. absurd (omega (arith, h.2 q.0 q.1 lt k.1)))
    (λ gt. absurd (omega (arith, k.2 p.0 p.1 gt h.1))))
    (cases_order p.0 q.0)

pub last_is : (x : ℕ → Option ℕ) → InTime x → (t : ℕ) (r : Option (ℕ × ℕ)) → GreatestOut x t r → r ≡ last_open x t
last_is x timely t r h = greatest_unique x t r (last_open x t) h (last_found x timely t)

pub last_open_is_greatest : LastOpenIsGreatest
last_open_is_greatest gates exits law g t = last_found (exits g) (lawful_in_time gates exits law g) t
