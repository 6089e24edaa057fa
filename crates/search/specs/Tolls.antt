-- A plain reckoning: the least sum of tolls. Each gate has a fixed toll. Assumes nothing.
use Rattle.std.specs.Prelude.{◌≡◌, ℕ, ◌+◌, ◌<◌, Bool, true, cond, ◌&&◌, List, length, Some, None, Option, nat_le, nat_lt, slice_index}
use Rattle.std.proofs.Common.{inl, inr, ⊎_elim, arith}
use Rattle.std.proofs.lemmas.Bool.{cases_Bool, cases_lt, leb-true, le-leb, ltb-true, lt-ltb, and_parts, and_from, cond-true, cond-false}
use Rattle.search.specs.Laws.{Laws, Antisymmetric}

-- a sum is at least as good as another that is no smaller
abbrev pub no_dearer : ℕ → ℕ → Bool
no_dearer x y = nat_le x y

-- a sum goes on through a gate that has a toll, as long as it fits 16 bits
abbrev pub tolled : List ℕ → ℕ → ℕ → Option ℕ
tolled ts g x = cond (nat_lt g (length ts) && nat_lt (x + slice_index ts g) 65536) (Some (x + slice_index ts g)) None

-- ---- lemmas: the laws
module _ (ts : List ℕ) where
  abbrev pays : ℕ → ℕ → Bool
  pays g x = nat_lt g (length ts) && nat_lt (x + slice_index ts g) 65536

  paid : (g x y : ℕ) → tolled ts g x ≡ Some y → (pays g x ≡ true) × (y ≡ x + slice_index ts g)
  paid g x y h =
      ⊎_elim
      (λ t. (t, let e = cond-true (pays g x) (Some (x + slice_index ts g)) None t in cc))
      (λ n. let e = cond-false (pays g x) (Some (x + slice_index ts g)) None n in let z : ◌≡◌ {A = ℕ} 0 1 = cc in absurd (omega arith))
      (cases_Bool (pays g x))

  pub toll_laws : Laws no_dearer (tolled ts)
  toll_laws = record {
    total = λ x y. ⊎_elim (λ l. inl (le-leb x y (omega arith))) (λ l. inr (le-leb y x l)) (cases_lt x y);
    transitive = λ x y z p q. le-leb x z (omega (arith, leb-true x y p, leb-true y z q));
    isotone = λ g x y y' p h.
        let le = leb-true x y p in
        let two = paid g y y' h in
        let parts = and_parts (nat_lt g (length ts)) (nat_lt (y + slice_index ts g) 65536) two.0 in
        let fits : x + slice_index ts g < 65536 = omega (arith, ltb-true (y + slice_index ts g) 65536 parts.1) in
        (x + slice_index ts g, cond-true (pays g x) (Some (x + slice_index ts g)) None (and_from (nat_lt g (length ts)) (nat_lt (x + slice_index ts g) 65536) parts.0 (lt-ltb (x + slice_index ts g) 65536 fits)), le-leb (x + slice_index ts g) y' (omega (arith, two.1)));
    monotone = λ g x x' h. let two = paid g x x' h in le-leb x x' (omega (arith, two.1));
  }

pub toll_antisymmetric : Antisymmetric no_dearer
toll_antisymmetric x y p q = omega (arith, leb-true x y p, leb-true y x q)
