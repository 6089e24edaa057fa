-- The two reckonings over a book, and lemmas: both keep the laws. Assumes nothing.
use Rattle.std.specs.Prelude.{◌≡◌, ℕ, ◌≤◌, Bool, Some, None, Option, nat_le, refl}
use Rattle.std.proofs.Common.{subst, ap, inl, inr, ⊎_elim, arith}
use Rattle.std.proofs.lemmas.Bool.{cases_lt, leb-true, le-leb}
use Rattle.books.specs.Meaning.{Exits, Lawful, first_open, last_open, LeastOpen, GreatestOut}
use Rattle.books.specs.Options.{none_not_some, some_one}
use Rattle.books.specs.Scans.{first_open_is_least, last_open_is_greatest}
use Rattle.search.specs.Laws.{Laws, Antisymmetric}

abbrev pub exit_of : Option (ℕ × ℕ) → Option ℕ
exit_of None = None
exit_of (Some p) = Some p.1

abbrev pub entry_of : Option (ℕ × ℕ) → Option ℕ
entry_of None = None
entry_of (Some p) = Some p.0

-- ---- earliest arrival, along the reaches
abbrev pub no_later : ℕ → ℕ → Bool
no_later x y = nat_le x y

-- when a boat that is at the gate at x comes out
abbrev pub comes_out : Exits → ℕ → ℕ → Option ℕ
comes_out ex g x = exit_of (first_open (ex g) x)

-- ---- latest departure, against them
abbrev pub no_sooner : ℕ → ℕ → Bool
no_sooner x y = nat_le y x

-- when a boat has to go in that has to be out by x
abbrev pub goes_in : Exits → ℕ → ℕ → Option ℕ
goes_in ex g x = entry_of (last_open (ex g) x)

-- ---- lemmas
pub exit_some : (o : Option (ℕ × ℕ)) (z : ℕ) → exit_of o ≡ Some z → (s : ℕ) × (o ≡ Some (s, z))
exit_some None z h = none_not_some None z refl h
exit_some (Some p) z h = (p.0, ap (λ (e : ℕ). Some (p.0, e)) (some_one (Some p.1) p.1 z refl h))

pub entry_some : (o : Option (ℕ × ℕ)) (z : ℕ) → entry_of o ≡ Some z → (e : ℕ) × (o ≡ Some (z, e))
entry_some None z h = none_not_some None z refl h
entry_some (Some p) z h = (p.1, ap (λ (s : ℕ). Some (s, p.1)) (some_one (Some p.0) p.0 z refl h))

pub earliest_antisymmetric : Antisymmetric no_later
earliest_antisymmetric x y p q = omega (arith, leb-true x y p, leb-true y x q)

pub latest_antisymmetric : Antisymmetric no_sooner
latest_antisymmetric x y p q = omega (arith, leb-true y x p, leb-true x y q)

module _ (n : ℕ) (ex : Exits) (law : Lawful n ex) where
  pub first_least : (g x s z : ℕ) → first_open (ex g) x ≡ Some (s, z) → LeastOpen (ex g) x (Some (s, z))
  first_least g x s z h = subst (LeastOpen (ex g) x) h (first_open_is_least n ex law g x)

  pub last_greatest : (g x s z : ℕ) → last_open (ex g) x ≡ Some (s, z) → GreatestOut (ex g) x (Some (s, z))
  last_greatest g x s z h = subst (GreatestOut (ex g) x) h (last_open_is_greatest n ex law g x)

  comes_out_found : (g x z : ℕ) → comes_out ex g x ≡ Some z → (s : ℕ) × LeastOpen (ex g) x (Some (s, z))
  comes_out_found g x z h = let p = exit_some (first_open (ex g) x) z h in (p.0, first_least g x p.0 z p.1)

  out_by : (g x s z : ℕ) → x ≤ s → ex g s ≡ Some z → (o : Option (ℕ × ℕ)) → LeastOpen (ex g) x o → (z' : ℕ) × (exit_of o ≡ Some z') × (z' ≤ z)
  out_by g x s z le at None k = none_not_some (ex g s) z (k s le) at
  out_by g x s z le at (Some p) k =
      ⊎_elim
      (λ lt. none_not_some (ex g s) z (k.2 s le lt) at)
      (λ ge. (p.1, refl, law.order g p.0 s p.1 z k.1 at ge))
      (cases_lt s p.0)

  -- whoever is there before an open instant comes out by its exit
  pub comes_out_by : (g x s z : ℕ) → x ≤ s → ex g s ≡ Some z → (z' : ℕ) × (comes_out ex g x ≡ Some z') × (z' ≤ z)
  comes_out_by g x s z le at = out_by g x s z le at (first_open (ex g) x) (first_open_is_least n ex law g x)

  pub earliest_laws : Laws no_later (comes_out ex)
  earliest_laws = record {
    total = λ x y. ⊎_elim (λ lt. inl (le-leb x y (omega arith))) (λ ge. inr (le-leb y x ge)) (cases_lt x y);
    transitive = λ x y z p q. le-leb x z (omega (arith, leb-true x y p, leb-true y z q));
    isotone = λ g x y z p h.
        let f = comes_out_found g y z h in
        let le : x ≤ f.0 = omega (arith, leb-true x y p, f.1.0) in
        let b = comes_out_by g x f.0 z le f.1.1 in
        (b.0, b.1, le-leb b.0 z b.2);
    monotone = λ g x z h. let f = comes_out_found g x z h in le-leb x z (omega (arith, law.later g f.0 z f.1.1, f.1.0));
  }

  goes_in_found : (g x z : ℕ) → goes_in ex g x ≡ Some z → (e : ℕ) × GreatestOut (ex g) x (Some (z, e))
  goes_in_found g x z h = let p = entry_some (last_open (ex g) x) z h in (p.0, last_greatest g x z p.0 p.1)

  in_by : (g x s z : ℕ) → z ≤ x → ex g s ≡ Some z → (o : Option (ℕ × ℕ)) → GreatestOut (ex g) x o → (s' : ℕ) × (entry_of o ≡ Some s') × (s ≤ s')
  in_by g x s z le at None k = absurd (omega (arith, k s z at))
  in_by g x s z le at (Some p) k =
      ⊎_elim
      (λ lt. absurd (omega (arith, k.2 s z lt at)))
      (λ ge. (p.0, refl, ge))
      (cases_lt p.0 s)

  -- whoever may come out after an exit need not enter before its instant
  pub goes_in_by : (g x s z : ℕ) → z ≤ x → ex g s ≡ Some z → (s' : ℕ) × (goes_in ex g x ≡ Some s') × (s ≤ s')
  goes_in_by g x s z le at = in_by g x s z le at (last_open (ex g) x) (last_open_is_greatest n ex law g x)

  pub latest_laws : Laws no_sooner (goes_in ex)
  latest_laws = record {
    total = λ x y. ⊎_elim (λ lt. inr (le-leb x y (omega arith))) (λ ge. inl (le-leb y x ge)) (cases_lt x y);
    transitive = λ x y z p q. le-leb z x (omega (arith, leb-true y x p, leb-true z y q));
    isotone = λ g x y z p h.
        let f = goes_in_found g y z h in
        let le : f.0 ≤ x = omega (arith, leb-true y x p, f.1.0) in
        let b = goes_in_by g x z f.0 le f.1.1 in
        (b.0, b.1, le-leb z b.0 b.2);
    monotone = λ g x z h. let f = goes_in_found g x z h in le-leb z x (omega (arith, law.later g z f.0 f.1.1, f.1.0));
  }
