-- What a book means that has one record for each gate. Assumes nothing.
use Rattle.std.specs.Prelude.{◌≡◌, ℕ, ◌+◌, ◌≤◌, Bool, true, false, cond, List, Some, None, Option, nat_lt, refl}
use Rattle.std.proofs.Common.{sym, ap, ◌∙◌, arith}
use Rattle.std.specs.List.{slice_get}
use Rattle.std.proofs.lemmas.Bool.{cond-true, cond-false}
use Rattle.std.proofs.lemmas.Option.{cond_some}
use Rattle.books.specs.Meaning.{Exits, Lawful}
use Rattle.books.specs.Options.{none_not_some, some_one}
use Rattle.books.specs.Faults.{listed, faultless}

-- the record, unless it has a fault
abbrev pub sound_only : {R : Type 0} → (R → List ℕ) → Option R → Option R
sound_only faults None = None
sound_only faults (Some r) = cond (faultless (faults r)) (Some r) None

-- the record of gate g, unless the list has no such gate or the record has a fault
abbrev pub sound_gate : {R : Type 0} → (ℕ → R → List ℕ) → List R → ℕ → Option R
sound_gate faults rs g = cond (nat_lt g (listed rs)) (sound_only (faults (listed rs)) (slice_get rs g)) None

-- the exit at s of a gate with that record: shut without one, or where it doesn't open; a passage takes as long as the record says
abbrev pub exit_by : {R : Type 0} → (R → ℕ) → (R → ℕ → Bool) → Option R → ℕ → Option ℕ
exit_by passage opens None s = None
exit_by passage opens (Some r) s = cond (opens r s) (Some (s + passage r)) None

-- ---- lemmas: such a book keeps the laws
module _ {R : Type 0} (passage : R → ℕ) (opens : ℕ → R → ℕ → Bool) (at : ℕ → Option R) where
  abbrev pub exits_by : Exits
  exits_by g = exit_by passage (opens g) (at g)

  -- how a boat that enters gate g at s comes out at e
  pub record Passed (g s e : ℕ) : Type 0 where
    pub by : R
    pub found : at g ≡ Some by
    pub opened : opens g by s ≡ true
    pub out : e ≡ s + passage by

  passed_by : (g s e : ℕ) (o : Option R) → at g ≡ o → exit_by passage (opens g) o s ≡ Some e → Passed g s e
  passed_by g s e None found h = none_not_some None e refl h
  passed_by g s e (Some r) found h =
      let p = cond_some (opens g r s) (s + passage r) e h in
      record { by = r; found = found; opened = p.0; out = sym p.1 }

  pub passed : (g s e : ℕ) → exits_by g s ≡ Some e → Passed g s e
  passed g s e h = passed_by g s e (at g) refl h

  pub exit_open : (g s : ℕ) (r : R) → at g ≡ Some r → opens g r s ≡ true → exits_by g s ≡ Some (s + passage r)
  exit_open g s r found y = ap (λ (o : Option R). exit_by passage (opens g) o s) found ∙ cond-true (opens g r s) (Some (s + passage r)) None y

  pub exit_shut : (g s : ℕ) (r : R) → at g ≡ Some r → opens g r s ≡ false → exits_by g s ≡ None
  exit_shut g s r found n = ap (λ (o : Option R). exit_by passage (opens g) o s) found ∙ cond-false (opens g r s) (Some (s + passage r)) None n

  pub exit_lacks : (g s : ℕ) → at g ≡ None → exits_by g s ≡ None
  exit_lacks g s none = ap (λ (o : Option R). exit_by passage (opens g) o s) none

  -- two boats through one gate have the same record
  pub same_record : (g : ℕ) (r r' : R) → at g ≡ Some r → at g ≡ Some r' → passage r ≡ passage r'
  same_record g r r' h h' = ap passage (some_one (at g) r r' h h')

  module _ (takes : (g : ℕ) (r : R) → at g ≡ Some r → 1 ≤ passage r) (ends : (g : ℕ) (r : R) (s : ℕ) → opens g r s ≡ true → s + passage r ≤ 20160) where
    pub exits_by_lawful : (n : ℕ) → n ≤ 1024 → ((g : ℕ) → n ≤ g → at g ≡ None) → Lawful n exits_by
    exits_by_lawful n few lacks = record {
      few = few;
      lacks = λ g s h. exit_lacks g s (lacks g h);
      later = λ g s e h. let p = passed g s e h in omega (arith, takes g p.by p.found);
      within = λ g s e h. let p = passed g s e h in omega (arith, ends g p.by s p.opened);
      order = λ g s s' e e' h h' le. let p = passed g s e h in let p' = passed g s' e' h' in omega (arith, same_record g p.by p'.by p.found p'.found);
    }
