-- Lemmas: what a record without a fault keeps to, and when a gate has a sound record.
-- Nothing here is a definition that a contract cites.
use Rattle.std.specs.Prelude.{◌≡◌, ℕ, ◌<◌, ◌≤◌, Bool, true, false, not, ◌&&◌, ◌||◌, List, [], ◌∷◌, ◌++◌, length, Some, None, Option, ◌==◌, nat_lt, refl}
use Rattle.std.proofs.Common.{sym, ap, subst, ◌∙◌, ⊎_elim, arith}
use Rattle.std.specs.List.{slice_get}
use Rattle.std.proofs.lemmas.Option.{slice_get_past, cond_some}
use Rattle.std.proofs.lemmas.Bool.{cases_Bool, cases_lt, cond-true, cond-false, ltb-true, lt-ltb, le-ltb}
use Rattle.std.proofs.lemmas.Bool.Decides.{nat_tests}
use Rattle.books.specs.Options.{none_not_some}
use Rattle.books.specs.Faults.{listed, when, faultless, passage_faults}
use Rattle.books.specs.Records.{sound_only, sound_gate}

pub faultless_when : (b : Bool) (n : ℕ) (ns : List ℕ) → faultless (when b n ns) ≡ (not b && faultless ns)
faultless_when true n ns = refl
faultless_when false n ns = refl

pub passage_fine : (n p : ℕ) → faultless (passage_faults n p) ≡ true → (1 ≤ p) × (p ≤ 20160)
passage_fine n p h = let e = faultless_when (p == 0 || nat_lt 20160 p) 13 [] in (grind (arith, nat_tests), grind (arith, nat_tests))

pub passage_none : (n p : ℕ) → 1 ≤ p → p ≤ 20160 → faultless (passage_faults n p) ≡ true
passage_none n p some within = let e = faultless_when (p == 0 || nat_lt 20160 p) 13 [] in grind (arith, nat_tests)

pub faultless_both : (ms ns : List ℕ) → faultless (ms ++ ns) ≡ (faultless ms && faultless ns)
faultless_both [] ns = refl
faultless_both (m ∷ ms) ns = refl

pub listed_gate : {R : Type 0} (rs : List R) (g : ℕ) (r : R) → g < 256 → slice_get rs g ≡ Some r → g < listed rs
listed_gate rs g r lt at = ⊎_elim (λ within. omega arith) (λ past. none_not_some (slice_get rs g) r (slice_get_past rs g past) at) (cases_lt g (length rs))

-- the record of gate g is one of the list's gates and has no fault
pub record SoundGate {R : Type 0} (faults : ℕ → R → List ℕ) (rs : List R) (g : ℕ) (r : R) : Type 0 where
  pub among : g < listed rs
  pub found : slice_get rs g ≡ Some r
  pub fine : faultless (faults (listed rs) r) ≡ true

sound_only_is : {R : Type 0} (faults : R → List ℕ) (o : Option R) (r : R) → sound_only faults o ≡ Some r → (o ≡ Some r) × (faultless (faults r) ≡ true)
sound_only_is faults None r h = none_not_some None r refl h
sound_only_is {R} faults (Some r') r h =
    let p = cond_some (faultless (faults r')) r' r h in
    (ap Some p.1, subst (λ (x : R). faultless (faults x) ≡ true) p.1 p.0)

module _ {R : Type 0} (faults : ℕ → R → List ℕ) (rs : List R) (g : ℕ) where
  pub gate_sound_only : (r : R) → sound_gate faults rs g ≡ Some r → SoundGate faults rs g r
  gate_sound_only r h =
      ⊎_elim
      (λ y. let part = sound_only_is (faults (listed rs)) (slice_get rs g) r (sym (cond-true (nat_lt g (listed rs)) (sound_only (faults (listed rs)) (slice_get rs g)) None y) ∙ h) in
      record { among = ltb-true g (listed rs) y; found = part.0; fine = part.1 })
      (λ n. none_not_some (sound_gate faults rs g) r (cond-false (nat_lt g (listed rs)) (sound_only (faults (listed rs)) (slice_get rs g)) None n) h)
      (cases_Bool (nat_lt g (listed rs)))

  pub sound_gate_all : (r : R) → SoundGate faults rs g r → sound_gate faults rs g ≡ Some r
  sound_gate_all r h =
      cond-true (nat_lt g (listed rs)) (sound_only (faults (listed rs)) (slice_get rs g)) None (lt-ltb g (listed rs) h.among)
      ∙ ap (sound_only (faults (listed rs))) h.found
      ∙ cond-true (faultless (faults (listed rs) r)) (Some r) None h.fine

  -- a gate past the list has no record
  pub sound_gate_lacks : listed rs ≤ g → sound_gate faults rs g ≡ None
  sound_gate_lacks h = cond-false (nat_lt g (listed rs)) (sound_only (faults (listed rs)) (slice_get rs g)) None (le-ltb g (listed rs) h)
