-- Lemmas: notices over a book keep the laws, and mean what the rule says.
-- Nothing here is a definition that a contract cites.
use Rattle.std.specs.Prelude.{◌≡◌, ℕ, zero, suc, ◌≤◌, true, ◌⊎◌, List, [], ◌∷◌, Some, None, Option, refl}
use Rattle.std.proofs.Common.{ap, arith}
use Rattle.std.specs.List.{slice_get}
use Rattle.std.proofs.lemmas.Bool.Decides.{nat_tests}
use Rattle.books.specs.Meaning.{Exits, Lawful, Means}
use Rattle.layers.specs.Notices.{clears, all_clear, let_by, noticed_exits, NoticedPassage}
use Rattle.layers.specs.declared.notices.Notice.{Notice}

-- what is open above is open below, and clear of every notice
pub let_by_only : (ns : List Notice) (g s : ℕ) (o : Option ℕ) (e : ℕ) → let_by ns g s o ≡ Some e → (o ≡ Some e) × (all_clear ns g s e ≡ true)
let_by_only ns g s None e h = cc
let_by_only ns g s (Some d) e h = grind arith

module _ (ns : List Notice) (n : ℕ) (x : Exits) (a : Lawful n x) where
  below : (g s e : ℕ) → noticed_exits ns x g s ≡ Some e → x g s ≡ Some e
  below g s e h = (let_by_only ns g s (x g s) e h).0

  pub noticed_lawful : Lawful n (noticed_exits ns x)
  noticed_lawful = record {
    few = a.few;
    lacks = λ g s h. ap (let_by ns g s) (a.lacks g s h);
    later = λ g s e h. a.later g s e (below g s e h);
    within = λ g s e h. a.within g s e (below g s e h);
    order = λ g s s' e e' h h'. a.order g s s' e e' (below g s e h) (below g s' e' h');
  }

-- ---- the rule
-- what it says of one notice
abbrev Clear : ℕ → ℕ → ℕ → Notice → Type 0
Clear g s e n = n.gate ≡ g → (e ≤ n.begin) ⊎ (n.end ≤ s)

clears_so : (g s e : ℕ) (n : Notice) → clears g s e n ≡ true → Clear g s e n
clears_so g s e n h its = grind (arith, nat_tests)

so_clears : (g s e : ℕ) (n : Notice) → Clear g s e n → clears g s e n ≡ true
so_clears g s e n h = grind (arith, nat_tests)

all_clear_so : (ns : List Notice) (g s e : ℕ) → all_clear ns g s e ≡ true → (i : ℕ) (n : Notice) → slice_get ns i ≡ Some n → Clear g s e n
all_clear_so [] g s e h i n at its = cc
all_clear_so (m ∷ ns) g s e h zero n at its = grind (arith, clears_so)
all_clear_so (m ∷ ns) g s e h (suc i) n at its = let r = all_clear_so ns g s e in grind (arith, r)

so_all_clear : (ns : List Notice) (g s e : ℕ) → ((i : ℕ) (n : Notice) → slice_get ns i ≡ Some n → Clear g s e n) → all_clear ns g s e ≡ true
so_all_clear [] g s e h = refl
so_all_clear (m ∷ ns) g s e h = grind (arith, so_clears g s e m (h 0 m refl), so_all_clear ns g s e (λ i n at. h (suc i) n at))

module _ (ns : List Notice) (gates : ℕ) (x : Exits) where
  pub noticed_only : (g s e : ℕ) → noticed_exits ns x g s ≡ Some e → NoticedPassage ns x g s e
  noticed_only g s e h = let two = let_by_only ns g s (x g s) e h in record { below = two.0; clear = all_clear_so ns g s e two.1 }

  pub noticed_all : (g s e : ℕ) → NoticedPassage ns x g s e → noticed_exits ns x g s ≡ Some e
  noticed_all g s e p = grind (arith, p.below, so_all_clear ns g s e p.clear)

  pub noticed_means : Means gates (noticed_exits ns x) gates (NoticedPassage ns x)
  noticed_means = record { as_many = refl; only_by_rule = noticed_only; all_by_rule = noticed_all }
