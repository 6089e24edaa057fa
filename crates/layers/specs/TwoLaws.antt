-- Lemmas: two books side by side keep the laws, and mean what the rule says.
-- Nothing here is a definition that a contract cites.
use Rattle.std.specs.Prelude.{◌≡◌, ℕ, ◌+◌, ◌-◌, ◌<◌, ◌≤◌, min, refl}
use Rattle.std.proofs.Common.{arith}
use Rattle.books.specs.Meaning.{Exits, Lawful, Means}
use Rattle.layers.specs.TwoBooks.{two_gates, shut, two_exits, TwoPassage}

module _ (m n : ℕ) (x y : Exits) (a : Lawful m x) (b : Lawful n y) where
  pub two_lawful : Lawful (two_gates m n) (two_exits m x y)
  two_lawful = record {
    few = omega arith;
    lacks = λ g s h. grind (arith, a.few, a.lacks g s, b.lacks (g - m) s);
    later = λ g s e h. grind (arith, a.later g s e, b.later (g - m) s e);
    within = λ g s e h. grind (arith, a.within g s e, b.within (g - m) s e);
    order = λ g s s' e e' h h' le. grind (arith, a.order g s s' e e', b.order (g - m) s s' e e');
  }

module _ (m : ℕ) (x y : Exits) where
  -- the gates of the first
  pub two_in_first : (g : ℕ) → g < m → two_exits m x y g ≡ x g
  two_in_first g lt = grind arith

  -- those of the second
  pub two_in_second : (g : ℕ) → m ≤ g → g < 1024 → two_exits m x y g ≡ y (g - m)
  two_in_second g ge lt = grind arith

  -- and no others
  pub two_past : (g : ℕ) → m ≤ g → 1024 ≤ g → two_exits m x y g ≡ shut
  two_past g ge past = grind arith

  pub two_means : (n : ℕ) → Means (two_gates m n) (two_exits m x y) (min (m + n) 1024) (TwoPassage m x y)
  two_means n = record { as_many = refl; only_by_rule = λ g s e h. grind arith; all_by_rule = λ g s e r. grind arith }
