-- Lemmas: where a notice stands, and what lifting it replies and leaves.
use Rattle.std.proofs.Common.{◌≡◌, ℕ, ◌+◌, Bool, true, false, cond, not, ltb, List, [], ◌∷◌, length, Some, None, Option, sym, refl, ap, subst, ◌∙◌, add-one, arith, add_comm}
use Rattle.std.specs.List.{remove, position, position_or_len}
use Rattle.std.proofs.lemmas.Bool.{cases_Bool}
use Rattle.layers.specs.Notices.{same_notice, is_up, taken_down, lift_refusal, after_lift}
use Rattle.layers.specs.declared.notices.Notice.{Notice}

module _ (n : Notice) where
  abbrev pub same : Notice → Bool
  same m = same_notice m n

  up_at : (ns : List Notice) → is_up n ns ≡ ltb (position_or_len same ns) (length ns)
  up_at [] = refl
  up_at (m ∷ ns) = let r = up_at ns in let c = cases_Bool (same m) in grind (arith, r)

  rest_more : (b : Bool) (m : Notice) (ns out : List Notice) (k : ℕ) → remove ns k ≡ out → remove (m ∷ ns) (cond (not b) (1 + k) 0) ≡ cond b ns (m ∷ out)
  rest_more true m ns out k r = refl
  rest_more false m ns out k r = rw (add_comm 1 k, add-one) (ap (λ (l : List Notice). m ∷ l) r)

  rest : (ns : List Notice) → remove ns (position_or_len same ns) ≡ taken_down n ns
  rest [] = refl
  rest (m ∷ ns) = rest_more (same m) m ns (taken_down n ns) (position_or_len same ns) (rest ns)

  -- what the place of the notice tells of a lift
  abbrev pub Tells : List Notice → Option ℕ → Type 0
  Tells ns None = (Some 11 ≡ lift_refusal ns n) × (ns ≡ after_lift ns n)
  Tells ns (Some i) = (None ≡ lift_refusal ns n) × (remove ns i ≡ after_lift ns n)

  tells_by : (ns : List Notice) (b : Bool) → is_up n ns ≡ b → Tells ns (cond b (Some (position_or_len same ns)) None)
  tells_by ns false up = (grind (arith, up), grind (arith, up))
  tells_by ns true up = (grind (arith, up), rest ns ∙ grind (arith, up))

  pub tells : (ns : List Notice) (o : Option ℕ) → o ≡ position same ns → Tells ns o
  tells ns o at = subst (Tells ns) (sym at) (tells_by ns (ltb (position_or_len same ns) (length ns)) (up_at ns))
