-- Lemmas: row 0 as it is begun.
use Rattle.std.proofs.Common.{◌≡◌, ℕ, ◌+◌, ◌-◌, ◌<◌, ◌≤◌, true, eqb, List, ◌++◌, length, get_or, set, take, drop, replicate, Some, None, Option, sym, ap, ◌∙◌, length-take, ⊎_elim, arith}
use Rattle.std.proofs.lemmas.List.{length-replicate, get_or-replicate, get_or_append_left, get_or-append_right, get_or-drop, get_or-set_same, get_or-set_other, length-append}
use Rattle.std.proofs.lemmas.Bool.{cases_eq, eq-eqb, ne_eqb, cond-true, cond-false}
use Rattle.search.specs.Filled.{FirstRow}

module _ {L : Type 0} (at : ℕ) (x : L) (old row : List (Option L)) (long : 4096 ≤ length old) (blank : row ≡ replicate (length (take 64 old)) None) where
  width : length row ≡ 64
  width = omega (arith, ap length blank, length-replicate {A = Option L} (length (take 64 old)) None, length-take 64 old)

  abbrev begun : List (Option L)
  begun = row ++ drop 64 old

  empty : (v : ℕ) → v < 64 → get_or begun v None ≡ None
  empty v h = get_or_append_left row (drop 64 old) None v (omega (arith, width)) ∙ ap (λ (l : List (Option L)). get_or l v None) blank ∙ get_or-replicate (length (take 64 old)) v None None (omega (arith, length-take 64 old))

  after : (j : ℕ) → 64 ≤ j → get_or begun j None ≡ get_or old j None
  after j h =
      let e : 64 + (j - 64) ≡ j = omega arith in
      get_or-append_right row (drop 64 old) 64 j None width h ∙ get_or-drop 64 old (j - 64) None ∙ ap (λ (n : ℕ). get_or old n None) e

  pub begun_nowhere : 64 ≤ at → FirstRow at x old (row ++ drop 64 old) true
  begun_nowhere past = (long, (λ v h. empty v h ∙ sym (cond-false (eqb at v) (Some x) None (ne_eqb at v (λ e. omega arith)))), after)

  pub begun_at : (i : ℕ) → i ≡ at → at < 64 → FirstRow at x old (set (row ++ drop 64 old) i (Some x)) true
  begun_at i is low = (
    long,
    (λ v h.
        ⊎_elim
        (λ same. let e : i ≡ v = is ∙ same in ap (λ (w : ℕ). get_or (set begun i (Some x)) w None) (sym e) ∙ get_or-set_same begun i (Some x) None (omega (arith, width, length-append row (drop 64 old))) ∙ sym (cond-true (eqb at v) (Some x) None (eq-eqb at v same)))
        (λ apart. get_or-set_other begun i v (Some x) None (λ q. apart (omega arith)) ∙ empty v h ∙ sym (cond-false (eqb at v) (Some x) None (ne_eqb at v apart)))
        (cases_eq at v)),
    λ j h. get_or-set_other begun i j (Some x) None (omega arith) ∙ after j h,
  )
