-- Lemmas: the rounds of a search, after each of them and at their end.
use Rattle.std.proofs.Common.{◌≡◌, ℕ, ◌+◌, ◌-◌, ◌*◌, ◌<◌, ◌≤◌, Bool, true, false, ltb, List, length, get_or, Some, None, Option, sym, refl, ap, ◌∙◌, subst, arith}
use Rattle.std.proofs.lemmas.Bool.Decides.{nat_tests}
use Rattle.std.proofs.lemmas.Bool.{both_ways, cond-true, cond-false, lt-ltb, le-ltb}
use Rattle.search.specs.Filled.{last_row, Filled, Searched, FirstRow, holds_row, RowFilled, NextRow}
use Rattle.search.specs.Laws.{Laws}
use Rattle.search.specs.Rows.{lone, gathered, best, stirs, last_from}
use Rattle.search.specs.declared.reaches.Reach.{Reach}
use Rattle.search.proofs.Best.{rows_more, told_row, round_on, round_off}
use Rattle.search.proofs.Settled.{last_low, unbeaten}
use Rattle.search.proofs.Skipped.{before_rows}

-- where the cells hold a row, it is filled
pub held_filled : {L : Type 0} (good : L → L → Bool) (goes : ℕ → L → Option L) (es : List Reach) (k : ℕ) (cells new : List (Option L)) (told : Bool) → 0 < k → k < 64 → 4096 ≤ length cells → RowFilled (holds_row cells k) good goes es k cells new told ≡ RowFilled true good goes es k cells new told
held_filled good goes es k cells new told some low long = let held : holds_row cells k ≡ true = grind (arith, nat_tests) in ap (λ (h : Bool). RowFilled h good goes es k cells new told) held

-- too few cells are left as they were
pub too_few : {L : Type 0} (good : L → L → Bool) (goes : ℕ → L → Option L) (es : List Reach) (at : ℕ) (x : L) (old new : List (Option L)) (there : Bool) → FirstRow at x old new there → there ≡ false → (None ≡ last_row good goes es at x old) × (new ≡ old)
too_few good goes es at x old new true h f = absurd (both_ways true f refl)
too_few good goes es at x old new false h f = (sym (cond-true (ltb (length old) 4096) None (Some (last_from good goes es (lone at x) 63 0)) (lt-ltb (length old) 4096 h.0)), h.1)

module _ {L : Type 0} (good : L → L → Bool) (goes : ℕ → L → Option L) (es : List Reach) (at : ℕ) (x : L) (old : List (Option L)) where
  -- rows 0 to k - 1 are filled, and the cells after them are as they were
  abbrev pub Rounds : ℕ → ℕ → List (Option L) → Type 0
  Rounds k last cells =
      (4096 ≤ length old)
      × (last ≡ k - 1)
      × (last_from good goes es (lone at x) (64 - k) (k - 1) ≡ last_from good goes es (lone at x) 63 0)
      × ((j v : ℕ) → j < k → v < 64 → get_or cells (64 * j + v) None ≡ best good goes es (lone at x) j v)
      × ((j : ℕ) → 64 * k ≤ j → get_or cells j None ≡ get_or old j None)

  -- what a search promises
  abbrev pub Ended : ℕ → List (Option L) → Type 0
  Ended last cells = (Some last ≡ last_row good goes es at x old) × Filled good goes es at x old cells (Some last) × Searched good goes es at x cells (Some last)

  pub rounds_begin : (cells : List (Option L)) (there : Bool) → FirstRow at x old cells there → there ≡ true → Rounds 1 0 cells
  rounds_begin cells true h t = (h.0, refl, refl, (λ j v l low. let z : 0 ≡ j = omega arith in let i : 64 * j + v ≡ v = omega arith in ap (λ (n : ℕ). get_or cells n None) i ∙ h.1 v low ∙ ap (λ (n : ℕ). best good goes es (lone at x) n v) z), λ j l. h.2 j (omega arith))
  rounds_begin cells false h t = absurd (both_ways false refl t)

  module _ (laws : Laws good goes) where
    ended : (last : ℕ) (cells : List (Option L)) → 4096 ≤ length old → last ≡ last_from good goes es (lone at x) 63 0
        → ((j v : ℕ) → j ≤ last → v < 64 → get_or cells (64 * j + v) None ≡ best good goes es (lone at x) j v)
        → ((j : ℕ) → 64 * last + 64 ≤ j → get_or cells j None ≡ get_or old j None)
        → Ended last cells
    ended last cells long is rows above =
        (ap Some is ∙ sym (cond-false (ltb (length old) 4096) None (Some (last_from good goes es (lone at x) 63 0)) (le-ltb (length old) 4096 long)), (rows, above), (last_low laws es at x cells last is rows, unbeaten laws es at x cells last is rows))

    pub rounds_end : (k last : ℕ) (cells : List (Option L)) → 64 ≡ k → Rounds k last cells → Ended last cells
    rounds_end k last cells end r =
        let nought : 0 ≡ 64 - k = omega arith in
        ended last cells r.0 (r.1 ∙ ap (λ (m : ℕ). last_from good goes es (lone at x) m (k - 1)) nought ∙ r.2) (λ j v l low. r.3 j v (omega (arith, r.1)) low) (λ j h. r.4 j (omega (arith, r.1)))

    module _ (k last : ℕ) (cells new : List (Option L)) (told : Bool) (some : 0 < k) (low : k < 64) (long : 4096 ≤ length cells) (r : Rounds k last cells) (next : NextRow good goes es k cells new told) where
      done : RowFilled true good goes es k cells new told
      done = subst (λ (T : Type 0). T) (held_filled good goes es k cells new told some low long) next

      by_round : (told ≡ stirs good goes es (λ u. get_or cells (64 * (k - 1) + u) None)) × ((v : ℕ) → v < 64 → get_or new (64 * k + v) None ≡ gathered good goes es (λ u. get_or cells (64 * (k - 1) + u) None) v (get_or cells (64 * (k - 1) + v) None))
      by_round = done.2 (before_rows good goes es k (lone at x) cells r.3)

      is : told ≡ stirs good goes es (best good goes es (lone at x) (k - 1))
      is = by_round.0 ∙ told_row good goes es (lone at x) cells new k some r.3

      rows : (j v : ℕ) → j < k + 1 → v < 64 → get_or new (64 * j + v) None ≡ best good goes es (lone at x) j v
      rows = rows_more good goes es (lone at x) cells new k some r.3 by_round.1 done.0

      above : (j : ℕ) → 64 * k + 64 ≤ j → get_or new j None ≡ get_or old j None
      above j h = done.1 j h ∙ r.4 j (omega arith)

      -- one round more
      pub rounds_more : told ≡ true → Rounds (k + 1) k new
      rounds_more y = (r.0, omega arith, round_on good goes es (lone at x) k some low told is y ∙ r.2, rows, λ j h. above j (omega arith))

      -- a round that betters no place is the last
      pub rounds_left : told ≡ false → Ended k new
      rounds_left n = ended k new r.0 (round_off good goes es (lone at x) k some low told is n ∙ r.2) (λ j v l h. rows j v (omega arith) h) above
