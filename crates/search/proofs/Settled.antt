-- Lemmas: from the rows to the walks.
use Rattle.std.proofs.Common.{◌≡◌, ℕ, ◌+◌, ◌*◌, ◌<◌, ◌≤◌, Bool, List, get_or, None, Option, sym, refl, ap, ◌∙◌, arith}
use Rattle.search.specs.Laws.{Laws}
use Rattle.search.specs.Rows.{lone, best, last_from}
use Rattle.search.specs.Walks.{Unbeaten}
use Rattle.search.specs.declared.reaches.Reach.{Reach}
use Rattle.search.proofs.Best.{last_like, last_within}
use Rattle.search.proofs.Walked.{best_good, best_gone}
use Rattle.search.proofs.Simple.{best_all}

module _ {L : Type 0} {good : L → L → Bool} {goes : ℕ → L → Option L} (laws : Laws good goes) (es : List Reach) (at : ℕ) (x : L) (cells : List (Option L)) (last : ℕ)
    (is : last ≡ last_from good goes es (lone at x) 63 0)
    (rows : (k v : ℕ) → k ≤ last → v < 64 → get_or cells (64 * k + v) None ≡ best good goes es (lone at x) k v) where
  pub last_low : last ≤ 63
  last_low = omega (arith, last_within good goes es (lone at x) 63 0)

  pub unbeaten : Unbeaten good goes es at x cells last
  unbeaten = record {
    gone = λ k v l h z so. best_gone laws es at x k v z (sym (rows k v l h) ∙ so);
    within = λ k v l h ws z short leads gone. rw (rows k v l h) (best_good laws es at x ws k v z short leads gone);
    all = λ v h ws z leads gone.
        let e : best good goes es (lone at x) 63 v ≡ get_or cells (64 * last + v) None = last_like good goes es (lone at x) 63 0 63 refl v h ∙ ap (λ (n : ℕ). best good goes es (lone at x) n v) (sym is) ∙ sym (rows last v (omega arith) h) in
        rw (sym e) (best_all laws es at x ws v z h leads gone);
  }
