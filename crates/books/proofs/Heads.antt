-- Lemmas: the first fault of a record, and of a list of records.
use Rattle.std.proofs.Common.{◌≡◌, ℕ, zero, suc, ◌+◌, ◌<◌, true, false, nat_lt, List, [], ◌∷◌, ◌++◌, map, length, slice_index_or, take, Some, None, Option, sym, refl, ap, ◌∙◌, ⊎_elim, arith, take_all}
use Rattle.std.specs.Option.{MatchOption, option_map, option_or}
use Rattle.std.proofs.lemmas.Bool.{cases_lt}
use Rattle.std.proofs.lemmas.List.{map-append}
use Rattle.books.specs.Told.{fault_number, list_word, finding_told, told}
use Rattle.books.specs.Options.{none_not_some}
use Rattle.books.specs.Faults.{listed, when, head, faultless, faults_from, in_list, gate_list_faults}
use Rattle.books.specs.declared.faults.Finding.{Finding}
use Rattle.books.specs.declared.faults.RecordList.{RecordList}

pub none_faultless : (ns : List ℕ) → None ≡ head ns → faultless ns ≡ true
none_faultless [] h = refl
none_faultless (n ∷ ns) h = none_not_some (head (n ∷ ns)) n (sym h) refl

pub some_faulty : (ns : List ℕ) (n : ℕ) → Some n ≡ head ns → faultless ns ≡ false
some_faulty [] n h = none_not_some (head []) n refl (sym h)
some_faulty (m ∷ ns) n h = refl

take_listed : {R : Type 0} (rs : List R) → take (listed rs) rs ≡ take 256 rs
take_listed rs =
    ⊎_elim
    (λ lt. let e : listed rs ≡ length rs = omega arith in ap (λ (n : ℕ). take n rs) e ∙ take_all (length rs) rs (omega arith) ∙ sym (take_all 256 rs (omega arith)))
    (λ ge. let e : listed rs ≡ 256 = omega arith in ap (λ (n : ℕ). take n rs) e)
    (cases_lt (length rs) 256)

head_map : {A X : Type 0} (read : A → X) (xs : List A) → head (map read xs) ≡ option_map read (head xs)
head_map read [] = refl
head_map read (x ∷ xs) = refl

-- ---- the first of two lists
head_append : {X : Type 0} (xs ys : List X) → head (xs ++ ys) ≡ option_or (head xs) (head ys)
head_append [] ys = refl
head_append (x ∷ xs) ys = refl

module _ {X : Type 0} (xs ys : List X) where
  joined : (o : Option X) → o ≡ head xs → option_or o (head ys) ≡ head (xs ++ ys)
  joined o e = ap (λ (o : Option X). option_or o (head ys)) e ∙ sym (head_append xs ys)

  module _ {A : Type 0} (read : A → X) where
    pub head_or : (a b : Option A) → option_map read a ≡ head xs → option_map read b ≡ head ys → option_map read (option_or a b) ≡ head (xs ++ ys)
    head_or None b e f = f ∙ joined None e
    head_or (Some a) b e f = joined (Some (read a)) e

    pub head_or_else : (a r : Option A) {Rest : Type 0} → option_map read a ≡ head xs → MatchOption a Rest (λ x. r ≡ Some x) → (Rest → option_map read r ≡ head ys) → option_map read r ≡ head (xs ++ ys)
    head_or_else None r e m rest = rest m ∙ joined None e
    head_or_else (Some a) r e m rest = ap (option_map read) m ∙ joined (Some (read a)) e

-- ---- the first faulty record of a list
module _ {R : Type 0} (faults : R → List ℕ) where
  -- whether the record at place k has a fault, and the first one
  abbrev pub HeadAt : List R → ℕ → Option ℕ → Type 0
  HeadAt rs k o = (d : R) → o ≡ head (faults (slice_index_or rs k d))

  here : (i : ℕ) (r : R) (rs : List R) (o : Option ℕ) → o ≡ head (faults r) → option_or (option_map (λ n. (i, n)) o) (head (faults_from faults (suc i) rs)) ≡ head (faults_from faults i (r ∷ rs))
  here i r rs o e = joined (map (λ n. (i, n)) (faults r)) (faults_from faults (suc i) rs) (option_map (λ n. (i, n)) o) (ap (option_map (λ n. (i, n))) e ∙ sym (head_map (λ n. (i, n)) (faults r)))

  none_from : (i : ℕ) (rs : List R) → ((k : ℕ) → k < length rs → HeadAt rs k None) → None ≡ head (faults_from faults i rs)
  none_from i [] h = refl
  none_from i (r ∷ rs) h = none_from (suc i) rs (λ k lt. h (suc k) (omega arith)) ∙ here i r rs None (h 0 (omega arith) r)

  first_from : (i : ℕ) (rs : List R) (j k n : ℕ) → j ≡ i + k → k < length rs → HeadAt rs k (Some n) → ((l : ℕ) → l < k → HeadAt rs l None) → Some (j, n) ≡ head (faults_from faults i rs)
  first_from i [] j k n at lt h before = absurd (omega arith)
  first_from i (r ∷ rs) j zero n at lt h before = let e : j ≡ i = omega arith in ap (λ (m : ℕ). Some (m, n)) e ∙ here i r rs (Some n) (h r)
  first_from i (r ∷ rs) j (suc k) n at lt h before = first_from (suc i) rs j k n (omega arith) (omega arith) h (λ l lo. before (suc l) (omega arith)) ∙ here i r rs None (before 0 (omega arith) r)

  -- that is the first faulty record
  abbrev pub IsFirst : RecordList → List R → Option Finding → Type 0
  IsFirst list rs o = MatchOption o ((k : ℕ) → k < length rs → HeadAt rs k None) (λ y. (y.list ≡ list) × (y.place < length rs) × HeadAt rs y.place (Some (fault_number y.fault)) × ((k : ℕ) → k < y.place → HeadAt rs k None))

  told_of : (word : List ℕ) (ps : List (ℕ × ℕ)) (o : Option (ℕ × ℕ)) → o ≡ head ps → option_map (λ p. (word, p.0, p.1)) o ≡ head (in_list word ps)
  told_of word ps o e = ap (option_map (λ p. (word, p.0, p.1))) e ∙ sym (head_map (λ p. (word, p.0, p.1)) ps)

  pub first_told : (list : RecordList) (rs : List R) (o : Option Finding) → IsFirst list rs o → told o ≡ head (in_list (list_word list) (faults_from faults 0 rs))
  first_told list rs None h = told_of (list_word list) (faults_from faults 0 rs) None (none_from 0 rs h)
  first_told list rs (Some y) h =
      ap (λ (l : RecordList). Some (list_word l, y.place, fault_number y.fault)) h.0
      ∙ told_of (list_word list) (faults_from faults 0 rs) (Some (y.place, fault_number y.fault)) (first_from 0 rs y.place y.place (fault_number y.fault) (omega arith) h.1 h.2 h.3)

-- the first of a list of gate records is that of its gates, or else that it lists too many
pub gate_list_told : {R : Type 0} (faults : R → List ℕ) (word : List ℕ) (rs : List R) (a b : Option Finding) → told a ≡ head (in_list word (faults_from faults 0 (take (listed rs) rs))) → told b ≡ head (in_list word (when (nat_lt 256 (length rs)) (256, 12) [])) → told (option_or a b) ≡ head (gate_list_faults word faults rs)
gate_list_told faults word rs a b e f =
    let of_gates = faults_from faults 0 (take 256 rs) in
    let excess : List (ℕ × ℕ) = when (nat_lt 256 (length rs)) (256, 12) [] in
    head_or (in_list word of_gates) (in_list word excess) finding_told a b (e ∙ ap (λ l. head (in_list word (faults_from faults 0 l))) (take_listed rs)) f
    ∙ sym (ap head (map-append (λ p. (word, p.0, p.1)) of_gates excess))
