-- Which faults the records of a list have, in order. Assumes nothing.
use Rattle.std.specs.Prelude.{ℕ, suc, min, Bool, true, false, cond, ◌||◌, List, [], ◌∷◌, ◌++◌, map, length, take, Some, None, Option, ◌==◌, nat_lt}
use Rattle.books.specs.Told.{Told}

-- the number of gates that a list of gate records gives: only its first 256 entries are gates
abbrev pub listed : {R : Type 0} → List R → ℕ
listed rs = min (length rs) 256

-- x before the rest, if the test holds
abbrev pub when : {X : Type 0} → Bool → X → List X → List X
when b x rest = cond b (x ∷ rest) rest

abbrev pub head : {X : Type 0} → List X → Option X
head [] = None
head (x ∷ xs) = Some x

abbrev pub faultless : List ℕ → Bool
faultless [] = true
faultless (n ∷ ns) = false

-- the faults of records that stand from place i on, each with its place: by place, and then as the record has them
abbrev pub faults_from : {R : Type 0} → (R → List ℕ) → ℕ → List R → List (ℕ × ℕ)
faults_from faults i [] = []
faults_from faults i (r ∷ rs) = map (λ n. (i, n)) (faults r) ++ faults_from faults (suc i) rs

-- places and numbers as told of the list with that word
abbrev pub in_list : List ℕ → List (ℕ × ℕ) → List Told
in_list word ps = map (λ p. (word, p.0, p.1)) ps

-- the faults of a list of gate records: those of its gates, and 12 at place 256 where it lists more than 256
abbrev pub gate_list_faults : {R : Type 0} → List ℕ → (R → List ℕ) → List R → List Told
gate_list_faults word faults rs = in_list word (faults_from faults 0 (take 256 rs) ++ when (nat_lt 256 (length rs)) (256, 12) [])

-- the faults of a passage time, in a book of so many gates
abbrev pub passage_faults : ℕ → ℕ → List ℕ
passage_faults gates p = when (p == 0 || nat_lt 20160 p) 13 []
