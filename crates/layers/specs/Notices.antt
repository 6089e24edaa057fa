-- What notices over a book mean, and what posting and lifting one does. Assumes nothing.
use Rattle.std.specs.Prelude.{◌≡◌, ℕ, ◌≤◌, Bool, cond, not, ◌&&◌, ◌||◌, ◌⊎◌, List, [], ◌∷◌, ◌++◌, length, Some, None, Ok, Err, Option, Result, ◌==◌, nat_le, nat_lt}
use Rattle.std.specs.List.{slice_get, list_any, list_all, find}
use Rattle.books.specs.Meaning.{Exits}
use Rattle.layers.specs.declared.notices.Notice.{Notice}
use Rattle.layers.specs.declared.notices.refusals.Refusal.{Refusal}
use Rattle.layers.specs.declared.notices.refusals.Refusal.TheVariants.{NoGate, BadNotice, SameNotice, NoticesFull, NoNotice}
use Rattle.layers.specs.declared.toward.Toward.{Toward}
use Rattle.layers.specs.declared.toward.Toward.TheVariants.{Later, Earlier}

-- ---- what is open under notices
-- a passage from s to e through gate g keeps clear of the notice
abbrev pub clears : ℕ → ℕ → ℕ → Notice → Bool
clears g s e n = not (n.gate == g) || (nat_le e n.begin || nat_le n.end s)

abbrev pub all_clear : List Notice → ℕ → ℕ → ℕ → Bool
all_clear ns g s e = list_all (clears g s e) ns

-- the exit below, if the passage keeps clear of every notice
abbrev pub let_by : List Notice → ℕ → ℕ → Option ℕ → Option ℕ
let_by ns g s None = None
let_by ns g s (Some e) = cond (all_clear ns g s e) (Some e) None

abbrev pub noticed_exits : List Notice → Exits → Exits
noticed_exits ns x g s = let_by ns g s (x g s)

-- The rule: a boat enters gate g at s and comes out at e.
pub record NoticedPassage (ns : List Notice) (x : Exits) (g s e : ℕ) : Type 0 where
  -- the passage is open below
  pub below : x g s ≡ Some e
  -- and each notice of the gate has e ≤ begin or end ≤ s
  pub clear : (i : ℕ) (n : Notice) → slice_get ns i ≡ Some n → n.gate ≡ g → (e ≤ n.begin) ⊎ (n.end ≤ s)

-- the first notice that a passage from s to e through gate g does not keep clear of
abbrev pub hindering : List Notice → ℕ → ℕ → ℕ → Option Notice
hindering ns g s e = find (λ n. not (clears g s e n)) ns

-- where a notice is past, each way that a gate is asked
abbrev pub past : Toward → Notice → ℕ
past Later n = n.end
past Earlier n = n.begin

-- ---- posting and lifting
abbrev pub refusal_number : Refusal → ℕ
refusal_number NoGate = 7
refusal_number BadNotice = 8
refusal_number SameNotice = 9
refusal_number NoticesFull = 10
refusal_number NoNotice = 11

-- the number with which a call was declined, if it was
abbrev pub declined : Result (Unit {0}) Refusal → Option ℕ
declined (Ok u) = None
declined (Err f) = Some (refusal_number f)

-- the same three figures
abbrev pub same_notice : Notice → Notice → Bool
same_notice m n = m.gate == n.gate && (m.begin == n.begin && m.end == n.end)

abbrev pub is_up : Notice → List Notice → Bool
is_up n ns = list_any (λ m. same_notice m n) ns

-- the notices without that one
abbrev pub taken_down : Notice → List Notice → List Notice
taken_down n [] = []
taken_down n (m ∷ ms) = cond (same_notice m n) ms (m ∷ taken_down n ms)

-- the number with which a post is declined, if it is
abbrev pub post_refusal : ℕ → List Notice → Notice → Option ℕ
post_refusal gates ns n =
    cond (nat_le gates n.gate) (Some 7)
    (cond (nat_le n.end n.begin || nat_lt 20160 n.end) (Some 8)
    (cond (is_up n ns) (Some 9)
    (cond (nat_le 32 (length ns)) (Some 10) None)))

-- what a call leaves: the new notices, unless it is declined
abbrev pub unless : {X : Type 0} → Option ℕ → X → X → X
unless None new old = new
unless (Some f) new old = old

abbrev pub after_post : ℕ → List Notice → Notice → List Notice
after_post gates ns n = unless (post_refusal gates ns n) (ns ++ (n ∷ [])) ns

-- the number with which a lift is declined, if it is
abbrev pub lift_refusal : List Notice → Notice → Option ℕ
lift_refusal ns n = cond (is_up n ns) None (Some 11)

abbrev pub after_lift : List Notice → Notice → List Notice
after_lift ns n = unless (lift_refusal ns n) (taken_down n ns) ns
