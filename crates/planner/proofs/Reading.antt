-- Lemmas: one step back through the rows of a search.
use Rattle.std.proofs.Common.{◌≡◌, ℕ, zero, suc, ◌-◌, ◌<◌, Bool, true, List, [], ◌∷◌, get_or, is_some, Some, None, Option, sym, refl, ap, ◌∙◌, subst, arith}
use Rattle.std.proofs.lemmas.Option.{get_or_from_slice_get, slice_get_within, slice_get-map}
use Rattle.std.specs.List.{slice_get}
use Rattle.std.specs.Option.{option_map}
use Rattle.books.specs.Meaning.{Exits, Lawful}
use Rattle.books.specs.Options.{none_not_some, some_one}
use Rattle.search.specs.Reaches.{turned, all_turned}
use Rattle.search.specs.WayBack.{row_of, step_back}
use Rattle.search.specs.declared.reaches.Direction.{Direction}
use Rattle.search.specs.declared.reaches.Direction.TheVariants.{Along, Against}
use Rattle.search.specs.declared.reaches.Reach.{Reach}
use Rattle.search.proofs.Backwards.{step}
use Rattle.planner.specs.Headings.{good_of, passage_of, label_of, goes_of}
use Rattle.planner.specs.Ways.{ReachedBy, blank, Came, LegRead}
use Rattle.planner.proofs.Heading.{laws_of, antisymmetric_of, label_some, step_of}

-- a turned reach is one that was laid, turned
pub turned_at : (d : Direction) (rs : List Reach) (n : ℕ) (e : Reach) → slice_get (all_turned d rs) n ≡ Some e → (r : Reach) × (slice_get rs n ≡ Some r) × (turned d r ≡ e)
turned_at d [] n e h = none_not_some None e refl h
turned_at d (r ∷ rs) zero e h = (r, refl, some_one (Some (turned d r)) (turned d r) e refl h)
turned_at d (r ∷ rs) (suc n) e h = turned_at d rs n e h

pub at_turned : (d : Direction) (rs : List Reach) (n : ℕ) (r : Reach) → slice_get rs n ≡ Some r → slice_get (all_turned d rs) n ≡ Some (turned d r)
at_turned d rs n r h = slice_get-map (turned d) rs n ∙ ap (option_map (turned d)) h

same_gate : (e : Direction) (r : Reach) → (turned e r).gate ≡ r.gate
same_gate Along r = refl
same_gate Against r = refl

module _ (gates : ℕ) (ex : Exits) (law : Lawful gates ex) (d : Direction) (rs : List Reach) (cells : List (Option ℕ)) (at x : ℕ) where
  abbrev es : List Reach
  es = all_turned d rs

  abbrev Before : ℕ → ℕ → ℕ → Type 0
  Before j u y = ReachedBy d rs ex cells at x j u y

  pub came : (j u y : ℕ) → 0 < j → Before j u y → (n : ℕ) × (step_back (good_of d) (goes_of d ex) es cells j u ≡ Some n) × Came d rs ex cells at x j u y n
  came zero u y some r = absurd (omega arith)
  came (suc i) u y some r =
      let s = step (laws_of gates ex law d) (antisymmetric_of d) es cells at x r.last r.low r.long r.rows i u y r.within r.place r.stands r.least in
      let n = s.number in
      let t = turned_at d rs n s.by s.is in
      let read : get_or rs n blank ≡ t.0 = get_or_from_slice_get rs n t.0 blank t.1 in
      let turn : turned d (get_or rs n blank) ≡ s.by = ap (turned d) read ∙ t.2 in
      let back : i ≡ suc i - 1 = omega arith in
      let start : s.by.from ≡ (turned d (get_or rs n blank)).from = ap (λ (e : Reach). e.from) (sym turn) in
      let before : Before (suc i - 1) (turned d (get_or rs n blank)).from s.here =
      subst (λ (m : ℕ). Before m (turned d (get_or rs n blank)).from s.here) back
      (subst (λ (w : ℕ). Before i w s.here) start
      (record { last = r.last; low = r.low; long = r.long; rows = r.rows; within = omega (arith, r.within); place = s.ins.0; stands = s.stands; least = s.least })) in
      let on : goes_of d ex (get_or rs n blank).gate s.here ≡ Some y = ap (λ (h : ℕ). goes_of d ex h s.here) (sym (same_gate d (get_or rs n blank)) ∙ ap (λ (e : Reach). e.gate) turn) ∙ s.on in
      let p = label_some d (passage_of d ex (get_or rs n blank).gate s.here) y on in (
        n,
        s.found,
        record {
          low = slice_get_within rs n t.0 t.1;
          is = t.1 ∙ ap Some (sym read);
          ends = ap (λ (e : Reach). e.to) turn ∙ s.to;
          starts = before.place;
          row = omega (arith, r.within, r.low);
          here = s.here;
          stands = before.stands;
          passage = p.0;
          passes = p.1;
          gives = p.2;
          before = before;
        },
      )

  -- the same of the number that the code has
  pub came_by : (j u y : ℕ) → 0 < j → Before j u y → (n : ℕ) → step_back (good_of d) (goes_of d ex) es cells j u ≡ Some n → Came d rs ex cells at x j u y n
  came_by j u y some r n got = let k = came j u y some r in subst (Came d rs ex cells at x j u y) (some_one (step_back (good_of d) (goes_of d ex) es cells j u) k.0 n k.1 got) k.2

-- the number by which a heading's search steps back
module _ (gates : ℕ) (ex : Exits) (law : Lawful gates ex) (d : Direction) (rs : List Reach) (cells : List (Option ℕ)) (at x k v z : ℕ) (some : 0 < k) (r : ReachedBy d rs ex cells at x k v z) (good : ℕ → ℕ → Bool) (goes : ℕ → ℕ → Option ℕ) (p : good ≡ good_of d) (q : goes ≡ goes_of d ex) (e : Direction) (heads : e ≡ d) (laid : List Reach) (same : laid ≡ rs) (got : Option ℕ) (is : got ≡ step_back good goes (all_turned e laid) cells k v) where
  step_is : got ≡ step_back (good_of d) (goes_of d ex) (all_turned d rs) cells k v
  step_is = is ∙ step_of d ex good goes p q e heads laid cells k v ∙ ap (λ (l : List Reach). step_back (good_of d) (goes_of d ex) (all_turned d l) cells k v) same

  pub steps_there : is_some got ≡ true
  steps_there = ap is_some (step_is ∙ (came gates ex law d rs cells at x k v z some r).1)

  pub came_there : (n : ℕ) → got ≡ Some n → Came d rs ex cells at x k v z n
  came_there n found = came_by gates ex law d rs cells at x k v z some r n (sym step_is ∙ found)

-- the leg over a reach that brought a label, where the code has its start, the label there and a passage
module _ (d : Direction) (rs : List Reach) (ex : Exits) (cells : List (Option ℕ)) (at x k v z n : ℕ) (came : Came d rs ex cells at x k v z n) (e : Direction) (heads : e ≡ d) (turn : Reach) (is : turn ≡ turned e (get_or rs n blank)) where
  start : (turned d (get_or rs n blank)).from ≡ turn.from
  start = sym (ap (λ (q : Reach). q.from) (is ∙ ap (λ (f : Direction). turned f (get_or rs n blank)) heads))

  pub stands_there : row_of cells (k - 1) turn.from ≡ Some came.here
  stands_there = ap (row_of cells (k - 1)) (sym start) ∙ came.stands

  module _ (y : ℕ) (stands : row_of cells (k - 1) turn.from ≡ Some y) where
    same : came.here ≡ y
    same = some_one (row_of cells (k - 1) turn.from) came.here y stands_there stands

    pub passes_there : passage_of d ex (get_or rs n blank).gate y ≡ Some came.passage
    passes_there = ap (passage_of d ex (get_or rs n blank).gate) (sym same) ∙ came.passes

    pub leg_there : (p : ℕ × ℕ) → passage_of d ex (get_or rs n blank).gate y ≡ Some p → LegRead d rs ex cells at x k v z (record { reach = n; entry = p.0; exit = p.1 }) turn.from
    leg_there p passes = record {
      reach = get_or rs n blank;
      laid = came.is;
      from = start;
      to = came.ends;
      here = y;
      passes = passes;
      gives = ap (label_of d) (sym passes ∙ passes_there) ∙ came.gives;
      before = subst (λ (w : ℕ). ReachedBy d rs ex cells at x (k - 1) turn.from w) same (subst (λ (u : ℕ). ReachedBy d rs ex cells at x (k - 1) u came.here) start came.before);
    }
