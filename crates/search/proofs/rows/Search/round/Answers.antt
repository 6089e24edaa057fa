use Rattle.std.proofs.Common.{◌≡◌, ◌+◌, ◌-◌, ◌*◌, ◌<◌, ◌≤◌, Bool, List, false, length, get_or, drop, None, Option, sym, refl, ap, ◌∙◌, subst, inl, inr, arith}
use Rattle.std.proofs.lemmas.List.{at_drop_all}
use Rattle.std.specs.List.{ContainsAt as Has}
use Rattle.search.specs.Reaches.{all_turned}
use Rattle.search.specs.Rows.{rounded, stirred, RoundBefore, Carried}
use Rattle.search.specs.Walks.{Good}
use Rattle.search.proofs.CellSteps.{relaxed_outside, rounded_more, stirred_more, advanced_row, advanced_told}
use Rattle.search.proofs.Skipped.{quiet, no_worse_on, rounded_skip, stirred_skip, turned_has, before_kept}
use Rattle.search.proofs.rows.Search.round.Goals as goal
use Rattle.search.proofs.rows.Search.round.Goals.{then-is_new, else-is_new}

pub loop-reach-init : goal.loop-reach-init
loop-reach-init g c = ((λ h. (refl, refl, λ v l z o. subst (λ (p : Option g.row.R-Label.Denot). Good (g.R.Reckoning.good c.args.self.by.now) p z) (sym (h.0 v l)) o)), (λ j h. refl), λ j h. refl)

pub loop-reach-preserved : goal.loop-reach-preserved
loop-reach-preserved g c =
    let L = g.row.R-Label.Denot in
    let r = c.args.self.by.now in
    let a = g.R.Reckoning.good r in
    let b = g.R.Reckoning.goes r in
    let laws = g.R.Reckoning.laws r in
    let k = c.args.k in
    let p = 64 * (c.args.k - 1) in
    let q = 64 * c.args.k in
    let d = c.args.self.direction in
    let es = c.args.self.reaches.now in
    let i = c.loop-reach.reach-index in
    let t = c.turn-e.result in
    let old = c.carry.new.cells in
    let cells = c.loop-reach.cells in
    let under = c.loop-reach.invariant.2 in
    let some : 0 < c.args.k = omega arith in
    let long : 64 * c.args.k + 64 ≤ length c.loop-reach.cells = omega arith in
    let rest = all_turned d (drop (i + 1) es) in
    elim c.if-is_new.branch [
      | then-is_new w ↦
          let n = w.cells-is ∙ w.relax-told.ensures.cells in (
            (λ h. let inv = c.loop-reach.invariant.0 h in (
              rounded_more a b p q d cells c.if-is_new.cells es i _ t c.loop-reach-test.true c.turn-e.ensures n ∙ inv.0,
              ap (λ (x : Bool). stirred a b p q c.if-is_new.cells x rest) w.told-is ∙ stirred_more a b p q d cells c.if-is_new.cells es i _ t c.loop-reach-test.true c.turn-e.ensures n c.loop-reach.told w.relax-told.result w.relax-told.ensures.told ∙ inv.1,
              λ v l z o. subst (λ (x : List (Option L)). Good a (get_or x (q + v) None) z) (sym n) (no_worse_on laws k some (all_turned d es) old cells h.1 inv.2 under t long v l z o),
            )),
            (λ j h. ap (λ (l : List (Option L)). get_or l j None) n ∙ relaxed_outside a b p q cells t j (inr h) ∙ c.loop-reach.invariant.1 j h),
            λ j h. ap (λ (l : List (Option L)). get_or l j None) n ∙ relaxed_outside a b p q cells t j (inl h) ∙ under j h,
          )
      | else-is_new w ↦
          let has : Has (all_turned d es) t = subst (Has (all_turned d es)) (sym c.turn-e.ensures) (turned_has d es i _ c.loop-reach-test.true) in (
            (λ h. let inv = c.loop-reach.invariant.0 h in
                let idle = quiet laws k some (all_turned d es) old cells h.1 inv.2 under t has (sym c.is_new.ensures ∙ w.if-is_new.false) in (
                  ap (λ (l : List (Option L)). rounded a b p q l rest) w.cells-is ∙ rounded_skip a b p q d cells es i _ t c.loop-reach-test.true c.turn-e.ensures idle ∙ inv.0,
                  ap (λ (l : List (Option L)). stirred a b p q l c.if-is_new.told rest) w.cells-is ∙ ap (λ (x : Bool). stirred a b p q cells x rest) w.told-is ∙ stirred_skip a b p q d cells es i _ t c.loop-reach-test.true c.turn-e.ensures idle c.loop-reach.told ∙ inv.1,
                  λ v l z o. subst (λ (x : List (Option L)). Good a (get_or x (q + v) None) z) (sym w.cells-is) (inv.2 v l z o),
                )),
            (λ j h. ap (λ (l : List (Option L)). get_or l j None) w.cells-is ∙ c.loop-reach.invariant.1 j h),
            λ j h. ap (λ (l : List (Option L)). get_or l j None) w.cells-is ∙ under j h,
          )
    ]

pub returns : goal.returns
returns g c =
    let a = g.R.Reckoning.good c.args.self.by.now in
    let b = g.R.Reckoning.goes c.args.self.by.now in
    let k = c.args.k in
    let p = 64 * (c.args.k - 1) in
    let q = 64 * c.args.k in
    let es = all_turned c.args.self.direction c.args.self.reaches.now in
    let old = c.args.cells.now in
    let mid = c.carry.new.cells in
    let new = c.loop-reach.cells in
    let inv = c.loop-reach.invariant in
    let apart : 64 * (c.args.k - 1) + 64 ≤ 64 * c.args.k = omega arith in
    let long : 64 * c.args.k + 64 ≤ length c.carry.new.cells = omega (arith, c.requires.held) in
    let row = c.carry.ensures.row in
    let below = c.carry.ensures.below in
    let above = c.carry.ensures.above in
    let carried : RoundBefore a b es old k → Carried a b es mid k = λ h. ((λ v l. row v l ∙ sym (below (p + v) (omega arith))), before_kept a b es k old mid below h) in
    let cells : RoundBefore a b es old k → new ≡ rounded a b p q mid es = λ h. sym (at_drop_all (λ l. rounded a b p q new (all_turned c.args.self.direction l)) c.args.self.reaches.now c.loop-reach.reach-index c.loop-reach-test.false) ∙ (inv.0 (carried h)).0 in
    let told : RoundBefore a b es old k → c.loop-reach.told ≡ stirred a b p q mid false es = λ h. sym (at_drop_all (λ l. stirred a b p q new c.loop-reach.told (all_turned c.args.self.direction l)) c.args.self.reaches.now c.loop-reach.reach-index c.loop-reach-test.false) ∙ (inv.0 (carried h)).1 in (
      (λ j h. inv.2 j h ∙ below j h),
      (λ j h. inv.1 j h ∙ above j h),
      λ h. (told h ∙ advanced_told a b p q apart old mid new es long row below above (cells h), advanced_row a b p q apart old mid new es long row below above (cells h)),
    )
