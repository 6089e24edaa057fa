use Rattle.std.proofs.Common.{◌≡◌, Some, None, rules, tests, refl, sym, ◌∙◌, arith}
use Rattle.std.specs.List.{position}
use Rattle.std.proofs.lemmas.Iterator.{YieldsList-from_slice}
use Rattle.std.proofs.lemmas.Iterator.Search.{position_from_yields_List}
use Rattle.layers.specs.NoticeLaws.{noticed_means}
use Rattle.layers.proofs.Places.{same, Tells, tells}
use Rattle.layers.proofs.notices.Noticed.lift.Goals as goal

pub returns-in_err-ok_or : goal.returns-in_err-ok_or
returns-in_err-ok_or g c =
    let ns = c.args.self.now.notices.items in
    let n = c.args.notice in
    let at : c.position-place.result ≡ position (same n) ns = position_from_yields_List (same n) _ _ c.position-place.result c.position-place.ensures.ran (YieldsList-from_slice ns cc) (λ x b q k. search (rules, tests)) in
    let told : Tells n ns None = tells n ns None (sym c.in_err-ok_or.ensures.ok_part ∙ at) in
    record { reply = grind (arith, told.0); notices = told.1; book = refl; meaning = noticed_means _ _ _ }

pub returns : goal.returns
returns g c =
    let ns = c.args.self.now.notices.items in
    let n = c.args.notice in
    let at : c.position-place.result ≡ position (same n) ns = position_from_yields_List (same n) _ _ c.position-place.result c.position-place.ensures.ran (YieldsList-from_slice ns cc) (λ x b q k. search (rules, tests)) in
    let told : Tells n ns (Some c.in_ok-ok_or.field-0) = tells n ns (Some c.in_ok-ok_or.field-0) (sym c.in_ok-ok_or.ensures.ok_part ∙ at) in
    record { reply = told.0; notices = c.remove.ensures.items ∙ told.1; book = refl; meaning = noticed_means _ _ _ }
