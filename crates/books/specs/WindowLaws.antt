-- Lemmas: a window book keeps the laws, and means what its rule says.
-- Nothing here is a definition that a contract cites.
use Rattle.std.specs.Prelude.{◌≡◌, ℕ, zero, suc, ◌+◌, ◌<◌, ◌≤◌, Bool, true, false, not, ◌&&◌, ◌||◌, List, [], ◌∷◌, Some, None, nat_le, nat_lt, refl}
use Rattle.std.proofs.Common.{sym, ap, ◌∙◌, ⊎_elim, arith}
use Rattle.std.specs.List.{slice_get}
use Rattle.std.proofs.lemmas.Bool.{or_cases, or_left, or_right}
use Rattle.std.proofs.lemmas.Bool.Decides.{nat_tests}
use Rattle.books.specs.Meaning.{Lawful, Means}
use Rattle.books.specs.Options.{none_not_some, some_one}
use Rattle.books.specs.Faults.{listed, when, faultless, passage_faults}
use Rattle.books.specs.Records.{sound_gate, exits_by_lawful, passed, exit_open}
use Rattle.books.specs.Sound.{faultless_when, listed_gate, passage_fine, passage_none, gate_sound_only, sound_gate_all, sound_gate_lacks}
use Rattle.books.specs.Windows.{window_faults, holds, held, timed_exits, TimedPassage}
use Rattle.books.specs.declared.windows.Window.{Window}

-- ---- records without a fault
pub window_test : (n : ℕ) (w : Window) → faultless (window_faults n w) ≡ (not (nat_le n w.gate) && not (nat_lt w.end w.begin || nat_lt 20160 w.end))
window_test n w =
    faultless_when (nat_le n w.gate) 14 (when (nat_lt w.end w.begin || nat_lt 20160 w.end) 15 [])
    ∙ ap (λ b. not (nat_le n w.gate) && b) (faultless_when (nat_lt w.end w.begin || nat_lt 20160 w.end) 15 [] ∙ and_true (not (nat_lt w.end w.begin || nat_lt 20160 w.end)))
  where
    and_true : (b : Bool) → (b && true) ≡ b
    and_true true = refl
    and_true false = refl

pub record WindowFine (n : ℕ) (w : Window) : Type 0 where
  pub gate : w.gate < n
  pub ordered : w.begin ≤ w.end
  pub in_time : w.end ≤ 20160

pub window_fine : (n : ℕ) (w : Window) → faultless (window_faults n w) ≡ true → WindowFine n w
window_fine n w h =
    let e = window_test n w in
    record { gate = grind (arith, nat_tests); ordered = grind (arith, nat_tests); in_time = grind (arith, nat_tests) }

window_none : (n : ℕ) (w : Window) → WindowFine n w → faultless (window_faults n w) ≡ true
window_none n w f = let e = window_test n w in grind (arith, nat_tests, f.gate, f.ordered, f.in_time)

-- ---- the window that holds a passage
pub record Held (n : ℕ) (ws : List Window) (g p s : ℕ) : Type 0 where
  pub place : ℕ
  pub window : Window
  pub at : slice_get ws place ≡ Some window
  pub its_gate : window.gate ≡ g
  pub fine : WindowFine n window
  pub opened : window.begin ≤ s
  pub closes : s + p ≤ window.end

pub held_by : (n : ℕ) (ws : List Window) (g p s : ℕ) → held n ws g p s ≡ true → Held n ws g p s
held_by n [] g p s h = let z : ◌≡◌ {A = ℕ} 0 1 = cc in absurd (omega arith)
held_by n (w ∷ ws) g p s h =
    ⊎_elim
    (λ y. record { place = 0; window = w; at = refl; its_gate = grind (arith, nat_tests); fine = window_fine n w (grind (arith, nat_tests)); opened = grind (arith, nat_tests); closes = grind (arith, nat_tests) })
    (λ y. let r = held_by n ws g p s y in
    record { place = suc r.place; window = r.window; at = r.at; its_gate = r.its_gate; fine = r.fine; opened = r.opened; closes = r.closes })
    (or_cases (faultless (window_faults n w) && holds g p s w) (held n ws g p s) h)

held_at : (n : ℕ) (ws : List Window) (g p s i : ℕ) (w : Window) → slice_get ws i ≡ Some w → w.gate ≡ g → WindowFine n w → w.begin ≤ s → s + p ≤ w.end → held n ws g p s ≡ true
held_at n [] g p s i w at its fine opened closes = none_not_some None w refl at
held_at n (v ∷ ws) g p s zero w at its fine opened closes =
    let same : v ≡ w = some_one (Some v) v w refl at in
    let sound = window_none n w fine in
    or_left (faultless (window_faults n v) && holds g p s v) (held n ws g p s) (rw same (grind (arith, nat_tests)))
held_at n (v ∷ ws) g p s (suc i) w at its fine opened closes =
    or_right (faultless (window_faults n v) && holds g p s v) (held n ws g p s) (held_at n ws g p s i w at its fine opened closes)

-- ---- the laws
module _ (ps : List ℕ) (ws : List Window) where
  pub timed_takes : (g p : ℕ) → sound_gate passage_faults ps g ≡ Some p → 1 ≤ p
  timed_takes g p h = (passage_fine (listed ps) p (gate_sound_only passage_faults ps g p h).fine).0

  pub timed_ends : (g p s : ℕ) → held (listed ps) ws g p s ≡ true → s + p ≤ 20160
  timed_ends g p s h = let w = held_by (listed ps) ws g p s h in omega (arith, w.fine.in_time)

  pub timed_lawful : Lawful (listed ps) (timed_exits ps ws)
  timed_lawful = exits_by_lawful (λ p. p) (held (listed ps) ws) (sound_gate passage_faults ps) timed_takes timed_ends (listed ps) (omega arith) (sound_gate_lacks passage_faults ps)

  -- ---- the rule
  timed_only : (g s e : ℕ) → timed_exits ps ws g s ≡ Some e → TimedPassage ps ws g s e
  timed_only g s e h =
      let p = passed (λ p. p) (held (listed ps) ws) (sound_gate passage_faults ps) g s e h in
      let r = gate_sound_only passage_faults ps g p.by p.found in
      let fine = passage_fine (listed ps) p.by r.fine in
      let w = held_by (listed ps) ws g p.by s p.opened in
      record {
        among = omega (arith, r.among);
        minutes = p.by;
        its_entry = r.found;
        some = fine.0;
        within = fine.1;
        place = w.place;
        window = w.window;
        window_at = w.at;
        its_gate = w.its_gate;
        ordered = w.fine.ordered;
        in_time = w.fine.in_time;
        opened = w.opened;
        out = p.out;
        closes = omega (arith, p.out, w.closes);
      }

  timed_all : (g s e : ℕ) → TimedPassage ps ws g s e → timed_exits ps ws g s ≡ Some e
  timed_all g s e t =
      let p = t.minutes in
      let in_list = listed_gate ps g p t.among t.its_entry in
      let at = sound_gate_all passage_faults ps g p (record { among = in_list; found = t.its_entry; fine = passage_none (listed ps) p t.some t.within }) in
      let fine : WindowFine (listed ps) t.window = record { gate = omega (arith, t.its_gate); ordered = t.ordered; in_time = t.in_time } in
      let y = held_at (listed ps) ws g p s t.place t.window t.window_at t.its_gate fine t.opened (omega (arith, t.out, t.closes)) in
      exit_open (λ p. p) (held (listed ps) ws) (sound_gate passage_faults ps) g s p at y ∙ ap Some (sym t.out)

  pub timed_means : Means (listed ps) (timed_exits ps ws) (listed ps) (TimedPassage ps ws)
  timed_means = record { as_many = refl; only_by_rule = timed_only; all_by_rule = timed_all }
