-- Lemmas: a tide book keeps the laws, and means what its rule says.
-- Nothing here is a definition that a contract cites.
use Rattle.std.specs.Prelude.{◌≡◌, ℕ, ◌+◌, ◌-◌, ◌%◌, ◌≤◌, Bool, true, not, ◌&&◌, ◌||◌, List, [], Some, ◌==◌, nat_lt, refl}
use Rattle.std.proofs.Common.{sym, ap, ◌∙◌, arith}
use Rattle.std.proofs.lemmas.Bool.Decides.{nat_tests}
use Rattle.books.specs.Meaning.{Lawful, Means}
use Rattle.books.specs.Faults.{listed, faultless, passage_faults}
use Rattle.books.specs.Records.{sound_gate, exits_by_lawful, passed, exit_open}
use Rattle.books.specs.Sound.{faultless_when, faultless_both, listed_gate, gate_sound_only, sound_gate_all, sound_gate_lacks}
use Rattle.books.specs.Tides.{turn_faults, tide_faults, tide_opens, tidal_exits, TidalPassage}
use Rattle.books.specs.declared.tides.Tide.{Tide}

-- ---- records without a fault
pub record TideFine (d : Tide) : Type 0 where
  pub some : 1 ≤ d.passage
  pub within : d.passage ≤ 20160
  pub turns : 1 ≤ d.period
  pub part : d.length ≤ d.period
  pub in_time : d.phase ≤ 20160

abbrev bad_turn : Tide → Bool
bad_turn d = d.period == 0 || (nat_lt d.period d.length || nat_lt 20160 d.phase)

tide_test : (n : ℕ) (d : Tide) → faultless (tide_faults n d) ≡ (not (d.passage == 0 || nat_lt 20160 d.passage) && not (bad_turn d))
tide_test n d = grind (arith, nat_tests, faultless_both (passage_faults n d.passage) (turn_faults d), faultless_when (d.passage == 0 || nat_lt 20160 d.passage) 13 [], faultless_when (bad_turn d) 16 [])

pub tide_fine : (n : ℕ) (d : Tide) → faultless (tide_faults n d) ≡ true → TideFine d
tide_fine n d h =
    let e = tide_test n d in
    record { some = grind (arith, nat_tests); within = grind (arith, nat_tests); turns = grind (arith, nat_tests); part = grind (arith, nat_tests); in_time = grind (arith, nat_tests) }

tide_none : (n : ℕ) (d : Tide) → TideFine d → faultless (tide_faults n d) ≡ true
tide_none n d f = let e = tide_test n d in grind (arith, nat_tests, f.some, f.within, f.turns, f.part, f.in_time)

-- ---- an open instant
pub record TideOpen (d : Tide) (s : ℕ) : Type 0 where
  pub come : d.phase ≤ s
  pub fits : (s - d.phase) % d.period + d.passage ≤ d.length
  pub ends : s + d.passage ≤ 20160

pub tide_open : (d : Tide) (s : ℕ) → tide_opens d s ≡ true → TideOpen d s
tide_open d s h = record { come = grind (arith, nat_tests); fits = grind (arith, nat_tests); ends = grind (arith, nat_tests) }

pub tide_opens_at : (d : Tide) (s : ℕ) → TideOpen d s → tide_opens d s ≡ true
tide_opens_at d s o = grind (arith, nat_tests, o.come, o.fits, o.ends)

pub tide_ends : (d : Tide) (s : ℕ) → tide_opens d s ≡ true → s + d.passage ≤ 20160
tide_ends d s h = (tide_open d s h).ends

-- ---- the laws
module _ (ds : List Tide) where
  pub sound_tide : (g : ℕ) (d : Tide) → sound_gate tide_faults ds g ≡ Some d → TideFine d
  sound_tide g d h = tide_fine (listed ds) d (gate_sound_only tide_faults ds g d h).fine

  pub tidal_takes : (g : ℕ) (d : Tide) → sound_gate tide_faults ds g ≡ Some d → 1 ≤ d.passage
  tidal_takes g d h = (sound_tide g d h).some

  pub tidal_lawful : Lawful (listed ds) (tidal_exits ds)
  tidal_lawful = exits_by_lawful (λ d. d.passage) (λ g. tide_opens) (sound_gate tide_faults ds) tidal_takes (λ g. tide_ends) (listed ds) (omega arith) (sound_gate_lacks tide_faults ds)

  -- ---- the rule
  tidal_only : (g s e : ℕ) → tidal_exits ds g s ≡ Some e → TidalPassage ds g s e
  tidal_only g s e h =
      let p = passed (λ d. d.passage) (λ g. tide_opens) (sound_gate tide_faults ds) g s e h in
      let r = gate_sound_only tide_faults ds g p.by p.found in
      let f = sound_tide g p.by p.found in
      let o = tide_open p.by s p.opened in
      record {
        among = omega (arith, r.among);
        tide = p.by;
        its_entry = r.found;
        some = f.some;
        within = f.within;
        turns = f.turns;
        part = f.part;
        in_time = f.in_time;
        come = o.come;
        fits = o.fits;
        ends = o.ends;
        out = p.out;
      }

  tidal_all : (g s e : ℕ) → TidalPassage ds g s e → tidal_exits ds g s ≡ Some e
  tidal_all g s e t =
      let d = t.tide in
      let fine = tide_none (listed ds) d (record { some = t.some; within = t.within; turns = t.turns; part = t.part; in_time = t.in_time }) in
      let at = sound_gate_all tide_faults ds g d (record { among = listed_gate ds g d t.among t.its_entry; found = t.its_entry; fine = fine }) in
      let y = tide_opens_at d s (record { come = t.come; fits = t.fits; ends = t.ends }) in
      exit_open (λ d. d.passage) (λ g. tide_opens) (sound_gate tide_faults ds) g s d at y ∙ ap Some (sym t.out)

  pub tidal_means : Means (listed ds) (tidal_exits ds) (listed ds) (TidalPassage ds)
  tidal_means = record { as_many = refl; only_by_rule = tidal_only; all_by_rule = tidal_all }
