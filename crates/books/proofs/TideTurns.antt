-- Lemmas: the reckoned start of a tide's passage is the least, and the greatest, at which it is open.
use Rattle.std.proofs.Common.{◌≡◌, ℕ, ◌+◌, ◌-◌, ◌*◌, ◌/◌, ◌%◌, ◌<◌, ◌≤◌, min, max, true, false, cond, leb, Some, None, Option, sym, ap, ◌∙◌, ⊎_elim, arith}
use native.Mathlib.Nat.{add-mod_right, mul-mod_left, mod-le}
use Rattle.std.proofs.lemmas.Nat.{div-add-mod', mod-mul-add, mod_below}
use Rattle.std.proofs.lemmas.Bool.{cases_Bool, cases_lt, leb-true, leb-false, cond_both}
use Rattle.books.specs.Extremes.{Least, Greatest}
use Rattle.books.specs.Tides.{tide_opens}
use Rattle.books.specs.TideLaws.{TideFine, tide_open, tide_opens_at}
use Rattle.books.specs.declared.tides.Tide.{Tide}

-- ---- remainders
on_in_turn : (b d q : ℕ) → b % q + d < q → (b + d) % q ≡ b % q + d
on_in_turn b d q h =
    let split : b + d ≡ b / q * q + (b % q + d) = omega (arith, div-add-mod' b q) in
    ap (λ (n : ℕ). n % q) split ∙ mod-mul-add (b / q) q (b % q + d) h

back_in_turn : (b d q : ℕ) → d ≤ b % q → b % q < q → (b - d) % q ≡ b % q - d
back_in_turn b d q h k =
    let split : b - d ≡ b / q * q + (b % q - d) = omega (arith, div-add-mod' b q) in
    ap (λ (n : ℕ). n % q) split ∙ mod-mul-add (b / q) q (b % q - d) (omega arith)

next_turn : (b q : ℕ) → b % q < q → (b + (q - b % q)) % q ≡ 0
next_turn b q k =
    let split : b + (q - b % q) ≡ b / q * q + q = omega (arith, div-add-mod' b q) in
    ap (λ (n : ℕ). n % q) split ∙ add-mod_right (b / q * q) q ∙ mul-mod_left (b / q) q

-- ---- one tide
module _ (d : Tide) (fine : TideFine d) where
  shut_where : (k : ℕ) → (d.phase ≤ k → (k - d.phase) % d.period + d.passage ≤ d.length → k + d.passage ≤ 20160 → ⊥) → tide_opens d k ≡ false
  shut_where k no_way = ⊎_elim (λ y. let o = tide_open d k y in absurd (no_way o.come o.fits o.ends)) (λ n. n) (cases_Bool (tide_opens d k))

  open_where : (k : ℕ) → d.phase ≤ k → (k - d.phase) % d.period + d.passage ≤ d.length → k + d.passage ≤ 20160 → tide_opens d k ≡ true
  open_where k a b c = tide_opens_at d k (record { come = a; fits = b; ends = c })

  below_turn : (b : ℕ) → b % d.period < d.period
  below_turn b = mod_below b d.period (omega (arith, fine.turns))

  -- the start of the first passage from an instant on that is not before the phase
  abbrev next_start : ℕ → ℕ
  next_start base = let r = (base - d.phase) % d.period in cond (leb r (d.length - d.passage)) base (base + (d.period - r))

  abbrev pub tide_first : ℕ → Option ℕ
  tide_first t = let s = next_start (max t d.phase) in cond (leb (s + d.passage) 20160) (Some s) None

  -- a start is no earlier than asked, none before it is open, and it is open if it comes out in time
  abbrev Starts : ℕ → ℕ → Type 0
  Starts t s = (t ≤ s) × ((k : ℕ) → t ≤ k → k < s → tide_opens d k ≡ false) × (s + d.passage ≤ 20160 → tide_opens d s ≡ true)

  starts : (t : ℕ) → d.passage ≤ d.length → Starts t (next_start (max t d.phase))
  starts t le =
      let base = max t d.phase in
      let b = base - d.phase in
      let r = b % d.period in
      let lt = below_turn b in
      cond_both (leb r (d.length - d.passage)) base (base + (d.period - r)) (Starts t)
      (λ y. let in_time = leb-true r (d.length - d.passage) y in
      (omega arith, (λ k lo hi. shut_where k (λ p q z. omega arith)), λ by. open_where base (omega arith) (omega arith) by))
      (λ n. let late = leb-false r (d.length - d.passage) n in (
        omega arith,
        (λ k lo hi. shut_where k (λ p q z.
            ⊎_elim (λ low. omega arith)
            (λ high. let e = on_in_turn b (k - base) d.period (omega (arith, fine.part)) in
            let f : b + (k - base) ≡ k - d.phase = omega arith in
            omega (arith, sym (ap (λ (m : ℕ). m % d.period) f) ∙ e))
            (cases_lt k base))),
        λ by. let f : b + (d.period - r) ≡ base + (d.period - r) - d.phase = omega arith in
            open_where (base + (d.period - r)) (omega arith) (omega (arith, sym (ap (λ (m : ℕ). m % d.period) f) ∙ next_turn b d.period lt)) by,
      ))

  pub tide_least : (t : ℕ) → d.passage ≤ d.length → Least (tide_opens d) t (tide_first t)
  tide_least t le =
      let s = next_start (max t d.phase) in
      let st = starts t le in
      cond_both (leb (s + d.passage) 20160) (Some s) None (Least (tide_opens d) t)
      (λ y. (st.0, st.2 (leb-true (s + d.passage) 20160 y), st.1))
      (λ n k lo. shut_where k (λ p q z.
      let late = leb-false (s + d.passage) 20160 n in
      let shut = st.1 k lo (omega arith) in
      let opened = open_where k p q z in
      cc))

  -- and backwards, from the last instant that comes out in time
  pub tide_greatest : (t top gap : ℕ) → top + d.passage ≡ min t 20160 → d.phase ≤ top → d.passage ≤ d.length → gap ≡ (top - d.phase) % d.period - (d.length - d.passage) → Greatest (tide_opens d) d.passage t (Some (top - gap))
  tide_greatest t top gap by from le late =
      let b = top - d.phase in
      let lt = below_turn b in
      let small = mod-le b d.period in
      let f : b - gap ≡ top - gap - d.phase = omega arith in
      let e = sym (ap (λ (m : ℕ). m % d.period) f) ∙ back_in_turn b gap d.period (omega arith) lt in (
        omega arith,
        open_where (top - gap) (omega arith) (omega arith) (omega arith),
        λ k out lo. shut_where k (λ p q z.
            let f' : b - (top - k) ≡ k - d.phase = omega arith in
            let e' = sym (ap (λ (m : ℕ). m % d.period) f') ∙ back_in_turn b (top - k) d.period (omega arith) lt in
            omega arith),
      )
