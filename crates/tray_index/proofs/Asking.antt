-- The ways through check_beginning, and what is handed out.
--   begin-..   == rows 1 to 6 and 22, then 23, then those of the typed letters
--   rank-..    == what the two searches ask for; span_is == what they find
--   own_index  == where no row speaks, the list is the index of an accepted tray
--   found-..   == the stretch handed out: it lies within the list, its place, and what is promised
use mathlib.Core.Path.{◌≡◌, refl, sym, ◌∙◌, ap, ap₂}
use mathlib.Core.Bool.{Bool, true, false, ◌||◌}
use mathlib.Core.List.{List, [], ◌∷◌}
use Prim.Native.Nat.{ℕ, zero, suc, ◌+◌, ◌*◌, ◌-◌, ◌≤◌, ◌<◌, ◌^◌}
use borrow.Author.Tests.{not-false}
use native.Mathlib.Omega.{arith}
use lib.ListN.{length, take, drop}
use Rattle.words.specs.Words.{same, begins, before}
use Rattle.words.proofs.Orders.{same-is}
use Rattle.words.proofs.Distinct.{those-length}
use Rattle.trays.specs.declared.Refusal.{Refusal}
use Rattle.trays.specs.declared.Span.{Span}
use Rattle.trays.specs.declared.Located.{Located}
use Rattle.trays.specs.Slips.{slips_of, slip}
use Rattle.trays.specs.declared.fault.Fault.{Fault}
use Rattle.trays.specs.Told.{told}
use Rattle.trays.proofs.Told.{told_speaks, told-first, told_next}
use Rattle.trays.specs.Faults.{refusal, accepted, or_else, first_row, text_rows}
use Rattle.trays.specs.Sides.{sided_tray_rows, sided_tray_fault}
use Rattle.trays.proofs.Rows.{or_zero, or_some, both_silent, rows_append}
use Rattle.trays.proofs.Accepted.{row_silent, accepted_tells, slips_count}
use Rattle.index_rule.specs.Index.{index_of, stretch_for, start_at}
use Rattle.index_rule.specs.Answers.{index_row, begin_fault, found_of, found_start, entry_bytes, Beginning, place_for}
use Rattle.index_rule.proofs.Precedes.{index_asc, index_real, index_length}
use Rattle.index_rule.proofs.Stretches.{stretch_is, stretch_end_lem}
use Rattle.trie_order.specs.declared.Bound.TheVariants.{Lower, Upper}
use Rattle.trie_order.specs.Order.{rank_of, Members, Rankable}
use Rattle.trie_order.proofs.Bounds.{lower-falls, upper-falls}
use Rattle.tray_index.specs.Steps.Lists.{OwnIndex, span_for}
use Rattle.tray_index.proofs.Building.{tray_accepted}

module _ (s es cs x t : List ℕ) where
  begin_is : begin_fault s es cs x t ≡ or_else (sided_tray_fault s es cs) (or_else (index_row (slips_of s es) x) (first_row (text_rows t)))
  unfolding begin_fault sided_tray_fault
  begin_is = rows_append (sided_tray_rows s es cs) (index_row (slips_of s es) x ∷ text_rows t)

  pub begin_tray : (y : Fault) → told y ≡ sided_tray_fault s es cs → told y ≡ begin_fault s es cs x t
  begin_tray y e = told-first y (sided_tray_fault s es cs) _ e ∙ sym begin_is

  module _ (e : accepted ≡ sided_tray_fault s es cs) (own : Bool) (q : own ≡ same x (index_of (slips_of s es))) where
    then_index : begin_fault s es cs x t ≡ or_else (index_row (slips_of s es) x) (first_row (text_rows t))
    then_index = begin_is ∙ sym (told_next (sided_tray_fault s es cs) _ e)

    pub begin_text : own ≡ true → (r : Refusal) → r ≡ first_row (text_rows t) → r ≡ begin_fault s es cs x t
    begin_text y r p = p ∙ sym (then_index ∙ rw (sym q ∙ y))

    pub begin_other : own ≡ false → refusal 23 0 ≡ begin_fault s es cs x t
    begin_other n = sym (then_index ∙ rw (sym q ∙ n))

  -- where no row speaks
  pub own_index : accepted ≡ begin_fault s es cs x t → OwnIndex s es x
  own_index e =
      let rest = or_else (index_row (slips_of s es) x) (first_row (text_rows t)) in
      let (tray, last) = both_silent (sided_tray_fault s es cs) rest (ap (λ (r : Refusal). r.number) (sym (e ∙ begin_is))) in
      let (index, text) = both_silent (index_row (slips_of s es) x) (first_row (text_rows t)) last in
      record {
        tray = tray_accepted s es cs tray;
        own = same-is x (index_of (slips_of s es)) (not-false (same x (index_of (slips_of s es))) (row_silent 22 _ 0 index));
      }

-- the two searches
module _ (s es x t : List ℕ) (O : OwnIndex s es x) where
  members : Members s es x
  members =
      record {
        accepted = O.tray;
        within = record {
          each = λ i m. let r = index_real (slips_of s es) i (rw O.own at m) in (r.0, omega (arith, r.1, slips_count s es));
        };
      }

  pub rank_lower : Rankable s es x t Lower
  rank_lower = record { members = members; falling = lower-falls (slips_of s es) t x (rw O.own (index_asc (slips_of s es))) }

  pub rank_upper : Rankable s es x t Upper
  rank_upper = record { members = members; falling = upper-falls (slips_of s es) t x (rw O.own (index_asc (slips_of s es))) }

  pub span_is : (a b : ℕ) → a ≡ rank_of (slips_of s es) x t Lower → b ≡ rank_of (slips_of s es) x t Upper →
      ◌≡◌ {A = Span} (record { start = a; end = b }) (span_for (slips_of s es) t)
  span_is a b p q =
      let ss = slips_of s es in
      let start : a ≡ start_at ss t = rw O.own at p in
      let end : b ≡ start_at ss t + length (stretch_for ss t) = (rw O.own at q) ∙ stretch_end_lem ss t (index_of ss) in
      ap₂ {C = Span} (λ m n. record { start = m; end = n }) start end

-- the stretch handed out
module _ (s es cs x t : List ℕ) where
  pub found_none : (y : Fault) → told y ≡ begin_fault s es cs x t → (p : ℕ × ℕ) → Beginning s es cs x t p [] (p.0, 0 + p.1) (told y).number (told y).detail
  found_none y e p =
      let (none, first) = nothing (told y).number (told_speaks y) (ap (λ (r : Refusal). r.number) e) in
      record { found_is = none; place_is = ap (λ (n : ℕ). (p.0, n * entry_bytes + p.1)) first; number_is = rw e; detail_is = rw e }
    where
      nothing : (n : ℕ) → 1 ≤ n → n ≡ (begin_fault s es cs x t).number → ([] ≡ found_of s es cs x t) × (0 ≡ found_start s es cs x t)
      nothing zero w h = absurd (omega arith)
      nothing (suc n) w h = (rw (sym h, found_of), rw (sym h, found_start))

  pub place_none : (y : Fault) → told y ≡ begin_fault s es cs x t
      → ◌≡◌ {A = Located} (record { number = (told y).number; detail = (told y).detail; start = 0; end = 0 }) (place_for s es cs x t)
  place_none y e = go (told y).number (told_speaks y) (ap (λ (r : Refusal). r.number) e)
    where
      go : (n : ℕ) → 1 ≤ n → n ≡ (begin_fault s es cs x t).number →
          ◌≡◌ {A = Located} (record { number = (told y).number; detail = (told y).detail; start = 0; end = 0 }) (place_for s es cs x t)
      go zero w h = absurd (omega arith)
      go (suc n) w h = rw (e, sym h, found_start, found_of)

  module _ (e : accepted ≡ begin_fault s es cs x t) (span : Span) (q : span ≡ span_for (slips_of s es) t) where
    O : OwnIndex s es x
    O = own_index s es cs x t e

    start_is : span.start ≡ start_at (slips_of s es) t
    start_is = rw q

    end_is : span.end ≡ start_at (slips_of s es) t + length (stretch_for (slips_of s es) t)
    end_is = rw q

    pub found_rises : span.start ≤ span.end
    found_rises = omega (arith, start_is, end_is)

    pub found_fits : span.end ≤ length x
    found_fits =
        let ss = slips_of s es in
        omega (arith, end_is, ap length O.own, stretch_end_lem ss t (index_of ss), those-length (λ i. before (slip ss i) t || begins t (slip ss i)) (index_of ss))

    count : length x ≤ 200
    count = omega (arith, ap length O.own, index_length (slips_of s es), slips_count s es, (accepted_tells s es O.tray).few)

    pub start_bytes : span.start * 2 < 2 ^ 64
    start_bytes = omega (arith, found_rises, found_fits, count)

    pub start_small : span.start < 2 ^ 32
    start_small = omega (arith, found_rises, found_fits, count)

    pub end_small : span.end < 2 ^ 32
    end_small = omega (arith, found_fits, count)

    silent : (begin_fault s es cs x t).number ≡ 0
    silent = ap (λ (r : Refusal). r.number) (sym e)

    pub found_good : (p : ℕ × ℕ) →
        Beginning s es cs x t p (take (span.end - span.start) (drop span.start x)) (p.0, span.start * 2 + p.1) 0 0
    found_good p =
        let ss = slips_of s es in
        let part : take (span.end - span.start) (drop span.start x) ≡ stretch_for ss t =
        let n : span.end - span.start ≡ length (stretch_for ss t) = omega (arith, start_is, end_is) in
        rw (n, start_is, O.own) (stretch_is ss t) in
        record {
          found_is = part ∙ rw (silent, found_of);
          place_is = ap (λ (n : ℕ). (p.0, n * entry_bytes + p.1)) (start_is ∙ rw (silent, found_start));
          number_is = sym silent;
          detail_is = ap (λ (r : Refusal). r.detail) e;
        }

    pub place_good : ◌≡◌ {A = Located} (record { number = 0; detail = 0; start = span.start; end = span.end }) (place_for s es cs x t)
    place_good =
        rw (q, silent, found_start, found_of) (ap told_detail (ap (λ (r : Refusal). r.detail) e))
      where
        told_detail : ℕ → Located
        told_detail d =
            let ss = slips_of s es in
            record { number = 0; detail = d; start = start_at ss t; end = start_at ss t + length (stretch_for ss t) }
