-- A lent buffer written part by part.
--   put_is     == bytes written after the first `at`
--   put_none   == nothing written
--   put_byte   == one byte
--   put_more, writes_more == what is written behind what is written
use mathlib.Core.Path.{◌≡◌, refl, sym, ◌∙◌}
use mathlib.Core.List.{List, [], ◌∷◌, ◌++◌, append_assoc}
use Prim.Native.Nat.{ℕ, ◌+◌, ◌≤◌, ◌<◌}
use native.Mathlib.Omega.{arith}
use lib.ListN.{length, take, drop, set, length-append, length-drop, take-append-drop}
use lib.Seq.{length-take-le, take_at, drop_at, drop-drop, drop-cons, set_split}
use Rattle.sheet_columns.specs.declared.Sheet.{Sheet}
use Rattle.sheet_columns.specs.Steps.Wrote.{written_behind, Wrote, Writes}

behind-length : (at : ℕ) (ys old : List ℕ) → at + length ys ≤ length old → length (written_behind at ys old) ≡ length old
behind-length at ys old h =
    rw (length-append, length-take-le at old (omega arith), length-append, length-drop, length-drop) (omega arith)

pub put_is : (at n : ℕ) (ys old new : List ℕ) → new ≡ written_behind at ys old → length ys ≡ n → at + n ≤ length old → Wrote at n ys old new (at + n)
put_is at n ys old new e m h = record { is = e; many = m; room = h; size = rw e (behind-length at ys old (omega arith)); next = refl }

pub put_none : (at : ℕ) (old : List ℕ) → at ≤ length old → Wrote at 0 [] old old at
put_none at old h =
    record { is = sym (take-append-drop at old); many = refl; room = omega arith; size = refl; next = omega arith }

pub put_byte : (at : ℕ) (x : ℕ) (old : List ℕ) → at + 1 ≤ length old → Wrote at 1 (x ∷ []) old (set old at x) (at + 1)
put_byte at x old h =
    put_is at 1 (x ∷ []) old (set old at x)
    (let l : at < length old = omega arith in
    rw (set_split old at x l, drop-cons old at 0 l)) refl h

pub put_more : {at m n r q : ℕ} {xs ys a b c : List ℕ} → Wrote at m xs a b r → Wrote r n ys b c q → Wrote at (m + n) (xs ++ ys) a c q
put_more {at} {m} {n} {r} {q} {xs} {ys} {a} {b} {c} p o =
    let k : length (take at a) ≡ at = length-take-le at a (omega arith) in
    let l : length (take at a ++ xs) ≡ r = rw (length-append, k) (omega arith) in
    let e : b ≡ (take at a ++ xs) ++ drop (length xs) (drop at a) = p.is ∙ sym (append_assoc (take at a) xs _) in
    record {
      is =
          o.is
          ∙ rw (
            e,
            take_at (take at a ++ xs) (drop (length xs) (drop at a)) r l,
            drop_at (take at a ++ xs) (drop (length xs) (drop at a)) r l,
            length-append,
            drop-drop (length ys) (length xs) (drop at a),
          )
          (simp append_assoc);
      many = rw length-append (omega arith);
      room = omega arith;
      size = o.size ∙ p.size;
      next = omega arith;
    }

pub writes_more : {m n : ℕ} {xs ys : List ℕ} {a b c : Sheet} → Writes m xs a b → Writes n ys b c → Writes (m + n) (xs ++ ys) a c
writes_more p o = record { wrote = put_more p.wrote o.wrote; same_buffer = o.same_buffer ∙ p.same_buffer }
