-- What two reads gave, one after the other, is what stands at the front of the buffer.
use Rattle.std.proofs.Common.{◌≡◌, ℕ, ◌+◌, ◌-◌, ◌≤◌, List, ◌++◌, Option, take, slice_range, arith, sym, ap, ◌∙◌, subst}
use Rattle.std.specs.Io.KnownBytes.{Consumes}
use Rattle.std.proofs.KnownBytes.{Consumes-trans}
use lib.Seq.{take-add}

take_split : (d n : ℕ) (old new : List ℕ) → d ≤ n → take d new ≡ take d old → take d old ++ slice_range new d n ≡ take n new
take_split d n old new h front =
    let same : d + (n - d) ≡ n = omega arith in
    ap (λ l. l ++ slice_range new d n) (sym front) ∙ sym (take-add d (n - d) new) ∙ ap (λ m. take m new) same

pub consumes_more : (a b c : Option (List ℕ)) (old new : List ℕ) (d n : ℕ) → d ≤ n → take d new ≡ take d old → Consumes a b (take d old)
    → Consumes b c (slice_range new d n) → Consumes a c (take n new)
consumes_more a b c old new d n h front first second =
    subst (Consumes a c) (take_split d n old new h front) (Consumes-trans a b c _ _ first second)
