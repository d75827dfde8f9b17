-- Slips set aside, by node numbers.
--   Lasts ss M ns last      == last i is the node of the whole slip i, for each member i
--   Marked                  == the slip's node has a child, is a failure, or is the node of a lower member
-- What `AsideNodes` says of strings, said of numbers: strings are equal exactly if their numbers are.
use mathlib.Core.Path.{◌≡◌, refl, sym, ap, ◌∙◌}
use mathlib.Core.Bool.{true}
use mathlib.Core.Logic.{◌⊎◌, inl, inr}
use mathlib.Core.List.{List, [], ◌∷◌, ◌++◌, map}
use Prim.Native.Nat.{ℕ, ◌≤◌, ◌<◌}
use native.Mathlib.Omega.{arith}
use lib.ListN.{length}
use Rattle.words.proofs.Members.{In}
use Rattle.trays.specs.Slips.{slip}
use Rattle.trays.specs.Aside.{is_aside}
use Rattle.matching.specs.Moves.{begins_some}
use Rattle.matching.proofs.States.{fail}
use Rattle.matching.proofs.AsideNodes.{Inner, Earlier, aside_inner, inner_aside}
use Rattle.matching.proofs.Numbered.{str, Num, Numbered, Tree, Fails, str_one, number, some_child, child_is}

pub record Lasts (ss : List (List ℕ)) (M : List ℕ) (ns : List (List ℕ)) (last : ℕ → ℕ) : Type 0 where
  pub last_in : (i : ℕ) → In i M → last i < length ns
  pub last_is : (i : ℕ) → In i M → str ns (last i) ≡ slip ss i

abbrev pub Marked : List ℕ → List (List ℕ) → (ℕ → ℕ) → (ℕ → ℕ) → (ℕ → ℕ) → ℕ → Type 0
Marked M ns par failure last i =
    (((u : ℕ) × Num ns u × (par u ≡ last i)) ⊎ ((u : ℕ) × Num ns u × (failure u ≡ last i))) ⊎ ((k : ℕ) × In k M × (k < i) × (last k ≡ last i))

inner_fail : (ps : List (List ℕ)) (w x : List ℕ) → 1 ≤ length w → begins_some w ps ≡ true → fail ps w ≡ x → Inner ps x
inner_fail ps [] x h b e = absurd (omega arith)
inner_fail ps (a ∷ t) x h b e = inr (a, t, b, e)

module _
    (ss : List (List ℕ)) (M : List ℕ) (ns : List (List ℕ)) (N : Numbered (map (slip ss) M) ns) (par letter failure last : ℕ → ℕ)
    (T : Tree ns par letter) (F : Fails (map (slip ss) M) ns failure) (L : Lasts ss M ns last) (i : ℕ) (m : In i M) where
  abbrev ps : List (List ℕ)
  ps = map (slip ss) M

  inner_marked : Inner ps (slip ss i) ⊎ Earlier ss M i → Marked M ns par failure last i
  inner_marked (inl (inl r)) =
      let (u, n, p, l) = some_child ps ns N par letter T (last i) r.0 (L.last_in i m) (rw (L.last_is i m) r.1) in
      inl (inl (u, n, p))
  inner_marked (inl (inr r)) =
      let (a, t, b, e) = r in
      let (u, n, w) = number ps ns N (a ∷ t) (omega arith) b in
      let same : str ns (failure u) ≡ str ns (last i) = F.fail_is u n ∙ ap (fail ps) w ∙ e ∙ sym (L.last_is i m) in
      inl (inr (u, n, str_one ps ns N (failure u) (last i) (F.fail_in u n) (L.last_in i m) same))
  inner_marked (inr r) =
      let (k, j, l, e) = r in
      inr (k, j, l, str_one ps ns N (last k) (last i) (L.last_in k j) (L.last_in i m) (L.last_is k j ∙ sym e ∙ sym (L.last_is i m)))

  marked_inner : Marked M ns par failure last i → Inner ps (slip ss i) ⊎ Earlier ss M i
  marked_inner (inl (inl r)) =
      let (u, n, p) = r in
      let c = child_is ps ns N par letter T (last i) (letter u) u n p refl in
      let e : str ns u ≡ slip ss i ++ (letter u ∷ []) = c ∙ ap (λ x. x ++ (letter u ∷ [])) (L.last_is i m) in
      inl (inl (letter u, rw e at (N.node u n).1))
  marked_inner (inl (inr r)) =
      let (u, n, p) = r in
      let (h, b) = N.node u n in
      inl (inner_fail ps (str ns u) (slip ss i) h b (sym (F.fail_is u n) ∙ ap (str ns) p ∙ L.last_is i m))
  marked_inner (inr r) =
      let (k, j, l, e) = r in
      inr (k, j, l, sym (L.last_is i m) ∙ sym (ap (str ns) e) ∙ L.last_is k j)

  pub aside_marked : is_aside ss M i ≡ true → Marked M ns par failure last i
  aside_marked h = inner_marked (aside_inner ss i M m h)

  pub marked_aside : Marked M ns par failure last i → is_aside ss M i ≡ true
  marked_aside h = inner_aside ss i M (marked_inner h)
