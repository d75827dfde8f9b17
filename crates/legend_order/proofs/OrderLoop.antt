-- One slip more in an order.
--   shared_some              == what a slip shares with the one before it
--   slip-added               == its piece is put, and so many letters are added
--   chain_more               == the chain with it: the chain before, and its piece
--   Arranging                == the pieces of the first m slips stand there, and their legend has n letters
use mathlib.Core.Path.{◌≡◌, refl, sym, ap, ◌∙◌}
use mathlib.Core.List.{List, [], ◌∷◌, ◌++◌, append-nil}
use Prim.Native.Nat.{ℕ, zero, suc, ◌+◌, ◌-◌, ◌*◌, ◌^◌, ◌≤◌, ◌<◌}
use native.Mathlib.Numerals.{sub-one, add-one}
use native.Mathlib.Omega.{arith}
use lib.ListN.{length, get_or, take, length-append, length-drop}
use lib.Seq.{take-suc}
use Rattle.words.specs.Lists.{last_or}
use Rattle.words.proofs.Overlaps.{overlap_for-fits}
use Rattle.words.proofs.Members.{each_append}
use Rattle.trays.specs.Limits.{max_slip}
use Rattle.trays.specs.Slips.{slips_of, slip}
use Rattle.trays.specs.Aside.{counted}
use Rattle.trays.proofs.Spans.{accepted_spanned}
use Rattle.greedy.specs.Legends.{Piece, piece, added, spelled}
use Rattle.greedy.specs.Orders.{weight, laid_after}
use Rattle.greedy.proofs.Chains.{last_append}
use Rattle.legend_chains.specs.Pieces.{pieces_in, PiecesBehind}
use Rattle.slips.specs.Pairs.{Overlap}
use Rattle.legend_order.specs.Arranging.{order_pieces, OrderAsks}
use Rattle.legend_order.specs.Steps.OneSlip.{prior_of, piece_of, SlipAsks, Shared, AddAsks, Added}

prior_is : (xs : List ℕ) (m : ℕ) → (m ≡ 0 → ⊥) → prior_of xs m ≡ get_or xs (m - 1) 0
prior_is xs zero z = absurd (z refl)
prior_is xs (suc m) z = rw sub-one

module _ (least : ℕ) (s es xs : List ℕ) (m : ℕ) (A : SlipAsks s es xs m) where
  abbrev ss : List (List ℕ)
  ss = slips_of s es

  module _ (z : m ≡ 0 → ⊥) (l r : ℕ) (el : l ≡ get_or xs (m - 1) 0) (er : r ≡ get_or xs m 0) where
    pub shared_some : (n : ℕ) → Overlap least s es l r n → Shared least s es xs m n
    shared_some n O =
        record {
          is = O.is ∙ rw (el, er, prior_is xs m z);
          within = omega (arith, O.is, overlap_for-fits (counted least) (slip ss l) (slip ss r), ap (λ i. length (slip ss i)) er);
          short = O.short;
        }

-- slip i is the m-th
module _ (least : ℕ) (s es xs : List ℕ) (m : ℕ) (ps : List ℕ) (A : AddAsks s es xs m ps) (i : ℕ) (e : i ≡ get_or xs m 0) where
  pub slip-some : 1 ≤ i
  slip-some = rw e (A.asks.real m (omega arith)).0

  -- it shares o letters, and x are its own
  module _ (o : ℕ) (x : List ℕ) (S : Shared least s es xs m o) (ex : x ≡ slip (slips_of s es) i) where
    pub slip-added : (ps' : List ℕ) → PiecesBehind (piece i o ∷ []) m ps ps' (m + 1) → Added least s es xs m ps ps' (length x - o)
    slip-added ps' P =
        let ss = slips_of s es in
        let r = A.asks.real m (omega arith) in
        let long : length x ≡ length (slip ss (get_or xs m 0)) = rw (ex, e) in
        record {
          put = rw (e, S.is) at P;
          letters = rw (long, S.is) (sym (length-drop (weight (counted least) ss (prior_of xs m) (get_or xs m 0)) (slip ss (get_or xs m 0))));
          short = omega (arith, (accepted_spanned s es A.asks.tray).short (get_or xs m 0) r.0 r.1);
        }

-- the chain with one slip more
laid_more : (w : ℕ → ℕ → ℕ) (p : ℕ) (xs : List ℕ) (x : ℕ) → laid_after w p (xs ++ (x ∷ [])) ≡ laid_after w p xs ++ (piece x (w (last_or p xs) x) ∷ [])
laid_more w p [] x = refl
laid_more w p (y ∷ xs) x = ap (λ (l : List Piece). piece y (w p y) ∷ l) (laid_more w y xs x)

last_prior : (xs : List ℕ) (m : ℕ) → m ≤ length xs → last_or 0 (take m xs) ≡ prior_of xs m
last_prior xs zero h = refl
last_prior xs (suc m) h = rw (take-suc xs m 0 h) (last_append 0 (take m xs) (get_or xs m 0) [])

pub record Arranging (least : ℕ) (s es xs : List ℕ) (k m : ℕ) (ps ps' : List ℕ) (n : ℕ) : Type 0 where
  pub upto : m ≤ k
  pub same : length ps' ≡ length ps
  pub pieces_are : pieces_in ps' 0 m ≡ order_pieces least s es (take m xs)
  pub need_is : n ≡ length (spelled (slips_of s es) (order_pieces least s es (take m xs)))
  pub short : n ≤ m * max_slip

module _ (least : ℕ) (s es xs : List ℕ) where
  chain_more : (m : ℕ) → m < length xs → order_pieces least s es (take (suc m) xs) ≡ order_pieces least s es (take m xs) ++ (piece_of least s es xs m ∷ [])
  chain_more m h =
      rw (take-suc xs m 0 h, laid_more (weight (counted least) (slips_of s es)) 0 (take m xs) (get_or xs m 0), last_prior xs m (omega arith))

  module _ (k : ℕ) (ps₀ : List ℕ) (A : OrderAsks s es xs k ps₀) where
    module _ (m : ℕ) (ps : List ℕ) (n : ℕ) (G : Arranging least s es xs k m ps₀ ps n) (h : m < k) (ps' : List ℕ) (r : ℕ)
        (D : Added least s es xs m ps ps' r) where
      pub need_fits : n + r < 2 ^ 64
      need_fits = omega (arith, G.short, D.short, A.few)

      pub arranging_more : (m' : ℕ) → m' ≡ m + 1 → Arranging least s es xs k m' ps₀ ps' (n + r)
      arranging_more m' e =
          let ss = slips_of s es in
          let up : m' ≡ suc m = e ∙ add-one m in
          let chain = chain_more m (omega (arith, A.listed)) in
          rw up (record {
            upto = omega arith;
            same = D.put.same ∙ G.same;
            pieces_are = (rw add-one at D.put.pieces_are) ∙ rw (G.pieces_are, chain);
            need_is = rw (chain, each_append (added ss) (order_pieces least s es (take m xs)) (piece_of least s es xs m ∷ []), length-append, append-nil)
                (omega (arith, G.need_is, D.letters));
            short = omega (arith, G.short, D.short);
          })
