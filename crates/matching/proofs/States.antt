-- States of the prefix automaton, for patterns ps.
--   Node ps x    == x is the empty string or begins a pattern: it may be a state
--   fail ps x    == the longest proper ending of x that is a node, for x with a letter
--   after        == the moves of the rest of a text, from within a step: drops were made, the letter is being read
-- The longest ending of t that begins a pattern has every node among t's endings for an ending, and is so determined. Hence a step from a
-- state, however many drops it makes, comes to the longest ending of the state and the letter. A drop shortens the state by a letter at
-- least, and a letter read lengthens it by one at most, so that drops and letters are together at most twice the letters.
use mathlib.Core.Path.{◌≡◌, refl, sym, ap, ◌∙◌}
use mathlib.Core.Bool.{true, false}
use mathlib.Core.Logic.{◌⊎◌, inl, inr}
use mathlib.Core.List.{List, [], ◌∷◌, ◌++◌, append-nil, append_assoc}
use Prim.Native.Nat.{ℕ, zero, suc, ◌+◌, ◌*◌, ◌≤◌, ◌<◌}
use native.Mathlib.Omega.{arith}
use lib.ListN.{length, get_or, take, drop, length-append}
use lib.Seq.{take-suc, drop-cons}
use Rattle.words.specs.Lists.{tail_of}
use Rattle.words.proofs.Tests.{by_test, not_both}
use Rattle.words.proofs.Strings.{begins-here}
use Rattle.trays.specs.Slips.{slips_of}
use Rattle.matching.specs.Moves.{begins_some, longest_ending, stepped, step_from, step, state_from, moves_from, LongestEndings, FewMoves}
use Rattle.matching.proofs.Endings.{End, whole, below, by_end, nil_end, end_trans, end_length, end_both, end_append, end_letter, begins-some}

abbrev pub Node : List (List ℕ) → List ℕ → Type 0
Node ps x = (x ≡ []) ⊎ (begins_some x ps ≡ true)

abbrev pub fail : List (List ℕ) → List ℕ → List ℕ
fail ps x = longest_ending (tail_of x) ps

module _ (ps : List (List ℕ)) where
  pub longest_whole : (t : List ℕ) → begins_some t ps ≡ true → longest_ending t ps ≡ t
  longest_whole [] h = refl
  longest_whole (a ∷ t) h = rw (h, longest_ending)

  pub longest_skip : (a : ℕ) (t : List ℕ) → begins_some (a ∷ t) ps ≡ false → longest_ending (a ∷ t) ps ≡ longest_ending t ps
  longest_skip a t h = rw (h, longest_ending)

  pub longest_end : (t : List ℕ) → End (longest_ending t ps) t
  longest_end [] = whole refl
  longest_end (a ∷ t) =
      by_test (begins_some (a ∷ t) ps)
      (λ e. whole (longest_whole (a ∷ t) e))
      (λ e. rw (longest_skip a t e) (below (longest_end t)))

  pub longest_length : (t : List ℕ) → length (longest_ending t ps) ≤ length t
  longest_length t = end_length (longest_end t)

  pub longest_node : (t : List ℕ) → Node ps (longest_ending t ps)
  longest_node [] = inl refl
  longest_node (a ∷ t) =
      by_test (begins_some (a ∷ t) ps)
      (λ e. inr (rw (longest_whole (a ∷ t) e) e))
      (λ e. rw (longest_skip a t e) (longest_node t))

  pub longest_most : (z t : List ℕ) → End z t → Node ps z → End z (longest_ending t ps)
  longest_most z t e (inl n) = rw n (nil_end _)
  longest_most z [] e (inr n) = e
  longest_most z (a ∷ t) e (inr n) =
      by_test (begins_some (a ∷ t) ps)
      (λ h. rw (longest_whole (a ∷ t) h) e)
      (λ h. rw (longest_skip a t h) (by_end e (λ w. absurd (not_both (begins_some z ps) n (rw w h))) (λ r. longest_most z t r (inr n))))

  -- a text may be cut to an ending that keeps every ending which begins a pattern
  pub longest_cut : (u t : List ℕ) → End u t → ((z : List ℕ) → End z t → begins_some z ps ≡ true → End z u)
      → longest_ending t ps ≡ longest_ending u ps
  longest_cut u t e keeps =
      end_both
      (longest_most (longest_ending t ps) u (elim (longest_node t) [ inl n ↦ rw n (nil_end u) | inr n ↦ keeps _ (longest_end t) n ]) (longest_node t))
      (longest_most (longest_ending u ps) t (end_trans (longest_end u) e) (longest_node u))

  pub longest_letter : (t : List ℕ) (b : ℕ) → longest_ending (t ++ (b ∷ [])) ps ≡ longest_ending (longest_ending t ps ++ (b ∷ [])) ps
  longest_letter t b =
      longest_cut (longest_ending t ps ++ (b ∷ [])) (t ++ (b ∷ [])) (end_append (b ∷ []) (longest_end t))
      (λ z e n. elim (end_letter t b e) [
        | inl h ↦ rw h (nil_end _)
        | inr k ↦ rw k.2
            (end_append (b ∷ []) (longest_most k.0 t k.1 (inr (begins-some k.0 z ps (rw k.2 (begins-here k.0 (b ∷ []))) n))))
      ])

  pub longest_drop : (a : ℕ) (s : List ℕ) (b : ℕ) → begins_some (a ∷ (s ++ (b ∷ []))) ps ≡ false
      → longest_ending (a ∷ (s ++ (b ∷ []))) ps ≡ longest_ending (longest_ending s ps ++ (b ∷ [])) ps
  longest_drop a s b h = longest_skip a (s ++ (b ∷ [])) h ∙ longest_letter s b

  -- one turn of a step
  pub step_hit : (f : ℕ) (s : List ℕ) (b n : ℕ) → begins_some (s ++ (b ∷ [])) ps ≡ true → step_from (suc f) ps s b n ≡ stepped (s ++ (b ∷ [])) n
  step_hit f s b n h = rw (h, step_from)

  pub step-stop : (f b n : ℕ) → begins_some (b ∷ []) ps ≡ false → step_from (suc f) ps [] b n ≡ stepped [] n
  step-stop f b n h = rw (h, step_from)

  pub step-drop : (f a : ℕ) (s : List ℕ) (b n : ℕ) → begins_some (a ∷ (s ++ (b ∷ []))) ps ≡ false
      → step_from (suc f) ps (a ∷ s) b n ≡ step_from f ps (longest_ending s ps) b (suc n)
  step-drop f a s b n h = rw (h, step_from)

  -- a step comes to the longest ending, from any state
  pub step_state : (f : ℕ) (s : List ℕ) (b n : ℕ) → length s < f → (step_from f ps s b n).state ≡ longest_ending (s ++ (b ∷ [])) ps
  step_state zero s b n h = absurd (omega arith)
  step_state (suc f) [] b n h =
      by_test (begins_some (b ∷ []) ps)
      (λ e. rw (step_hit f [] b n e, longest_whole (b ∷ []) e))
      (λ e. rw (step-stop f b n e, longest_skip b [] e))
  step_state (suc f) (a ∷ s) b n h =
      by_test (begins_some (a ∷ (s ++ (b ∷ []))) ps)
      (λ e. rw (step_hit f (a ∷ s) b n e, longest_whole (a ∷ (s ++ (b ∷ []))) e))
      (λ e. rw (step-drop f a s b n e, longest_drop a s b e) (step_state f (longest_ending s ps) b (suc n) (omega (arith, longest_length s))))

  pub step_drops : (f : ℕ) (s : List ℕ) (b n : ℕ) → (step_from f ps s b n).drops + length (step_from f ps s b n).state ≤ n + suc (length s)
  step_drops zero s b n = omega arith
  step_drops (suc f) [] b n =
      by_test (begins_some (b ∷ []) ps) (λ e. rw (step_hit f [] b n e) (omega arith)) (λ e. rw (step-stop f b n e) (omega arith))
  step_drops (suc f) (a ∷ s) b n =
      by_test (begins_some (a ∷ (s ++ (b ∷ []))) ps)
      (λ e. rw (step_hit f (a ∷ s) b n e) (omega (arith, length-append s (b ∷ []))))
      (λ e. rw (step-drop f a s b n e) (omega (arith, step_drops f (longest_ending s ps) b (suc n), longest_length s)))

  -- as many turns as the state has letters, and one, are enough
  pub step_enough : (f g : ℕ) (s : List ℕ) (b n : ℕ) → length s < f → length s < g → step_from f ps s b n ≡ step_from g ps s b n
  step_enough zero g s b n h k = absurd (omega arith)
  step_enough (suc f) zero s b n h k = absurd (omega arith)
  step_enough (suc f) (suc g) [] b n h k =
      by_test (begins_some (b ∷ []) ps)
      (λ e. step_hit f [] b n e ∙ sym (step_hit g [] b n e))
      (λ e. step-stop f b n e ∙ sym (step-stop g b n e))
  step_enough (suc f) (suc g) (a ∷ s) b n h k =
      by_test (begins_some (a ∷ (s ++ (b ∷ []))) ps)
      (λ e. step_hit f (a ∷ s) b n e ∙ sym (step_hit g (a ∷ s) b n e))
      (λ e. rw (step-drop f a s b n e, step-drop g a s b n e)
      (step_enough f g (longest_ending s ps) b (suc n) (omega (arith, longest_length s)) (omega (arith, longest_length s))))

  pub step_more : (f : ℕ) (s : List ℕ) (b m n : ℕ)
      → step_from f ps s b (m + n) ≡ stepped (step_from f ps s b n).state (m + (step_from f ps s b n).drops)
  step_more zero s b m n = refl
  step_more (suc f) [] b m n =
      by_test (begins_some (b ∷ []) ps)
      (λ e. rw (step_hit f [] b n e, step_hit f [] b (m + n) e))
      (λ e. rw (step-stop f b n e, step-stop f b (m + n) e))
  step_more (suc f) (a ∷ s) b m n =
      by_test (begins_some (a ∷ (s ++ (b ∷ []))) ps)
      (λ e. rw (step_hit f (a ∷ s) b n e, step_hit f (a ∷ s) b (m + n) e))
      (λ e. let h : suc (m + n) ≡ m + suc n = omega arith in
      rw (step-drop f a s b n e, step-drop f a s b (m + n) e, h) (step_more f (longest_ending s ps) b m (suc n)))

  -- the failure of a longer prefix: one step from the failure of the shorter one
  pub fail_letter : (a : ℕ) (w : List ℕ) (c : ℕ) → fail ps ((a ∷ w) ++ (c ∷ [])) ≡ (step ps (fail ps (a ∷ w)) c).state
  fail_letter a w c = longest_letter w c ∙ sym (step_state (suc (length (longest_ending w ps))) (longest_ending w ps) c 0 (omega arith))

  -- the state after one more letter
  pub longest_next : (t : List ℕ) (e : ℕ) → e < length t
      → longest_ending (take (suc e) t) ps ≡ (step ps (longest_ending (take e t) ps) (get_or t e 0)).state
  longest_next t e h =
      rw (take-suc t e 0 h, longest_letter (take e t) (get_or t e 0))
      (sym (step_state (suc (length (longest_ending (take e t) ps))) (longest_ending (take e t) ps) (get_or t e 0) 0 (omega arith)))

  state_from_lem : (u t : List ℕ) → state_from ps (longest_ending u ps) t ≡ longest_ending (u ++ t) ps
  state_from_lem u [] = rw append-nil
  state_from_lem u (b ∷ t) =
      let v = longest_ending u ps in
      let e : (step ps v b).state ≡ longest_ending (u ++ (b ∷ [])) ps = step_state (suc (length v)) v b 0 (omega arith) ∙ sym (longest_letter u b) in
      rw e (state_from_lem (u ++ (b ∷ [])) t ∙ ap (λ z. longest_ending z ps) (append_assoc u (b ∷ []) t))

  pub few_from : (s t : List ℕ) (n : ℕ) → moves_from ps s t n ≤ n + length s + 2 * length t
  few_from s [] n = omega arith
  few_from s (b ∷ t) n =
      let x = step ps s b in
      omega (arith, step_drops (suc (length s)) s b 0, few_from x.state t (n + suc x.drops))

  abbrev pub after : ℕ → List ℕ → ℕ → List ℕ → ℕ → ℕ
  after f s b t n = let x = step_from f ps s b 0 in moves_from ps x.state t (n + suc x.drops)

  pub moves_read : (s t : List ℕ) (e n : ℕ) → e < length t
      → moves_from ps s (drop e t) n ≡ after (suc (length s)) s (get_or t e 0) (drop (suc e) t) n
  moves_read s t e n h = rw (drop-cons t e 0 h)

  pub moves_hit : (f : ℕ) (s : List ℕ) (b : ℕ) (t : List ℕ) (n : ℕ) → begins_some (s ++ (b ∷ [])) ps ≡ true
      → after (suc f) s b t n ≡ moves_from ps (s ++ (b ∷ [])) t (n + 1)
  moves_hit f s b t n h = rw (step_hit f s b 0 h)

  pub moves-stop : (f b : ℕ) (t : List ℕ) (n : ℕ) → begins_some (b ∷ []) ps ≡ false → after (suc f) [] b t n ≡ moves_from ps [] t (n + 1)
  moves-stop f b t n h = rw (step-stop f b 0 h)

  pub moves-drop : (f a : ℕ) (s : List ℕ) (b : ℕ) (t : List ℕ) (n : ℕ) → length s < f → begins_some (a ∷ (s ++ (b ∷ []))) ps ≡ false
      → after (suc f) (a ∷ s) b t n ≡ after (suc (length (longest_ending s ps))) (longest_ending s ps) b t (suc n)
  moves-drop f a s b t n h e =
      let u = longest_ending s ps in
      let k : length u < f = omega (arith, longest_length s) in
      rw (step-drop f a s b 0 e, step_more f u b 1 0, step_enough f (suc (length u)) u b 0 k (omega arith))
      (ap (moves_from ps (step ps u b).state t) (omega arith))

pub longest_endings : LongestEndings
longest_endings s es t h = state_from_lem (slips_of s es) [] t

pub few_moves : FewMoves
few_moves s es t h = omega (arith, few_from (slips_of s es) [] t 0)
