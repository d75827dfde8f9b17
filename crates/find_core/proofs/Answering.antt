-- The answer, and what is stored, by whether the call is turned back.
--   answer-..       == the two cases of the answer
--   core-..         == a call that is turned back; the steps before and behind the rows of place B
--   checked_clear, checked_says == the lent letters and ends are those of the tray that the check answers, on the way in and out
--   none_stored, all_stored, answered_after == behind the last store
use mathlib.Core.Path.{◌≡◌, refl, sym, ap, ◌∙◌}
use mathlib.Core.List.{List}
use Prim.Native.Nat.{ℕ, zero, suc, ◌≤◌}
use native.Mathlib.Omega.{arith}
use lib.ListN.{length}
use Rattle.trays.specs.declared.Refusal.{Refusal}
use Rattle.trays.specs.Slips.{slips_of}
use Rattle.trays.specs.Faults.{accepted}
use Rattle.trays.specs.declared.fault.Fault.{Fault}
use Rattle.trays.specs.Told.{told}
use Rattle.std.specs.Borrow.{Bor}
use Rattle.trays.specs.declared.tray.Tray.{Tray}
use Rattle.trays.proofs.Told.{told_speaks, at_tray, of_tray}
use Rattle.matching.specs.Occurrences.{occurrences}
use Rattle.answers.specs.WorkArea.{WorkKept}
use Rattle.answers.specs.declared.Search.{Search}
use Rattle.answers.specs.Finding.{find_before, find_fault, search_of, Answered}
use Rattle.answers.specs.Finding.{search_outcome, search_refused}
use Rattle.find_core.specs.Steps.Searching.{Clear, Left, CoreSays}
use Rattle.find_core.proofs.Checks.{fault_before}

-- the two cases of the answer
module _ (s es t : List ℕ) (w k : ℕ) where
  pub answer_found : (find_fault s es t w k).number ≡ 0 → search_of s es t w k ≡ search_outcome (slips_of s es) t
  unfolding search_of
  answer_found z = ap {B = Search} (λ (m : ℕ). elim m [ zero ↦ search_outcome (slips_of s es) t | suc n ↦ search_refused (find_fault s es t w k) ]) z

  pub answer_refused : 1 ≤ (find_fault s es t w k).number → search_of s es t w k ≡ search_refused (find_fault s es t w k)
  unfolding search_of
  answer_refused h = go (find_fault s es t w k).number refl
    where
      go : (n : ℕ) → (find_fault s es t w k).number ≡ n → search_of s es t w k ≡ search_refused (find_fault s es t w k)
      go zero e = absurd (omega arith)
      go (suc n) e = ap {B = Search} (λ (m : ℕ). elim m [ zero ↦ search_outcome (slips_of s es) t | suc i ↦ search_refused (find_fault s es t w k) ]) e

-- a call that is turned back, before anything is stored
pub core_refused : {s es t w w' : List ℕ} {room : ℕ} (f : Refusal) → 1 ≤ f.number → find_fault s es t (length w) room ≡ f
    → WorkKept (find_before s es t (length w)) w w' → CoreSays s es t w w' room (search_refused f)
core_refused {s} {es} {t} {w} {w'} {room} f h e k =
    let l : 1 ≤ (find_fault s es t (length w) room).number = rw e h in
    record {
      answered = record { answer-is = sym (answer_refused s es t (length w) room l ∙ ap search_refused e); few_moves = omega arith; work_is = k };
      fits = omega arith;
      enough = record { upto = omega arith; scan = λ n. absurd (omega arith) };
    }

-- where a row before place C speaks, it is the answer
pub core_before : (s es t w : List ℕ) (room : ℕ) (x : Fault) → told x ≡ find_before s es t (length w) → CoreSays s es t w w room (search_refused (told x))
core_before s es t w room x e =
    let some : 1 ≤ (find_before s es t (length w)).number = rw (← e) (told_speaks x) in
    core_refused (told x) (told_speaks x) (fault_before s es t (length w) room some ∙ sym e) (record { same = refl; untouched = λ h. refl })

pub core_clear : (s es t w : List ℕ) → accepted ≡ find_before s es t (length w) → Clear s es t w
core_clear s es t w e = record { silent = ap (λ (f : Refusal). f.number) (sym e) }

-- behind the last store
module _ {s es t w w₁ : List ℕ} {room : ℕ} {r : Search} (c : CoreSays s es t w w₁ room r) where
  abbrev fault : Refusal
  fault = find_fault s es t (length w) room

  pub none_stored : 1 ≤ fault.number → r.count ≡ 0
  none_stored h = ap (λ (q : Search). q.count) (c.answered.answer-is ∙ answer_refused s es t (length w) room h)

  pub all_stored : fault.number ≡ 0 → r.count ≡ length (occurrences (slips_of s es) t)
  all_stored z = ap (λ (q : Search). q.count) (c.answered.answer-is ∙ answer_found s es t (length w) room z)

  pub answered_after : {w' : List ℕ} → Left s es t r.count w₁ w' → Answered s es t w w' room r
  answered_after l =
      record {
        answer-is = c.answered.answer-is;
        few_moves = c.answered.few_moves;
        work_is = record {
          same = l.same ∙ c.answered.work_is.same;
          untouched = λ h. l.none (none_stored (rw (fault_before s es t (length w) room h) h)) ∙ c.answered.work_is.untouched h;
        };
      }

module _ (s es : Bor (List ℕ)) (x : Tray) (e : (x.letters ≡ s) × (x.ends ≡ es)) (t w : List ℕ) where
  pub checked_clear : accepted ≡ find_before s.now es.now t (length w) → Clear x.letters.now x.ends.now t w
  checked_clear f = at_tray (λ (a b : List ℕ). Clear a b t w) s es x e (core_clear _ _ _ _ f)

  pub checked_says : (w' : List ℕ) (room : ℕ) (r : Search) → CoreSays x.letters.now x.ends.now t w w' room r → CoreSays s.now es.now t w w' room r
  checked_says w' room r = of_tray (λ (a b : List ℕ). CoreSays a b t w w' room r) s es x e
