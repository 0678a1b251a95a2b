-- THEOREM 3: THE LIFTED NODES OF `fld` AND `fstp` AT 80 EVALUATE TO WHAT `image` READS AND WRITES.
-- Whatever was lifted before, from the fresh state over any two lists, and for every column of given values that fit: a load of 80 bits that answers 0 leaves on top
-- the pattern that `image` reads from the given image, or the given free pattern, and a store of 80 bits that answers 0 stores the image that `image` writes
-- of the old top. `Loads` and `Stores` say it in Image/Lifts, and `fld-80-bytes` and `fstp-80-bytes` there in bytes; `fld-80-is` and `fstp-80-is` in Spelled are of the names
use Rattle.std.specs.Prelude.{◌≡◌, refl, Bool, false, List, [], ◌∷◌, ◌++◌, ℕ, ◌*◌, ◌^◌, ◌≤◌, ◌<◌}
use Rattle.std.proofs.Common.{sym, ap, ◌∙◌, arith}
use Rattle.std.proofs.Math.Path.{subst}
use Rattle.std.proofs.Math.ListN.{length, get_or, length-append}
use Rattle.lists.specs.Rows.{wrote}
use Rattle.lists.specs.Steps.{Built, ◌▸◌}
use Rattle.lists.specs.Stack.{fresh, havoc_of, read_of}
use Rattle.words.specs.Tests.{and_r}
use Rattle.forms.specs.Classify.{classify_of}
use Rattle.std.specs.Prelude.{Some, None, Ok, Err}
use Rattle.forms.specs.declared.BadInstruction.TheVariants as bad
use Rattle.forms.specs.declared.Form.TheVariants.{PushMemory, StoreMemory}
use Rattle.forms.specs.declared.Instruction.{Instruction}
use Rattle.forms.specs.declared.MemFormat.TheVariants.{Float}
use Rattle.forms.specs.declared.RoundingMode.{RoundingMode}
use Rattle.memory.specs.Memory.{top_of, x87_memory_read_of}
use Rattle.moves.specs.Pushes.{push_memory_of}
use Rattle.lifter.specs.Apply.{apply_x87_of}
use Rattle.lifter.specs.Lift.{lift_of}
use Rattle.memory.specs.Site.{site_of}
use Rattle.sorts.specs.Sorts.{sort_row}
use Rattle.sorts.specs.Lists.{sorts}
use Rattle.sorts.specs.Laws.{Passes, passed-room, agree}
use Rattle.evaluator.specs.Value.{width_of}
use Rattle.evaluator.specs.Lists.{pair_at, vals}
use Rattle.evaluator.specs.Within.{GivenFits}
use Rattle.evaluator.specs.Laws.{all_fit}
use Rattle.agreement.specs.Runs.{Held, begun, stepped, called, ran, ran_on}
use Rattle.agreement.specs.Fits.{form_fits, memory_fits, is_memory, first_of, no_register}
use Rattle.agreement.specs.Fits.Classified.{classify-fits}
use Rattle.agreement.proofs.Tracks.Sorts.{run-tracked}
use Rattle.agreement.specs.Sorted.{Sound}
use Rattle.agreement.proofs.Sorted.{sorted}
use Rattle.agreement.proofs.InWords.{InWords, front}
use Rattle.agreement.specs.Values.{sort_at, sort-at, given}
use Rattle.agreement.proofs.Applied.{applied}
use Rattle.agreement.proofs.Image.Steps.{load_is, write-some, top-case}
use Rattle.agreement.specs.Image.Lifts.{Loads, Stores}
use Rattle.agreement.proofs.Image.Lifts.{stored, store_is, fld-80, fstp-80}
pub mod Rows
pub mod Steps
pub mod Lifts

-- A store to memory has no register for its operand
stores-to-memory : (i : Instruction) (w : ℕ) (pop : Bool) (r : RoundingMode) → classify_of i ≡ Ok (Some (StoreMemory w Float pop r)) → (site_of i).register ≡ false
unfolding form_fits
stores-to-memory i w pop r e = no_register (first_of i) w (and_r (memory_fits w Float) (is_memory (first_of i) w) (classify-fits i (StoreMemory w Float pop r) e))

module _ (nodes statements : List ℕ) (is : List Instruction) (i : Instruction) where
  -- The run, and the run with one call more
  abbrev before : Held
  before = ran (begun nodes statements) is

  abbrev lift : Built
  lift = lift_of before.st i before.nodes before.statements

  abbrev words : List ℕ
  words = wrote before.nodes lift.ns

  -- The check passes what the call leaves
  passes : Passes words lift.st.nodes
  unfolding called stepped
  passes = (passed-room _ _ (subst Sound (ran_on (begun nodes statements) is i) (sorted nodes statements (is ++ (i ∷ [])))).passes).passes

  eight : length before.st.slots ≡ 8
  eight = (run-tracked nodes statements is).tracks.placed.eight

  -- A node from before the call has the sort that it had
  kept-sort : ((j : ℕ) → j < 4 * before.st.nodes → get_or words j 0 ≡ get_or before.nodes j 0) → (m v : ℕ) → v < before.st.nodes → before.st.nodes ≤ m
      → get_or (sorts words m) v 0 ≡ get_or (sorts before.nodes before.st.nodes) v 0
  kept-sort keeps m v h k =
      sort-at words v m (omega arith) ∙ sym (sort-at words v before.st.nodes h)
      ∙ ap (λ (l : List ℕ). get_or l v 0) (agree words before.nodes before.st.nodes keeps)

  module _ (g : List ℕ) (answers : lift.val ≡ 0) (fits : GivenFits words g lift.st.nodes) where
    -- The load
    pub fld-80-run : classify_of i ≡ Ok (Some (PushMemory 80 Float)) → Loads before.st i lift words g
    unfolding apply_x87_of push_memory_of ◌▸◌ sort_at
    fld-80-run c =
        let n = before.st.nodes in
        let load = x87_memory_read_of before.st (site_of i) 80 Float in
        let a = applied before.st i before.nodes before.statements (PushMemory 80 Float) c answers in
        let l = load_is before.st i words (front words load.ns _ (subst (λ (d : Built). InWords words d.ns) a.same a.stands)) in
        let e = simp length-append at (ap (λ (d : Built). length d.ns) a.same) in
        let more : n < lift.st.nodes = omega (arith, a.counts, e, l.some) in
        let k : pair_at g n < 2 ^ 80 = subst (λ (σ : ℕ). pair_at g n < 2 ^ width_of σ) l.sort (fits n more l.taken) in
        fld-80 before.st i before.nodes before.statements g c answers k

    -- The store
    pub fstp-80-run : (pop : Bool) (r : RoundingMode) → classify_of i ≡ Ok (Some (StoreMemory 80 Float pop r)) → Stores before.st i lift words g
    unfolding apply_x87_of ◌▸◌ sort_row
    fstp-80-run pop r c =
        let n = before.st.nodes in
        let m = lift.st.nodes in
        let t = (read_of before.st 0).val in
        let a = applied before.st i before.nodes before.statements (StoreMemory 80 Float pop r) c answers in
        let free = stores-to-memory i 80 pop r c in
        let e : lift ≡ stored before.st i pop = a.same ∙ store_is before.st i pop r free in
        let rows = front words (top_of before.st pop).ns _ (subst (λ (d : Built). InWords words d.ns) e a.stands) in
        let k = simp length-append at (ap (λ (d : Built). length d.ns) e) in
        let more : n < m = omega (arith, a.counts, k, write-some (top_of before.st pop).st (top_of before.st pop).val) in
        let sort : get_or (sorts words m) t 0 ≡ 79 =
        top-case before.st eight words (λ (v : ℕ). get_or (sorts words m) v 0 ≡ 79)
        (λ d. kept-sort a.keeps m _ (a.top d) (omega (arith, a.counts)) ∙ (sorted nodes statements is).places 0 d)
        (λ q. sort-at words n m more ∙ (given {g = []} q refl).sort) pop rows in
        let small : get_or (vals words g m) t 0 < 2 ^ 79 = subst (λ (σ : ℕ). get_or (vals words g m) t 0 < 2 ^ width_of σ) sort (all_fit words g m passes fits t) in
        fstp-80 before.st i before.nodes before.statements g pop r c free answers sort small
