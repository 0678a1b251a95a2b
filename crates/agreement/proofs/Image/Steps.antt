-- The steps of an 80-bit load and store: what they read, push and say
use Rattle.std.specs.Prelude.{◌≡◌, Bool, cond, eqb, length, get_or, set}
use Rattle.std.proofs.Math.Path.{refl, subst}
use Rattle.std.proofs.Math.Bool.{true, false}
use mathlib.Core.List.{List, [], ◌∷◌}
use Prim.Native.Nat.{ℕ, zero, suc, ◌+◌, ◌-◌, ◌*◌, ◌^◌, ◌≤◌, ◌<◌}
use native.Mathlib.Omega.{arith}
use Rattle.std.proofs.Math.Seq.{get_or-set_same}
use Rattle.lists.specs.Rows.{Row, row, up}
use Rattle.lists.specs.Steps.{Built, ◌▸◌, gives}
use Rattle.lists.specs.Nodes.{node_of, statement_of, input_counted, temporary_counted, fresh_of, temporary_of}
use Rattle.lists.specs.Stack.{grown, bottom_of, lowered, ensure_of, slot_of, read_of, overflows, push_of, drop_top_of, pop_of}
use Rattle.lists.specs.declared.State.{State}
use Rattle.exprs.specs.Nodes.{slot_var_of}
use Rattle.exprs.specs.Formats.{is_image}
use Rattle.exprs.specs.Image.{extended_from_memory_of, extended_to_memory_of}
use Rattle.forms.specs.declared.Instruction.{Instruction}
use Rattle.forms.specs.declared.MemFormat.TheVariants.{Float}
use Rattle.memory.specs.Memory.{top_of, variable_of, read_operand_lowered_of, image_read_of, converted_of, x87_memory_read_of}
use Rattle.moves.specs.Pushes.{decline_x87_of, land_of}
use Rattle.memory.specs.Site.{site_of}
use Rattle.image.specs.Layout.{pattern_in}
use Rattle.sorts.specs.Sorts.{sort_row}
use Rattle.evaluator.specs.Value.{is_given, held}
use Rattle.evaluator.specs.Lists.{pair_at}
use Rattle.agreement.specs.Laid.{Reads}
use Rattle.agreement.proofs.InWords.{InWords, front}
use Rattle.agreement.specs.Values.{sort_at, Has, given}
use Rattle.agreement.proofs.Image.Rows.{Made, reads-image}

-- A load of an image into a temporary, or into a named slot
abbrev loaded : State → Instruction → Bool → Built
loaded s i t =
    cond t (temporary_of s 80) (slot_var_of s (site_of i).slot 80) ▸ λ s v. statement_of s 1 v (site_of i).memory 80 ▸ λ s _. gives s v

abbrev read : State → Instruction → Bool → Built
read s i t = loaded s i t ▸ λ s raw. converted_of s raw 80 Float

module _ (w g : List ℕ) where
  image-made : (s : State) (raw v : ℕ) → s.nodes ≤ 65536 → raw < s.nodes → Has w g raw 80 v → v < 2 ^ 80
      → InWords w (image_read_of s raw).ns → Made w g (image_read_of s raw) 79 (pattern_in v (pair_at g s.nodes))
  unfolding image_read_of fresh_of node_of ◌▸◌ gives input_counted sort_row held up
  image-made s raw v h r p k stands =
      let free : Has w g s.nodes 79 (pair_at g s.nodes) = given stands.0 refl in
      let m = reads-image w g (fresh_of s 79).st (omega arith) raw s.nodes v (pair_at g s.nodes) (omega arith) (omega arith) p k free stands.1 in
      record { node = m.node; counted = m.counted }

  -- The load is node n and the free input node n + 1
  pub memory-made : (s : State) (i : Instruction) → s.nodes ≤ 65535 → pair_at g s.nodes < 2 ^ 80
      → InWords w (x87_memory_read_of s (site_of i) 80 Float).ns → Made w g (x87_memory_read_of s (site_of i) 80 Float) 79 (pattern_in (pair_at g s.nodes) (pair_at g (s.nodes + 1)))
  unfolding x87_memory_read_of read_operand_lowered_of variable_of temporary_of node_of statement_of ◌▸◌ gives temporary_counted converted_of is_image sort_row held up
  memory-made s i h k stands =
      let e : up s.nodes ≡ s.nodes + 1 = omega arith in
      subst (λ (m : ℕ). Made w g (x87_memory_read_of s (site_of i) 80 Float) 79 (pattern_in (pair_at g s.nodes) (pair_at g m))) e (by (eqb (site_of i).slot 0) stands)
    where
      by : (t : Bool) → InWords w (read s i t).ns → Made w g (read s i t) 79 (pattern_in (pair_at g s.nodes) (pair_at g (up s.nodes)))
      by true p =
          let raw : Has w g s.nodes 80 (pair_at g s.nodes) = given p.0 refl in
          let m = image-made (loaded s i true).st s.nodes (pair_at g s.nodes) (omega arith) (omega arith) raw k p.1 in
          record { node = m.node; counted = m.counted }
      by false p =
          let raw : Has w g s.nodes 80 (pair_at g s.nodes) = given p.0 refl in
          let m = image-made (loaded s i false).st s.nodes (pair_at g s.nodes) (omega arith) (omega arith) raw k p.1 in
          record { node = m.node; counted = m.counted }

-- A push that finds a place leaves its value on top, and adds nothing
pub record Landed (s : State) (v : ℕ) (b : Built) : Type 0 where
  pub statements : b.ss ≡ []
  pub top : get_or b.st.slots 0 0 ≡ v
  pub counted : b.st.nodes ≡ s.nodes

pub landed : (s : State) (v a : ℕ) → (land_of s v a).val ≡ 0 → Landed s v (land_of s v a)
unfolding land_of decline_x87_of statement_of ◌▸◌ gives push_of
landed s v a z = by (overflows s) refl z
  where
    by : (t : Bool) → overflows s ≡ t → (cond t (decline_x87_of (push_of s v) 2 a 0) (gives (push_of s v) 0)).val ≡ 0 → Landed s v (cond t (decline_x87_of (push_of s v) 2 a 0) (gives (push_of s v) 0))
    by true e z = absurd (omega arith)
    by false e z = record { statements = refl; top = rw e; counted = rw e }

-- The load is given its value, of 80 bits
pub record Load (w : List ℕ) (n : ℕ) (rows : List Row) : Type 0 where
  pub some : 1 ≤ length rows
  pub taken : is_given (get_or w (4 * n) 0) ≡ true
  pub sort : sort_at w n ≡ 80

pub load_is : (s : State) (i : Instruction) (w : List ℕ) → InWords w (x87_memory_read_of s (site_of i) 80 Float).ns → Load w s.nodes (x87_memory_read_of s (site_of i) 80 Float).ns
unfolding x87_memory_read_of read_operand_lowered_of variable_of temporary_of node_of statement_of ◌▸◌ gives temporary_counted sort_row
load_is s i w stands = by (eqb (site_of i).slot 0) stands
  where
    by : (t : Bool) → InWords w (read s i t).ns → Load w s.nodes (read s i t).ns
    by true p = record { some = omega arith; taken = rw p.0.kind; sort = (given {g = []} p.0 refl).sort }
    by false p = record { some = omega arith; taken = rw p.0.kind; sort = (given {g = []} p.0 refl).sort }

-- .. and it is what is said
pub said : (s : State) (i : Instruction) → (x87_memory_read_of s (site_of i) 80 Float).ss ≡ row s.statements 1 s.nodes (site_of i).memory 80 ∷ []
unfolding x87_memory_read_of read_operand_lowered_of variable_of temporary_of node_of statement_of ◌▸◌ gives temporary_counted converted_of is_image image_read_of fresh_of extended_from_memory_of
said s i = by (eqb (site_of i).slot 0)
  where
    by : (t : Bool) → (read s i t).ss ≡ row s.statements 1 s.nodes (site_of i).memory 80 ∷ []
    by true = refl
    by false = refl

-- The node that a read or a pop of the top names: it is counted, and nothing is said
pub record Top (s : State) (b : Built) : Type 0 where
  pub counted : b.val < b.st.nodes
  pub few : b.st.nodes ≤ s.nodes + 1
  pub quiet : b.ss ≡ []
  pub statements : b.st.statements ≡ s.statements

set_first : (l : List ℕ) (n : ℕ) → get_or (set l 0 n) 0 0 ≤ n
set_first [] n = omega arith
set_first (x ∷ l) n = omega arith

module _ (s : State) (top : 0 < s.depth → get_or s.slots 0 0 < s.nodes) (few : s.nodes ≤ 65535) where
  read-top : Top s (read_of s 0)
  unfolding read_of ensure_of lowered slot_of bottom_of fresh_of node_of input_counted grown ◌▸◌ gives up
  read-top = by (0 + 1 - s.depth) refl
    where
      by : (k : ℕ) → 0 + 1 - s.depth ≡ k → Top s (lowered k s ▸ λ s _. gives s (slot_of s 0))
      by zero e = record { counted = top (omega arith); few = omega arith; quiet = refl; statements = refl }
      by (suc zero) e =
          let d : s.depth ≡ 0 = omega arith in
          rw d (record { counted = omega (arith, set_first s.slots s.nodes); few = omega arith; quiet = refl; statements = refl })
      by (suc (suc k)) e = absurd (omega arith)

  pub top-is : (pop : Bool) → Top s (top_of s pop)
  unfolding top_of pop_of drop_top_of ◌▸◌ gives
  top-is true = let t = read-top in record { counted = t.counted; few = t.few; quiet = rw t.quiet; statements = t.statements }
  top-is false = read-top

pub same-top : (s : State) (pop : Bool) → (top_of s pop).val ≡ (read_of s 0).val
unfolding top_of pop_of ◌▸◌ gives
same-top s true = refl
same-top s false = refl

-- The image of a pattern is made of nodes alone
pub write-quiet : (s : State) (p : ℕ) → (extended_to_memory_of s p).ss ≡ []
unfolding extended_to_memory_of node_of ◌▸◌
write-quiet s p = refl

pub write-statements : (s : State) (p : ℕ) → (extended_to_memory_of s p).st.statements ≡ s.statements
unfolding extended_to_memory_of node_of ◌▸◌
write-statements s p = refl

pub write-some : (s : State) (p : ℕ) → 1 ≤ length (extended_to_memory_of s p).ns
unfolding extended_to_memory_of node_of ◌▸◌
write-some s p = omega arith

-- The top is the used place 0, or else the input that reading it adds
module _ (s : State) (eight : length s.slots ≡ 8) (w : List ℕ) (P : ℕ → Type 0) (used : 0 < s.depth → P (get_or s.slots 0 0)) (added : Reads w s.nodes 1 s.inputs 79 0 → P s.nodes) where
  read-case : InWords w (read_of s 0).ns → P (read_of s 0).val
  unfolding read_of ensure_of lowered slot_of bottom_of fresh_of node_of input_counted grown ◌▸◌ gives
  read-case stands = by (0 + 1 - s.depth) refl stands
    where
      by : (k : ℕ) → 0 + 1 - s.depth ≡ k → InWords w (lowered k s ▸ λ s _. gives s (slot_of s 0)).ns → P (lowered k s ▸ λ s _. gives s (slot_of s 0)).val
      by zero e p = used (omega arith)
      by (suc zero) e p =
          let d : s.depth ≡ 0 = omega arith in
          rw (d, get_or-set_same s.slots 0 s.nodes 0 (omega arith)) (added p.0)
      by (suc (suc k)) e p = absurd (omega arith)

  pub top-case : (pop : Bool) → InWords w (top_of s pop).ns → P (read_of s 0).val
  unfolding top_of pop_of ◌▸◌ gives
  top-case true stands = read-case (front w (read_of s 0).ns [] stands)
  top-case false stands = read-case stands
