-- One lift of `fld` or `fstp` at 80, from any state over any lists: a load is node n and its free input node n + 1, and the node on top has the pattern
-- that is read from the given image, or the given free one; a store names a node whose value is the image of the old top's
use Rattle.std.specs.Prelude.{◌≡◌, Bool, false, List, ◌++◌, ℕ, ◌+◌, ◌^◌, ◌≤◌, ◌<◌, length, take, drop, Ok}
use Rattle.std.proofs.Math.Path.{sym, subst}
use Rattle.std.proofs.Common.{◌∙◌, arith}
use borrow.Author.Tests.{le-ltb, lt-ltb}
use Rattle.std.proofs.Math.ListN.{get_or}
use Rattle.std.proofs.Math.Pow.{split}
use Rattle.lists.specs.Rows.{wrote}
use Rattle.lists.specs.Steps.{Built, ◌▸◌}
use Rattle.lists.specs.Nodes.{statement_of}
use Rattle.lists.specs.Stack.{read_of}
use Rattle.lists.specs.declared.State.{State}
use Rattle.exprs.specs.Formats.{is_image}
use Rattle.exprs.specs.Image.{extended_to_memory_of}
use Rattle.exprs.specs.Slots.{from_slot_of}
use Rattle.forms.specs.Classify.{classify_of}
use Rattle.std.specs.Prelude.{Some, Ok}
use Rattle.forms.specs.declared.Form.TheVariants.{PushMemory, StoreMemory}
use Rattle.forms.specs.declared.Instruction.{Instruction}
use Rattle.forms.specs.declared.MemFormat.TheVariants.{Float}
use Rattle.forms.specs.declared.RoundingMode.{RoundingMode}
use Rattle.memory.specs.Memory.{top_of, write_dst_of, x87_store_memory_of, x87_memory_read_of}
use Rattle.moves.specs.Pushes.{push_memory_of}
use Rattle.lifter.specs.Apply.{apply_x87_of}
use Rattle.lifter.specs.Lift.{lift_of}
use Rattle.memory.specs.Site.{site_of}
use Rattle.words.specs.Wide.{wide_of}
use Rattle.words.specs.Bytes.{little_endian, bytes_of}
use Rattle.image.specs.Answers as image
use Rattle.sorts.specs.Lists.{sorts}
use Rattle.evaluator.specs.Lists.{pair_at, vals}
use Rattle.agreement.proofs.InWords.{InWords, front, back}
use Rattle.agreement.specs.Values.{Has, sort-at, value-at}
use Rattle.agreement.proofs.Applied.{applied}
use Rattle.agreement.proofs.Image.Rows.{write-count, writes-image}
use Rattle.agreement.proofs.Image.Steps.{memory-made, landed, said, top-is, same-top, write-quiet, write-statements}
use Rattle.agreement.specs.Image.Lifts.{Loads, Stores}

pushes : (s : State) (i : Instruction) (w g : List ℕ) → s.nodes ≤ 65535 → pair_at g s.nodes < 2 ^ 80
    → (push_memory_of s (site_of i) 80 Float).val ≡ 0 → InWords w (push_memory_of s (site_of i) 80 Float).ns → Loads s i (push_memory_of s (site_of i) 80 Float) w g
unfolding push_memory_of ◌▸◌
pushes s i w g h k z stands =
    let b = x87_memory_read_of s (site_of i) 80 Float in
    let l = landed b.st b.val i.address z in
    let m = memory-made w g s i h k (front w b.ns _ stands) in
    record {
      load = rw (l.statements, said s i);
      top = rw (l.top, l.counted, value-at w g b.val b.st.nodes m.counted) m.node.value;
    }

module _ (s : State) (i : Instruction) (pop : Bool) where
  -- A store to memory
  abbrev pub stored : Built
  stored = top_of s pop ▸ λ s v. extended_to_memory_of s v ▸ λ s x. statement_of s 2 (site_of i).memory x 80

  pub store_is : (r : RoundingMode) → (site_of i).register ≡ false → x87_store_memory_of s (site_of i) 80 Float pop r ≡ stored
  unfolding x87_store_memory_of from_slot_of is_image write_dst_of
  store_is r e = rw e

  stores : (w g : List ℕ) → (0 < s.depth → get_or s.slots 0 0 < s.nodes) → s.nodes ≤ 65535 → InWords w stored.ns
      → get_or (sorts w stored.st.nodes) (read_of s 0).val 0 ≡ 79 → get_or (vals w g stored.st.nodes) (read_of s 0).val 0 < 2 ^ 79
      → Stores s i stored w g
  unfolding statement_of ◌▸◌
  stores w g top few stands sort fits =
      let b = top_of s pop in
      let x = extended_to_memory_of b.st b.val in
      let t = top-is s top few pop in
      let e = same-top s pop in
      let c : b.st.nodes ≤ 65600 = omega (arith, t.few) in
      let n : (read_of s 0).val < x.st.nodes = omega (arith, e, t.counted, write-count b.st c b.val) in
      let v = get_or (vals w g x.st.nodes) (read_of s 0).val 0 in
      let h : Has w g b.val 79 v =
      subst (λ (k : ℕ). Has w g k 79 v) (sym e)
      (record { sort = sym (sort-at w (read_of s 0).val x.st.nodes n) ∙ sort; value = sym (value-at w g (read_of s 0).val x.st.nodes n) }) in
      let m = writes-image w g b.st c b.val v t.counted h fits (front w x.ns _ (back w b.ns _ stands)) in
      record {
        node = x.val;
        store = rw (t.quiet, write-quiet b.st b.val, write-statements b.st b.val, t.statements);
        value = value-at w g x.val x.st.nodes m.counted ∙ m.node.value;
      }

module _ (s : State) (i : Instruction) (nodes statements g : List ℕ) where
  abbrev lift : Built
  lift = lift_of s i nodes statements

  abbrev words : List ℕ
  words = wrote nodes lift.ns

  -- `fld` AT 80 READS AS `image` DOES: its free pattern is the value of the free input that the load adds
  pub fld-80 : classify_of i ≡ Ok (Some (PushMemory 80 Float)) → lift.val ≡ 0 → pair_at g s.nodes < 2 ^ 80 → Loads s i lift words g
  unfolding apply_x87_of
  fld-80 c z k =
      let a = applied s i nodes statements (PushMemory 80 Float) c z in
      subst (λ (d : Built). Loads s i d (wrote nodes d.ns) g) (sym a.same)
      (pushes s i (wrote nodes (apply_x87_of s (PushMemory 80 Float) (site_of i)).ns) g a.few k
      (subst (λ (d : Built). d.val ≡ 0) a.same z) (subst (λ (d : Built). InWords (wrote nodes d.ns) d.ns) a.same a.stands))

  -- `fstp` AT 80 WRITES AS `image` DOES
  pub fstp-80 : (pop : Bool) (r : RoundingMode) → classify_of i ≡ Ok (Some (StoreMemory 80 Float pop r)) → (site_of i).register ≡ false → lift.val ≡ 0
      → get_or (sorts words lift.st.nodes) (read_of s 0).val 0 ≡ 79 → get_or (vals words g lift.st.nodes) (read_of s 0).val 0 < 2 ^ 79
      → Stores s i lift words g
  unfolding apply_x87_of
  fstp-80 pop r c m z sort fits =
      let a = applied s i nodes statements (StoreMemory 80 Float pop r) c z in
      let e : lift ≡ stored s i pop = a.same ∙ store_is s i pop r m in
      subst (λ (d : Built). Stores s i d (wrote nodes d.ns) g) (sym e)
      (stores s i pop (wrote nodes (stored s i pop).ns) g a.top a.few
      (subst (λ (d : Built). InWords (wrote nodes d.ns) d.ns) e a.stands)
      (subst (λ (d : Built). get_or (sorts (wrote nodes d.ns) d.st.nodes) (read_of s 0).val 0 ≡ 79) e sort)
      (subst (λ (d : Built). get_or (vals (wrote nodes d.ns) g d.st.nodes) (read_of s 0).val 0 < 2 ^ 79) e fits))

  abbrev value : ℕ → ℕ
  value n = get_or (vals words g lift.st.nodes) n 0

  -- In bytes: where the loaded value is the number of ten bytes, `image` reads from them what is on top,
  pub fld-80-bytes : (b : List ℕ) → Loads s i lift words g → 10 ≤ length b → little_endian (take 10 b) ≡ pair_at g s.nodes → pair_at g (s.nodes + 1) < 2 ^ 79
      → image.read_of b (wide_of (pair_at g (s.nodes + 1))) ≡ Ok (wide_of (value (get_or lift.st.slots 0 0)))
  unfolding image.read_of
  fld-80-bytes b x long bytes fits =
      rw (le-ltb (length b) 10 long, split (pair_at g (s.nodes + 1)) 64, lt-ltb (pair_at g (s.nodes + 1)) (2 ^ 79) fits, bytes, ← x.top)

  -- and the bytes that it writes of the old top are the stored value's
  pub fstp-80-bytes : (b : List ℕ) (x : Stores s i lift words g) → 10 ≤ length b → value (read_of s 0).val < 2 ^ 79
      → image.image_after b (wide_of (value (read_of s 0).val)) ≡ bytes_of 10 (value x.node) ++ drop 10 b
  unfolding image.image_after
  fstp-80-bytes b x long fits =
      rw (le-ltb (length b) 10 long, split (value (read_of s 0).val) 64, lt-ltb (value (read_of s 0).val) (2 ^ 79) fits, ← x.value)
