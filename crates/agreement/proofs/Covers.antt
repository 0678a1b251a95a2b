-- THEOREM 11: THE EFFECT COVERS THE LIFT.
-- What `x87_effect` says of an instruction holds of its lift, from any state over any two lists: a statement that sets the status word, a flag or `ax` is one
-- of an effect that says so, a node that names the status word or a flag of an effect that uses or reads it. Where the effect does not define the stack,
-- every place that was there names the node that it named, and what is new below is inputs; where it does not use the stack,
-- nothing that is added names a node from before. Beside a decline and a refusal nothing is said to be touched, and none of these is added.
use Rattle.std.proofs.Math.Path.{◌≡◌}
use Rattle.std.specs.Prelude.{refl, Bool, true, false, cond, ℕ, ◌≤◌, ◌<◌, leb, eqb}
use Rattle.std.proofs.Common.{sym, ap, ◌∙◌, leb-true, le-leb}
use Rattle.std.proofs.lemmas.Bool.{false≢true}
use native.Mathlib.Omega.{arith}
use Rattle.lists.specs.Steps.{◌▸◌, gives}
use Rattle.lists.specs.Nodes.{node_of, statement_of}
use Rattle.texts.specs.Bytes.{all}
use Rattle.forms.specs.declared.Instruction.{Instruction}
use Rattle.forms.specs.declared.Effect.{Effect}
use Rattle.std.specs.Prelude.{Some, None, Ok, Err}
use Rattle.forms.specs.declared.BadInstruction.TheVariants as bad
use Rattle.forms.specs.Classify.{Classified}
use Rattle.forms.specs.declared.Form.{Form}
use Rattle.forms.specs.declared.Form.TheVariants.{PushConst, PushMemory, PushSlot, StoreMemory, StoreSlot, Arith, CompareStatus, CompareFlags, ConditionalMove, StoreStatus, Exchange, Unary}
use Rattle.forms.specs.Classify.{classify_of}
use Rattle.forms.specs.Effects.{stack_of, touched_of, affected_of, effect_of}
use Rattle.memory.specs.declared.Site.{Site}
use Rattle.memory.specs.Site.{site_of}
use Rattle.memory.specs.Memory.{write_dst_of, x87_store_status_of}
use Rattle.lifter.specs.Apply.{apply_x87_of}
use Rattle.lifter.specs.Lift.{lowered_of}
use Rattle.agreement.specs.Runs.{Held, stepped, called}
use Rattle.agreement.specs.Demands.{named_by}
use Rattle.agreement.specs.Operands.{Each, operands_of}
use Rattle.agreement.specs.Fits.{first_of}
use Rattle.agreement.specs.Laid.{over, each_row}
use Rattle.agreement.specs.Makes.{covered_node, covered_statement}
use Rattle.agreement.specs.Makes.Lowered.{effect_said, lowered-makes}
use Rattle.agreement.proofs.Added.{lowered_at, by_call}
use Rattle.agreement.specs.Covers.{KeepsStack, Anew, Covers, EffectHolds}

-- The rows pass their tests where they stand
call-covers : (h : Held) (i : Instruction) → Covers (effect_said (effect_of i)) h (called h i)
unfolding stepped gives covered_statement covered_node
call-covers h i =
    by_call (Covers (effect_said (effect_of i)) h) h i (λ r. record {
      status = λ j x y z. absurd (none _ j x y);
      flags = λ j x y z. absurd (none _ j x y);
      ax = λ j x y z. absurd (none _ j x y);
      uses = λ v x y z. absurd (none _ v x y);
      reads = λ v x y z. absurd (none _ v x y);
    }) (λ w.
    let e = effect_said (effect_of i) in
    let m = lowered-makes i h.st in
    let s = each_row (covered_statement e) _ _ h.st.statements w.rows' m.said in
    let n = each_row (covered_node e) _ _ h.st.nodes w.rows m.nodes in
    record {
      status = λ j x y z. rw z at (s j x (omega (arith, w.counts')));
      flags = λ j x y z. rw z at (s j x (omega (arith, w.counts')));
      ax = λ j x y z. rw z at (s j x (omega (arith, w.counts')));
      uses = λ v x y z. rw z at (n v x (omega (arith, w.counts)));
      reads = λ v x y z. rw z at (n v x (omega (arith, w.counts)));
    })
  where
    none : (n j : ℕ) → n ≤ j → j < n → ⊥
    none n j x y = omega arith

-- Only a status store neither defines the stack nor uses it
module _ (f : Effect → Bool) (g : (x y z : Bool) → f (stack_of x y z) ≡ true) where
  status-alone : (form : Form) (r : Bool) → f (touched_of form r) ≡ false → form ≡ StoreStatus
  status-alone (PushConst low high) r e = absurd (false≢true (sym e ∙ g false false false))
  status-alone (PushMemory width format) r e = absurd (false≢true (sym e ∙ g false false false))
  status-alone (PushSlot i) r e = absurd (false≢true (sym e ∙ g false false false))
  status-alone (StoreMemory width format pop rounding) r e = absurd (false≢true (sym e ∙ g false false false))
  status-alone (StoreSlot i pop) r e = absurd (false≢true (sym e ∙ g false false false))
  status-alone (Arith op dst src reversed pop) r e = absurd (false≢true (sym e ∙ g false false false))
  status-alone (CompareStatus src pops) r e = absurd (false≢true (sym e ∙ g true false false))
  status-alone (CompareFlags i pop) r e = absurd (false≢true (sym e ∙ g false true false))
  status-alone (ConditionalMove i condition) r e = absurd (false≢true (sym e ∙ g false false true))
  status-alone StoreStatus r e = refl
  status-alone (Exchange i) r e = absurd (false≢true (sym e ∙ g false false false))
  status-alone (Unary op) r e = absurd (false≢true (sym e ∙ g false false false))

  modelled : (i : Instruction) (e : Effect) → effect_of i ≡ Ok (Some e) → f e ≡ false → classify_of i ≡ Ok (Some StoreStatus)
  unfolding effect_of
  modelled i e h z = way (classify_of i) h
    where
      never : ◌≡◌ {A = ℕ} 0 1 → ⊥
      never t = omega arith

      made : Form → Classified
      made form = Ok (Some form)

      way : (c : Classified) → affected_of c (eqb (first_of i).kind 0) ≡ Ok (Some e) → c ≡ Ok (Some StoreStatus)
      way (Ok (Some form)) p =
          let t : touched_of form (eqb (first_of i).kind 0) ≡ e = cc in
          ap made (status-alone form (eqb (first_of i).kind 0) (ap f t ∙ z))
      way (Ok None) p = let t : ◌≡◌ {A = ℕ} 0 1 = cc in absurd (never t)
      way (Err bad.Text) p = let t : ◌≡◌ {A = ℕ} 0 1 = cc in absurd (never t)
      way (Err bad.Operands) p = let t : ◌≡◌ {A = ℕ} 0 1 = cc in absurd (never t)

-- A status store keeps the stack as it is, and names the node that it adds
status-keeps : (h : Held) (site : Site) → let d = stepped h (apply_x87_of h.st StoreStatus site) in KeepsStack h d
unfolding stepped apply_x87_of x87_store_status_of write_dst_of node_of statement_of ◌▸◌
status-keeps h site = way site.register
  where
    none : (j : ℕ) → h.st.depth ≤ j → j < h.st.depth → ⊥
    none j x y = omega arith

    way : (t : Bool) → KeepsStack h (stepped h (node_of h.st 4 0 0 0 ▸ λ s v. cond t (statement_of s 5 v 0 0) (statement_of s 2 site.memory v 16)))
    way true = record { depth = omega arith; places = λ p k. refl; below = λ p x y. absurd (none p x y) }
    way false = record { depth = omega arith; places = λ p k. refl; below = λ p x y. absurd (none p x y) }

-- What a call leaves of the stack where the effect does not define it
keeps_self : (h : Held) (r : ℕ) → KeepsStack h (stepped h (gives h.st r))
unfolding stepped gives
keeps_self h r = record { depth = omega arith; places = λ p k. refl; below = λ p x y. absurd (none p x y) }
  where
    none : (j : ℕ) → h.st.depth ≤ j → j < h.st.depth → ⊥
    none j x y = omega arith

call-keeps : (h : Held) (i : Instruction) (e : Effect) → effect_of i ≡ Ok (Some e) → e.defines_stack ≡ false → KeepsStack h (called h i)
unfolding lowered_of
call-keeps h i e m z =
    let c = modelled (λ (x : Effect). x.defines_stack) (λ x y z. refl) i e m z in
    by_call (KeepsStack h) h i (keeps_self h) (λ _. rw c (status-keeps h (site_of i)))

-- .. and of what it adds where the effect does not use it
no_operands : ℕ → ℕ → ℕ → ℕ → Bool
no_operands k a b c = leb k 6

names_from : ℕ → ℕ → ℕ → ℕ → ℕ → Bool
names_from n k a b c = leb n (named_by k a b)

status-anew : (h : Held) (site : Site) → let b = apply_x87_of h.st StoreStatus site in
    (all (over no_operands) b.ns ≡ true) × (all (over (names_from h.st.nodes)) b.ss ≡ true)
unfolding apply_x87_of x87_store_status_of write_dst_of node_of statement_of ◌▸◌ over no_operands names_from named_by
status-anew h site = way site.register
  where
    self : leb h.st.nodes h.st.nodes ≡ true
    self = le-leb h.st.nodes h.st.nodes (omega arith)

    way : (t : Bool) → let b = node_of h.st 4 0 0 0 ▸ λ s v. cond t (statement_of s 5 v 0 0) (statement_of s 2 site.memory v 16) in
        (all (over no_operands) b.ns ≡ true) × (all (over (names_from h.st.nodes)) b.ss ≡ true)
    way true = (refl, rw self)
    way false = (refl, rw self)

call-anew : (h : Held) (i : Instruction) (e : Effect) → effect_of i ≡ Ok (Some e) → e.uses_stack ≡ false → Anew h (called h i)
unfolding stepped gives lowered_of no_operands names_from operands_of Each
call-anew h i e m z =
    let c = modelled (λ (x : Effect). x.uses_stack) (λ x y z. refl) i e m z in
    by_call (Anew h) h i (λ r. record { nodes = λ v x y. absurd (none _ v x y); statements = λ j x y k. absurd (none _ j x y) }) (λ w.
    let t : (all (over no_operands) (lowered_at h i).ns ≡ true) × (all (over (names_from h.st.nodes)) (lowered_at h i).ss ≡ true) = rw c (status-anew h (site_of i)) in
    record {
      nodes = λ v x y. rw (each_row no_operands _ _ h.st.nodes w.rows t.0 v x (omega (arith, w.counts))) tt;
      statements = λ j x y k. leb-true _ _ (each_row (names_from h.st.nodes) _ _ h.st.statements w.rows' t.1 j x (omega (arith, w.counts')));
    })
  where
    none : (n j : ℕ) → n ≤ j → j < n → ⊥
    none n j x y = omega arith

pub effect-holds : (h : Held) (i : Instruction) → EffectHolds i h
effect-holds h i = record { rows = call-covers h i; stack = call-keeps h i; anew = call-anew h i }
