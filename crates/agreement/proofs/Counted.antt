-- THEOREM 9: COUNTERS COUNT.
-- In any run the input nodes have the numbers 0, 1, 2, .. in the order of the list, each number once, and the state's count is how many there are;
-- so it is with the temporaries. No counter ever falls, not at a decline and not at a refusal. So an input that is added has a number that no node before it has:
-- what is read behind a decline is never a variable from before it.
use Rattle.std.specs.Prelude.{◌≡◌, refl, List, [], ◌∷◌, ℕ, ◌+◌, ◌*◌, ◌≤◌, ◌<◌, length, get_or}
use Rattle.std.proofs.Common.{sym, subst, ◌∙◌, arith}
use Rattle.std.proofs.Math.Decide.{dec_lt}
use Rattle.lists.specs.Rows.{Row, wrote}
use Rattle.lists.specs.Steps.{gives}
use Rattle.forms.specs.declared.Instruction.{Instruction}
use Rattle.sorts.specs.Lists.{field}
use Rattle.agreement.specs.Runs.{Held, begun, stepped, called, ran}
use Rattle.agreement.specs.Demands.{kind_at}
use Rattle.agreement.specs.Operands.{Each}
use Rattle.agreement.specs.Laid.{Lies}
use Rattle.agreement.specs.Makes.{Once}
use Rattle.agreement.specs.Makes.Lowered.{lowered-makes}
use Rattle.agreement.proofs.Added.{by_call}
use Rattle.agreement.specs.Counted.Numbers.{numbered, below}
use Rattle.agreement.proofs.Counted.Numbers.{once-up, once-from, rows-count, numbered-same, each-node, each_below}
use Rattle.agreement.specs.Counted.{Counted, Since}
pub mod Numbers

-- One call more
pub call-counted : (h : Held) (i : Instruction) → Counted h → Counted (called h i)
unfolding stepped gives wrote
call-counted h i c =
    by_call Counted h i (λ r. record { inputs = c.inputs; temporaries = c.temporaries }) (λ w.
    let m = lowered-makes i h.st in
    let f = w.few in
    record {
      inputs = rw w.counts (rows-count 1 _ _ _ _ _ w.rows m.inputs (omega arith) (numbered-same 1 h.nodes _ _ w.keeps ∙ c.inputs));
      temporaries = rw w.counts (rows-count 2 _ _ _ _ _ w.rows m.temporaries (omega arith) (numbered-same 2 h.nodes _ _ w.keeps ∙ c.temporaries));
    })

-- What was added before, and what is added now
added : (k n m i j l : ℕ) (w w' : List ℕ) (rs : List Row) → i ≤ j → Lies w' m rs → Once k j rs l → j + length rs ≤ 4294967295
    → ((x : ℕ) → x < 4 * m → get_or w' x 0 ≡ get_or w x 0) → ((v : ℕ) → n ≤ v → v < m → kind_at w v ≡ k → i ≤ field w v 1)
    → (v : ℕ) → n ≤ v → v < m + length rs → kind_at w' v ≡ k → i ≤ field w' v 1
added k n m i j l w w' rs h r p q e f v x y z = way (dec_lt v m)
  where
    way : Dec (v < m) → i ≤ field w' v 1
    way (yes d) = rw (e (4 * v + 1) (omega arith)) (f v x d (rw (e (4 * v) (omega arith)) at z))
    way (no d) = let o = once-from k w' rs m j l r p q v (omega arith) y z in omega arith

call-since : (d h : Held) (i : Instruction) → Since d h → Since d (called h i)
unfolding stepped gives wrote
call-since d h i s =
    by_call (Since d) h i
    (λ r. record { nodes = s.nodes; statements = s.statements; inputs = s.inputs; temporaries = s.temporaries; input = s.input; temporary = s.temporary; kept = s.kept; kept' = s.kept' })
    (λ w.
    let m = lowered-makes i h.st in
    let f = w.few in
    let a = once-up 1 _ _ _ m.inputs (omega arith) in
    let b = once-up 2 _ _ _ m.temporaries (omega arith) in
    record {
      nodes = omega (arith, w.counts, s.nodes);
      statements = omega (arith, w.counts', s.statements);
      inputs = omega (arith, s.inputs);
      temporaries = omega (arith, s.temporaries);
      input = rw w.counts (added 1 _ _ _ _ _ h.nodes _ _ s.inputs w.rows m.inputs (omega arith) w.keeps s.input);
      temporary = rw w.counts (added 2 _ _ _ _ _ h.nodes _ _ s.temporaries w.rows m.temporaries (omega arith) w.keeps s.temporary);
      kept = λ x k. w.keeps x (omega (arith, s.nodes)) ∙ s.kept x k;
      kept' = λ x k. w.keeps' x (omega (arith, s.statements)) ∙ s.kept' x k;
    })

-- Any number of calls, from any state whose counters count; from any state at all
pub counts-on : (h : Held) (is : List Instruction) → Counted h → Counted (ran h is)
unfolding ran
counts-on h [] c = c
counts-on h (i ∷ is) c = counts-on (called h i) is (call-counted h i c)

runs-since : (d h : Held) (is : List Instruction) → Since d h → Since d (ran h is)
unfolding ran
runs-since d h [] s = s
runs-since d h (i ∷ is) s = runs-since d (called h i) is (call-since d h i s)

pub since : (d : Held) (is : List Instruction) → Since d (ran d is)
since d is =
    runs-since d d is (record {
      nodes = omega arith;
      statements = omega arith;
      inputs = omega arith;
      temporaries = omega arith;
      input = λ v x y z. absurd (none v x y);
      temporary = λ v x y z. absurd (none v x y);
      kept = λ x k. refl;
      kept' = λ x k. refl;
    })
  where
    none : (v : ℕ) → d.st.nodes ≤ v → v < d.st.nodes → ⊥
    none v x y = omega arith

-- THE THEOREM
pub counted : (nodes statements : List ℕ) (is : List Instruction) → Counted (ran (begun nodes statements) is)
unfolding numbered below
counted nodes statements is = counts-on (begun nodes statements) is (record { inputs = refl; temporaries = refl })

-- No node has a number that is not below the count
pub input-below : (h : Held) → Counted h → (v : ℕ) → v < h.st.nodes → kind_at h.nodes v ≡ 1 → field h.nodes v 1 < h.st.inputs
input-below h c v k e =
    each-node (λ (u : ℕ). u < h.st.inputs) 1 h.nodes h.st.nodes (subst (Each (λ (u : ℕ). u < h.st.inputs)) (sym c.inputs) (each_below h.st.inputs h.st.inputs (omega arith))) v k e
