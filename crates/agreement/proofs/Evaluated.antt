-- THEOREM 2: WHAT IS LIFTED EVALUATES.
-- The nodes of any run evaluate to their end, for any column of given values that fit their nodes' sorts, in columns that are long enough,
-- and each value is below 2 to its width: below 2^79 at each used place of the stack, and at each statement below 2 to the bits of its place.
use Rattle.std.specs.Prelude.{List, ℕ, ◌/◌, ◌^◌, ◌≤◌, ◌<◌, length, get_or}
use Rattle.std.proofs.Common.{ap, subst, ◌∙◌}
use Rattle.forms.specs.declared.Instruction.{Instruction}
use Rattle.evaluator.specs.Value.{width_of}
use Rattle.evaluator.specs.Within.{GivenFits}
use Rattle.evaluator.specs.Fits.{width-bits}
use Rattle.evaluator.specs.Laws.{evaluates}
use Rattle.agreement.specs.Runs.{Held, begun, ran}
use Rattle.agreement.specs.Demands.{named_at, bits_at}
use Rattle.agreement.proofs.Demands.Laws.{named-at}
use Rattle.agreement.specs.Sorted.{sorts_of, Sound}
use Rattle.agreement.proofs.Sorted.{sorted}
use Rattle.agreement.specs.Evaluated.{value_of, Evaluated}

-- Of any lists that are sound
pub sound-evaluated : (h : Held) (g : List ℕ) (m : ℕ) → Sound h → h.st.nodes ≤ length g / 2 → h.st.nodes ≤ m / 2 → GivenFits h.nodes g h.st.nodes → Evaluated h g m
sound-evaluated h g m s p q f =
    let e = evaluates h.nodes g h.st.nodes m s.passes p q f in
    record {
      ends = e;
      places = λ i k. subst (λ (σ : ℕ). value_of h g (get_or h.st.slots i 0) < 2 ^ width_of σ) (s.places i k) (e.fits (get_or h.st.slots i 0));
      said = λ j k n.
          let v = named_at h.statements j in
          let w = named-at (sorts_of h) h.statements j n (s.said j k) in
          subst (λ (b : ℕ). value_of h g v < 2 ^ b) (ap width_of w.0 ∙ width-bits (bits_at h.statements j) w.2) (e.fits v);
    }

pub evaluated : (nodes statements : List ℕ) (is : List Instruction) (g : List ℕ) (m : ℕ) → let h = ran (begun nodes statements) is in
    h.st.nodes ≤ length g / 2 → h.st.nodes ≤ m / 2 → GivenFits h.nodes g h.st.nodes → Evaluated h g m
evaluated nodes statements is g m p q f = sound-evaluated (ran (begun nodes statements) is) g m (sorted nodes statements is) p q f
