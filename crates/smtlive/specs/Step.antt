-- EVERY ALLOWED CHOICE LEAVES A LIVE STATE.
use Rattle.std.specs.Prelude.{◌≡◌, Bool, true, List, ℕ, ◌<◌}
use Rattle.std.proofs.Common.{sym, ◌∙◌}
use Rattle.smtgrammar.specs.State.{Tables, State}
use Rattle.smtgrammar.specs.Allowed.{ok_at}
use Rattle.smtgrammar.specs.Next.{next_at}
use Rattle.smtgrammar.specs.Grammar.{size_at, Choice}
use Rattle.smtgrammar.specs.declared.Place.{Place}
use Rattle.smtgrammar.specs.declared.Line.{Line}
use Rattle.smtlive.specs.Live.{Inside, between, declares, numbered, kinded, counted, wide, defines, sorts, opens, chooses, first, second, third, places, digits, asserts, Live}
use Rattle.smtlive.specs.At.{Stage, at-0, at_1, at-2, at-3, at-4, at_5, at-6, at_7, at_8, at_9, at-10, at-11, at-12, at-13, at-14, at-15}
use Rattle.smtlive.specs.Lines.{begun-live, number-live, kind-live, operand-live, numeral-live, width-live, defines-live, asserted-live}
use Rattle.smtlive.specs.Terms.{sort-live, opened-live, chosen_live}
use Rattle.smtlive.specs.Operands.{first_live, second_live, termed-live, place-live, digit-live}

module _ (t : Tables) (p : Place) (l : Line) (v : ℕ) where
  -- a choice leads to a live state if its stage says so
  leads : {size : ℕ} {ok : Bool} {τ : State} → Stage t p l v size ok τ → Live τ → Live (next_at t p l v)
  leads s h = rw s.next-is h

  inside-next : v < size_at l.stage → ok_at t p l v ≡ true → Inside t p l → Live (next_at t p l v)
  inside-next b a (between e g) = let s = at-0 t p l v e in leads s (begun-live t p l g v (rw s.size_is at b) (sym s.ok-is ∙ a))
  inside-next b a (declares e o d h) = let s = at_1 t p l v e in leads s (number-live t p l o d v (sym s.ok-is ∙ a))
  inside-next b a (numbered e o d n) = let s = at-2 t p l v e in leads s (kind-live t p l o d n v (sym s.ok-is ∙ a))
  inside-next b a (kinded e o d n k) = let s = at-3 t p l v e in leads s (operand-live t p l o d n k v (sym s.ok-is ∙ a))
  inside-next b a (counted e o d n h k x) = leads (at-4 t p l v e) (numeral-live t p l o d n h k v)
  inside-next b a (wide e o d n k) = let s = at_5 t p l v e in leads s (width-live t p l o d n k v (rw s.size_is at b) (sym s.ok-is ∙ a))
  inside-next b a (defines e o h) = let s = at-6 t p l v e in leads s (defines-live t p l o v (sym s.ok-is ∙ a))
  inside-next b a (sorts e o d) = let s = at_7 t p l v e in leads s (sort-live t p l o d v (sym s.ok-is ∙ a))
  inside-next b a (opens e w) = let s = at_8 t p l v e in leads s (opened-live t p l w v (rw s.size_is at b) (sym s.ok-is ∙ a))
  inside-next b a (chooses e w c) = let s = at_9 t p l v e in leads s (chosen_live t p l w c v (sym s.ok-is ∙ a))
  inside-next b a (first e w r) = let s = at-10 t p l v e in leads s (first_live t p l w r.some r.second v (sym s.ok-is ∙ a))
  inside-next b a (second e w q f) = let s = at-11 t p l v e in leads s (second_live t p l w q v (sym s.ok-is ∙ a))
  inside-next b a (third e w q f) = leads (at-12 t p l v e) (termed-live t p l w q l.a l.b v)
  inside-next b a (places e w k h x) = let s = at-13 t p l v e in leads s (place-live t p l w k h v (sym s.ok-is ∙ a))
  inside-next b a (digits e w h k) = leads (at-14 t p l v e) (digit-live t p l w h k v)
  inside-next b a (asserts e o z h k) = leads (at-15 t p l v e) (asserted-live t p l o z h k)

pub live-next : (σ : State) (x : List ℕ) (v : ℕ) → Live σ → Choice σ x v → Live (next_at σ.tables σ.place σ.line v)
live-next σ x v h m = inside-next σ.tables σ.place σ.line v m.below m.allowed h
