-- What the end says behind a choice it says before, and it says which choice that was.
use Rattle.std.specs.Prelude.{◌≡◌, true, ◌&&◌, ℕ, ◌≤◌, ◌<◌, leb}
use Rattle.std.proofs.Math.Path.{sym}
use Rattle.std.proofs.Common.{◌∙◌}
use native.Mathlib.Omega.{arith}
use borrow.Author.Tests.{leb-true}
use Rattle.std.proofs.Math.Dec.{ltb, eqb}
use Rattle.words.specs.Tests.{and_l}
use Rattle.smtgrammar.specs.declared.Place.{Place}
use Rattle.smtgrammar.specs.declared.Line.{Line}
use Rattle.smtgrammar.specs.State.{limit, Tables}
use Rattle.smtgrammar.specs.Allowed.{ok_at, defined_ok}
use Rattle.smtgrammar.specs.Next.{next_at}
use Rattle.smtgrammar.specs.Grammar.{size_at}
use Rattle.smtsound.specs.Tables.{kind_in}
use Rattle.smtsound.specs.Nodes.{Nodes}
use Rattle.smtsound.specs.Lines.{line, Lined, at0, at1, at2, at3, at4, at5, at6, at7, at8, at9, at10, at11, at12, at13, at14, at15, Some}
use Rattle.smtsound.specs.Declaring.{fresh}
use Rattle.smtsound.specs.Final.{Final, Ends}
use Rattle.smtsound.specs.BackStarting.{assert, starts, starts-fixed}
use Rattle.smtsound.specs.BackDeclaring.{Within, number, kind, late, digits, digits-fixed, width}
use Rattle.smtsound.specs.BackDefining
use Rattle.smtsound.specs.BackOpening.{high, opens, at-nine}
use Rattle.smtsound.specs.BackOperands.{kinded-range, first, second, third, at-ten, at-eleven}

module _ (t : Tables) (p : Place) (F : Final) (h : Nodes t p.part p.top p.owed) (has : 0 < p.count → Some t) where
  -- numbers go up
  over-top : (v : ℕ) → ok_at t p (line 1 0 0 0 0 0 0 0 0) v ≡ true → p.top ≤ v
  unfolding ok_at
  over-top v e = leb-true p.top v (and_l (leb p.top v) (ltb v limit) e)

  over-gap : (v : ℕ) → ok_at t p (line 6 0 0 0 0 0 0 0 0) v ≡ true → p.gap ≤ v
  unfolding ok_at defined_ok
  over-gap v e =
      leb-true p.gap v
      (and_l (leb p.gap v) (ltb v limit) (and_l (leb p.gap v && ltb v limit) (eqb (kind_in t v) 0) (and_l ((leb p.gap v && ltb v limit) && eqb (kind_in t v) 0) _ e)))

  pub back : (l : Line) (v : ℕ) → Lined t p l → v < size_at l.stage → ok_at t p l v ≡ true → Ends (next_at t p l v) F → Within t p F l
  unfolding size_at next_at
  back l v at0 b ok e = (starts t p F v b ok e).ends
  back l v (at1 q) b ok e = number t p F q v (over-top v ok) e
  back l v (at2 d) b ok e = (kind t p F _ d v e).ends
  back l v (at3 d k) b ok e = late t p F _ d _ v e
  back l v (at4 d lo hi small zeros) b ok e = (digits t p F _ d _ _ _ v b ok e).ends
  back l v (at5 d k) b ok e = (width t p F _ d _ _ v h.long (fresh t p h has _ d) k e).ends
  back l v (at6 q) b ok e = BackDefining.number t p F q v (over-gap v ok) e
  back l v (at7 d) b ok e = BackDefining.sort t p F _ _ d v e
  back l v (at8 d f) b ok e = (opens t p F h.long _ _ d _ v b ok e).ends
  back l v (at9 d f w) b ok e = (at-nine t p F h.long _ _ d _ _ v w ok e).ends
  back l v (at10 d f w) b ok e = at-ten t p F h.long _ _ d _ _ _ v (first t p F h.long _ _ d 10 _ _ _ v (kinded-range _ _ _ w) e)
  back l v (at11 d f u g w) b ok e = at-eleven t p F h.long _ _ d _ _ _ _ v (second t p F h.long _ _ d _ _ _ _ _ v w e)
  back l v (at12 d f u w i j k) b ok e = (third t p F h.long _ _ d _ _ _ v e).ends
  back l v (at13 d f i) b ok e = (high t p F h.long _ _ d _ v e).ends
  back l v (at14 m d f i c z k) b ok e = (BackDefining.bit t p F _ _ d _ _ _ _ v h.long c b e).ends
  back l v (at15 q) b ok e = assert t p F q v e

  -- two choices that lead to one end are one
  pub fixed : (l : Line) (v w : ℕ) → Lined t p l → v < size_at l.stage → w < size_at l.stage → ok_at t p l v ≡ true → ok_at t p l w ≡ true
      → Ends (next_at t p l v) F → Ends (next_at t p l w) F → v ≡ w
  unfolding size_at next_at
  fixed l v w at0 a b j k x y = starts-fixed t p F v w a b (starts t p F v a j x) (starts t p F w b k y)
  fixed l v w (at1 q) a b j k x y = let c = x.said.low w y.said.is in let d = y.said.low v x.said.is in omega arith
  fixed l v w (at2 d) a b j k x y = sym (kind t p F _ d v x).kind ∙ (kind t p F _ d w y).kind
  fixed l v w (at3 d m) a b j k x y = sym x.said.first ∙ y.said.first
  fixed l v w (at4 d lo hi small zeros) a b j k x y = digits-fixed t p F _ d _ _ _ v w a b (digits t p F _ d _ _ _ v a j x) (digits t p F _ d _ _ _ w b k y)
  fixed l v w (at5 d m) a b j k x y =
      sym (width t p F _ d _ _ v h.long (fresh t p h has _ d) m x).sort ∙ (width t p F _ d _ _ w h.long (fresh t p h has _ d) m y).sort
  fixed l v w (at6 q) a b j k x y = let c = x.said.low w y.said.is in let d = y.said.low v x.said.is in omega arith
  fixed l v w (at7 d) a b j k x y = sym x.said.sort ∙ y.said.sort
  fixed l v w (at8 d f) a b j k x y = sym (opens t p F h.long _ _ d _ v a j x).opens ∙ (opens t p F h.long _ _ d _ w b k y).opens
  fixed l v w (at9 d f m) a b j k x y = (at-nine t p F h.long _ _ d _ _ v m j x).is ∙ sym (at-nine t p F h.long _ _ d _ _ w m k y).is
  fixed l v w (at10 d f m) a b j k x y =
      sym (first t p F h.long _ _ d 10 _ _ _ v (kinded-range _ _ _ m) x).line.first ∙ (first t p F h.long _ _ d 10 _ _ _ w (kinded-range _ _ _ m) y).line.first
  fixed l v w (at11 d f u g m) a b j k x y =
      sym (second t p F h.long _ _ d _ _ _ _ _ v m x).line.second ∙ (second t p F h.long _ _ d _ _ _ _ _ w m y).line.second
  fixed l v w (at12 d f u m i o z) a b j k x y = sym (third t p F h.long _ _ d _ _ _ v x).third ∙ (third t p F h.long _ _ d _ _ _ w y).third
  fixed l v w (at13 d f i) a b j k x y = sym (high t p F h.long _ _ d _ v x).second ∙ (high t p F h.long _ _ d _ w y).second
  fixed l v w (at14 m d f i c z o) a b j k x y =
      BackDefining.bit-fixed t p F _ _ d _ _ _ _ v w (BackDefining.bit t p F _ _ d _ _ _ _ v h.long c a x) (BackDefining.bit t p F _ _ d _ _ _ _ w h.long c b y)
  fixed l v w (at15 q) a b j k x y = omega arith
