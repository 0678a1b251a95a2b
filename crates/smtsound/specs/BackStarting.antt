-- What the end says behind a choice it says before: where a line begins, and an assertion.
use Rattle.std.specs.Prelude.{◌≡◌, true, false, leb, ltb, eqb}
use Rattle.std.proofs.Math.Path.{refl}
use Rattle.std.proofs.Common.{sym, ◌∙◌, arith}
use Prim.Native.Nat.{ℕ, zero, suc, ◌<◌}
use borrow.Author.Tests.{eqb-true, leb-true}
use Rattle.words.specs.Tests.{and_l}
use Rattle.smttext.specs.Names.{declared_is}
use Rattle.viable.specs.Grammar.{clash}
use Rattle.smtgrammar.specs.declared.Place.{Place}
use Rattle.smtgrammar.specs.State.{limit, Tables}
use Rattle.smtgrammar.specs.Allowed.{ok_at, line_ok}
use Rattle.smtgrammar.specs.Next.{next_at, begun, asserted}
use Rattle.smtsound.specs.Lines.{line}
use Rattle.smtsound.specs.Final.{Final, New, Line1, Line6, Ends}
use Rattle.smtsound.specs.BackDeclaring.{Within}

module _ (t : Tables) (p : Place) (F : Final) where
  pub assert : p.part ≡ 2 → (v : ℕ) → Ends (next_at t p (line 15 0 0 0 0 0 0 0 0) v) F → Within t p F (line 15 0 0 0 0 0 0 0 0)
  unfolding next_at asserted
  assert q v e = record {
    rows = e.rows;
    tops = λ z. absurd (omega arith);
    defs = λ z. absurd (omega arith);
    gaps = λ z. absurd (omega arith);
    shut = λ _. e.shut refl;
    said = tt;
  }

  -- which line begins: some node is declared; none is, and some is defined; none is new
  pub record Starts (v : ℕ) : Type 0 where
    pub ends : Within t p F (line 0 0 0 0 0 0 0 0 0)
    pub declares : v ≡ 0 → Line1 t F
    pub defines : v ≡ 1 → Line6 t F
    pub rest : v ≡ 1 → (i : ℕ) → New t F i → declared_is (F.kind i) ≡ false
    pub asserts : v ≡ 2 → (i : ℕ) → New t F i → ⊥

  pub starts : (v : ℕ) → v < 3 → ok_at t p (line 0 0 0 0 0 0 0 0 0) v ≡ true → Ends (next_at t p (line 0 0 0 0 0 0 0 0 0) v) F → Starts v
  unfolding ok_at line_ok next_at begun
  starts zero l ok e =
      let q = eqb-true p.part 0 (and_l (eqb p.part 0) (ltb p.top limit) ok) in
      record {
        ends = record {
          rows = e.rows;
          tops = λ _. e.tops refl;
          defs = λ z. absurd (omega arith);
          gaps = λ z. absurd (omega arith);
          shut = λ z. absurd (omega arith);
          said = tt;
        };
        declares = λ _. e.said;
        defines = λ z. absurd (omega arith);
        rest = λ z. absurd (omega arith);
        asserts = λ z. absurd (omega arith);
      }
  starts (suc zero) l ok e =
      let q = leb-true p.part 1 (and_l (leb p.part 1) (ltb p.gap limit) ok) in
      record {
        ends = record {
          rows = e.rows;
          tops = λ _ i w. clash (sym (e.defs refl i w.new) ∙ w.is);
          defs = λ _. e.defs refl;
          gaps = λ _. e.gaps refl;
          shut = λ z. absurd (omega arith);
          said = tt;
        };
        declares = λ z. absurd (omega arith);
        defines = λ _. e.said;
        rest = λ _. e.defs refl;
        asserts = λ z. absurd (omega arith);
      }
  starts (suc (suc zero)) l ok e = record {
    ends = record {
      rows = e.rows;
      tops = λ _ i w. absurd (e.shut refl i w.new);
      defs = λ _ i w. absurd (e.shut refl i w);
      gaps = λ _ i w. absurd (e.shut refl i w);
      shut = λ _. e.shut refl;
      said = tt;
    };
    declares = λ z. absurd (omega arith);
    defines = λ z. absurd (omega arith);
    rest = λ z. absurd (omega arith);
    asserts = λ _. e.shut refl;
  }
  starts (suc (suc (suc v))) l ok e = absurd (omega arith)

  -- so there is one
  pub starts-fixed : (v w : ℕ) → v < 3 → w < 3 → Starts v → Starts w → v ≡ w
  starts-fixed zero zero a b x y = refl
  starts-fixed zero (suc zero) a b x y = let d = x.declares refl in clash (sym (y.rest refl d.at d.is.new) ∙ d.is.is)
  starts-fixed zero (suc (suc zero)) a b x y = let d = x.declares refl in absurd (y.asserts refl d.at d.is.new)
  starts-fixed (suc zero) zero a b x y = let d = y.declares refl in clash (sym (x.rest refl d.at d.is.new) ∙ d.is.is)
  starts-fixed (suc zero) (suc zero) a b x y = refl
  starts-fixed (suc zero) (suc (suc zero)) a b x y = let d = x.defines refl in absurd (y.asserts refl d.at d.is)
  starts-fixed (suc (suc zero)) zero a b x y = let d = y.declares refl in absurd (x.asserts refl d.at d.is.new)
  starts-fixed (suc (suc zero)) (suc zero) a b x y = let d = y.defines refl in absurd (x.asserts refl d.at d.is)
  starts-fixed (suc (suc zero)) (suc (suc zero)) a b x y = refl
  starts-fixed zero (suc (suc (suc w))) a b x y = absurd (omega arith)
  starts-fixed (suc zero) (suc (suc (suc w))) a b x y = absurd (omega arith)
  starts-fixed (suc (suc zero)) (suc (suc (suc w))) a b x y = absurd (omega arith)
  starts-fixed (suc (suc (suc v))) w a b x y = absurd (omega arith)
