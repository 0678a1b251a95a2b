-- What the end says behind a choice it says before: the operands of a term.
use Rattle.std.specs.Prelude.{◌≡◌, refl, Bool, cond, ◌&&◌, ◌||◌, ℕ, ◌+◌, ◌-◌, ◌≤◌, ◌<◌, leb, eqb}
use Rattle.std.proofs.Common.{◌∙◌, arith, eqb-true, leb-true, le-leb, ne_eqb}
use Rattle.std.proofs.Math.Bool.{true, false}
use Rattle.std.proofs.lemmas.Bool.{lt-leb}
use Rattle.words.specs.Tests.{and_l, or_case}
use Rattle.sorts.specs.Sorts.{is_float}
use Rattle.needs.specs.Needed.{arity}
use Rattle.viable.specs.Grammar.{clash}
use Rattle.smttext.specs.Names.{declared_is}
use Rattle.smtgrammar.specs.declared.Place.{Place}
use Rattle.smtgrammar.specs.State.{Tables}
use Rattle.smtgrammar.specs.Next.{next_at, operand₀, operand₁, termed}
use Rattle.smtsound.specs.Tables.{sort_in, Long, Is, same?}
use Rattle.smtsound.specs.Lines.{line, Defines, Kinded, Paired}
use Rattle.smtsound.specs.Opening.{among₂, among₄}
use Rattle.smtsound.specs.Final.{Final, Holds, early_of, holds₂, holds₃, Line8, Line11, Line12, Ends}
use Rattle.smtsound.specs.BackDeclaring.{Within}
use Rattle.smtsound.specs.BackDefining.{Rest, defining, term}

-- a kind that a term is opened with
pub record Range (k : ℕ) : Type 0 where
  pub lo : 6 ≤ k
  pub hi : k ≤ 28
  pub other : k ≡ 26 → ⊥

pub kinded-range : (k s r : ℕ) → Kinded k s r → Range k
kinded-range k s r (Kinded.mask lo hi b) = omega arith
kinded-range k s r (Kinded.both lo hi) = omega arith
kinded-range k s r Kinded.negation = omega arith
kinded-range k s r (Kinded.choice b) = omega arith
kinded-range k s r (Kinded.extract b lo hi) = omega arith
kinded-range k s r (Kinded.join b) = omega arith
kinded-range k s r (Kinded.sum lo hi b l) = omega arith
kinded-range k s r (Kinded.compare lo hi) = omega arith
kinded-range k s r Kinded.nan = omega arith
kinded-range k s r (Kinded.root lo hi b l) = omega arith
kinded-range k s r (Kinded.whole b l) = omega arith
kinded-range k s r (Kinded.convert b l) = omega arith

-- .. that has two operands or more
record Double (k : ℕ) : Type 0 where
  range : Range k
  many : 2 ≤ arity k

paired-double : (k s r x : ℕ) → Paired k s r x → Double k
unfolding arity
paired-double k s r x (Paired.mask lo hi b) = record { range = omega arith; many = among₂ (λ k. 2 ≤ arity k) 7 k lo hi (omega arith) (omega arith) }
paired-double k s r x (Paired.equal b) = record { range = omega arith; many = omega arith }
paired-double k s r x (Paired.both lo hi) = record { range = omega arith; many = among₂ (λ k. 2 ≤ arity k) 10 k lo hi (omega arith) (omega arith) }
paired-double k s r x (Paired.choice b) = record { range = omega arith; many = omega arith }
paired-double k s r x (Paired.join b i l) = record { range = omega arith; many = omega arith }
paired-double k s r x (Paired.sum lo hi b l) = record { range = omega arith; many = among₄ (λ k. 2 ≤ arity k) 16 k lo hi (omega arith) (omega arith) (omega arith) (omega arith) }
paired-double k s r x (Paired.compare lo hi b) = record { range = omega arith; many = among₂ (λ k. 2 ≤ arity k) 20 k lo hi (omega arith) (omega arith) }

-- the kind as it is in the end
kind-some : (k : ℕ) (x : Bool) → Range k → 0 < cond x 29 k
kind-some k true f = omega arith
kind-some k false f = omega arith

kind-defined : (k : ℕ) (x : Bool) → Range k → declared_is (cond x 29 k) ≡ false
kind-defined k true f = refl
kind-defined k false f = rw (lt-leb k 5 (omega arith), ne_eqb k 26 f.other)

kind-early : (k : ℕ) (x : Bool) → Range k → early_of (cond (eqb k 28 && x) 29 k) ≡ k
kind-early k x f = same? k 28 (λ e. rw e (at x)) (λ e. rw (ne_eqb k 28 e, ne_eqb k 29 (λ z. omega arith)))
  where
    at : (x : Bool) → early_of (cond x 29 28) ≡ 28
    at true = refl
    at false = refl

-- a rounding or a place is read back
second_is : (k r : ℕ) → holds₂ k ≡ true → cond (leb 2 (arity k)) 0 (cond (leb k 13 || eqb k 22) 0 (cond (eqb k 25) 0 r)) ≡ r
unfolding arity
second_is k r e =
    or_case (eqb k 14 || (eqb k 23 || eqb k 24)) (eqb k 27 || eqb k 28) e
    (λ e. or_case (eqb k 14) (eqb k 23 || eqb k 24) e
    (λ e. rw (eqb-true k 14 e))
    (λ e. or_case (eqb k 23) (eqb k 24) e (λ e. rw (eqb-true k 23 e)) (λ e. rw (eqb-true k 24 e))))
    (λ e. or_case (eqb k 27) (eqb k 28) e (λ e. rw (eqb-true k 27 e)) (λ e. rw (eqb-true k 28 e)))

-- .. and its kind has one operand
second-one : (k : ℕ) → holds₂ k ≡ true → arity k ≡ 1
unfolding arity
second-one k e =
    or_case (eqb k 14 || (eqb k 23 || eqb k 24)) (eqb k 27 || eqb k 28) e
    (λ e. or_case (eqb k 14) (eqb k 23 || eqb k 24) e
    (λ e. rw (eqb-true k 14 e))
    (λ e. or_case (eqb k 23) (eqb k 24) e (λ e. rw (eqb-true k 23 e)) (λ e. rw (eqb-true k 24 e))))
    (λ e. or_case (eqb k 27) (eqb k 28) e (λ e. rw (eqb-true k 27 e)) (λ e. rw (eqb-true k 28 e)))

third-is : (k c r s : ℕ) → holds₃ k ≡ true → cond (eqb k 13) c (cond (eqb k 14) (r + 1 - s) (cond (leb 16 k && leb k 19) r (cond (leb 25 k) s 0))) ≡ r
third-is k c r s e =
    let l = leb-true 16 k (and_l (leb 16 k) (leb k 19) e) in
    rw (ne_eqb k 13 (λ z. omega arith), ne_eqb k 14 (λ z. omega arith), e)

module _ (t : Tables) (p : Place) (F : Final) (h : Long t) (n q : ℕ) (d : Defines t p n q) where
  -- what the end of a term says
  record Ended (k a b c s r : ℕ) : Type 0 where
    rows : (i : ℕ) → Is t i → Holds t F i
    rest : Rest t p F
    line : Line8 t F n s
    kind : early_of (F.kind n) ≡ k
    first : F.first n ≡ a
    second : F.second n ≡ cond (leb 2 (arity k)) b (cond (leb k 13 || eqb k 22) 0 (cond (eqb k 25) 0 r))
    third : F.third n ≡ cond (eqb k 13) c (cond (eqb k 14) (r + 1 - s) (cond (leb 16 k && leb k 19) r (cond (leb 25 k) s 0)))

  ended : (stage k s a₀ b₀ r a b c : ℕ) → Range k → Ends (termed t p (line stage n k s a₀ b₀ r 0 q) a b c) F → Ended k a b c s r
  unfolding termed
  ended stage k s a₀ b₀ r a b c f e =
      let y = term t p F n q d stage k s a₀ b₀ r 0 _ a _ _ h (kind-some k (eqb k 28 && is_float (sort_in t a)) f) (kind-defined k (eqb k 28 && is_float (sort_in t a)) f) e in
      record {
        rows = y.rows;
        rest = y.rest;
        line = y.line;
        kind = rw y.here.kind (kind-early k (is_float (sort_in t a)) f);
        first = y.here.first;
        second = y.here.second;
        third = y.here.third;
      }

  -- a first operand
  pub record First (k s r v : ℕ) : Type 0 where
    pub rows : (i : ℕ) → Is t i → Holds t F i
    pub rest : Rest t p F
    pub line : Line11 t F n s k r v

  pub first : (stage k s r v : ℕ) → Range k → Ends (operand₀ t p (line stage n k s 0 0 r 0 q) v) F → First k s r v
  unfolding operand₀
  first stage k s r v f e = go (leb 2 (arity k)) e
    where
      go : (x : Bool) → Ends (cond x (record { tables = t; place = p; line = line 11 n k s v 0 r 0 q }) (termed t p (line stage n k s 0 0 r 0 q) v 0 0)) F → First k s r v
      go true e = record { rows = e.rows; rest = e.defs d.part; line = e.said }
      go false e =
          let y = ended stage k s 0 0 r v 0 0 f e in
          record {
            rows = y.rows;
            rest = y.rest;
            line = record {
              line = record { line = y.line; kind = y.kind; round₂ = λ z. y.second ∙ second_is k r z; round₃ = λ z. y.third ∙ third-is k 0 r s z };
              first = y.first;
            };
          }

  pub at-ten : (k s r v : ℕ) → First k s r v → Within t p F (line 10 n k s 0 0 r 0 q)
  at-ten k s r v y = defining t p F n q d (line 10 n k s 0 0 r 0 q) y.rows y.rest y.line.line.line.node.low y.line.line

  -- a second one
  pub record Second (k s r a v : ℕ) : Type 0 where
    pub rows : (i : ℕ) → Is t i → Holds t F i
    pub rest : Rest t p F
    pub line : Line12 t F n s k r a v

  pub second : (k s r x a v : ℕ) → Paired k s r x → Ends (next_at t p (line 11 n k s a 0 r 0 q) v) F → Second k s r a v
  unfolding next_at operand₁
  second k s r x a v w e = go (eqb k 13) e
    where
      f : Double k
      f = paired-double k s r x w

      go : (x : Bool) → Ends (cond x (record { tables = t; place = p; line = line 12 n k s a v r 0 q }) (termed t p (line 11 n k s a 0 r 0 q) a v 0)) F → Second k s r a v
      go true e = record { rows = e.rows; rest = e.defs d.part; line = e.said }
      go false e =
          let y = ended 11 k s a 0 r a v 0 f.range e in
          record {
            rows = y.rows;
            rest = y.rest;
            line = record {
              line = record {
                line = record {
                  line = y.line;
                  kind = y.kind;
                  round₂ = λ z. absurd (let u = second-one k z in let m = f.many in omega arith);
                  round₃ = λ z. y.third ∙ third-is k 0 r s z;
                };
                first = y.first;
              };
              second = y.second ∙ rw (le-leb 2 (arity k) f.many);
            };
          }

  pub at-eleven : (k s r a v : ℕ) → Second k s r a v → Within t p F (line 11 n k s a 0 r 0 q)
  at-eleven k s r a v y = defining t p F n q d (line 11 n k s a 0 r 0 q) y.rows y.rest y.line.line.line.line.node.low y.line.line

  -- a third one
  pub record Third (s a b v : ℕ) : Type 0 where
    pub ends : Within t p F (line 12 n 13 s a b 0 0 q)
    pub third : F.third n ≡ v

  pub third : (s a b v : ℕ) → Ends (next_at t p (line 12 n 13 s a b 0 0 q) v) F → Third s a b v
  unfolding next_at arity
  third s a b v e =
      let y = ended 12 13 s a b 0 a b v (omega arith) e in
      record {
        ends = defining t p F n q d (line 12 n 13 s a b 0 0 q) y.rows y.rest y.line.node.low (record {
          line = record { line = record { line = y.line; kind = y.kind; round₂ = λ z. clash z; round₃ = λ z. clash z }; first = y.first };
          second = y.second;
        });
        third = y.third;
      }
