-- The term of each kind of node that is defined, from its fields and the names of its operands.
use Rattle.std.specs.Prelude.{cond, List, [], ◌∷◌, ℕ, ◌+◌, ◌*◌, ◌^◌, eqb}
use Rattle.writing.specs.Bytes.{decimal, bits}
use Rattle.smttext.specs.Fill.{fill}
use Rattle.smttext.specs.Names.{format_text, rounding_text}

-- a float's operation, or one that gives bits: kind k with fields b, c and operands named x, y
unfoldable pub float_text : ℕ → ℕ → ℕ → List ℕ → List ℕ → List ℕ
float_text k b c x y =
    -- FAdd, FSub, FMul, FDiv
    cond (eqb k 16) (fill "(fp.add % % %)" (rounding_text c ∷ x ∷ y ∷ []))
    (cond (eqb k 17) (fill "(fp.sub % % %)" (rounding_text c ∷ x ∷ y ∷ []))
    (cond (eqb k 18) (fill "(fp.mul % % %)" (rounding_text c ∷ x ∷ y ∷ []))
    (cond (eqb k 19) (fill "(fp.div % % %)" (rounding_text c ∷ x ∷ y ∷ []))
    -- FEq, FLt, FIsNaN
    (cond (eqb k 20) (fill "(ite (fp.eq % %) #b1 #b0)" (x ∷ y ∷ []))
    (cond (eqb k 21) (fill "(ite (fp.lt % %) #b1 #b0)" (x ∷ y ∷ []))
    (cond (eqb k 22) (fill "(ite (fp.isNaN %) #b1 #b0)" (x ∷ []))
    -- FSqrt, FRoundToIntegral
    (cond (eqb k 23) (fill "(fp.sqrt % %)" (rounding_text b ∷ x ∷ []))
    (cond (eqb k 24) (fill "(fp.roundToIntegral % %)" (rounding_text b ∷ x ∷ []))
    -- BvToFp, FpToSbv
    (cond (eqb k 25) (fill "((_ to_fp %) %)" (format_text c ∷ x ∷ []))
    (cond (eqb k 27) (fill "((_ fp.to_sbv %) % %)" (decimal c ∷ rounding_text b ∷ x ∷ []))
    -- SbvToFp, FpToFp: the operand's sort tells them apart
    (fill "((_ to_fp %) % %)" (format_text c ∷ rounding_text b ∷ x ∷ []))))))))))))

-- kind k with fields a, b, c and operands named x, y, z: a truth is the bit #b1
unfoldable pub term_text : ℕ → ℕ → ℕ → ℕ → List ℕ → List ℕ → List ℕ → List ℕ
term_text k a b c x y z =
    -- constant: c digits
    cond (eqb k 6) (fill "#b%" (bits c (b * 2 ^ 64 + a) ∷ []))
    -- And, Xor, Eq
    (cond (eqb k 7) (fill "(bvand % %)" (x ∷ y ∷ []))
    (cond (eqb k 8) (fill "(bvxor % %)" (x ∷ y ∷ []))
    (cond (eqb k 9) (fill "(ite (= % %) #b1 #b0)" (x ∷ y ∷ []))
    -- BoolAnd, BoolOr, BoolNot
    (cond (eqb k 10) (fill "(ite (and (= #b1 %) (= #b1 %)) #b1 #b0)" (x ∷ y ∷ []))
    (cond (eqb k 11) (fill "(ite (or (= #b1 %) (= #b1 %)) #b1 #b0)" (x ∷ y ∷ []))
    (cond (eqb k 12) (fill "(ite (not (= #b1 %)) #b1 #b0)" (x ∷ []))
    -- Ite, Extract, Concat
    (cond (eqb k 13) (fill "(ite (= #b1 %) % %)" (x ∷ y ∷ z ∷ []))
    (cond (eqb k 14) (fill "((_ extract % %) %)" (decimal b ∷ decimal c ∷ x ∷ []))
    (cond (eqb k 15) (fill "(concat % %)" (x ∷ y ∷ []))
    (float_text k b c x y))))))))))
