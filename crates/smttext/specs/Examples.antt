-- Texts written out: the manual's P6, and a list of every kind.
use Rattle.std.specs.Prelude.{◌≡◌, refl, List, [], ◌∷◌, ℕ}
use Rattle.sorts.specs.Lists.{sorts, row_sort}
use Rattle.sorts.specs.Sorts.{sort_row}
use Rattle.needs.specs.Needed.{arity, marked, spread, pass, marks}
use Rattle.writing.specs.Bytes.{bytes, digits, decimal, bits}
use Rattle.smttext.specs.Fill.{filled}
use Rattle.smttext.specs.Names.{declared_name, defined_name, name_from, name_of, format_text, sort_text, rounding_text}
use Rattle.smttext.specs.Terms.{float_text, term_text}
use Rattle.smttext.specs.Text.{declaration, definition, assertion, part, text_by, text_of}

abbrev pub p6 : List ℕ
p6 = 1 ∷ 0 ∷ 79 ∷ 0 ∷ 1 ∷ 1 ∷ 79 ∷ 0 ∷ 25 ∷ 1 ∷ 0 ∷ 3904 ∷ 25 ∷ 0 ∷ 0 ∷ 3904 ∷ 16 ∷ 2 ∷ 3 ∷ 0 ∷ 26 ∷ 4 ∷ 0 ∷ 0 ∷ []

pub p6-text : text_of p6 5 ≡ bytes "(declare-fun x0_1_0 () (_ BitVec 79))\n(declare-fun x1_1_1 () (_ BitVec 79))\n(declare-fun x5_26_4 () (_ BitVec 79))\n(define-fun n2 () (_ FloatingPoint 15 64) ((_ to_fp 15 64) x1_1_1))\n(define-fun n3 () (_ FloatingPoint 15 64) ((_ to_fp 15 64) x0_1_0))\n(define-fun n4 () (_ FloatingPoint 15 64) (fp.add RNE n2 n3))\n(assert (= ((_ to_fp 15 64) x5_26_4) n4))\n"
unfolding sorts row_sort sort_row arity marked spread pass marks bytes digits decimal bits filled declared_name defined_name name_from name_of format_text sort_text rounding_text float_text term_text declaration definition assertion part text_by text_of
p6-text = refl

-- every kind
abbrev pub every : List ℕ
every = 1 ∷ 0 ∷ 79 ∷ 0 ∷ 2 ∷ 0 ∷ 64 ∷ 0 ∷ 3 ∷ 7 ∷ 32 ∷ 0 ∷ 4 ∷ 0 ∷ 0 ∷ 0 ∷ 5 ∷ 2 ∷ 0 ∷ 0 ∷ 6 ∷ 5 ∷ 0 ∷ 16 ∷ 7 ∷ 3 ∷ 5 ∷ 0 ∷ 8 ∷ 3 ∷ 6 ∷ 0 ∷ 9 ∷ 6 ∷ 7 ∷ 0 ∷ 10 ∷ 8 ∷ 4 ∷ 0 ∷ 11 ∷ 9 ∷ 4 ∷ 0 ∷ 12 ∷ 10 ∷ 0 ∷ 0 ∷ 13 ∷ 11 ∷ 6 ∷ 7 ∷ 14 ∷ 12 ∷ 7 ∷ 0 ∷ 15 ∷ 13 ∷ 12 ∷ 0 ∷ 25 ∷ 0 ∷ 0 ∷ 3904 ∷ 28 ∷ 1 ∷ 0 ∷ 3904 ∷ 16 ∷ 15 ∷ 16 ∷ 0 ∷ 17 ∷ 17 ∷ 15 ∷ 1 ∷ 18 ∷ 18 ∷ 16 ∷ 0 ∷ 19 ∷ 19 ∷ 17 ∷ 1 ∷ 20 ∷ 20 ∷ 15 ∷ 0 ∷ 21 ∷ 20 ∷ 16 ∷ 0 ∷ 22 ∷ 20 ∷ 0 ∷ 0 ∷ 23 ∷ 20 ∷ 0 ∷ 0 ∷ 24 ∷ 24 ∷ 1 ∷ 0 ∷ 29 ∷ 25 ∷ 0 ∷ 2072 ∷ 26 ∷ 26 ∷ 0 ∷ 0 ∷ 27 ∷ 25 ∷ 1 ∷ 16 ∷ 15 ∷ 21 ∷ 22 ∷ 0 ∷ 15 ∷ 23 ∷ 29 ∷ 0 ∷ 15 ∷ 27 ∷ 30 ∷ 0 ∷ 15 ∷ 28 ∷ 31 ∷ 0 ∷ 15 ∷ 14 ∷ 32 ∷ 0 ∷ []

pub every-text : text_of every 33 ≡ bytes "(declare-fun x0_1_0 () (_ BitVec 79))\n(declare-fun x1_2_0 () (_ BitVec 64))\n(declare-fun x3_4_0 () (_ BitVec 16))\n(declare-fun x4_5_2 () (_ BitVec 1))\n(declare-fun x27_26_26 () (_ BitVec 32))\n(define-fun n5 () (_ BitVec 16) #b0000000000000101)\n(define-fun n6 () (_ BitVec 16) (bvand x3_4_0 n5))\n(define-fun n7 () (_ BitVec 16) (bvxor x3_4_0 n6))\n(define-fun n8 () (_ BitVec 1) (ite (= n6 n7) #b1 #b0))\n(define-fun n9 () (_ BitVec 1) (ite (and (= #b1 n8) (= #b1 x4_5_2)) #b1 #b0))\n(define-fun n10 () (_ BitVec 1) (ite (or (= #b1 n9) (= #b1 x4_5_2)) #b1 #b0))\n(define-fun n11 () (_ BitVec 1) (ite (not (= #b1 n10)) #b1 #b0))\n(define-fun n12 () (_ BitVec 16) (ite (= #b1 n11) n6 n7))\n(define-fun n13 () (_ BitVec 8) ((_ extract 7 0) n12))\n(define-fun n14 () (_ BitVec 24) (concat n13 n12))\n(define-fun n15 () (_ FloatingPoint 15 64) ((_ to_fp 15 64) x0_1_0))\n(define-fun n16 () (_ FloatingPoint 15 64) ((_ to_fp 15 64) RNE x1_2_0))\n(define-fun n17 () (_ FloatingPoint 15 64) (fp.add RNE n15 n16))\n(define-fun n18 () (_ FloatingPoint 15 64) (fp.sub RTZ n17 n15))\n(define-fun n19 () (_ FloatingPoint 15 64) (fp.mul RNE n18 n16))\n(define-fun n20 () (_ FloatingPoint 15 64) (fp.div RTZ n19 n17))\n(define-fun n21 () (_ BitVec 1) (ite (fp.eq n20 n15) #b1 #b0))\n(define-fun n22 () (_ BitVec 1) (ite (fp.lt n20 n16) #b1 #b0))\n(define-fun n23 () (_ BitVec 1) (ite (fp.isNaN n20) #b1 #b0))\n(define-fun n24 () (_ FloatingPoint 15 64) (fp.sqrt RNE n20))\n(define-fun n25 () (_ FloatingPoint 15 64) (fp.roundToIntegral RTZ n24))\n(define-fun n26 () (_ FloatingPoint 8 24) ((_ to_fp 8 24) RNE n25))\n(define-fun n28 () (_ BitVec 16) ((_ fp.to_sbv 16) RTZ n25))\n(define-fun n29 () (_ BitVec 2) (concat n21 n22))\n(define-fun n30 () (_ BitVec 3) (concat n23 n29))\n(define-fun n31 () (_ BitVec 35) (concat x27_26_26 n30))\n(define-fun n32 () (_ BitVec 51) (concat n28 n31))\n(define-fun n33 () (_ BitVec 75) (concat n14 n32))\n(assert (= ((_ to_fp 8 24) x27_26_26) n26))\n"
unfolding sorts row_sort sort_row arity marked spread pass marks bytes digits decimal bits filled declared_name defined_name name_from name_of format_text sort_text rounding_text float_text term_text declaration definition assertion part text_by text_of
every-text = refl
