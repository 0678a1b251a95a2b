-- The text of each choice, stage by stage.
use Rattle.std.specs.Prelude.{cond, ◌&&◌, ◌||◌, List, [], ◌∷◌, ◌++◌, ℕ, ◌+◌, ◌-◌, leb, ltb, eqb, get_or}
use Rattle.writing.specs.Bytes.{bytes, decimal}
use Rattle.needs.specs.Needed.{arity}
use Rattle.smttext.specs.Names.{name_from, format_text, sort_text}
use Rattle.smtgrammar.specs.declared.Place.{Place}
use Rattle.smtgrammar.specs.declared.Line.{Line}
use Rattle.smtgrammar.specs.State.{Tables}

-- what begins a line
unfoldable pub line_text : ℕ → List ℕ
line_text v = cond (eqb v 0) (bytes "(declare-fun x") (cond (eqb v 1) (bytes "(define-fun n") (bytes "(assert (= "))

-- what opens a term of kind k and sort s
unfoldable pub opening_text : ℕ → ℕ → List ℕ
opening_text k s =
    cond (eqb k 6) (bytes "#b")
    (cond (eqb k 7) (bytes "(bvand ")
    (cond (eqb k 8) (bytes "(bvxor ")
    (cond (eqb k 9) (bytes "(ite (= ")
    (cond (eqb k 10) (bytes "(ite (and (= #b1 ")
    (cond (eqb k 11) (bytes "(ite (or (= #b1 ")
    (cond (eqb k 12) (bytes "(ite (not (= #b1 ")
    (cond (eqb k 14) (bytes "((_ extract ")
    (cond (eqb k 15) (bytes "(concat ")
    (cond (eqb k 16) (bytes "(fp.add ")
    (cond (eqb k 17) (bytes "(fp.sub ")
    (cond (eqb k 18) (bytes "(fp.mul ")
    (cond (eqb k 19) (bytes "(fp.div ")
    (cond (eqb k 20) (bytes "(ite (fp.eq ")
    (cond (eqb k 21) (bytes "(ite (fp.lt ")
    (cond (eqb k 22) (bytes "(ite (fp.isNaN ")
    (cond (eqb k 23) (bytes "(fp.sqrt ")
    (cond (eqb k 24) (bytes "(fp.roundToIntegral ")
    (cond (eqb k 25) (bytes "((_ to_fp " ++ (format_text s ++ bytes ") "))
    (bytes "((_ fp.to_sbv " ++ (decimal s ++ bytes ") "))))))))))))))))))))

-- what stands behind operand j of kind k, to the end of the line behind the last one
unfoldable pub mark_text : ℕ → ℕ → List ℕ
mark_text k j =
    cond (eqb j 0)
    (cond (eqb k 10 || eqb k 11) (bytes ") (= #b1 ")
    (cond (eqb k 12) (bytes ")) #b1 #b0))\n")
    (cond (eqb k 13) (bytes ") ")
    (cond (eqb k 22) (bytes ") #b1 #b0))\n")
    (cond (leb 2 (arity k)) (bytes " ") (bytes "))\n"))))))
    (cond (eqb j 1 && ((eqb k 9 || eqb k 20) || eqb k 21)) (bytes ") #b1 #b0))\n")
    (cond (eqb j 1 && (eqb k 10 || eqb k 11)) (bytes ")) #b1 #b0))\n")
    (cond (eqb j 1 && eqb k 13) (bytes " ")
    (bytes "))\n"))))

-- the words in the place of a first operand
unfoldable pub word_text : ℕ → List ℕ
word_text v = cond (eqb v 0) (bytes "#b1 ") (cond (eqb v 1) (bytes "RNE ") (bytes "RTZ "))

module _ (t : Tables) (p : Place) (l : Line) where
  -- the name of node i
  unfoldable pub node_name : ℕ → List ℕ
  node_name i = name_from i (get_or t.kinds i 0) (get_or t.field_a i 0)

  -- what is left of the assertion that is due
  unfoldable pub asserted_text : List ℕ
  asserted_text =
      bytes "((_ to_fp "
      ++ (format_text (get_or t.sorts (get_or t.field_a p.due 0) 0)
      ++ (bytes ") " ++ (node_name p.due ++ (bytes ") " ++ (node_name (get_or t.field_a p.due 0) ++ bytes "))\n")))))

  -- a name in the place of operand j
  abbrev pub operand_text : ℕ → ℕ → List ℕ
  operand_text j i = node_name i ++ mark_text l.kind j

  -- the text of the choice v at the line's stage
  unfoldable pub text_at : ℕ → List ℕ
  text_at v =
      cond (eqb l.stage 0) (line_text v)
      (cond (eqb l.stage 1) (decimal v ++ bytes "_")
      (cond (eqb l.stage 2) (decimal v ++ bytes "_")
      (cond (eqb l.stage 3) (decimal v ++ bytes " ")
      (cond (eqb l.stage 4) (cond (eqb v 10) (bytes " ") ((48 + v) ∷ []))
      (cond (eqb l.stage 5) (bytes "() (_ BitVec " ++ (decimal v ++ bytes "))\n"))
      (cond (eqb l.stage 6) (decimal v ++ bytes " ")
      (cond (eqb l.stage 7) (bytes "() " ++ (sort_text v ++ bytes " "))
      (cond (eqb l.stage 8) (opening_text v l.sort)
      (cond (eqb l.stage 9) (cond (ltb v 65536) (operand_text 0 v) (word_text (v - 65536)))
      (cond (eqb l.stage 10) (operand_text 0 v)
      (cond (eqb l.stage 11) (operand_text 1 v)
      (cond (eqb l.stage 12) (operand_text 2 v)
      (cond (eqb l.stage 13) (decimal v ++ (bytes " " ++ (decimal (v + 1 - l.sort) ++ bytes ") ")))
      (cond (eqb l.stage 14) ((48 + v) ∷ cond (eqb l.left 1) (bytes ")\n") [])
      asserted_text))))))))))))))
