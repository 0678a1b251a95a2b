-- The text of the marked nodes of a list: declarations, definitions, assertions, each in node order.
use Rattle.std.specs.Prelude.{Bool, cond, not, ◌&&◌, List, [], ◌∷◌, ◌++◌, ℕ, zero, suc, eqb, get_or}
use Rattle.sorts.specs.Lists.{field, sorts}
use Rattle.needs.specs.Needed.{marks}
use Rattle.smttext.specs.Fill.{fill}
use Rattle.smttext.specs.Names.{kind_at, declared_is, name_of, format_text, sort_text}
use Rattle.smttext.specs.Terms.{term_text}
use Rattle.smttext.specs.declared.Part.{Part}
use Rattle.smttext.specs.declared.Part.TheVariants.{Declarations, Definitions, Assertions}

-- the term of node i of the list w
abbrev pub term_at : List ℕ → ℕ → List ℕ
term_at w i =
    term_text (kind_at w i) (field w i 1) (field w i 2) (field w i 3)
    (name_of w (field w i 1)) (name_of w (field w i 2)) (name_of w (field w i 3))

-- the lines of node i of the list w, where s has the sorts
module _ (w s : List ℕ) (i : ℕ) where
  unfoldable pub declaration : List ℕ
  declaration = fill "(declare-fun % () %)\n" (name_of w i ∷ sort_text (get_or s i 0) ∷ [])

  unfoldable pub definition : List ℕ
  definition = fill "(define-fun % () % %)\n" (name_of w i ∷ sort_text (get_or s i 0) ∷ term_at w i ∷ [])

  -- of an FpToIeeeBv: its pattern, read as a float, is its operand
  unfoldable pub assertion : List ℕ
  assertion =
      fill "(assert (= ((_ to_fp %) %) %))\n"
      (format_text (get_or s (field w i 1) 0) ∷ name_of w i ∷ name_of w (field w i 1) ∷ [])

-- the parts of a text: whether a node of kind k has a line there, and the line of node i
abbrev pub in_part : Part → ℕ → Bool
in_part Declarations k = declared_is k
in_part Definitions k = not (declared_is k)
in_part Assertions k = eqb k 26

abbrev pub line_in : Part → List ℕ → List ℕ → ℕ → List ℕ
line_in Declarations w s i = declaration w s i
line_in Definitions w s i = definition w s i
line_in Assertions w s i = assertion w s i

-- node i is marked
abbrev pub on : List ℕ → ℕ → Bool
on m i = eqb (get_or m i 0) 1

-- the lines of one part for the marked nodes below n
unfoldable pub part : Part → List ℕ → List ℕ → List ℕ → ℕ → List ℕ
part p w s m zero = []
part p w s m (suc n) = part p w s m n ++ cond (on m n && in_part p (kind_at w n)) (line_in p w s n) []

-- the text of the marked nodes below n
unfoldable pub text_by : List ℕ → List ℕ → ℕ → List ℕ
text_by w m n = part Declarations w (sorts w n) m n ++ (part Definitions w (sorts w n) m n ++ part Assertions w (sorts w n) m n)

-- THE TEXT OF A ROOT: that of the nodes which it needs
unfoldable pub text_of : List ℕ → ℕ → List ℕ
text_of w r = text_by w (marks w r) (suc r)
