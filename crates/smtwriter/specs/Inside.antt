-- What the functions inside promise.
use Rattle.std.specs.Prelude.{◌≡◌, List, ◌++◌, ℕ, ◌≤◌, min, length, get_or, take, Ok}
use Rattle.writing.specs.Bytes.{decimal}
use Rattle.sorts.specs.Lists.{sorts}
use Rattle.sorts.specs.Check.{check_of}
use Rattle.smttext.specs.Names.{name_of, sort_text, format_text, rounding_text}
use Rattle.smttext.specs.Text.{part}
use Rattle.smttext.specs.declared.Part.TheVariants.{Declarations, Definitions, Assertions}
use Rattle.smtwriter.specs.declared.formula.Hole.{Hole}
use Rattle.smtwriter.specs.declared.formula.Hole.TheVariants.{Name, Sort, Format, Rounding, Decimal}

-- what stands in a hole of a template, over the list w
abbrev pub hole_text : List ℕ → Hole → List ℕ
hole_text w (Name i) = name_of w i
hole_text w (Sort s) = sort_text s
hole_text w (Format f) = format_text f
hole_text w (Rounding r) = rounding_text r
hole_text w (Decimal v) = decimal v

-- the three parts over the sorts s and the marks m of a list's first nodes
abbrev pub parts_of : List ℕ → List ℕ → List ℕ → List ℕ
parts_of w s m = part Declarations w s m (length m) ++ (part Definitions w s m (length m) ++ part Assertions w s m (length m))

-- a table with an entry for each of n nodes, or 65,535 entries, which are enough for any list
abbrev pub Enough : ℕ → List ℕ → Type 0
Enough n t = min n 65535 ≤ length t

-- a column of marks for n nodes, none of them marked
pub record Clear (n : ℕ) (m : List ℕ) : Type 0 where
  pub enough : Enough n m
  pub clear : (i : ℕ) → get_or m i 0 ≡ 0

-- a list whose first n nodes pass, and the table of their sorts
pub record Sorted (w : List ℕ) (n : ℕ) (t : List ℕ) : Type 0 where
  pub passed : check_of w n ≡ Ok tt
  pub table : take n t ≡ sorts w n
