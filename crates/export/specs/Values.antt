-- What the calls on images and on lists of nodes answer, tell and leave.
use Rattle.std.specs.Prelude.{◌≡◌, cond, List, [], ◌∷◌, ℕ, length, Result, Ok, Err}
use Rattle.words.specs.declared.Wide.{Wide}
use Rattle.image.specs.Answers as image
use Rattle.image.specs.declared.ImageError.{ImageError}
use Rattle.sorts.specs.Check as sorts
use Rattle.sorts.specs.declared.CheckError.{CheckError}
use Rattle.evaluator.specs.Outcome as evaluator
use Rattle.evaluator.specs.declared.EvalError.{EvalError}
use Rattle.answers.specs.Refusal.{told_of}
use Rattle.export.specs.Answers.{Said, Tells}
use Rattle.export.specs.Flat.{at_least}

-- two words, low first
abbrev pub wide : ℕ → ℕ → Wide
wide low high = record { lo = low; hi = high }

-- the words of a pattern that was read; beside a refusal the node that it names, and 0
abbrev pub pattern_words : Result Wide ImageError → List ℕ
pattern_words (Ok p) = p.lo ∷ p.hi ∷ []
pattern_words (Err e) = image.node_of e ∷ 0 ∷ []

abbrev pub image_said : Result Wide ImageError → Said
image_said r = record { number = told_of image.number_of r; words = pattern_words r }

unfoldable pub ReadsImage : List ℕ → ℕ → ℕ → List ℕ → ℕ → List ℕ → Type 0
ReadsImage b low high out = Tells 2 (image_said (image.read_of b (wide low high))) out

pub record WritesImage (b : List ℕ) (low high r : ℕ) (left : List ℕ) : Type 0 where
  pub answer : r ≡ told_of image.number_of (image.write_of b (wide low high))
  pub bytes : left ≡ image.image_after b (wide low high)

-- the number of a check's answer, and the node that it names
abbrev pub check_said : Result Unit CheckError → Said
check_said r = record { number = told_of sorts.number_of r; words = told_of sorts.node_of r ∷ [] }

unfoldable pub ChecksNodes : List ℕ → ℕ → List ℕ → ℕ → List ℕ → Type 0
ChecksNodes w n out = Tells 1 (check_said (sorts.check_of w n)) out

abbrev pub evaluation_said : Result Unit EvalError → Said
evaluation_said r = record { number = told_of evaluator.number_of r; words = told_of evaluator.node_of r ∷ [] }

-- the outcome of an evaluation, and the column after it
pub record EvaluatesNodes (w : List ℕ) (n : ℕ) (g col out : List ℕ) (r : ℕ) (col_left out_left : List ℕ) : Type 0 where
  pub told : Tells 1 (evaluation_said (evaluator.outcome_of w n g (length col))) out r out_left
  pub column : col_left ≡ cond (at_least 1 out) (evaluator.column_after (evaluator.outcome_of w n g (length col)) w n g col) col
