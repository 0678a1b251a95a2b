-- What the calls on a root's text answer, tell and leave.
use Rattle.std.specs.Prelude.{◌≡◌, true, false, cond, List, [], ◌∷◌, ℕ, length, Result}
use Rattle.smttext.specs.Text.{text_of}
use Rattle.smtwriter.specs.Written as smtwriter
use Rattle.smtwriter.specs.declared.WriteError.{WriteError}
use Rattle.smtreader.specs.Text as smtreader
use Rattle.smtreader.specs.Numbers as reading
use Rattle.smtreader.specs.declared.ReadError.{ReadError}
use Rattle.answers.specs.Refusal.{told_of, count_or}
use Rattle.export.specs.Answers.{Said, Tells}
use Rattle.export.specs.Flat.{at_least}

-- an answer's number, and the count of bytes or the node that it names
abbrev pub written_said : Result ℕ WriteError → Said
written_said a = record { number = told_of smtwriter.number_of a; words = count_or smtwriter.place_of a ∷ [] }

-- what writing the text says, and the bytes after it
pub record WritesText (w : List ℕ) (n root : ℕ) (text out : List ℕ) (r : ℕ) (text_left out_left : List ℕ) : Type 0 where
  pub told : Tells 1 (written_said (smtwriter.written_of w n root (length text))) out r out_left
  pub bytes : text_left ≡ cond (at_least 1 out) (smtwriter.bytes_after (smtwriter.written_of w n root (length text)) (text_of w root) text) text

-- an answer's number, and the count of nodes or the place that it names
abbrev pub read_said : Result ℕ ReadError → Said
read_said a = record { number = told_of reading.number_of a; words = count_or reading.place_of a ∷ [] }

-- what the text says, where there is a word to tell its number in
pub record Answers (x nodes out : List ℕ) (r : ℕ) (nodes_left out_left : List ℕ) : Type 0 where
  pub says : Result ℕ ReadError
  pub read : smtreader.ReadsText x nodes says nodes_left
  pub told : Tells 1 (read_said says) out r out_left

-- .. and 10 where there is none
pub record ReadsText (x nodes out : List ℕ) (r : ℕ) (nodes_left out_left : List ℕ) : Type 0 where
  pub answered : at_least 1 out ≡ true → Answers x nodes out r nodes_left out_left
  pub short : at_least 1 out ≡ false → (r ≡ 10) × (nodes_left ≡ nodes) × (out_left ≡ out)
