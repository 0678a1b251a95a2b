-- What writing a root's text says, what it leaves, and the numbers of the manual, section 7.
use Rattle.std.specs.Prelude.{◌≡◌, cond, List, ℕ, leb, ltb, length, Result, Ok, Err}
use Rattle.std.proofs.lemmas.List.Edits.{sets}
use Rattle.sorts.specs.Check.{check_of}
use Rattle.sorts.specs.declared.CheckError.{CheckError}
use Rattle.sorts.specs.declared.CheckError.TheVariants as check
use Rattle.smttext.specs.Text.{text_of}
use Rattle.smtwriter.specs.declared.WriteError.{WriteError}
use Rattle.smtwriter.specs.declared.WriteError.TheVariants.{Fault, Room, NoRoot, Short}

-- a text that is to stand in so many bytes: its length
abbrev pub fitted : List ℕ → ℕ → Result ℕ WriteError
fitted text room = cond (leb (length text) room) (Ok (length text)) (Err Short)

-- why the text is not written, where the check does not pass
abbrev pub of_check : CheckError → WriteError
of_check (check.Fault i) = Fault i
of_check check.Room = Room

abbrev pub after : Result Unit CheckError → Result ℕ WriteError → Result ℕ WriteError
after (Ok u) o = o
after (Err e) o = Err (of_check e)

-- root r of the first n nodes, into so many bytes: 10, then 8, 31, 32
unfoldable pub written_of : List ℕ → ℕ → ℕ → ℕ → Result ℕ WriteError
written_of w n r room = after (check_of w n) (cond (ltb r n) (fitted (text_of w r) room) (Err NoRoot))

-- the bytes after it: the text and what stood beyond it, or as they were
abbrev pub bytes_after : Result ℕ WriteError → List ℕ → List ℕ → List ℕ
bytes_after (Ok k) text old = sets old 0 text
bytes_after (Err e) text old = old

pub record Writes (w : List ℕ) (n root : ℕ) (a : Result ℕ WriteError) (old new : List ℕ) : Type 0 where
  pub answer : a ≡ written_of w n root (length old)
  pub bytes : new ≡ bytes_after a (text_of w root) old

-- the number of a refusal, and the node that it names
abbrev pub number_of : WriteError → ℕ
number_of (Fault i) = 8
number_of Room = 10
number_of NoRoot = 31
number_of Short = 32

abbrev pub place_of : WriteError → ℕ
place_of (Fault i) = i
place_of Room = 0
place_of NoRoot = 0
place_of Short = 0
