-- THE FIVE THEOREMS OF THE TEXT: what is read is in the subset, what is in the subset is read, and where reading stops is exact.
use Rattle.std.specs.Prelude.{◌≡◌, refl, List, ◌++◌, ℕ, suc, ◌^◌, ◌≤◌, ◌<◌, length, get_or, take, Ok}
use Rattle.std.proofs.Common.{sym, ap, subst, ◌∙◌, arith, le-leb}
use Rattle.viable.specs.Runs.{Stops, only}
use Rattle.lists.specs.Rows.{room_of}
use Rattle.sorts.specs.Check.{check_of}
use Rattle.sorts.specs.Laws.{passed-room, passes-less}
use Rattle.needs.specs.Needed.{marks}
use Rattle.needs.specs.Laws.{root-marked, kept}
use Rattle.smttext.specs.Text.{text_of}
use Rattle.smttext.specs.Subset.{Says, InSubset, compact}
use Rattle.smtgrammar.specs.State.{State, start}
use Rattle.smtgrammar.specs.Grammar.{Token, done, Reads}
use Rattle.smtgrammar.specs.Rows.{rows_below}
use Rattle.smtlive.specs.Apart.{apart}
use Rattle.smtlive.specs.Full.{full}
use Rattle.smtcomplete.specs.Complete.{complete}
use Rattle.smtsubset.specs.Said.{left}

-- a text leaves one state only
one : (x : List ℕ) (ω ψ : State) → Reads x ω → Reads x ψ → ω ≡ ψ
one x ω ψ r s = only Token done full apart start ω ψ x r s

-- COMPLETE: a text of the subset is read, and the rows are the formula of each list that says it
pub record Read (x w m : List ℕ) (n : ℕ) : Type 0 where
  pub last : State
  pub reads : Reads x last
  pub rows : rows_below last.tables 65535 ≡ compact w m n

pub reads_all : (x w m : List ℕ) (n : ℕ) → Says x w m n → Read x w m n
reads_all x w m n s =
    let c = complete w m n s.passed s.kept s.words in
    record { last = c.last; reads = subst (λ (t : List ℕ). Reads t c.last) (sym s.text) c.reads; rows = c.rows }

pub rows_are : (x w m : List ℕ) (n : ℕ) (ω : State) → Says x w m n → Reads x ω → rows_below ω.tables 65535 ≡ compact w m n
rows_are x w m n ω s r =
    let c = reads_all x w m n s in
    ap (λ (τ : State). rows_below τ.tables 65535) (one x ω c.last r c.reads) ∙ c.rows

-- CORRECT: what is read is a text of the subset
pub only-reads : (x : List ℕ) (ω : State) → Reads x ω → InSubset x
only-reads x ω r = record { words = _; marks = _; count = _; says = (left x ω r).says }

-- EXACT: the bytes before the place begin some text of the subset, and none begins with one byte more, or, at the end, is the whole
pub record Stopped (x : List ℕ) (p : ℕ) : Type 0 where
  pub within : p ≤ length x
  pub more : List ℕ
  pub begins : InSubset (take p x ++ more)
  pub none : (t : List ℕ) → InSubset t → take (suc p) t ≡ take (suc p) x → ⊥

pub stops-there : (x : List ℕ) (p : ℕ) → Stops Token done start x p → Stopped x p
stops-there x p s =
    record {
      within = s.within;
      more = s.more;
      begins = only-reads (take p x ++ s.more) s.last s.can;
      none = λ t i e. let c = reads_all t i.words i.marks i.count i.says in s.cannot t c.last c.reads e;
    }

-- WRITTEN AND READ: the text of a root is in the subset, and says what the root needs
pub written : (w : List ℕ) (n r : ℕ) → check_of w n ≡ Ok tt → r < n → ((j : ℕ) → get_or w j 0 < 2 ^ 64) → Says (text_of w r) w (marks w r) (suc r)
unfolding text_of check_of
written w n r e h k =
    let c = passed-room w n e in
    record {
      passed = rw (le-leb (suc r) (room_of (length w)) (let l = c.room in omega arith)) (passes-less w (suc r) n (omega arith) c.passes);
      words = k;
      kept = record { root = r; inside = omega arith; marked = root-marked w r; operands = λ i a l m o. kept w r i a m o };
      text = refl;
    }

-- ONE TEXT, ONE FORMULA: of any two lists that say a text, the formulas are equal
pub same-formula : (x w m w' m' : List ℕ) (n n' : ℕ) → Says x w m n → Says x w' m' n' → compact w m n ≡ compact w' m' n'
same-formula x w m w' m' n n' s s' =
    let c = reads_all x w m n s in
    sym c.rows ∙ rows_are x w' m' n' c.last s' c.reads
