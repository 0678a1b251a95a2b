-- WHAT READING A TEXT MEANS: the call's promise in the words of the subset, in the place of the grammar's runs.
use Rattle.std.specs.Prelude.{◌≡◌, refl, List, [], ◌∷◌, ◌++◌, ℕ, suc, ◌*◌, ◌^◌, ◌≤◌, ◌<◌, Result, Ok, Err, length, get_or, drop}
use Rattle.std.proofs.Common.{sym, ap, ◌∙◌, arith, le-leb, get_or-set_same}
use Rattle.lists.specs.Rows.{room_of}
use Rattle.sorts.specs.Check.{check_of}
use Rattle.needs.specs.Needed.{marks}
use Rattle.smttext.specs.Text.{text_of}
use Rattle.smttext.specs.Subset.{Says, InSubset, rank, compact}
use Rattle.smtgrammar.specs.State.{State}
use Rattle.smtgrammar.specs.Grammar.{Reads}
use Rattle.smtsubset.specs.Passes.{passes, compact-long}
use Rattle.smtsubset.specs.Subset.{Stopped, rows_are, only-reads, stops-there, written}
use Rattle.smtreader.specs.Counted.{counted-reads}
use Rattle.smtreader.specs.Text as smtreader
use Rattle.smtreader.specs.declared.ReadError.{ReadError}
use Rattle.smtreader.specs.declared.ReadError.TheVariants as read_error
use Rattle.smtreader.proofs.Ranks.{rows_long}
use Rattle.smtreader.specs.Numbers.{number_of, place_of}
use Rattle.answers.specs.Refusal.{told_of, count_or}
use Rattle.export.specs.Flat.{laid}
use Rattle.export.specs.Texts.{ReadsText}

-- the formula stands in front: the rows of each list that says the text, numbered from 0, which pass the check; k is their number
pub record Formula (x nodes : List ℕ) (k : ℕ) (nodes_left : List ℕ) : Type 0 where
  pub said : InSubset x
  pub count : (w m : List ℕ) (n : ℕ) → Says x w m n → k ≡ rank m n
  pub rows : (w m : List ℕ) (n : ℕ) → Says x w m n → nodes_left ≡ compact w m n ++ drop (4 * k) nodes
  pub passes : check_of nodes_left k ≡ Ok tt

-- what is told beside each number: the count of nodes beside 0, the place beside 41, nothing beside 6
pub data Means (x nodes : List ℕ) : ℕ → ℕ → List ℕ → Type 0 where
  formula : (k : ℕ) (nodes_left : List ℕ) → Formula x nodes k nodes_left → Means x nodes 0 k nodes_left
  stopped : (p : ℕ) → Stopped x p → Means x nodes 41 p nodes
  full : InSubset x → ((w m : List ℕ) (n : ℕ) → Says x w m n → room_of (length nodes) < rank m n) → Means x nodes 6 0 nodes

module _ (x : List ℕ) where
  -- the count of a run is the number of nodes of each list that says its text
  counts : (ω : State) → Reads x ω → (w m : List ℕ) (n : ℕ) → Says x w m n → ω.place.count ≡ rank m n
  counts ω r w m n s =
      let a = counted-reads x ω r in
      let b = rows_long ω.tables 65535 in
      let c = ap length (rows_are x w m n ω s r) in
      let d = compact-long w m n in
      omega arith

  module _ (nodes nodes_left : List ℕ) where
    rows-mean : (k : ℕ) → smtreader.Rows x nodes k nodes_left → Formula x nodes k nodes_left
    rows-mean k h = record {
      said = i;
      count = count;
      rows = rows;
      passes = rw (rows i.words i.marks i.count s, count i.words i.marks i.count s) (passes i.words i.marks _ i.count s.passed s.kept);
    }
      where
        i : InSubset x
        i = only-reads x h.last h.reads

        s : Says x i.words i.marks i.count
        s = i.says

        count : (w m : List ℕ) (n : ℕ) → Says x w m n → k ≡ rank m n
        count w m n f = h.count ∙ counts h.last h.reads w m n f

        rows : (w m : List ℕ) (n : ℕ) → Says x w m n → nodes_left ≡ compact w m n ++ drop (4 * k) nodes
        rows w m n f = h.nodes ∙ rw (rows_are x w m n h.last f h.reads)

    -- an answer, by its number and the word beside it
    way : (a : Result ℕ ReadError) → smtreader.ReadsText x nodes a nodes_left → Means x nodes (told_of number_of a) (count_or place_of a) nodes_left
    way (Ok k) h = formula k nodes_left (rows-mean k h)
    way (Err (read_error.Stop p)) h = rw h.nodes (stopped p (stops-there x p h.stops))
    way (Err read_error.Room) h =
        rw h.nodes
        (full (only-reads x h.last h.reads) (λ w m n s. rw (sym (counts h.last h.reads w m n s)) h.many))

-- the word that is told
told-first : (out : List ℕ) (p : ℕ) → 1 ≤ length out → get_or (laid out 0 (p ∷ [])) 0 0 ≡ p
unfolding laid
told-first out p h = get_or-set_same out 0 p 0 (omega arith)

pub means : (x nodes out : List ℕ) (r : ℕ) (nodes_left out_left : List ℕ) → 1 ≤ length out → ReadsText x nodes out r nodes_left out_left
    → Means x nodes r (get_or out_left 0 0) nodes_left
means x nodes out r nodes_left out_left h f =
    let e = le-leb 1 (length out) h in
    let a = f.answered e in
    let n = rw e at a.told.answer in
    let t = rw e at a.told.told in
    rw (n, t, told-first out (count_or place_of a.says) h) (way x nodes nodes_left a.says a.read)

-- WRITTEN AND READ BACK: the text of a root of a list that passes is read as what the root needs
pub read_back : (w : List ℕ) (n root : ℕ) → check_of w n ≡ Ok tt → root < n → ((j : ℕ) → get_or w j 0 < 2 ^ 64)
    → (nodes out : List ℕ) (r : ℕ) (nodes_left out_left : List ℕ) → 1 ≤ length out → rank (marks w root) (suc root) ≤ room_of (length nodes)
    → ReadsText (text_of w root) nodes out r nodes_left out_left
    → (r ≡ 0) × (get_or out_left 0 0 ≡ rank (marks w root) (suc root))
    × (nodes_left ≡ compact w (marks w root) (suc root) ++ drop (4 * rank (marks w root) (suc root)) nodes)
read_back w n root e h k nodes out r nodes_left out_left l room f = way' r (get_or out_left 0 0) nodes_left (means (text_of w root) nodes out r nodes_left out_left l f)
  where
    s : Says (text_of w root) w (marks w root) (suc root)
    s = written w n root e h k

    way' : (r p : ℕ) (left : List ℕ) → Means (text_of w root) nodes r p left
        → (r ≡ 0) × (p ≡ rank (marks w root) (suc root))
        × (left ≡ compact w (marks w root) (suc root) ++ drop (4 * rank (marks w root) (suc root)) nodes)
    way' r p left (formula q left₁ g) =
        let c = g.count w (marks w root) (suc root) s in
        (refl, c, rw c at (g.rows w (marks w root) (suc root) s))
    way' r p left (stopped q t) = absurd (t.none (text_of w root) (record { words = w; marks = marks w root; count = suc root; says = s }) refl)
    way' r p left (full i g) = let b = g w (marks w root) (suc root) s in absurd (omega arith)
