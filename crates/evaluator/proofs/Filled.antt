-- A node's sort out of the table, one turn of the loop that fills it, and what the loop comes to.
use mathlib.Core.Bool.{cond}
use mathlib.Core.List.{List, ◌++◌, append_assoc}
use mathlib.Core.Path.{◌≡◌, refl, sym, ap, ◌∙◌}
use Prim.Native.Nat.{ℕ, suc, ◌+◌, ◌*◌, ◌/◌, ◌≤◌, ◌<◌, min}
use native.Mathlib.Numerals.{add-one}
use native.Mathlib.Omega.{arith}
use borrow.Author.Tests.{le-leb, lt-leb, ne_eqb}
use lib.Dec.{eqb}
use lib.ListN.{length, get_or, take, drop, set, replicate, length-take, length-append, length-drop, length-replicate}
use lib.Seq.{drop-cons, set_at, take_at}
use Rattle.lists.specs.Rows.{room_of}
use Rattle.sorts.specs.Sorts.{sort_row}
use Rattle.sorts.specs.Lists.{field, row_sort, sorts}
use Rattle.sorts.specs.Check.{check_of}
use Rattle.sorts.specs.Laws.{Passes, sorts-suc, length-sorts, fault-at, passed-room}
use Rattle.std.specs.Prelude.{Result, Ok, Err}
use Rattle.sorts.specs.declared.CheckError.{CheckError}
use Rattle.sorts.specs.declared.CheckError.TheVariants.{Fault, Room}
use Rattle.evaluator.specs.Inside.{ScanReady}
use Rattle.evaluator.specs.Table.{Tables}
use Rattle.evaluator.specs.Laws.{table-checked, table-sorted}

-- a row of the table that is another kind's
pub skip : (k n s rest : ℕ) → (k ≡ n → ⊥) → 0 ≡ rest → 0 ≡ cond (eqb k n) s rest
skip k n s rest h e = rw (ne_eqb k n h) e

-- the sort of a node of kind n, in a table whose first i entries are the sorts of the earlier nodes: from the sorts of the operands
module _ (w t : List ℕ) (i n r : ℕ) (e : take i t ≡ sorts w i) (k : get_or w (4 * i) 0 ≡ n) where
  abbrev at : ℕ → ℕ
  at p = get_or (take i t) (field w i p) 0

  abbrev row : ℕ → ℕ → ℕ → ℕ
  row sa sb sc = sort_row n (field w i 1) (field w i 2) (field w i 3) sa sb sc

  pub as-kind : r ≡ row (at 1) (at 2) (at 3) → r ≡ row_sort w i (sorts w i)
  unfolding row_sort
  as-kind q = rw (k, ← e) q

-- a table at whose front stand the sorts of i nodes: its front, its length, and one sort more
module _ (w t₀ t : List ℕ) (i : ℕ) (e : t ≡ sorts w i ++ drop i t₀) where
  pub front : take i t ≡ sorts w i
  front = rw e (take_at (sorts w i) (drop i t₀) i (length-sorts w i))

  pub long : i ≤ length t₀ → length t ≡ length t₀
  long h = ap length e ∙ omega (arith, length-append (sorts w i) (drop i t₀), length-sorts w i, length-drop i t₀)

  pub stored : (r : ℕ) → i < length t₀ → r ≡ row_sort w i (sorts w i) → set t i r ≡ sorts w (i + 1) ++ drop (i + 1) t₀
  stored r h er =
      rw (e, drop-cons t₀ i 0 h, set_at (sorts w i) (get_or t₀ i 0) (drop (suc i) t₀) r i (length-sorts w i), sorts-suc, ← er, add-one, append_assoc)

-- the ends of the loop: no room in the table, none in the list, a fault, all nodes
module _ (w t₀ : List ℕ) (n : ℕ) where
  pub no_table : length t₀ < n → Tables w n (Err Room) t₀ t₀
  no_table h = record { verdict = rw (lt-leb n (length t₀) h); table = refl }

  module _ (r : ℕ) (room : r ≡ room_of (length w)) (enough : n ≤ length t₀) where
    pub no_room : r < n → Tables w n (Err Room) t₀ t₀
    unfolding check_of
    no_room h = record { verdict = rw (le-leb n (length t₀) enough, ← room, lt-leb n r h); table = refl }

    pub faulty : (t : List ℕ) (i : ℕ) → n ≤ r → i < n → Passes w i → row_sort w i (sorts w i) ≡ 0 → t ≡ sorts w i ++ drop i t₀ → Tables w n (Err (Fault i)) t₀ t
    unfolding check_of
    faulty t i h k p z e =
        record { verdict = rw (le-leb n (length t₀) enough, ← room, le-leb n r h) (sym (fault-at w n i k p z)); table = e }

    pub sorted : (t : List ℕ) (i : ℕ) → n ≤ r → i ≡ n → Passes w i → t ≡ sorts w i ++ drop i t₀ → Tables w n (Ok tt) t₀ t
    unfolding check_of
    sorted t i h k p e =
        record { verdict = rw (le-leb n (length t₀) enough, ← room, le-leb n r h) (sym (rw k at p)); table = rw k at e }

-- a clear table of k entries, where these are enough
pub enough : (k n : ℕ) → min n 65535 ≤ k → min n 65535 ≤ length (replicate {A = ℕ} k 0)
enough k n h = omega (arith, length-replicate {A = ℕ} k 0)

-- the table of a list that passes is ready for the scan
pub scanned : (w g t₀ t : List ℕ) (n : ℕ) (v : Result Unit CheckError) → min n 65535 ≤ length t₀ → Tables w n v t₀ t → v ≡ Ok tt → n ≤ length g / 2 → ScanReady w g t n
unfolding room_of
scanned w g t₀ t n v enough x p h =
    let r = (passed-room w n (sym (table-checked enough x) ∙ p)).room in
    let s = table-sorted enough x p in
    record {
      words = omega (arith, r);
      gave = omega arith;
      few = omega (arith, r);
      long = omega (arith, length-take n t, length-sorts w n, ap length s);
      table = s;
    }
