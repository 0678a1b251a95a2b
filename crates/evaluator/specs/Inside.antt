-- HOW THE CODE WORKS: what the private functions of this crate ask of each other. No public promise and no theorem rests on this file.
use Rattle.std.specs.Prelude.{◌⊎◌, ◌≡◌, Bool, not, ◌&&◌, ◌||◌, List, ℕ, ◌+◌, ◌-◌, ◌*◌, ◌/◌, ◌^◌, ◌≤◌, ◌<◌, min, cond, leb, ltb, eqb, length, get_or, take}
use Rattle.words.specs.Wide.{concat_of}
use Rattle.sorts.specs.Lists.{field, row_sort, sorts}
use Rattle.sorts.specs.Laws.{Passes}
use Rattle.evaluator.specs.Formats.{sign_place, inf_of, nan_of}
use Rattle.evaluator.specs.Lists.{pair_at, vals, flat}
use Rattle.evaluator.specs.Within.{AllFit, GivenFits}

-- the order of two patterns as they lie, where s is the sign bit alone
abbrev pub order_of : ℕ → ℕ → ℕ → Bool
order_of s x y = ((leb s x && ltb y x) && not (eqb x s && eqb y 0)) || ((ltb x y && ltb x s) && ltb y s)

-- the words of format f: infinity, all bits below the sign, the one NaN
pub record FormatWords (f inf below nan : ℕ) : Type 0 where
  pub infinity : inf ≡ inf_of f
  pub bits : below ≡ 2 ^ sign_place f - 1
  pub quiet : nan ≡ nan_of f

-- both are patterns of format f
pub record Patterns (f x y : ℕ) : Type 0 where
  pub left : x < 2 ^ (sign_place f + 1)
  pub right : y < 2 ^ (sign_place f + 1)

-- a node of kind k, from the sorts and the values that its kind looks at
pub record ComputeReady (k sa sb va vb : ℕ) : Type 0 where
  pub flag : (k ≡ 12) ⊎ (k ≡ 13) → va < 2
  pub flags : (k ≡ 10) ⊎ (k ≡ 11) → (va < 2) × (vb < 2)
  pub joined : k ≡ 15 → concat_of va vb sb < 2 ^ 128
  pub equal : k ≡ 20 → Patterns sa va vb
  pub less : k ≡ 21 → Patterns sa va vb

-- word j of the list w names an entry of the table
pub record NamesEntry (w : List ℕ) (j : ℕ) (t : List ℕ) : Type 0 where
  pub word : j < length w
  pub names : get_or w j 0 < length t
  pub few : (j ≤ 262143) × (get_or w j 0 ≤ 65535)

-- entry a of a column
pub record Entry (col : List ℕ) (a : ℕ) : Type 0 where
  pub room : 2 * a + 2 ≤ length col
  pub few : a ≤ 65535

-- operand p of node i, where the node's kind has n of them
abbrev pub operand_of : ℕ → List ℕ → ℕ → List ℕ → ℕ → ℕ
operand_of n w i col p = cond (leb p n) (pair_at col (field w i p)) 0

-- .. and where it stands
pub record OperandReady (n : ℕ) (w : List ℕ) (i p : ℕ) (col : List ℕ) : Type 0 where
  pub words : 4 * i + 4 ≤ length w
  pub few : i ≤ 65535
  pub place : p ≤ 3
  pub entry : p ≤ n → Entry col (field w i p)

-- a node with n operands: the row's words, the operands' entries, and what the kind looks at
pub record OperandsReady (n k sa sb : ℕ) (w : List ℕ) (i : ℕ) (col : List ℕ) : Type 0 where
  pub words : 4 * i + 4 ≤ length w
  pub few : i ≤ 65535
  pub first : 1 ≤ n → Entry col (field w i 1)
  pub second : 2 ≤ n → Entry col (field w i 2)
  pub third : 3 ≤ n → Entry col (field w i 3)
  pub ready : ComputeReady k sa sb (operand_of n w i col 1) (operand_of n w i col 2)

-- node i, in a table whose first i + 1 entries are sorts, and a column whose first i entries are values
pub record NodeReady (w g t col : List ℕ) (i : ℕ) : Type 0 where
  pub words : 4 * i + 4 ≤ length w
  pub gave : 2 * i + 2 ≤ length g
  pub room : 2 * i ≤ length col
  pub few : i ≤ 65535
  pub long : i < length t
  pub own : get_or t i 0 ≡ row_sort w i (sorts w i)
  pub table : take i t ≡ sorts w i
  pub column : take (2 * i) col ≡ flat (vals w g i)
  pub fits : AllFit (vals w g i) (sorts w i)
  pub sorted : row_sort w i (sorts w i) ≡ 0 → ⊥

-- the scan of n given values
pub record ScanReady (w g t : List ℕ) (n : ℕ) : Type 0 where
  pub words : 4 * n ≤ length w
  pub gave : 2 * n ≤ length g
  pub few : n ≤ 65535
  pub long : n ≤ length t
  pub table : take n t ≡ sorts w n

-- no kind of the first n rows is past the bits of a word
abbrev pub Kinds : List ℕ → ℕ → Type 0
Kinds w n = (i : ℕ) → i < n → get_or w (4 * i) 0 < 64

-- the run over n nodes
pub record RunReady (w g t col : List ℕ) (n : ℕ) : Type 0 where
  pub scan : ScanReady w g t n
  pub room : 2 * n ≤ length col
  pub passes : Passes w n
  pub given : GivenFits w g n

-- columns for n nodes
pub record Columns (n : ℕ) (g col : List ℕ) : Type 0 where
  pub gave : n ≤ length g / 2
  pub room : n ≤ length col / 2

-- a table of k entries for them, or for as many as any list has
pub record TableFor (n k : ℕ) : Type 0 where
  pub enough : min n 65535 ≤ k
  pub most : k ≤ 65536
