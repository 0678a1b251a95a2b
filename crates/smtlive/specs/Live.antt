-- THE INVARIANT: what is known of a state that lets a text go on from it.
use Rattle.std.specs.Prelude.{◌≡◌, Bool, true, false, not, ◌&&◌, ◌||◌, ◌⊎◌, ℕ, ◌≤◌, ◌<◌, leb, eqb, length, get_or}
use Rattle.needs.specs.Needed.{arity}
use Rattle.sorts.specs.Sorts.{is_bits, is_float}
use Rattle.smtgrammar.specs.State.{Tables, State}
use Rattle.smtgrammar.specs.Present.{below, some_from, source, suits}
use Rattle.smtgrammar.specs.Allowed.{chance_ok, operand_ok}
use Rattle.smtgrammar.specs.Next.{turned}
use Rattle.smtgrammar.specs.declared.Place.{Place}
use Rattle.smtgrammar.specs.declared.Line.{Line}
use Rattle.smtlive.specs.Sources.{Lower, Wide}

-- the columns are long enough, the nodes are below the limit, and the lowest number of a sort is its first node, or the limit
pub record Tabled (t : Tables) : Type 0 where
  pub kinds-long : length t.kinds ≡ 65536
  pub sorts-long : length t.sorts ≡ 65536
  pub lowest-long : length t.lowest ≡ 3905
  pub there : (s : ℕ) → get_or t.lowest s 65535 < 65535 → get_or t.kinds (get_or t.lowest s 65535) 0 ≡ 0 → ⊥
  pub sorted : (s : ℕ) → get_or t.lowest s 65535 < 65535 → get_or t.sorts (get_or t.lowest s 65535) 0 ≡ s
  pub listed : (i : ℕ) → (get_or t.kinds i 0 ≡ 0 → ⊥) → get_or t.lowest (get_or t.sorts i 0) 65535 ≤ i
  pub high : (i : ℕ) → (get_or t.kinds i 0 ≡ 0 → ⊥) → i < 65535

-- the numbers that are obliged: the first is told, and it can still become what it has to
pub record Kept (t : Tables) (p : Place) : Type 0 where
  pub tabled : Tabled t
  pub least : (m : ℕ) → get_or t.kinds m 0 ≡ 0 → (get_or t.sorts m 0 ≡ 0 → ⊥) → p.owed ≤ m
  pub before : (m : ℕ) → get_or t.kinds m 0 ≡ 0 → (get_or t.sorts m 0 ≡ 0 → ⊥) → m < p.top
  pub float : (m : ℕ) → get_or t.kinds m 0 ≡ 0 → (get_or t.sorts m 0 ≡ 0 → ⊥) → is_float (get_or t.sorts m 0) ≡ true
  pub gap-high : p.gap ≤ 65535
  pub gap-free : p.gap < 65535 → get_or t.kinds p.gap 0 ≡ 0
  pub owed-high : p.owed ≤ 65535
  pub owed-free : p.owed < 65535 → get_or t.kinds p.owed 0 ≡ 0
  pub owed-sorted : p.owed < 65535 → get_or t.sorts p.owed 0 ≡ 0 → ⊥
  pub owed-over : p.owed < 65535 → p.gap ≤ p.owed
  pub owed-can : p.owed < 65535 → (p.gap < p.owed) ⊎ Lower t.lowest (suits (get_or t.sorts p.owed 0)) p.owed
  pub due-high : p.due ≤ 65535
  pub top-high : p.top ≤ 65535

-- while it declares: the numbers that are not there are from the first gap on
pub record Declaring (t : Tables) (p : Place) : Type 0 where
  pub free : (i : ℕ) → p.top ≤ i → get_or t.kinds i 0 ≡ 0
  pub first : (i : ℕ) → i < p.gap → get_or t.kinds i 0 ≡ 0 → ⊥
  pub next-free : get_or t.kinds p.next 0 ≡ 0
  pub next-over : p.gap < p.next

-- between two lines
pub record Between (t : Tables) (p : Place) : Type 0 where
  pub kept : Kept t p
  pub part-high : p.part ≤ 2
  pub declaring : p.part ≡ 0 → Declaring t p
  pub asserting : p.part ≡ 2 → p.owed ≡ 65535
  pub fresh-part : p.count ≡ 0 → p.part ≡ 0
  pub fresh-gap : p.count ≡ 0 → p.gap < 65535
  pub fresh-due : p.count ≡ 0 → p.due ≡ 65535

-- a declared node: its number; an FpToIeeeBv to come; its operand
pub record Numbered (p : Place) (l : Line) : Type 0 where
  pub over : p.top ≤ l.node
  pub high : l.node < 65535

pub record ToRead (t : Tables) (p : Place) (l : Line) : Type 0 where
  pub is : l.kind ≡ 26
  pub over : p.gap < l.node
  pub some : (p.next < l.node) ⊎ Lower t.lowest (suits 3904) p.gap

pub record Reading (t : Tables) (p : Place) (l : Line) : Type 0 where
  pub is : l.kind ≡ 26
  pub earlier : l.a < l.node
  pub free : get_or t.kinds l.a 0 ≡ 0
  pub can : (p.gap < l.a) ⊎ Lower t.lowest (suits 3904) l.a

-- a defined node: its number, and the next one that can be defined
pub record Defining (t : Tables) (p : Place) (l : Line) : Type 0 where
  pub high : l.node < 65535
  pub free : get_or t.kinds l.node 0 ≡ 0
  pub over : p.gap ≤ l.node
  pub after-over : l.node < l.after
  pub after-high : l.after ≤ 65535
  pub after_free : l.after < 65535 → get_or t.kinds l.after 0 ≡ 0
  pub after-least : (m : ℕ) → l.node < m → get_or t.kinds m 0 ≡ 0 → l.after ≤ m
  pub turn : (l.node < p.owed) ⊎ ((l.node ≡ p.owed) × Lower t.lowest (suits (get_or t.sorts l.node 0)) l.node)

-- .. with its sort
pub record Sorted (t : Tables) (p : Place) (l : Line) : Type 0 where
  pub kept : Kept t p
  pub defining : Defining t p l
  pub low : l.sort < 3905
  pub some : (is_bits l.sort ≡ true) ⊎ ((is_float l.sort ≡ true) × Lower t.lowest (suits l.sort) l.node)
  pub obliged : l.node ≡ p.owed → is_float l.sort ≡ true
  pub chance : l.node < p.owed → chance_ok t p l l.sort ≡ true

-- some node fits as operand j
pub record Fit (t : Tables) (p : Place) (l : Line) (j : ℕ) : Type 0 where
  pub node : ℕ
  pub fits : operand_ok t p l j node ≡ true

-- a second operand goes by the first one, or there is none, or it has the node's own sort
abbrev pub seconds : Tables → Line → Bool
seconds t l =
    (((eqb l.kind 9 || eqb l.kind 20) || eqb l.kind 21) || (eqb l.kind 10 || eqb l.kind 11))
    || (eqb l.kind 15 || (not (leb 2 (arity l.kind)) || below t.lowest l.sort l.node))

-- a first operand comes next
pub record Ready (t : Tables) (p : Place) (l : Line) : Type 0 where
  pub some : l.kind ≡ 0 → ⊥
  pub first : Fit t p l 0
  pub second : seconds t l ≡ true

-- a first operand or a word comes next
pub data Choosing (t : Tables) (p : Place) (l : Line) : Type 0 where
  equal :
      l.kind ≡ 9
      → ((below t.lowest 1 l.node && below t.lowest l.sort l.node) || (eqb l.sort 1 && some_from t.lowest 1 l.node)) ≡ true
      → Choosing t p l
  convert : l.kind ≡ 25 → source t.lowest l.sort l.node ≡ true → Choosing t p l
  round : eqb l.kind 9 ≡ false → eqb l.kind 25 ≡ false → ((r : ℕ) → Ready t p (turned t p l 10 l.kind 0 0 r)) → Choosing t p l

-- what is known at each stage of a line
pub data Inside (t : Tables) (p : Place) (l : Line) : Type 0 where
  between : l.stage ≡ 0 → Between t p → Inside t p l
  declares : l.stage ≡ 1 → Kept t p → Declaring t p → p.top < 65535 → Inside t p l
  numbered : l.stage ≡ 2 → Kept t p → Declaring t p → Numbered p l → Inside t p l
  kinded : l.stage ≡ 3 → Kept t p → Declaring t p → Numbered p l → ((l.kind ≡ 4) ⊎ (l.kind ≡ 5)) ⊎ ToRead t p l → Inside t p l
  counted :
      l.stage ≡ 4 → Kept t p → Declaring t p → Numbered p l → 1 ≤ l.kind → l.kind ≤ 3
      → ((l.left ≡ 0) × (l.a ≡ 0)) ⊎ (l.left ≡ 1) → Inside t p l
  wide : l.stage ≡ 5 → Kept t p → Declaring t p → Numbered p l → ((1 ≤ l.kind) × (l.kind ≤ 5)) ⊎ Reading t p l → Inside t p l
  defines : l.stage ≡ 6 → Kept t p → p.gap < 65535 → Inside t p l
  sorts : l.stage ≡ 7 → Kept t p → Defining t p l → Inside t p l
  opens : l.stage ≡ 8 → Sorted t p l → Inside t p l
  chooses : l.stage ≡ 9 → Sorted t p l → Choosing t p l → Inside t p l
  first : l.stage ≡ 10 → Sorted t p l → Ready t p l → Inside t p l
  second : l.stage ≡ 11 → Sorted t p l → (l.kind ≡ 0 → ⊥) → Fit t p l 1 → Inside t p l
  third : l.stage ≡ 12 → Sorted t p l → (l.kind ≡ 0 → ⊥) → Fit t p l 2 → Inside t p l
  places : l.stage ≡ 13 → Sorted t p l → l.kind ≡ 14 → 1 ≤ l.sort → Wide t.lowest l.sort 81 l.node → Inside t p l
  digits : l.stage ≡ 14 → Sorted t p l → 1 ≤ l.left → l.left < 3905 → Inside t p l
  asserts : l.stage ≡ 15 → Kept t p → p.owed ≡ 65535 → 1 ≤ p.count → p.due < 65535 → Inside t p l

abbrev pub Live : State → Type 0
Live σ = Inside σ.tables σ.place σ.line
