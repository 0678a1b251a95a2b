-- How the code goes from a choice to the next: the state that is lent, and what the stores and sums need.
use Rattle.std.specs.Prelude.{◌≡◌, ℕ, ◌+◌, ◌*◌, ◌^◌, ◌<◌, length}
use Rattle.smtgrammar.specs.declared.Place.{Place}
use Rattle.smtgrammar.specs.declared.Line.{Line}
use Rattle.smtgrammar.specs.State.{Tables, State}
use Rattle.smtgrammar.specs.Grammar.{size_at}
use Rattle.smtreader.specs.declared.columns.Columns.{Columns}
use Rattle.smtreader.specs.declared.next.Reader.{Reader}

abbrev pub tables_of : Columns → Tables
tables_of c =
    record { kinds = c.kinds.now; field_a = c.firsts.now; field_b = c.seconds.now; field_c = c.thirds.now; sorts = c.sorts.now; lowest = c.lowest.now }

abbrev pub state_of : Reader → State
state_of r = record { tables = tables_of r.columns; place = r.place; line = r.line }

-- number n has an entry in each column, and each sort one in the lowest numbers
pub record Roomed (t : Tables) (n : ℕ) : Type 0 where
  pub kinds : n < length t.kinds
  pub firsts : n < length t.field_a
  pub seconds : n < length t.field_b
  pub thirds : n < length t.field_c
  pub sorts : n < length t.sorts
  pub lowest : length t.lowest ≡ 3905

-- a row has room in the columns
pub record Rowed (t : Tables) (n k b c s : ℕ) : Type 0 where
  pub room : Roomed t n
  pub node : n < 65535
  pub kind : k < 256
  pub second : b < 65536
  pub third : c < 65536
  pub sort : s < 3905

-- a result with a bound
pub record Bounded (m x r : ℕ) : Type 0 where
  pub is : r ≡ x
  pub below : r < m

-- what a definition needs: room for its row, and for one node more
pub record Ends (t : Tables) (p : Place) (l : Line) (k b c : ℕ) : Type 0 where
  pub row : Rowed t l.node k b c l.sort
  pub count : p.count < 65536

-- .. a term: its operands b and c, and its rounding or place
pub record Terms (t : Tables) (p : Place) (l : Line) (b c : ℕ) : Type 0 where
  pub ends : Ends t p l l.kind b c
  pub rounding : l.r < 65535

-- .. a declaration
pub record Declares (t : Tables) (p : Place) (l : Line) (w : ℕ) : Type 0 where
  pub row : Rowed t l.node l.kind w 0 w
  pub count : p.count < 65536
  pub reads : l.kind ≡ 26 → l.a < length t.sorts

-- .. a binary digit
pub record Digits (t : Tables) (p : Place) (l : Line) (d : ℕ) : Type 0 where
  pub ends : Ends t p l 6 0 l.sort
  pub high : l.b < 32768
  pub below : d < 2

-- .. any choice
pub record Fits (t : Tables) (p : Place) (l : Line) (v : ℕ) : Type 0 where
  pub room : Roomed t l.node
  pub node : l.node < 65535
  pub kind : l.kind < 256
  pub sort : l.sort < 3905
  pub high : l.b < 65536
  pub rounding : l.r < 65535
  pub count : p.count < 65536
  pub below : v < size_at l.stage
  pub digit : l.stage ≡ 4 → (v ≡ 10 → ⊥) → 10 * l.a + v < 2 ^ 64
  pub reads : l.stage ≡ 5 → l.kind ≡ 26 → l.a < length t.sorts
  pub constant : l.stage ≡ 14 → l.b < 32768
