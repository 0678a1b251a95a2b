-- What is known in the middle of a text: the nodes so far, what they still oblige to, and the line that is being read.
use Rattle.std.specs.Prelude.{List, ℕ, replicate}
use Rattle.smtgrammar.specs.declared.Place.{Place}
use Rattle.smtgrammar.specs.declared.Line.{Line}

-- numbers are below the limit, which stands for 'none' as well
abbrev pub limit : ℕ
limit = 65535

-- the nodes by number: kind (0 where there is none yet), fields and sort; and by sort the lowest number that has it.
-- A number that an FpToIeeeBv names has its sort from then on, also where the node is not there yet: it is obliged to be such a float
pub record Tables : Type 0 where
  pub kinds : List ℕ
  pub field_a : List ℕ
  pub field_b : List ℕ
  pub field_c : List ℕ
  pub sorts : List ℕ
  pub lowest : List ℕ

pub record State : Type 0 where
  pub tables : Tables
  pub place : Place
  pub line : Line

-- no line has begun
abbrev pub no_line : Line
no_line = record { stage = 0; node = 0; kind = 0; sort = 0; a = 0; b = 0; r = 0; left = 0; after = 0 }

-- nothing has been read
abbrev pub empty : Tables
empty =
    record {
      kinds = replicate 65536 0;
      field_a = replicate 65536 0;
      field_b = replicate 65536 0;
      field_c = replicate 65536 0;
      sorts = replicate 65536 0;
      lowest = replicate 3905 limit;
    }

abbrev pub start : State
start =
    record {
      tables = empty;
      place = record { part = 0; top = 0; gap = 0; next = 1; owed = limit; due = limit; count = 0 };
      line = no_line;
    }
