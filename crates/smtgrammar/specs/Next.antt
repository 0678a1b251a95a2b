-- What a choice leads to: the next stage of the line, or its end, which adds to the tables.
use Rattle.std.specs.Prelude.{Bool, cond, not, ◌&&◌, ◌||◌, ℕ, zero, suc, ◌+◌, ◌-◌, ◌*◌, ◌/◌, ◌%◌, ◌^◌, min, leb, ltb, eqb, get_or, set}
use Rattle.sorts.specs.Sorts.{is_float}
use Rattle.needs.specs.Needed.{arity}
use Rattle.smtgrammar.specs.declared.Place.{Place}
use Rattle.smtgrammar.specs.declared.Line.{Line}
use Rattle.smtgrammar.specs.State.{limit, Tables, State, no_line}
use Rattle.smtgrammar.specs.Allowed.{format_of}

-- the first of k numbers from i on that passes the test, or none
unfoldable pub seek : (ℕ → Bool) → ℕ → ℕ → ℕ → ℕ
seek ok i zero none = none
seek ok i (suc k) none = cond (ok i) i (seek ok (i + 1) k none)

-- the lowest number from i on that is not there yet; that is obliged and not there yet; that is an FpToIeeeBv
unfoldable pub gap_from : Tables → ℕ → ℕ
gap_from t i = seek (λ j. eqb (get_or t.kinds j 0) 0) i (limit - i) limit

unfoldable pub owed_from : Tables → ℕ → ℕ → ℕ
owed_from t top i = seek (λ j. eqb (get_or t.kinds j 0) 0 && not (eqb (get_or t.sorts j 0) 0)) i (top - i) limit

unfoldable pub due_from : Tables → ℕ → ℕ → ℕ
due_from t top i = seek (λ j. eqb (get_or t.kinds j 0) 26) i (top - i) limit

-- node n gets its row and its sort
unfoldable pub entered : Tables → ℕ → ℕ → ℕ → ℕ → ℕ → ℕ → Tables
entered t n k a b c s =
    record {
      kinds = set t.kinds n k;
      field_a = set t.field_a n a;
      field_b = set t.field_b n b;
      field_c = set t.field_c n c;
      sorts = set t.sorts n s;
      lowest = set t.lowest s (min (get_or t.lowest s limit) n);
    }

-- number m is obliged to the sort s, where the test holds
unfoldable pub obliged : Bool → ℕ → ℕ → Tables → Tables
obliged is m s t =
    cond is
    (record { kinds = t.kinds; field_a = t.field_a; field_b = t.field_b; field_c = t.field_c; sorts = set t.sorts m s; lowest = t.lowest })
    t

module _ (t : Tables) (p : Place) (l : Line) where
  -- the line goes on
  abbrev pub onward : Line → State
  onward m = record { tables = t; place = p; line = m }

  -- a declaration of w bits ends
  unfoldable pub declared : ℕ → State
  declared w =
      record {
        tables = entered (obliged (eqb l.kind 26) l.a (format_of w) t) l.node l.kind l.a (cond (leb l.kind 3) w 0) 0 w;
        place =
            record {
              part = 0;
              top = l.node + 1;
              gap = cond (eqb l.node p.gap) (l.node + 1) p.gap;
              next = cond (eqb l.node p.gap) (l.node + 2) (cond (eqb l.node p.next) (l.node + 1) p.next);
              owed = cond (eqb l.kind 26) (min p.owed l.a) p.owed;
              due = cond (eqb l.kind 26 && eqb p.due limit) l.node p.due;
              count = p.count + 1;
            };
        line = no_line;
      }

  -- a definition ends, with these fields
  unfoldable pub defined : ℕ → ℕ → ℕ → ℕ → State
  defined k a b c =
      let t' = entered t l.node k a b c l.sort in
      record {
        tables = t';
        place =
            record {
              part = 1;
              top = p.top;
              gap = l.after;
              next = p.next;
              owed = cond (eqb l.node p.owed) (owed_from t' p.top (l.node + 1)) p.owed;
              due = p.due;
              count = p.count + 1;
            };
        line = no_line;
      }

  -- an assertion ends
  unfoldable pub asserted : State
  asserted =
      record {
        tables = t;
        place =
            record {
              part = 2;
              top = p.top;
              gap = p.gap;
              next = p.next;
              owed = p.owed;
              due = due_from t p.top (p.due + 1);
              count = p.count;
            };
        line = no_line;
      }

  -- the fields of a term whose operands are a, b, c
  abbrev pub second_field : ℕ → ℕ
  second_field b = cond (leb 2 (arity l.kind)) b (cond (leb l.kind 13 || eqb l.kind 22) 0 (cond (eqb l.kind 25) 0 l.r))

  abbrev pub third_field : ℕ → ℕ
  third_field c =
      cond (eqb l.kind 13) c
      (cond (eqb l.kind 14) (l.r + 1 - l.sort)
      (cond (leb 16 l.kind && leb l.kind 19) l.r
      (cond (leb 25 l.kind) l.sort 0)))

  -- 28 stands for both conversions so far: a float is converted by 29
  abbrev pub kind_of : ℕ → ℕ
  kind_of a = cond (eqb l.kind 28 && is_float (get_or t.sorts a 0)) 29 l.kind

  -- a term with its operands
  unfoldable pub termed : ℕ → ℕ → ℕ → State
  termed a b c = defined (kind_of a) a (second_field b) (third_field c)

  -- the next stage of the line, with its fields
  abbrev pub turned : ℕ → ℕ → ℕ → ℕ → ℕ → Line
  turned stage kind a b r =
      record { stage = stage; node = l.node; kind = kind; sort = l.sort; a = a; b = b; r = r; left = l.left; after = l.after }

  -- a first operand, and a second one
  unfoldable pub operand₀ : ℕ → State
  operand₀ i = cond (leb 2 (arity l.kind)) (onward (turned 11 l.kind i 0 l.r)) (termed i 0 0)

  unfoldable pub operand₁ : ℕ → State
  operand₁ i = cond (eqb l.kind 13) (onward (turned 12 l.kind l.a i l.r)) (termed l.a i 0)

  -- the word `#b1` makes an Ite of an Eq, a rounding a conversion of BvToFp
  unfoldable pub word : ℕ → State
  word v = cond (eqb v 0) (onward (turned 10 13 0 0 0)) (onward (turned 10 (cond (eqb l.kind 25) 28 l.kind) 0 0 (v - 1)))

  -- what opens a term leads to its digits, its place, a word or its first operand
  unfoldable pub opened : ℕ → State
  opened k =
      cond (eqb k 6)
      (onward (record { stage = 14; node = l.node; kind = k; sort = l.sort; a = 0; b = 0; r = 0; left = l.sort; after = l.after }))
      (onward (turned
      (cond (eqb k 14) 13
      (cond ((eqb k 9 || eqb k 25) || ((leb 16 k && leb k 19) || ((eqb k 23 || eqb k 24) || eqb k 27))) 9 10))
      k 0 0 0))

  -- a binary digit, behind the value so far, whose high word is b
  abbrev pub grown : ℕ → ℕ
  grown d = 2 * (l.b * 2 ^ 64 + l.a) + d

  unfoldable pub digit : ℕ → State
  digit d =
      cond (eqb l.left 1)
      (defined 6 (grown d % 2 ^ 64) (grown d / 2 ^ 64) l.sort)
      (onward (record { stage = 14; node = l.node; kind = 6; sort = l.sort; a = grown d % 2 ^ 64; b = grown d / 2 ^ 64; r = 0; left = l.left - 1; after = l.after }))

  -- the part that a line begins
  unfoldable pub begun : ℕ → State
  begun v =
      record {
        tables = t;
        place = record { part = v; top = p.top; gap = p.gap; next = p.next; owed = p.owed; due = p.due; count = p.count };
        line = record { stage = cond (eqb v 0) 1 (cond (eqb v 1) 6 15); node = 0; kind = 0; sort = 0; a = 0; b = 0; r = 0; left = 0; after = 0 };
      }

  -- a decimal digit of a number, or 10, its end
  unfoldable pub numeral : ℕ → State
  numeral d =
      cond (eqb d 10)
      (onward (record { stage = 5; node = l.node; kind = l.kind; sort = 0; a = l.a; b = 0; r = 0; left = 0; after = 0 }))
      (onward (record { stage = 4; node = l.node; kind = l.kind; sort = 0; a = 10 * l.a + d; b = 0; r = 0; left = 1; after = 0 }))

  -- what the choice v leads to
  unfoldable pub next_at : ℕ → State
  next_at v =
      cond (eqb l.stage 0) (begun v)
      (cond (eqb l.stage 1) (onward (record { stage = 2; node = v; kind = 0; sort = 0; a = 0; b = 0; r = 0; left = 0; after = 0 }))
      (cond (eqb l.stage 2) (onward (record { stage = cond (leb v 3) 4 3; node = l.node; kind = v; sort = 0; a = 0; b = 0; r = 0; left = 0; after = 0 }))
      (cond (eqb l.stage 3) (onward (record { stage = 5; node = l.node; kind = l.kind; sort = 0; a = v; b = 0; r = 0; left = 0; after = 0 }))
      (cond (eqb l.stage 4) (numeral v)
      (cond (eqb l.stage 5) (declared v)
      (cond (eqb l.stage 6) (onward (record { stage = 7; node = v; kind = 0; sort = 0; a = 0; b = 0; r = 0; left = 0; after = gap_from t (v + 1) }))
      (cond (eqb l.stage 7) (onward (record { stage = 8; node = l.node; kind = 0; sort = v; a = 0; b = 0; r = 0; left = 0; after = l.after }))
      (cond (eqb l.stage 8) (opened v)
      (cond (eqb l.stage 9) (cond (ltb v 65536) (operand₀ v) (word (v - 65536)))
      (cond (eqb l.stage 10) (operand₀ v)
      (cond (eqb l.stage 11) (operand₁ v)
      (cond (eqb l.stage 12) (termed l.a l.b v)
      (cond (eqb l.stage 13) (onward (turned 10 l.kind 0 0 v))
      (cond (eqb l.stage 14) (digit v)
      asserted))))))))))))))
